use Rattle.std.proofs.Common.{◌≡◌, ◌+◌, length, drop}
use Rattle.lists.specs.LineText.{commaed}
use Rattle.lists.specs.Places.{written}
use Rattle.lists.proofs.line_text.put_fields.Given as goal

abbrev pub invariant-loop-x : goal.invariant-loop-x
invariant-loop-x l = (l.next + length (commaed (drop l.x-index l.numbers)) ≡ l.at + length (commaed l.numbers))
    × (written l.next (commaed (drop l.x-index l.numbers)) l.place ≡ written l.at (commaed l.numbers) l.initial.place)
