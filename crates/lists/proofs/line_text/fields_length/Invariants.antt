use Rattle.std.proofs.Common.{◌≡◌, ◌+◌, ◌*◌, ◌≤◌, length, drop}
use Rattle.lists.specs.LineText.{commaed}
use Rattle.lists.proofs.line_text.fields_length.Given as goal

abbrev pub invariant-loop-x : goal.invariant-loop-x
invariant-loop-x l = (l.n ≤ 11 * l.x-index) × (l.n + length (commaed (drop l.x-index l.numbers)) ≡ length (commaed l.numbers))
