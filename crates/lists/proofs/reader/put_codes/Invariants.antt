use Rattle.std.proofs.Common.{◌≡◌, ◌+◌, length}
use Rattle.lists.specs.Bytes.{line_end}
use Rattle.lists.specs.Contents.{flat, matrices_in}
use Rattle.lists.specs.Cursor.{left}
use Rattle.lists.specs.Places.{written}
use Rattle.lists.proofs.reader.put_codes.Given as goal

abbrev pub invariant-loop-line : goal.invariant-loop-line
invariant-loop-line l =
    let codes = flat (matrices_in (left line_end l.line-iterator.parts.rest)) in let all = flat (matrices_in (left line_end l.fn.lines.parts.rest)) in
    (l.at + length codes ≡ length all) × (written l.at codes l.place ≡ written 0 all l.initial.place)
