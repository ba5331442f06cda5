use Rattle.std.proofs.Common.{◌≡◌, ◌+◌, map, length}
use Rattle.lists.specs.Bytes.{comma}
use Rattle.lists.specs.Cursor.{left}
use Rattle.lists.specs.Contents.{value_of, values_of}
use Rattle.lists.specs.Places.{written}
use Rattle.lists.proofs.matrix_line.put_matrix.Given as goal

abbrev pub invariant-loop-field : goal.invariant-loop-field
invariant-loop-field l =
    let values = map value_of (left comma l.field-iterator.rest) in
    (l.next + length values ≡ l.at + length (values_of l.line.bytes.now)) × (written l.next values l.place ≡ written l.at (values_of l.line.bytes.now) l.initial.place)
