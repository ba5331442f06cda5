use Rattle.std.proofs.Common.{◌≡◌, ◌+◌, ◌/◌, length}
use Rattle.std.specs.Slice.Iter.{chunks_exact_rest, chunks_exact_size}
use Rattle.lists.specs.LineText.{matrix_texts}
use Rattle.lists.specs.Places.{written}
use Rattle.lists.proofs.writer.put_matrices.Given as goal

abbrev pub invariant-loop-matrix : goal.invariant-loop-matrix
invariant-loop-matrix l =
    let rest = chunks_exact_rest l.matrix-iterator in
    let left = matrix_texts l.k (length rest / l.k) rest in
    let all = matrix_texts l.k (length l.codes / l.k) l.codes in
    (chunks_exact_size l.matrix-iterator ≡ l.k) × (l.next + length left ≡ l.at + length all) × (written l.next left l.place ≡ written l.at all l.initial.place)
