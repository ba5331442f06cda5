use Rattle.std.proofs.Common.{ℕ, drop, replicate}
use Rattle.runs.specs.Views.{no_vector, zero_vector, vector_of}
use Rattle.runs.proofs.Part.{PartCut}
use Rattle.runs.proofs.Squares.{row_in}
use Rattle.runs.proofs.square.square.Given as goal

abbrev pub invariant-loop-i : goal.invariant-loop-i
invariant-loop-i l = PartCut {Y = ℕ → ℕ} no_vector (vector_of l.size) (row_in l.size l.codes) (λ _ _. 0) (drop l.size (replicate 4 zero_vector)) l.i l.row-items
