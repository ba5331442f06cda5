use Rattle.std.proofs.Common.{ℕ, cond, ltb, drop, replicate}
use Rattle.rings.specs.Arithmetic.{reading}
use Rattle.runs.specs.Operations.{operations_of}
use Rattle.runs.specs.Views.{no_vector, zero_vector}
use Rattle.runs.specs.Equations.{equations_of, entries_of}
use Rattle.runs.specs.Clearing.{solved}
use Rattle.runs.proofs.Part.{PartCut}
use Rattle.runs.proofs.lanes.Lanes.solution.Given as goal

abbrev pub invariant-loop-r : goal.invariant-loop-r
invariant-loop-r g l =
    PartCut {Y = ℕ → ℕ} no_vector entries_of
    (λ r c. cond (ltb c l.fn.self.size) (solved (operations_of (reading g.F.Ring.size (g.F.Ring.means l.fn.self.field) (g.F.Field.inverse l.fn.self.field))) (equations_of l.equations) r c) 0)
    (λ _ _. 0) (drop l.fn.self.size (replicate 4 zero_vector)) l.r l.row-items
