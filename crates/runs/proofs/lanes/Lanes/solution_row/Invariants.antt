use Rattle.std.proofs.Common.{ℕ, drop, replicate}
use Rattle.rings.specs.Arithmetic.{reading}
use Rattle.runs.specs.Operations.{operations_of}
use Rattle.runs.specs.Equations.{equations_of}
use Rattle.runs.specs.Clearing.{solved}
use Rattle.runs.proofs.Part.{PartCut}
use Rattle.runs.proofs.lanes.Lanes.solution_row.Given as goal

abbrev pub invariant-loop-c : goal.invariant-loop-c
invariant-loop-c g l =
    PartCut 0 (λ (x : ℕ). x) (solved (operations_of (reading g.F.Ring.size (g.F.Ring.means l.fn.self.field) (g.F.Field.inverse l.fn.self.field))) (equations_of l.equations) l.r) (λ _. 0)
    (drop l.fn.self.size (replicate 4 0)) l.c l.entry-items
