use Rattle.std.proofs.Common.{ℕ, drop}
use Rattle.rings.specs.Arithmetic.{reading}
use Rattle.runs.specs.Equations.{Side, no_equation, equation_of, equations_of}
use Rattle.runs.specs.Clearing.{cleared}
use Rattle.runs.proofs.Part.{PartCut}
use Rattle.runs.proofs.lanes.Lanes.clear_others.Given as goal

abbrev pub invariant-loop-j : goal.invariant-loop-j
invariant-loop-j g l =
    PartCut {Y = Side → ℕ → ℕ} no_equation equation_of
    (λ j. cleared (reading g.F.Ring.size (g.F.Ring.means l.fn.self.field) (g.F.Field.inverse l.fn.self.field)) l.fn.self.size l.c j l.inverse (equation_of l.pivot) (equations_of l.fn.equations j))
    (equations_of l.fn.equations) (drop l.fn.self.size l.fn.equations) l.j l.equation-items
