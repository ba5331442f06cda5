use Rattle.std.proofs.Common.{ℕ, drop, get_or}
use Rattle.rings.specs.Arithmetic.{reading}
use Rattle.runs.specs.Equations.{Side, no_equation, equation_of}
use Rattle.runs.specs.NextMatrix.{equation_for}
use Rattle.runs.proofs.Part.{PartCut}
use Rattle.runs.proofs.NextEquations.{no_equations_yet}
use Rattle.runs.proofs.run.ahead.Ahead.equations.Given as goal

abbrev pub invariant-loop-j : goal.invariant-loop-j
invariant-loop-j g l =
    let me = l.self in
    let s = me.run.now.state in
    PartCut {Y = Side → ℕ → ℕ} no_equation equation_of (equation_for (reading g.F.Ring.size (g.F.Ring.means me.run.now.field) (g.F.Field.inverse me.run.now.field)) s me.place.now me.end)
    (λ j. equation_of (get_or no_equations_yet j no_equation)) (drop s.size no_equations_yet) l.j l.equation-items
