use Rattle.runs.specs.Equations.{equations_of}
use Rattle.runs.proofs.CodedEquations.{Turned}
use Rattle.runs.proofs.lanes.Lanes.solve.Given as goal

abbrev pub invariant-loop-c : goal.invariant-loop-c
invariant-loop-c g l =
    Turned g.F.Ring.size (g.F.Ring.means l.fn.self.field) (g.F.Field.inverse l.fn.self.field) (g.met.F.Ring.lawful l.fn.self.field) (g.met.F.Field.inverts l.fn.self.field)
    l.fn.self.size l.c (equations_of l.initial.equations) (equations_of l.equations)
