use Rattle.rings.specs.Arithmetic.{reading}
use Rattle.recurrences.specs.Step.{rows, at_first}
use Rattle.recurrences.specs.Run.{run, entry_at}
use Rattle.runs.specs.Operations.{operations_of}
use Rattle.runs.specs.Views.{matrices_of}
use Rattle.runs.specs.Midsteps.{Matches}
use Rattle.runs.proofs.lanes.Lanes.eliminate.Given as goal

abbrev pub invariant-loop-i : goal.invariant-loop-i
invariant-loop-i g l =
    let a = reading g.F.Ring.size (g.F.Ring.means l.self.field) (g.F.Field.inverse l.self.field) in
    let N = l.self.size in
    let M = matrices_of N l.matrices in
    Matches a N l.columns l.opened (rows (operations_of a) N (entry_at (operations_of a).ring N M l.place) l.i (at_first (operations_of a).ring N (run (operations_of a) N N M l.place)))
