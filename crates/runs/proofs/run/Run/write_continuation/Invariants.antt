use Rattle.runs.specs.Recorded.{recorded}
use Rattle.runs.proofs.WholeContinuation.{Continued}
use Rattle.runs.proofs.run.Run.write_continuation.Given as goal

abbrev pub invariant-loop-i : goal.invariant-loop-i
invariant-loop-i g l = Continued g.F.Ring.size (g.F.Ring.means l.self.field) (g.F.Field.inverse l.self.field) l.self.state.size l.self.state.count (recorded l.self.state) l.i l.place
