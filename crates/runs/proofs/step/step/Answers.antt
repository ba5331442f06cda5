use Rattle.std.proofs.Common.{refl, arith}
use Rattle.rings.specs.Arithmetic.{reading}
use Rattle.recurrences.specs.Run.{run}
use Rattle.runs.specs.Operations.{operations_of}
use Rattle.runs.specs.Views.{matrices_of}
use Rattle.runs.proofs.FromLaws.{tabular}
use Rattle.runs.proofs.OneStep.{step_holds, low_degrees, run_more}
use Rattle.runs.proofs.step.step.Goals as goal

pub shift-requires-clause-room : goal.shift-requires-clause-room
shift-requires-clause-room g c =
    let q = g.F.Ring.size in
    let m = g.F.Ring.means c.args.field in
    let inv = g.F.Field.inverse c.args.field in
    let a = reading q m inv in
    let N = c.args.state.now.size in
    let n = c.args.state.now.count in
    let M = matrices_of N c.args.state.now.matrices in
    low_degrees a N M n (run (operations_of a) N N M n) c.eliminate.new.columns (tabular q m inv (g.met.F.Ring.lawful c.args.field) (g.met.F.Field.inverts c.args.field) N M n N c.requires.room (omega arith)) c.eliminate.ensures

pub returns-clause-holds : goal.returns-clause-holds
returns-clause-holds g c =
    let q = g.F.Ring.size in
    let m = g.F.Ring.means c.args.field in
    let inv = g.F.Field.inverse c.args.field in
    let a = reading q m inv in
    let N = c.args.state.now.size in
    let n = c.args.state.now.count in
    let M = matrices_of N c.args.state.now.matrices in
    run_more a N M n _
    (step_holds a N M n (run (operations_of a) N N M n) c.eliminate.new.columns _ (tabular q m inv (g.met.F.Ring.lawful c.args.field) (g.met.F.Field.inverts c.args.field) N M n N c.requires.room (omega arith)) c.eliminate.ensures refl c.shift.ensures.shifted c.shift.ensures.degrees)
