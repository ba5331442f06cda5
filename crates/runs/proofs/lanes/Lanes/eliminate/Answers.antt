use Rattle.std.proofs.Common.{arith}
use Rattle.rings.specs.Arithmetic.{reading}
use Rattle.recurrences.specs.Step.{rows, at_first}
use Rattle.recurrences.specs.Run.{run, entry_at}
use Rattle.runs.specs.Operations.{operations_of}
use Rattle.runs.specs.Views.{matrices_of}
use Rattle.runs.proofs.FromLaws.{tabular}
use Rattle.runs.proofs.OneStep.{no_row, next_row}
use Rattle.runs.proofs.lanes.Lanes.eliminate.Goals as goal

pub loop-i-init : goal.loop-i-init
loop-i-init g c =
    let a = reading g.F.Ring.size (g.F.Ring.means c.args.self.field) (g.F.Field.inverse c.args.self.field) in
    let N = c.args.self.size in
    let M = matrices_of N c.args.matrices.now in
    no_row a N M c.args.place (run (operations_of a) N N M c.args.place) c.args.columns.now c.args.self.small c.requires.holds

pub loop-i-preserved : goal.loop-i-preserved
loop-i-preserved g c =
    let q = g.F.Ring.size in
    let m = g.F.Ring.means c.args.self.field in
    let inv = g.F.Field.inverse c.args.self.field in
    let a = reading q m inv in
    let N = c.args.self.size in
    let n = c.args.place in
    let M = matrices_of N c.args.matrices.now in
    let s = run (operations_of a) N N M n in
    let i = c.loop-i.i in
    next_row a N M n s i c.eliminate.new.columns c.eliminate.new.opened
    (c.eliminate.ensures (rows (operations_of a) N (entry_at (operations_of a).ring N M n) i (at_first (operations_of a).ring N s)) c.loop-i.invariant
    (tabular q m inv (g.met.F.Ring.lawful c.args.self.field) (g.met.F.Field.inverts c.args.self.field) N M n i c.requires.place (omega arith)))
