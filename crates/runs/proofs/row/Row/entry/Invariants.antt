use Rattle.std.proofs.Common.{◌≡◌, ◌-◌}
use Rattle.recurrences.specs.Sums.{sum}
use Rattle.rings.specs.Arithmetic.{reading}
use Rattle.runs.specs.Operations.{operations_of}
use Rattle.runs.specs.Views.{column_of, matrices_of}
use Rattle.runs.proofs.row.Row.entry.Given as goal

abbrev pub invariant-loop-k : goal.invariant-loop-k
invariant-loop-k g l =
    let a = reading g.F.Ring.size (g.F.Ring.means l.self.lanes.field) (g.F.Field.inverse l.self.lanes.field) in
    l.total ≡ sum (operations_of a).ring l.k (λ k. sum (operations_of a).ring l.self.lanes.size (λ e. a.product (matrices_of l.self.lanes.size l.self.matrices.now (l.self.place - k) l.self.i e) (column_of l.self.lanes.size l.column k e)))
