use Rattle.std.proofs.Common.{◌≡◌, suc, ◌-◌}
use Rattle.recurrences.specs.Sums.{sum}
use Rattle.rings.specs.Arithmetic.{reading}
use Rattle.runs.specs.NextMatrix.{matrices_with}
use Rattle.runs.specs.Operations.{operations_of}
use Rattle.runs.specs.Views.{column_of}
use Rattle.runs.proofs.run.ahead.Ahead.entry_behind.Given as goal

abbrev pub invariant-loop-k : goal.invariant-loop-k
invariant-loop-k g l =
    let me = l.self in
    let s = me.run.now.state in
    let a = reading g.F.Ring.size (g.F.Ring.means me.run.now.field) (g.F.Field.inverse me.run.now.field) in
    l.total ≡ sum (operations_of a).ring l.k (λ k. sum (operations_of a).ring s.size (λ c. a.product (matrices_with s me.place.now (me.end - suc k) l.r c) (column_of s.size l.column (suc k) c)))
