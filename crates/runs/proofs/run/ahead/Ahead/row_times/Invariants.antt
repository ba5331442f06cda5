use Rattle.std.proofs.Common.{◌≡◌, ◌-◌, get_or}
use Rattle.recurrences.specs.Sums.{sum}
use Rattle.rings.specs.Arithmetic.{reading}
use Rattle.runs.specs.NextMatrix.{matrices_with}
use Rattle.runs.specs.Operations.{operations_of}
use Rattle.runs.proofs.run.ahead.Ahead.row_times.Given as goal

abbrev pub invariant-loop-c : goal.invariant-loop-c
invariant-loop-c g l =
    let me = l.self in
    let a = reading g.F.Ring.size (g.F.Ring.means me.run.now.field) (g.F.Field.inverse me.run.now.field) in
    l.total ≡ sum (operations_of a).ring l.c (λ c. a.product (matrices_with me.run.now.state me.place.now (me.end - l.back) l.r c) (get_or l.vector.entries c 0))
