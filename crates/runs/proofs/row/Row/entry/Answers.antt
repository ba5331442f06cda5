use Rattle.std.proofs.Common.{◌+◌, ◌-◌, get_or, ap, ◌∙◌, ap₂, arith}
use Rattle.std.proofs.lemmas.List.{get_or-take, length-take-le}
use Rattle.rings.specs.Arithmetic.{reading}
use Rattle.recurrences.specs.Sums.{sum}
use Rattle.runs.specs.Operations.{operations_of}
use Rattle.runs.specs.Views.{no_vector, no_matrix, column_of, matrices_of}
use Rattle.runs.specs.declared.tables.Vector.{Vector}
use Rattle.recurrences.proofs.Summing.{sum_none, sum_more}
use Rattle.recurrences.proofs.Discrepancies.{discrepancy_whole}
use Rattle.runs.proofs.Vectors.{dot_of}
use Rattle.runs.proofs.row.Row.entry.Goals as goal

pub loop-k-init : goal.loop-k-init
loop-k-init g c = sum_none (operations_of (reading g.F.Ring.size (g.F.Ring.means c.args.self.now.lanes.field) (g.F.Field.inverse c.args.self.now.lanes.field))).ring _

pub loop-k-preserved : goal.loop-k-preserved
loop-k-preserved g c =
    let a = reading g.F.Ring.size (g.F.Ring.means c.args.self.now.lanes.field) (g.F.Field.inverse c.args.self.now.lanes.field) in
    let N = c.args.self.now.lanes.size in
    let k = c.loop-k.k in
    let count = c.min-count.result + 1 in
    let coefficients = c.args.column.now.coefficients in
    let row = get_or (get_or c.args.self.now.matrices.now (c.args.self.now.place - k) no_matrix).rows c.args.self.now.i no_vector in
    let read = get_or-take count coefficients k no_vector (omega (arith, length-take-le count coefficients)) in
    c.with_dot-total.ensures
    ∙ ap₂ a.sum c.loop-k.invariant (ap (λ (v : Vector). sum (operations_of a).ring N (λ e. a.product (get_or row.entries e 0) (get_or v.entries e 0))) read ∙ dot_of a N row (get_or coefficients k no_vector))
    ∙ sum_more (operations_of a).ring _ k

pub returns : goal.returns
returns g c =
    let a = reading g.F.Ring.size (g.F.Ring.means c.args.self.now.lanes.field) (g.F.Field.inverse c.args.self.now.lanes.field) in
    let N = c.args.self.now.lanes.size in
    let M = matrices_of N c.args.self.now.matrices.now in
    let column = c.args.column.now in
    let n = c.args.self.now.place in
    c.loop-k.invariant
    ∙ discrepancy_whole (operations_of a).ring N M (column_of N column) column.degree n c.args.self.now.i c.loop-k.k (omega (arith, length-take-le (c.min-count.result + 1) column.coefficients))
