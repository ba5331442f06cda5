use Rattle.std.proofs.Common.{◌≡◌, ℕ, suc, ◌-◌, min, ap, ◌∙◌, ap₂, arith}
use Rattle.recurrences.proofs.Summing.{sum_none, sum_more}
use Rattle.recurrences.specs.Sums.{sum}
use Rattle.rings.specs.Arithmetic.{reading}
use Rattle.runs.specs.NextMatrix.{matrices_with}
use Rattle.runs.specs.Operations.{operations_of}
use Rattle.runs.specs.Views.{column_of}
use Rattle.runs.proofs.NextEquations.{term_behind}
use Rattle.runs.proofs.run.ahead.Ahead.entry_behind.Goals as goal

pub loop-k-init : goal.loop-k-init
loop-k-init g c =
    let me = c.args.self.now in
    sum_none (operations_of (reading g.F.Ring.size (g.F.Ring.means me.run.now.field) (g.F.Field.inverse me.run.now.field))).ring _

pub loop-k-preserved : goal.loop-k-preserved
loop-k-preserved g c =
    let me = c.args.self.now in
    let s = me.run.now.state in
    let a = reading g.F.Ring.size (g.F.Ring.means me.run.now.field) (g.F.Field.inverse me.run.now.field) in
    c.sum-total.ensures
    ∙ ap₂ a.sum c.loop-k.invariant (c.row_times.ensures ∙ term_behind a s.size (matrices_with s me.place.now) c.args.column.now me.end c.args.r c.loop-k.k)
    ∙ sum_more (operations_of a).ring _ c.loop-k.k

pub returns : goal.returns
returns g c =
    let me = c.args.self.now in
    let s = me.run.now.state in
    let a = reading g.F.Ring.size (g.F.Ring.means me.run.now.field) (g.F.Field.inverse me.run.now.field) in
    let all : c.loop-k.k ≡ min me.end c.args.column.now.degree = omega arith in
    c.loop-k.invariant
    ∙ ap (λ (n : ℕ). sum (operations_of a).ring n (λ k. sum (operations_of a).ring s.size (λ e. a.product (matrices_with s me.place.now (me.end - suc k) c.args.r e) (column_of s.size c.args.column.now (suc k) e)))) all
