use Rattle.std.proofs.Common.{◌≡◌, ℕ, ◌-◌, ◌<◌, get_or, ap, ◌∙◌, ap₂, arith, get_or-take, length-take}
use Rattle.recurrences.proofs.Summing.{sum_none, sum_more}
use Rattle.recurrences.specs.Sums.{sum}
use Rattle.rings.specs.Arithmetic.{reading}
use Rattle.runs.specs.NextMatrix.{matrices_with}
use Rattle.runs.specs.Operations.{operations_of}
use Rattle.runs.proofs.run.ahead.Ahead.row_times.Goals as goal

pub loop-c-init : goal.loop-c-init
loop-c-init g c =
    let me = c.args.self.now in
    sum_none (operations_of (reading g.F.Ring.size (g.F.Ring.means me.run.now.field) (g.F.Field.inverse me.run.now.field))).ring _

pub loop-c-preserved : goal.loop-c-preserved
loop-c-preserved g c =
    let me = c.args.self.now in
    let a = reading g.F.Ring.size (g.F.Ring.means me.run.now.field) (g.F.Field.inverse me.run.now.field) in
    let N = me.run.now.state.size in
    let entries = c.args.vector.now.entries in
    let lt : c.loop-c.c < N = omega (arith, length-take N entries) in
    c.sum-total.ensures
    ∙ ap₂ a.sum c.loop-c.invariant (c.product.ensures ∙ ap₂ a.product c.code.ensures (get_or-take N entries c.loop-c.c 0 lt))
    ∙ sum_more (operations_of a).ring _ c.loop-c.c

pub returns : goal.returns
returns g c =
    let me = c.args.self.now in
    let a = reading g.F.Ring.size (g.F.Ring.means me.run.now.field) (g.F.Field.inverse me.run.now.field) in
    let N = me.run.now.state.size in
    let entries = c.args.vector.now.entries in
    let small = me.run.now.sound.small in
    let all : c.loop-c.c ≡ N = omega (arith, length-take N entries) in
    c.loop-c.invariant
    ∙ ap (λ (n : ℕ). sum (operations_of a).ring n (λ k. a.product (matrices_with me.run.now.state me.place.now (me.end - c.args.back) c.args.r k) (get_or entries k 0))) all
