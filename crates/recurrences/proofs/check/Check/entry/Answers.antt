use Rattle.std.proofs.Common.{◌∙◌, ap₂, arith}
use Rattle.recurrences.specs.Operations.{numbers}
use Rattle.recurrences.specs.Reading.{column_in, matrices_in}
use Rattle.recurrences.proofs.Discrepancies.{discrepancy_whole}
use Rattle.recurrences.proofs.Summing.{sum_none, sum_more}
use Rattle.recurrences.proofs.check.Check.entry.Goals as goal

pub loop-k-init : goal.loop-k-init
loop-k-init g c = sum_none (numbers g.R.Ring.size (g.R.Ring.means c.args.self.now.ring)) _

pub loop-k-preserved : goal.loop-k-preserved
loop-k-preserved g c =
    let O = numbers g.R.Ring.size (g.R.Ring.means c.args.self.now.ring) in
    c.sum-total.ensures ∙ ap₂ O.add c.loop-k.invariant c.term.ensures ∙ sum_more O _ c.loop-k.k

pub returns : goal.returns
returns g c =
    let s = c.args.self.now in
    let N = s.size in
    c.loop-k.invariant
    ∙ discrepancy_whole (numbers g.R.Ring.size (g.R.Ring.means s.ring)) N (matrices_in N N s.list.now) (column_in N s.column.now) s.degree c.args.place c.args.row c.loop-k.k (omega (arith, c.min-k-end.ensures))
