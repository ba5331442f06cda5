use Rattle.std.proofs.Common.{ℕ, drop, get_or, ap, ◌∙◌, arith}
use Rattle.rings.specs.Arithmetic.{reading}
use Rattle.runs.specs.Views.{no_column, column_of}
use Rattle.runs.specs.Reach.{reach_of}
use Rattle.runs.specs.Losses.{reduced_by}
use Rattle.runs.specs.declared.tables.Column.{Column}
use Rattle.runs.proofs.Part.{part_here, part_more}
use Rattle.runs.proofs.lanes.Lanes.reduce.Goals as goal

pub loop-j-preserved : goal.loop-j-preserved
loop-j-preserved g c =
    let a = reading g.F.Ring.size (g.F.Ring.means c.args.self.field) (g.F.Field.inverse c.args.self.field) in
    let N = c.args.self.size in
    let j = c.loop-j.j in
    let columns = c.loop-j.column-items in
    let rest = drop N c.args.columns.now in
    let new = c.reduce_one.new.own in
    let (cut, degrees) = c.loop-j.invariant in (
      part_more no_column (column_of N) _ _ rest columns j new (omega arith) cut
          (c.reduce_one.ensures.column
          ∙ ap {B = ℕ → ℕ → ℕ} (reduced_by a N (reach_of c.args.pivot.now.degree) (get_or c.args.entries.now j 0) c.args.inverse (column_of N c.args.pivot.now)) (part_here no_column (column_of N) _ _ rest columns j (omega arith) cut)),
      part_more no_column (λ (x : Column). x.degree) _ _ rest columns j new (omega arith) degrees
          (c.reduce_one.ensures.degree ∙ part_here no_column (λ (x : Column). x.degree) _ _ rest columns j (omega arith) degrees),
    )
