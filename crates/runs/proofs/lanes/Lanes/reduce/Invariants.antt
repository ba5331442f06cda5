use Rattle.std.proofs.Common.{ℕ, drop, get_or}
use Rattle.rings.specs.Arithmetic.{reading}
use Rattle.runs.specs.Views.{no_column, column_of, degree_at}
use Rattle.runs.specs.Reach.{reach_of}
use Rattle.runs.specs.Losses.{reduced_by}
use Rattle.runs.specs.declared.tables.Column.{Column}
use Rattle.runs.proofs.Part.{PartCut}
use Rattle.runs.proofs.lanes.Lanes.reduce.Given as goal

abbrev pub invariant-loop-j : goal.invariant-loop-j
invariant-loop-j g l =
    let a = reading g.F.Ring.size (g.F.Ring.means l.self.field) (g.F.Field.inverse l.self.field) in
    PartCut {Y = ℕ → ℕ → ℕ} no_column (column_of l.self.size)
    (λ j. reduced_by a l.self.size (reach_of l.pivot.degree) (get_or l.entries j 0) l.inverse (column_of l.self.size l.pivot) (column_of l.self.size (get_or l.fn.columns j no_column)))
    (λ j. column_of l.self.size (get_or l.fn.columns j no_column)) (drop l.self.size l.fn.columns) l.j l.column-items
    × PartCut no_column (λ (x : Column). x.degree) (degree_at l.fn.columns) (degree_at l.fn.columns) (drop l.self.size l.fn.columns) l.j l.column-items
