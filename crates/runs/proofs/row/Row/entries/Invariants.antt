use Rattle.std.proofs.Common.{ℕ, false, cond, get_or, drop, replicate}
use Rattle.recurrences.specs.Discrepancy.{discrepancy}
use Rattle.rings.specs.Arithmetic.{reading}
use Rattle.runs.specs.Operations.{operations_of}
use Rattle.runs.specs.Views.{no_column, column_of, degree_at, matrices_of}
use Rattle.runs.proofs.Part.{PartCut}
use Rattle.runs.proofs.row.Row.entries.Given as goal

abbrev pub invariant-loop-j : goal.invariant-loop-j
invariant-loop-j g l =
    let a = reading g.F.Ring.size (g.F.Ring.means l.self.lanes.field) (g.F.Field.inverse l.self.lanes.field) in
    PartCut 0 (λ (x : ℕ). x)
    (λ j. cond (get_or l.opened j false) (discrepancy (operations_of a).ring l.self.lanes.size (matrices_of l.self.lanes.size l.self.matrices.now) (column_of l.self.lanes.size (get_or l.columns j no_column)) (degree_at l.columns j) l.self.place l.self.i) 0)
    (λ j. 0) (drop l.self.lanes.size (replicate 4 0)) l.j l.entry-items
