use Rattle.std.proofs.Common.{ℕ, drop, replicate}
use Rattle.rings.specs.Arithmetic.{reading}
use Rattle.runs.specs.NextMatrix.{matrices_with, behind}
use Rattle.runs.specs.Views.{column_of}
use Rattle.runs.proofs.Part.{PartCut}
use Rattle.runs.proofs.run.ahead.Ahead.values.Given as goal

abbrev pub invariant-loop-r : goal.invariant-loop-r
invariant-loop-r g l =
    let me = l.self in
    let s = me.run.now.state in
    let a = reading g.F.Ring.size (g.F.Ring.means me.run.now.field) (g.F.Field.inverse me.run.now.field) in
    PartCut 0 (λ (x : ℕ). x) (λ r. a.opposite (behind a s.size (matrices_with s me.place.now) (column_of s.size l.column) l.column.degree me.end r)) (λ _. 0) (drop s.size (replicate 4 0)) l.r l.entry-items
