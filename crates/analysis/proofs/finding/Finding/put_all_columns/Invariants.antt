use Rattle.std.proofs.Common.{◌≡◌, length}
use Rattle.rings.specs.Arithmetic.{reading}
use Rattle.runs.specs.Recorded.{recorded}
use Rattle.lists.specs.Places.{written}
use Rattle.analysis.specs.Answer.{column_lines}
use Rattle.analysis.proofs.finding.Finding.put_all_columns.Given as goal

-- the lines of the first columns are written
abbrev pub invariant-loop-j : goal.invariant-loop-j
invariant-loop-j g l =
    let r = l.self.run.now in
    let a = reading g.F.Ring.size (g.F.Ring.means r.field) (g.F.Field.inverse r.field) in
    record {
      length : l.used ≡ length (column_lines a r.state.size (recorded r.state) l.j);
      place : l.place ≡ written 0 (column_lines a r.state.size (recorded r.state) l.j) l.initial.place;
    }
