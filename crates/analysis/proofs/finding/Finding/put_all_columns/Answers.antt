use Rattle.std.proofs.Common.{◌≡◌, ℕ, suc, ◌+◌, ◌-◌, ◌<◌, List, length, take, drop, sym, ap, ◌∙◌, add-one, arith, length-append, length-drop}
use borrow.Rule.Slice.PartMut.{put_mid}
use Rattle.std.proofs.lemmas.List.{take_rest}
use Rattle.rings.specs.Arithmetic.{reading}
use Rattle.runs.specs.Recorded.{recorded}
use Rattle.lists.specs.Places.{written}
use Rattle.analysis.specs.Answer.{column_line, column_lines}
use Rattle.analysis.proofs.Room.{columns_before}
use Rattle.analysis.proofs.Texts.{put_next}
use Rattle.analysis.proofs.finding.Finding.put_all_columns.Goals as goal

pub put_column-used-requires-clause-room : goal.put_column-used-requires-clause-room
put_column-used-requires-clause-room g c =
    let r = c.args.self.now.run.now in
    let a = reading g.F.Ring.size (g.F.Ring.means r.field) (g.F.Field.inverse r.field) in
    let jN : c.loop-j.j < r.state.size = omega (arith, c.loop-j-test.true, c.rows-j-end.ensures.rows, c.size.ensures) in
    let parts = columns_before a r.state.size (recorded r.state) c.args.self.now.verdict c.loop-j.j c.requires.given jN in
    let left : length (take (length c.loop-j.place - c.loop-j.used) (drop c.loop-j.used c.loop-j.place)) ≡ length c.loop-j.place - c.loop-j.used =
    ap length (take_rest c.loop-j.place c.loop-j.used) ∙ length-drop c.loop-j.used c.loop-j.place in
    omega (arith, left, parts, c.loop-j.invariant.length, c.loop-j.auto.place, c.requires.room)

pub loop-j-preserved : goal.loop-j-preserved
loop-j-preserved g c =
    let r = c.args.self.now.run.now in
    let a = reading g.F.Ring.size (g.F.Ring.means r.field) (g.F.Field.inverse r.field) in
    let N = r.state.size in
    let taken = recorded r.state in
    let j = c.loop-j.j in
    let jN : j < N = omega (arith, c.loop-j-test.true, c.rows-j-end.ensures.rows, c.size.ensures) in
    let parts = columns_before a N taken c.args.self.now.verdict j c.requires.given jN in
    let s = column_lines a N taken j in
    let t = column_line a N taken j in
    let next : column_lines a N taken (suc j) ≡ column_lines a N taken (j + 1) = ap (column_lines a N taken) (sym (add-one j)) in
    record {
      length = omega (arith, ap length next, length-append s t, c.put_column-used.ensures.length, c.loop-j.invariant.length);
      place =
          ap (put_mid c.loop-j.used (length c.loop-j.place - c.loop-j.used) c.loop-j.place) c.put_column-used.ensures.place
          ∙ put_next c.args.place.now c.loop-j.place s t c.loop-j.used c.loop-j.invariant.length (omega (arith, parts, c.loop-j.invariant.length, c.loop-j.auto.place, c.requires.room)) c.loop-j.auto.place c.loop-j.invariant.place
          ∙ ap (λ (x : List ℕ). written 0 x c.args.place.now) next;
    }
