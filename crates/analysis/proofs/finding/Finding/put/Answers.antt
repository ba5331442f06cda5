use Rattle.std.proofs.Common.{◌≡◌, ℕ, ◌+◌, ◌-◌, ◌≤◌, List, ◌++◌, length, ap, ◌∙◌, append_assoc, arith, length-append}
use borrow.Rule.Slice.PartMut.{put_mid}
use Rattle.rings.specs.Arithmetic.{reading}
use Rattle.runs.specs.Recorded.{recorded}
use Rattle.lists.specs.Places.{written}
use Rattle.analysis.specs.Answer.{columns_under, degree_line, misfit_line}
use Rattle.analysis.proofs.Texts.{length_written, lines_length, put_next}
use Rattle.analysis.proofs.finding.Finding.put.Goals as goal

pub returns-clause-place : goal.returns-clause-place
returns-clause-place g c =
    let r = c.args.self.now.run.now in
    let a = reading g.F.Ring.size (g.F.Ring.means r.field) (g.F.Field.inverse r.field) in
    let N = r.state.size in
    let taken = recorded r.state in
    let v = c.args.self.now.verdict in
    let p = c.args.place.now in
    let D = degree_line a N taken v in
    let X = misfit_line v in
    let C = columns_under a N taken v in
    let n = c.put_degrees-used.result in
    let m = n + c.put_misfit-used.result in
    let fits : length D + (length X + length C) ≤ length p = omega (arith, lines_length a N taken v, c.args.self.now.short, c.requires) in
    let first = c.put_degrees-used.new.place in
    let second = put_mid n (length first - n) first c.put_misfit-used.new.place in
    let two : second ≡ written 0 (D ++ X) p =
    ap (put_mid n (length first - n) first) c.put_misfit-used.ensures.place
    ∙ put_next p first D X n c.put_degrees-used.ensures.length (omega (arith, fits, c.put_degrees-used.ensures.length, c.put_degrees-used.auto.place)) c.put_degrees-used.auto.place c.put_degrees-used.ensures.place in
    let behind : m ≡ length (D ++ X) = omega (arith, length-append D X, c.put_degrees-used.ensures.length, c.put_misfit-used.ensures.length) in
    let long : length second ≡ length p = ap length two ∙ length_written (D ++ X) p (omega (arith, fits, length-append D X)) in
    ap (put_mid m (length second - m) second) c.put_columns-used.ensures.place
    ∙ put_next p second (D ++ X) C m behind (omega (arith, fits, long, behind, length-append D X)) long two
    ∙ ap (λ (t : List ℕ). written 0 t p) (append_assoc D X C)
