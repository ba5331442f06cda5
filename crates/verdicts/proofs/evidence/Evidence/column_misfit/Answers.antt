use Rattle.std.proofs.Common.{◌≡◌, ℕ, ◌-◌, ◌*◌, ◌≤◌, length, take, drop, get_or, None, sym, ap, ◌∙◌, subst, arith}
use mathlib.Core.Path.{transport}
use Rattle.std.proofs.lemmas.List.{take_rest}
use Rattle.rings.specs.Arithmetic.{reading}
use Rattle.recurrences.specs.Fits.{Told, fits_refusal}
use Rattle.runs.specs.Recorded.{recorded}
use Rattle.runs.specs.Standings.{columns_after, column_after, count_of}
use Rattle.verdicts.proofs.AcceptedLists.{ok_where_none, whole_matrices}
use Rattle.verdicts.proofs.ColumnMisfits.{misfit_from_told, window_count, fit_check_accepts}
use Rattle.verdicts.proofs.Evidences.{seen}
use Rattle.verdicts.proofs.FirstPlaces.{first_is}
use Rattle.verdicts.proofs.evidence.Evidence.column_misfit.Goals as goal

pub overflow_sub-left_out : goal.overflow_sub-left_out
overflow_sub-left_out g c =
    let e = c.args.self.now in
    let r = e.run.now in
    let s = seen g.F.Ring.size (g.F.Ring.means r.field) (g.F.Field.inverse r.field) (g.met.F.Ring.lawful r.field) (g.met.F.Field.inverts r.field) r.state.size r.bound (recorded r.state) e.codes.now c.args.j
    r.sound.some r.sound.small r.bounded e.whole e.taken c.requires.settled c.requires.column c.standing-standing.result c.standing-standing.ensures.standing in
    s.below

pub slice_bounds-rest-count : goal.slice_bounds-rest-count
slice_bounds-rest-count g c =
    let e = c.args.self.now in
    let r = e.run.now in
    let s = seen g.F.Ring.size (g.F.Ring.means r.field) (g.F.Field.inverse r.field) (g.met.F.Ring.lawful r.field) (g.met.F.Field.inverts r.field) r.state.size r.bound (recorded r.state) e.codes.now c.args.j
    r.sound.some r.sound.small r.bounded e.whole e.taken c.requires.settled c.requires.column c.standing-standing.result c.standing-standing.ensures.standing in
    subst (λ (k : ℕ). (c.standing-standing.result.taken - get_or c.standing-standing.result.generator_degrees c.args.j 0) * k ≤ length e.codes.now)
    (sym (c.cells.ensures.product ∙ ap (λ (n : ℕ). n * n) c.size-size.ensures)) s.room

pub slice_bounds-rest-start : goal.slice_bounds-rest-start
slice_bounds-rest-start g c =
    let e = c.args.self.now in
    let r = e.run.now in
    let s = seen g.F.Ring.size (g.F.Ring.means r.field) (g.F.Field.inverse r.field) (g.met.F.Ring.lawful r.field) (g.met.F.Field.inverts r.field) r.state.size r.bound (recorded r.state) e.codes.now c.args.j
    r.sound.some r.sound.small r.bounded e.whole e.taken c.requires.settled c.requires.column c.standing-standing.result c.standing-standing.ensures.standing in
    subst (λ (k : ℕ). (c.standing-standing.result.taken - get_or c.standing-standing.result.generator_degrees c.args.j 0) * k ≤ length e.codes.now)
    (sym (c.cells.ensures.product ∙ ap (λ (n : ℕ). n * n) c.size-size.ensures)) s.room

pub unwrap-failure-requires : goal.unwrap-failure-requires
unwrap-failure-requires g c =
    let e = c.args.self.now in
    let r = e.run.now in
    let q = g.F.Ring.size in
    let m = g.F.Ring.means r.field in
    let inv = g.F.Field.inverse r.field in
    let laws = g.met.F.Ring.lawful r.field in
    let inverts = g.met.F.Field.inverts r.field in
    let N = r.state.size in
    let taken = recorded r.state in
    let list = e.codes.now in
    let j = c.args.j in
    let s = seen q m inv laws inverts N r.bound taken list j r.sound.some r.sound.small r.bounded e.whole e.taken c.requires.settled c.requires.column c.standing-standing.result c.standing-standing.ensures.standing in
    let size : c.rows.result ≡ N = c.rows.ensures.rows ∙ c.size-size.ensures in
    let degree = get_or c.standing-standing.result.generator_degrees j 0 in
    let left_out = c.standing-standing.result.taken - degree in
    let window = take (length list - left_out * c.cells.result) (drop (left_out * c.cells.result) list) in
    let is_window : window ≡ drop (left_out * (N * N)) list =
    take_rest list (left_out * c.cells.result) ∙ ap (λ (k : ℕ). drop (left_out * k) list) (c.cells.ensures.product ∙ ap (λ (n : ℕ). n * n) c.size-size.ensures) in
    let column = c.unwrap-column.result.now in
    let is_column : column ≡ column_after (reading q m inv) N taken j = (rw c.unwrap-column.ensures at c.generator.ensures).1 in
    let accepted : fits_refusal q c.rows.result degree window column ≡ None =
    (λ i. fits_refusal q (size i) (s.is i) (is_window i) (is_column i))
    ∙ fit_check_accepts q m inv laws inverts N (count_of N list) left_out taken list j r.sound.some r.sound.small (omega (arith, s.is, s.low)) (whole_matrices N list e.whole) (omega (arith, s.longer)) e.of_codes in
    ok_where_none (Told q (g.F.Ring.means c.field.result) c.rows.result degree window column) (fits_refusal q c.rows.result degree window column) c.fits.result c.fits.ensures.told accepted

pub returns : goal.returns
returns g c =
    let e = c.args.self.now in
    let r = e.run.now in
    let q = g.F.Ring.size in
    let m = g.F.Ring.means r.field in
    let inv = g.F.Field.inverse r.field in
    let laws = g.met.F.Ring.lawful r.field in
    let inverts = g.met.F.Field.inverts r.field in
    let N = r.state.size in
    let taken = recorded r.state in
    let list = e.codes.now in
    let j = c.args.j in
    let s = seen q m inv laws inverts N r.bound taken list j r.sound.some r.sound.small r.bounded e.whole e.taken c.requires.settled c.requires.column c.standing-standing.result c.standing-standing.ensures.standing in
    let size : c.rows.result ≡ N = c.rows.ensures.rows ∙ c.size-size.ensures in
    let degree = get_or c.standing-standing.result.generator_degrees j 0 in
    let left_out = c.standing-standing.result.taken - degree in
    let window = take (length list - left_out * c.cells.result) (drop (left_out * c.cells.result) list) in
    let is_window : window ≡ drop (left_out * (N * N)) list =
    take_rest list (left_out * c.cells.result) ∙ ap (λ (k : ℕ). drop (left_out * k) list) (c.cells.ensures.product ∙ ap (λ (n : ℕ). n * n) c.size-size.ensures) in
    let column = c.unwrap-column.result.now in
    let is_column : column ≡ column_after (reading q m inv) N taken j = (rw c.unwrap-column.ensures at c.generator.ensures).1 in
    let told : Told q m N ((columns_after (reading q m inv) N taken).gen_degree j) (drop (left_out * (N * N)) list) (column_after (reading q m inv) N taken j) c.unwrap-failure.result =
    transport (λ i. Told q (g.F.Ring.means (c.field.ensures i)) (size i) (s.is i) (is_window i) (is_column i) c.unwrap-failure.result) (rw c.unwrap-failure.ensures at c.fits.ensures.told) in
    let left = window_count q m inv laws inverts N (count_of N list) left_out taken list j r.sound.some r.sound.small (omega (arith, s.is, s.low)) (whole_matrices N list e.whole) (omega (arith, s.longer)) e.of_codes in
    c.place_of.ensures
    ∙ first_is _ (count_of N taken) (count_of N list - count_of N taken) _
    (misfit_from_told q m inv N left_out taken list j (count_of N taken) (count_of N list) (omega (arith, s.is, s.counted, s.below)) (omega (arith, left, s.longer)) c.unwrap-failure.result told)
