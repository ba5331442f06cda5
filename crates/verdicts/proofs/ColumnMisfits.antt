-- From what the fit check tells of a generator column to where it does not fit.
use Rattle.std.proofs.Common.{◌≡◌, ℕ, ◌+◌, ◌-◌, ◌*◌, ◌/◌, ◌%◌, ◌<◌, ◌≤◌, true, false, not, eqb, ltb, List, length, drop, Some, None, Option, sym, ap, ◌∙◌, mul_comm, mul-pos, arith, length-drop}
use native.Mathlib.Nat.{mul-div_left, mul-mod_left, mul-sub}
use Rattle.std.proofs.lemmas.Bool.{cond-true, cond-false, eq-eqb, ne_eqb, le-ltb}
use Rattle.rings.specs.Meaning.{Meaning, Laws, Inverse}
use Rattle.rings.specs.Arithmetic.{reading}
use Rattle.recurrences.specs.Codes.{all_codes}
use Rattle.recurrences.specs.Fits.{Told, fits_refusal, matrix_count}
use Rattle.recurrences.proofs.FirstFailure.{First}
use Rattle.runs.specs.Standings.{columns_after, column_after}
use Rattle.verdicts.specs.Misfits.{generator_discrepancy, misfits, moved}
use Rattle.verdicts.proofs.CodedParts.{codes_dropped}
use Rattle.verdicts.proofs.FirstPlaces.{some_if, none_if}
use Rattle.verdicts.proofs.GeneratorColumns.{column_length, column_is_of_codes}
use Rattle.verdicts.proofs.Windows.{in_window}

module _ (q : ℕ) (m : Meaning) (inv : ℕ → Option ℕ) (N s : ℕ) (taken list : List ℕ) (j : ℕ) where
  abbrev d : ℕ
  d = (columns_after (reading q m inv) N taken).gen_degree j

  abbrev window : List ℕ
  window = drop (s * (N * N)) list

  abbrev column : List ℕ
  column = column_after (reading q m inv) N taken j

  zero_fits : (l : ℕ) → ((r : ℕ) → r < N → generator_discrepancy (reading q m inv) N taken list j l r ≡ 0) → misfits (reading q m inv) N taken list j l ≡ false
  zero_fits l z = none_if N _ (λ r rN. ap not (eq-eqb (generator_discrepancy (reading q m inv) N taken list j l r) 0 (z r rN)))

  -- the places of the window from d on are those of the list from d + s on
  pub misfit_from_told : (n count : ℕ) → d + s ≡ n → count ≡ matrix_count q m N d window column + s → (o : Option (ℕ × ℕ)) → Told q m N d window column o
      → First (misfits (reading q m inv) N taken list j) n (count - n) (moved s o)
  misfit_from_told n count ns e None t = λ i a b.
      let back : i - s + s ≡ i = omega arith in
      zero_fits i (λ r rN. ap (λ (l : ℕ). generator_discrepancy (reading q m inv) N taken list j l r) (sym back) ∙ sym (in_window q m inv N s taken list j (i - s) r (omega arith)) ∙ t.says (i - s) r (omega arith) (omega arith) rN)
  misfit_from_told n count ns e (Some p) t =
      let f = t.says in (
        omega (arith, f.place_from_degree),
        omega (arith, f.place_from_degree, f.place_in_list),
        some_if N _ (p.1 - 1) (omega (arith, f.row_from_one, f.row_in_matrix)) (ap not (ne_eqb _ 0 (λ z. f.not_zero_there (in_window q m inv N s taken list j p.0 (p.1 - 1) f.place_from_degree ∙ z)))),
        λ i a b.
            let back : i - s + s ≡ i = omega arith in
            zero_fits i (λ r rN. ap (λ (l : ℕ). generator_discrepancy (reading q m inv) N taken list j l r) (sym back) ∙ sym (in_window q m inv N s taken list j (i - s) r (omega arith)) ∙ f.zero_at_earlier_places (i - s) r (omega arith) (omega arith) rN),
      )

-- the fit check accepts a generator column in a list of k matrices of codes without its first s
module _ (q : ℕ) (m : Meaning) (inv : ℕ → Option ℕ) (laws : Laws q m) (inverts : (x : ℕ) → x < q → Inverse q m x (inv x)) (N k s : ℕ) (taken list : List ℕ) (j : ℕ)
    (some : 1 ≤ N) (small : N ≤ 4) (low : (columns_after (reading q m inv) N taken).gen_degree j ≤ 64) (whole : length list ≡ k * (N * N)) (within : s ≤ k) (codes : all_codes q list ≡ true) where
  long : length (window q m inv N s taken list j) ≡ (k - s) * (N * N)
  long = omega (arith, length-drop (s * (N * N)) list, whole, mul-sub (N * N) k s, mul_comm (N * N) (k - s), mul_comm (N * N) k, mul_comm (N * N) s)

  pub window_count : matrix_count q m N (d q m inv N s taken list j) (window q m inv N s taken list j) (column q m inv N s taken list j) ≡ k - s
  window_count = ap (λ (x : ℕ). x / (N * N)) long ∙ mul-div_left (k - s) (mul-pos some some)

  pub fit_check_accepts : fits_refusal q N (d q m inv N s taken list j) (window q m inv N s taken list j) (column q m inv N s taken list j) ≡ None
  fit_check_accepts =
      cond-false (ltb N 1) _ _ (le-ltb N 1 some) ∙ cond-false (ltb 4 N) _ _ (le-ltb 4 N small) ∙ cond-false (ltb 64 _) _ _ (le-ltb 64 _ low)
      ∙ cond-true (eqb (length (column q m inv N s taken list j)) _) _ _ (eq-eqb _ _ (column_length (reading q m inv) N taken j))
      ∙ cond-true (eqb (length (window q m inv N s taken list j) % (N * N)) 0) _ _ (eq-eqb _ 0 (ap (λ (x : ℕ). x % (N * N)) long ∙ mul-mod_left (k - s) (N * N)))
      ∙ cond-true (all_codes q (window q m inv N s taken list j)) _ _ (codes_dropped q (s * (N * N)) list codes)
      ∙ cond-true (all_codes q (column q m inv N s taken list j)) _ _ (column_is_of_codes q m inv laws inverts N taken j)
