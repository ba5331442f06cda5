-- The first number that passes a test, the first failing place and row, and what they tell.
use Rattle.std.proofs.Common.{◌≡◌, ℕ, zero, suc, ◌+◌, ◌-◌, ◌<◌, ◌≤◌, Bool, true, false, cond, not, eqb, ◌≢◌, ◌⊎◌, List, Some, None, Ok, Err, Option, Result, sym, refl, ap, ◌∙◌, subst, ap₂, inl, inr, ⊎_elim, true≢false, add-one, arith}
use Rattle.std.specs.List.{find, range_with_len}
use mathlib.Core.Bool.{false≢true}
use Rattle.std.proofs.lemmas.Bool.{cases_lt, eqb-true, eq-eqb}
use Rattle.rings.specs.Meaning.{Meaning}
use Rattle.recurrences.specs.declared.refusal.Refusal.{Refusal}
use Rattle.recurrences.specs.Fits.{first, first_failure, fails, fits_answer, fits_refusal, column_discrepancy, matrix_count, Told}

here_or_later : (from i : ℕ) → from ≤ i → (from ≡ i) ⊎ (suc from ≤ i)
here_or_later from i h = ⊎_elim (λ (p : from < i). inr p) (λ (p : i ≤ from). inl (omega arith)) (cases_lt from i)

-- what holds here and of each later number holds of each number from here on
from_here : (P : ℕ → Type 0) (from i : ℕ) → P from → (suc from ≤ i → P i) → from ≤ i → P i
from_here P from i here later h = ⊎_elim (λ (e : from ≡ i). subst P e here) later (here_or_later from i h)

-- what the first number that passes a test tells, or that there is none
module _ (test : ℕ → Bool) where
  abbrev pub First : ℕ → ℕ → Option ℕ → Type 0
  First from count None = (i : ℕ) → from ≤ i → i < from + count → test i ≡ false
  First from count (Some k) = (from ≤ k) × (k < from + count) × (test k ≡ true) × ((i : ℕ) → from ≤ i → i < k → test i ≡ false)

  pub first_tells : (count from : ℕ) → First from count (first test from count)
  unfolding first
  first_tells zero from = λ i a b. absurd (omega arith)
  first_tells (suc count) from = by (test from) refl (first_tells count (suc from))
    where
      later : test from ≡ false → (o : Option ℕ) → First (suc from) count o → First from (suc count) o
      later e None k = λ i a b. from_here (λ n. test n ≡ false) from i e (λ p. k i p (omega arith)) a
      later e (Some j) k = (omega (arith, k.0), omega (arith, k.1), k.2, λ i a b. from_here (λ n. test n ≡ false) from i e (λ p. k.3 i p b) a)

      by : (b : Bool) → test from ≡ b → First (suc from) count (first test (suc from) count) → First from (suc count) (cond b (Some from) (first test (suc from) count))
      by true e h = (omega arith, omega arith, e, λ i a b. absurd (omega arith))
      by false e h = later e (first test (suc from) count) h

  -- std's search through the same numbers
  pub find_first : (count from : ℕ) → find test (range_with_len from count) ≡ first test from count
  unfolding first
  find_first zero from = refl
  find_first (suc count) from =
      ap (cond (test from) (Some from)) (ap (λ (a : ℕ). find test (range_with_len a count)) (add-one from) ∙ find_first count (suc from))

module _ (q : ℕ) (m : Meaning) (N d : ℕ) (list column : List ℕ) where
  abbrev failing : ℕ → ℕ → Bool
  failing = fails q m N d list column

  abbrev search_from : ℕ → ℕ → Option (ℕ × ℕ)
  search_from = first_failure q m N d list column

  -- the search as a loop makes it, from place l on to n
  pub failure_here : (l n r : ℕ) → l < n → first (failing l) 0 N ≡ Some r → search_from l (n - l) ≡ Some (l, r + 1)
  unfolding first_failure
  failure_here l n r h e =
      ap (search_from l) (let c : n - l ≡ suc (n - l - 1) = omega arith in c)
      ∙ ap (λ (o : Option ℕ). elim o [ Some r ↦ Some (l, suc r) | None ↦ search_from (suc l) (n - l - 1) ]) e
      ∙ ap (λ (i : ℕ). Some (l, i)) (let a : suc r ≡ r + 1 = omega arith in a)

  pub failure_later : (l n : ℕ) → l < n → first (failing l) 0 N ≡ None → search_from l (n - l) ≡ search_from (l + 1) (n - (l + 1))
  unfolding first_failure
  failure_later l n h e =
      ap (search_from l) (let c : n - l ≡ suc (n - l - 1) = omega arith in c)
      ∙ ap (λ (o : Option ℕ). elim o [ Some r ↦ Some (l, suc r) | None ↦ search_from (suc l) (n - l - 1) ]) e
      ∙ ap₂ search_from (let a : suc l ≡ l + 1 = omega arith in a) (let b : n - l - 1 ≡ n - (l + 1) = omega arith in b)

  pub failure_done : (l n : ℕ) → n ≤ l → search_from l (n - l) ≡ None
  unfolding first_failure
  failure_done l n h = ap (search_from l) (let c : n - l ≡ 0 = omega arith in c)

  abbrev Tells : ℕ → ℕ → Option (ℕ × ℕ) → Type 0
  Tells from count None = (k r : ℕ) → from ≤ k → k < from + count → r < N → failing k r ≡ false
  Tells from count (Some p) =
      (from ≤ p.0) × (p.0 < from + count) × (1 ≤ p.1) × (p.1 ≤ N) × (failing p.0 (p.1 - 1) ≡ true)
      × ((k r : ℕ) → from ≤ k → k < p.0 → r < N → failing k r ≡ false)
      × ((r : ℕ) → r < p.1 - 1 → failing p.0 r ≡ false)

  failure_tells : (count from : ℕ) → Tells from count (search_from from count)
  unfolding first_failure
  failure_tells zero from = λ k r a b. absurd (omega arith)
  failure_tells (suc count) from = by (first (failing from) 0 N) (first_tells (failing from) N 0) (failure_tells count (suc from))
    where
      later : ((r : ℕ) → r < N → failing from r ≡ false) → (o : Option (ℕ × ℕ)) → Tells (suc from) count o → Tells from (suc count) o
      later e None t = λ k r a b l. from_here (λ n. failing n r ≡ false) from k (e r l) (λ p. t k r p (omega arith) l) a
      later e (Some p) t =
          (omega (arith, t.0), omega (arith, t.1), t.2, t.3, t.4, λ k r a b l. from_here (λ n. failing n r ≡ false) from k (e r l) (λ h. t.5 k r h b l) a, t.6)

      by : (o : Option ℕ) → First (failing from) 0 N o → Tells (suc from) count (search_from (suc from) count)
          → Tells from (suc count) (elim o [ Some r ↦ Some (from, suc r) | None ↦ search_from (suc from) count ])
      by None h t = later (λ r l. h r (omega arith) (omega arith)) (search_from (suc from) count) t
      by (Some r) h t =
          (omega arith, omega arith, omega arith, omega (arith, h.1), subst (λ (i : ℕ). failing from i ≡ true) (let a : r ≡ suc r - 1 = omega arith in a) h.2, λ k s a b. absurd (omega arith), λ s l. h.3 s (omega arith) (omega arith))

  zero_there : (k r : ℕ) → failing k r ≡ false → column_discrepancy q m N d list column k r ≡ 0
  zero_there k r e = eqb-true _ _ (flipped (eqb (column_discrepancy q m N d list column k r) 0) e)
    where
      flipped : (b : Bool) → not b ≡ false → b ≡ true
      flipped true e = refl
      flipped false e = absurd (true≢false e)

  not_zero_there : (k r : ℕ) → failing k r ≡ true → column_discrepancy q m N d list column k r ≢ 0
  not_zero_there k r e z = false≢true (sym (ap not (eq-eqb (column_discrepancy q m N d list column k r) 0 z)) ∙ e)

  pub failure_told : (count : ℕ) → count ≡ matrix_count q m N d list column - d → Told q m N d list column (search_from d count)
  failure_told count e = by (search_from d count) (failure_tells count d)
    where
      by : (o : Option (ℕ × ℕ)) → Tells d count o → Told q m N d list column o
      by None t = record { says = λ l r a b h. zero_there l r (t l r a (omega (arith, e)) h); none_if_it_fits = λ f. refl }
      by (Some p) t = record {
        says = record {
          place_from_degree = t.0;
          place_in_list = omega (arith, e, t.0, t.1);
          row_from_one = t.2;
          row_in_matrix = t.3;
          not_zero_there = not_zero_there p.0 (p.1 - 1) t.4;
          zero_at_earlier_places = λ k r a b h. zero_there k r (t.5 k r a b h);
          zero_at_earlier_rows = λ r h. zero_there p.0 r (t.6 r h);
        };
        none_if_it_fits = λ f. absurd (not_zero_there p.0 (p.1 - 1) t.4 (f p.0 (p.1 - 1) t.0 (omega (arith, e, t.0, t.1)) (omega (arith, t.2, t.3))));
      }

  abbrev Answers : Result (Option (ℕ × ℕ)) Refusal → Type 0
  Answers (Ok a) = Told q m N d list column a
  Answers (Err e) = fits_refusal q N d list column ≡ Some e

  -- what the answer of the fit check tells
  pub answer_told : (r : Result (Option (ℕ × ℕ)) Refusal) → r ≡ fits_answer q m N d list column → Answers r
  answer_told r e = subst Answers (sym e) (by (fits_refusal q N d list column) refl)
    where
      by : (o : Option Refusal) → fits_refusal q N d list column ≡ o → Answers (elim o [ Some e ↦ Err e | None ↦ Ok (search_from d (matrix_count q m N d list column - d)) ])
      by None e = failure_told (matrix_count q m N d list column - d) refl
      by (Some x) e = e
