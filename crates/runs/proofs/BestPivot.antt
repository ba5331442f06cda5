-- The search for a pivot, column by column.
use Rattle.std.proofs.Common.{◌≡◌, ℕ, ◌+◌, ◌<◌, ◌≤◌, cond, eqb, ltb, List, get_or, Some, None, Option, sym, refl, ap, ◌∙◌, subst, add-one, arith}
use native.Mathlib.Decide.{ℕ_discrete, dec_lt, dec_le}
use Rattle.std.proofs.lemmas.Bool.{cond-true, cond-false, lt-ltb, le-ltb, ne_eqb, eq-eqb}
use Rattle.recurrences.specs.Choice.{pick}
use Rattle.recurrences.specs.Pivot.{best, better, against}
use Rattle.recurrences.proofs.BestCandidate.{Best, best_is}
use Rattle.recurrences.proofs.Choosing.{pick_yes, pick_no}
use Rattle.runs.specs.Candidates.{Nonzero, nonzero_by, nonzero, best_of, pivot_of, better_of, Within, Found}

pub best_none : (es : List ℕ) (d : ℕ → ℕ) → None ≡ best_of es d 0
unfolding best
best_none es d = refl

better_is : (d : ℕ → ℕ) (x j : ℕ) (z : Dec (x ≡ 0)) (b : Option ℕ) → cond (eqb x 0) b (better_of d j b) ≡ better (nonzero_by x z) d j b
unfolding better nonzero_by pick
better_is d x j (yes z) None = cond-true (eqb x 0) None (Some j) (eq-eqb x 0 z)
better_is d x j (yes z) (Some b) = cond-true (eqb x 0) (Some b) (better_of d j (Some b)) (eq-eqb x 0 z)
better_is d x j (no n) None = cond-false (eqb x 0) None (Some j) (ne_eqb x 0 n)
better_is d x j (no n) (Some b) = cond-false (eqb x 0) (Some b) (better_of d j (Some b)) (ne_eqb x 0 n) ∙ go (dec_lt (d j) (d b))
  where
    go : (p : Dec (d j < d b)) → cond (ltb (d j) (d b)) (Some j) (Some b) ≡ pick p (Some j) (Some b)
    go (yes p) = cond-true (ltb (d j) (d b)) (Some j) (Some b) (lt-ltb (d j) (d b) p)
    go (no p) = cond-false (ltb (d j) (d b)) (Some j) (Some b) (le-ltb (d j) (d b) (omega arith))

pub best_more : (es : List ℕ) (d : ℕ → ℕ) (j : ℕ) (b r : Option ℕ) → b ≡ best_of es d j → r ≡ cond (eqb (get_or es j 0) 0) b (better_of d j b) → r ≡ best_of es d (j + 1)
unfolding best nonzero
best_more es d j b r e h =
    h ∙ better_is d (get_or es j 0) j (ℕ_discrete (get_or es j 0) 0) b
    ∙ ap (better (nonzero es j) d j) e
    ∙ ap (λ (n : ℕ). best_of es d n) (sym (add-one j))

pub best_found : (es : List ℕ) (d : ℕ → ℕ) (n : ℕ) (r : Option ℕ) → r ≡ best_of es d n → Found es n r
best_found es d n r e = subst (Found es n) (sym e) (go (best_of es d n) (best_is (Nonzero es) (nonzero es) d n))
  where
    go : (r : Option ℕ) → Best (Nonzero es) d n r → Found es n r
    go None h = tt
    go (Some b) h = (h.0, h.1)

pub found_within : (es : List ℕ) (n m : ℕ) (r : Option ℕ) → n ≤ m → Found es n r → Within m r
found_within es n m None h w = tt
found_within es n m (Some b) h w = let lt = w.0 in omega arith

-- where none is the best, each entry is 0
pub no_candidate : (es : List ℕ) (d : ℕ → ℕ) (n : ℕ) → None ≡ best_of es d n → (j : ℕ) → j < n → get_or es j 0 ≡ 0
no_candidate es d n e j h = go (ℕ_discrete (get_or es j 0) 0)
  where
    go : Dec (get_or es j 0 ≡ 0) → get_or es j 0 ≡ 0
    go (yes z) = z
    go (no nz) = absurd (subst (Best (Nonzero es) d n) (sym e) (best_is (Nonzero es) (nonzero es) d n) j h nz)

-- against the auxiliary column
pub against_none : (es : List ℕ) (d : ℕ → ℕ) (x n : ℕ) → None ≡ best_of es d n → None ≡ pivot_of es d x n
unfolding against
against_none es d x n e = ap (against x d) e

pub against_tie : (es : List ℕ) (d : ℕ → ℕ) (x n l : ℕ) → Some l ≡ best_of es d n → x ≤ d l → None ≡ pivot_of es d x n
unfolding against
against_tie es d x n l e h = sym (pick_yes (dec_le x (d l)) None (Some l) h) ∙ ap (against x d) e

pub against_win : (es : List ℕ) (d : ℕ → ℕ) (x n l : ℕ) → Some l ≡ best_of es d n → d l < x → Some l ≡ pivot_of es d x n
unfolding against
against_win es d x n l e h = sym (pick_no (dec_le x (d l)) None (Some l) (λ p. omega arith)) ∙ ap (against x d) e
