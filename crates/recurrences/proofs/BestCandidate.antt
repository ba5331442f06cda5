-- The search for the best candidate finds the one of least degree, and of several such the lowest.
use Rattle.std.proofs.Common.{◌≡◌, ℕ, zero, suc, ◌<◌, ◌≤◌, Some, None, Option, refl, ap, ◌∙◌, subst, arith}
use native.Mathlib.Decide.{ℕ_discrete, dec_lt}
use Rattle.recurrences.specs.Choice.{pick}
use Rattle.recurrences.specs.Pivot.{best, better}
use Rattle.recurrences.specs.Degrees.{least}
use Rattle.recurrences.proofs.Choosing.{pick_same}

abbrev pub Best : (P : ℕ → Type 0) → (ℕ → ℕ) → ℕ → Option ℕ → Type 0
Best P d n None = (j : ℕ) → j < n → ¬ P j
Best P d n (Some b) = (b < n) × P b × ((j : ℕ) → j < n → P j → d b ≤ d j) × ((j : ℕ) → j < b → P j → d b < d j)

pub better_is : (P : ℕ → Type 0) (d : ℕ → ℕ) (n : ℕ) (c : Dec (P n)) (r : Option ℕ) → Best P d n r → Best P d (suc n) (better c d n r)
unfolding better pick
better_is P d n (yes c) None h = (omega arith, c, (λ j l cj. elim (ℕ_discrete j n) [ yes e ↦ rw e (omega arith) | no e ↦ absurd (h j (omega arith) cj) ]), λ j l cj. absurd (h j l cj))
better_is P d n (no c) None h = λ j l cj. elim (ℕ_discrete j n) [ yes e ↦ c (subst P e cj) | no e ↦ h j (omega arith) cj ]
better_is P d n (yes c) (Some b) (bn, cb, least, first) = go (dec_lt (d n) (d b))
  where
    go : (q : Dec (d n < d b)) → Best P d (suc n) (pick q (Some n) (Some b))
    go (yes q) = (omega arith, c, (λ j l cj. elim (ℕ_discrete j n) [ yes e ↦ rw e (omega arith) | no e ↦ (let x = least j (omega arith) cj in omega arith) ]), λ j l cj. (let x = least j l cj in omega arith))
    go (no q) = (omega arith, cb, (λ j l cj. elim (ℕ_discrete j n) [ yes e ↦ rw e (omega arith) | no e ↦ least j (omega arith) cj ]), first)
better_is P d n (no c) (Some b) (bn, cb, least, first) =
    (omega arith, cb, (λ j l cj. elim (ℕ_discrete j n) [ yes e ↦ absurd (c (subst P e cj)) | no e ↦ least j (omega arith) cj ]), first)

pub best_is : (P : ℕ → Type 0) (c : (j : ℕ) → Dec (P j)) (d : ℕ → ℕ) (n : ℕ) → Best P d n (best P c d n)
unfolding best
best_is P c d zero = λ j l cj. omega arith
best_is P c d (suc n) = better_is P d n (c n) (best P c d n) (best_is P c d n)

-- the search depends on which are candidates alone
pub best_same : (P Q : ℕ → Type 0) (c : (j : ℕ) → Dec (P j)) (d : (j : ℕ) → Dec (Q j)) (g : ℕ → ℕ)
    → ((j : ℕ) → P j → Q j) → ((j : ℕ) → Q j → P j) → (n : ℕ) → best P c g n ≡ best Q d g n
unfolding best better
best_same P Q c d g f h zero = refl
best_same P Q c d g f h (suc n) = ap (better (c n) g n) (best_same P Q c d g f h n) ∙ go (best Q d g n)
  where
    go : (o : Option ℕ) → better (c n) g n o ≡ better (d n) g n o
    go None = pick_same (c n) (d n) _ _ (f n) (h n)
    go (Some b) = pick_same (c n) (d n) _ _ (f n) (h n)
