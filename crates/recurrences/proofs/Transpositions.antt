-- The exchange of two numbers.
use Rattle.std.proofs.Common.{◌≡◌, ℕ, ◌<◌, ◌≢◌, ◌⊎◌, sym, refl, ap, ◌∙◌, inl, inr, arith}
use native.Mathlib.Decide.{ℕ_discrete}
use Rattle.recurrences.specs.Choice.{pick}
use Rattle.recurrences.proofs.Choosing.{pick_yes, pick_no}

-- j and n changed over, all else as it is
pub flip : ℕ → ℕ → ℕ → ℕ
flip j n i = pick (ℕ_discrete i j) n (pick (ℕ_discrete i n) j i)

pub flip_left : (j n : ℕ) → flip j n j ≡ n
unfolding flip
flip_left j n = pick_yes (ℕ_discrete j j) n _ refl

pub flip_right : (j n : ℕ) → flip j n n ≡ j
unfolding flip
flip_right j n = go (ℕ_discrete n j)
  where
    go : (d : Dec (n ≡ j)) → pick d n (pick (ℕ_discrete n n) j n) ≡ j
    go (yes e) = pick_yes (yes e) n _ e ∙ e
    go (no e) = pick_no (no e) n _ e ∙ pick_yes (ℕ_discrete n n) j n refl

pub flip_away : (j n i : ℕ) → i ≢ j → i ≢ n → flip j n i ≡ i
unfolding flip
flip_away j n i a b = pick_no (ℕ_discrete i j) n _ a ∙ pick_no (ℕ_discrete i n) j i b

pub flip_cases : (j n i : ℕ) → ((i ≡ j) × (flip j n i ≡ n)) ⊎ (((i ≡ n) × (flip j n i ≡ j)) ⊎ ((i ≢ j) × (i ≢ n) × (flip j n i ≡ i)))
flip_cases j n i = go (ℕ_discrete i j) (ℕ_discrete i n)
  where
    go : Dec (i ≡ j) → Dec (i ≡ n) → ((i ≡ j) × (flip j n i ≡ n)) ⊎ (((i ≡ n) × (flip j n i ≡ j)) ⊎ ((i ≢ j) × (i ≢ n) × (flip j n i ≡ i)))
    go (yes a) b = inl (a, rw a (flip_left j n))
    go (no a) (yes b) = inr (inl (b, rw b (flip_right j n)))
    go (no a) (no b) = inr (inr (a, b, flip_away j n i a b))

pub flip_flip : (j n i : ℕ) → flip j n (flip j n i) ≡ i
flip_flip j n i = go (flip_cases j n i)
  where
    go : ((i ≡ j) × (flip j n i ≡ n)) ⊎ (((i ≡ n) × (flip j n i ≡ j)) ⊎ ((i ≢ j) × (i ≢ n) × (flip j n i ≡ i))) → flip j n (flip j n i) ≡ i
    go (inl (a, e)) = ap (flip j n) e ∙ flip_right j n ∙ sym a
    go (inr (inl (a, e))) = ap (flip j n) e ∙ flip_left j n ∙ sym a
    go (inr (inr (a, b, e))) = ap (flip j n) e ∙ e

pub flip_below : (j n m i : ℕ) → j < m → n < m → i < m → flip j n i < m
flip_below j n m i a b c = go (flip_cases j n i)
  where
    go : ((i ≡ j) × (flip j n i ≡ n)) ⊎ (((i ≡ n) × (flip j n i ≡ j)) ⊎ ((i ≢ j) × (i ≢ n) × (flip j n i ≡ i))) → flip j n i < m
    go (inl x) = omega arith
    go (inr (inl x)) = omega arith
    go (inr (inr x)) = omega arith
