-- Totals, least and greatest of degrees.
use Rattle.std.proofs.Common.{◌≡◌, ℕ, zero, suc, ◌+◌, ◌*◌, ◌<◌, ◌≤◌, min, max, sym, refl, ap, ◌∙◌, ap₂, arith}
use native.Mathlib.Decide.{ℕ_discrete, dec_le}
use Rattle.recurrences.specs.Degrees.{greatest, least, total}
use Rattle.recurrences.specs.Choice.{put}
use Rattle.recurrences.proofs.Choosing.{put_here, put_away}
use Rattle.recurrences.proofs.Transpositions.{flip, flip_right, flip_left, flip_away}

pub total_cong : (n : ℕ) (d e : ℕ → ℕ) → ((i : ℕ) → i < n → d i ≡ e i) → total n d ≡ total n e
unfolding total
total_cong zero d e h = refl
total_cong (suc n) d e h = ap₂ ◌+◌ (total_cong n d e (λ i l. h i (omega arith))) (h n (omega arith))

pub total_put : (n k a : ℕ) (d : ℕ → ℕ) → k < n → total n (put k a d) + d k ≡ total n d + a
unfolding total
total_put zero k a d h = absurd (omega arith)
total_put (suc n) k a d h = go (λ l. total_put n k a d l) (ℕ_discrete n k)
  where
    go : (k < n → total n (put k a d) + d k ≡ total n d + a) → Dec (n ≡ k) → (total n (put k a d) + put k a d n) + d k ≡ (total n d + d n) + a
    go ih (yes e) = rw (put_here k a d n e, total_cong n (put k a d) d (λ i l. put_away k a d i (omega arith)), e) (omega arith)
    go ih (no e) = rw (put_away k a d n e) (let x = ih (omega arith) in omega arith)

pub total_flip : (n j : ℕ) (g : ℕ → ℕ) → j < suc n → total (suc n) (λ i. g (flip j n i)) ≡ total (suc n) g
unfolding total
total_flip n j g h = go (ℕ_discrete j n)
  where
    one : (i : ℕ) → i < n → Dec (i ≡ j) → g (flip j n i) ≡ put j (g n) g i
    one i l (yes e) = rw e (ap g (flip_left j n) ∙ sym (put_here j (g n) g j refl))
    one i l (no e) = ap g (flip_away j n i e (omega arith)) ∙ sym (put_away j (g n) g i e)

    same : j ≡ n → (i : ℕ) → i < n → g (flip j n i) ≡ g i
    same e i l = ap g (flip_away j n i (omega arith) (omega arith))

    go : Dec (j ≡ n) → total n (λ i. g (flip j n i)) + g (flip j n n) ≡ total n g + g n
    go (yes e) = ap₂ ◌+◌ (total_cong n _ _ (same e)) (ap g (flip_right j n ∙ e))
    go (no e) = ap₂ ◌+◌ (total_cong n _ _ (λ i l. one i l (ℕ_discrete i j))) (ap g (flip_right j n)) ∙ total_put n j (g n) g (omega arith)

pub total_le : (n : ℕ) (d e : ℕ → ℕ) → ((i : ℕ) → i < n → d i ≤ e i) → total n d ≤ total n e
unfolding total
total_le zero d e h = omega arith
total_le (suc n) d e h = let x = total_le n d e (λ i l. h i (omega arith)) in let y = h n (omega arith) in omega arith

-- one term may be raised from d to e, and the others with it
pub total_lift : (n k : ℕ) (d e : ℕ → ℕ) → k < n → ((i : ℕ) → i < n → d i ≤ e i) → total n d + e k ≤ total n e + d k
unfolding total
total_lift zero k d e h le = absurd (omega arith)
total_lift (suc n) k d e h le = go (λ l. total_lift n k d e l (λ i il. le i (omega arith))) (ℕ_discrete k n)
  where
    go : (k < n → total n d + e k ≤ total n e + d k) → Dec (k ≡ n) → (total n d + d n) + e k ≤ (total n e + e n) + d k
    go ih (no q) = let x = ih (omega arith) in let y = le n (omega arith) in omega arith
    go ih (yes q) = rw q (let x = total_le n d e (λ i il. le i (omega arith)) in omega arith)

pub total_suc : (n : ℕ) (d : ℕ → ℕ) → total n (λ k. suc (d k)) ≡ total n d + n
unfolding total
total_suc zero d = refl
total_suc (suc n) d = let x = total_suc n d in omega arith

pub total_const : (n a : ℕ) → total n (λ _. a) ≡ n * a
unfolding total
total_const zero a = omega arith
total_const (suc n) a = let x = total_const n a in omega arith

pub greatest_is : (n : ℕ) (d : ℕ → ℕ) (i : ℕ) → i < n → d i ≤ greatest n d
greatest_is zero d i h = absurd (omega arith)
greatest_is (suc n) d i h = go (λ l. greatest_is n d i l) (ℕ_discrete i n)
  where
    go : (i < n → d i ≤ greatest n d) → Dec (i ≡ n) → d i ≤ max (greatest n d) (d n)
    go ih (yes e) = rw e (omega arith)
    go ih (no e) = let x = ih (omega arith) in omega arith

pub least_is : (n : ℕ) (d : ℕ → ℕ) (i : ℕ) → i < n → least n d ≤ d i
least_is zero d i h = absurd (omega arith)
least_is (suc zero) d i h = let e : i ≡ 0 = omega arith in rw e (omega arith)
least_is (suc (suc n)) d i h = go (λ l. least_is (suc n) d i l) (ℕ_discrete i (suc n))
  where
    go : (i < suc n → least (suc n) d ≤ d i) → Dec (i ≡ suc n) → min (least (suc n) d) (d (suc n)) ≤ d i
    go ih (yes e) = rw e (omega arith)
    go ih (no e) = let x = ih (omega arith) in omega arith

pub least_among : (n : ℕ) (d : ℕ → ℕ) → 0 < n → (i : ℕ) × (i < n) × (least n d ≡ d i)
least_among zero d h = absurd (omega arith)
least_among (suc zero) d h = (0, omega arith, refl)
least_among (suc (suc n)) d h = go (least_among (suc n) d (omega arith)) (dec_le (least (suc n) d) (d (suc n)))
  where
    go : (i : ℕ) × (i < suc n) × (least (suc n) d ≡ d i) → Dec (least (suc n) d ≤ d (suc n))
        → (i : ℕ) × (i < suc (suc n)) × (min (least (suc n) d) (d (suc n)) ≡ d i)
    go (i, l, e) (yes q) = (i, omega arith, omega arith)
    go (i, l, e) (no q) = (suc n, omega arith, omega arith)

pub greatest_le : (n : ℕ) (d e : ℕ → ℕ) → ((i : ℕ) → i < n → d i ≤ e i) → greatest n d ≤ greatest n e
greatest_le zero d e h = omega arith
greatest_le (suc n) d e h = let x = greatest_le n d e (λ i l. h i (omega arith)) in let y = h n (omega arith) in omega arith

pub greatest_total : (n : ℕ) (d : ℕ → ℕ) → greatest n d ≤ total n d
unfolding total
greatest_total zero d = omega arith
greatest_total (suc n) d = let x = greatest_total n d in omega arith
