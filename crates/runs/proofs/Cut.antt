-- A list that is written from the front: below k as f says, and from k on still as g says.
use Rattle.std.proofs.Common.{◌≡◌, ℕ, zero, suc, ◌+◌, ◌<◌, cond, ltb, List, length, get_or, set, replicate, sym, refl, ap, ◌∙◌, arith, get_or-set_other, get_or-set_same}
use mathlib.Core.Path.{fun_ext}
use native.Mathlib.Decide.{ℕ_discrete, dec_lt}
use Rattle.std.proofs.lemmas.Bool.{cond-true, cond-false, lt-ltb, le-ltb}

-- a test that comes out alike
ltb_same : (a b c d : ℕ) → (a < b → c < d) → (c < d → a < b) → ltb a b ≡ ltb c d
ltb_same a b c d h k = elim (dec_lt a b) [ yes p ↦ lt-ltb a b p ∙ sym (lt-ltb c d (h p)) | no n ↦ le-ltb a b (omega arith) ∙ sym (le-ltb c d (let m : c < d → ⊥ = λ p. n (k p) in omega arith)) ]

module _ {X Y : Type 0} (d : X) (read : X → Y) (f g : ℕ → Y) where
  abbrev pub Cut : ℕ → List X → Type 0
  Cut k xs = (x : ℕ) → read (get_or xs x d) ≡ cond (ltb x k) (f x) (g x)

  pub cut_here : (xs : List X) (k : ℕ) → Cut k xs → read (get_or xs k d) ≡ g k
  cut_here xs k h = h k ∙ cond-false (ltb k k) (f k) (g k) (le-ltb k k (omega arith))

  pub cut_more : (xs : List X) (k : ℕ) (v : X) → k < length xs → Cut k xs → read v ≡ f k → Cut (k + 1) (set xs k v)
  cut_more xs k v lt h e x = go (ℕ_discrete x k)
    where
      go : Dec (x ≡ k) → read (get_or (set xs k v) x d) ≡ cond (ltb x (k + 1)) (f x) (g x)
      go (yes s) = ap (λ (y : ℕ). read (get_or (set xs k v) y d)) s ∙ ap read (get_or-set_same xs k v d lt) ∙ e ∙ sym (ap f s) ∙ sym (cond-true (ltb x (k + 1)) (f x) (g x) (lt-ltb x (k + 1) (omega arith)))
      go (no n) = ap read (get_or-set_other xs k x v d n) ∙ h x ∙ ap (λ b. cond b (f x) (g x)) (ltb_same x k x (k + 1) (λ p. omega arith) (λ p. omega arith))

  pub cut_start : (xs : List X) → ((x : ℕ) → read (get_or xs x d) ≡ g x) → Cut 0 xs
  cut_start xs h x = h x ∙ sym (cond-false (ltb x 0) (f x) (g x) (le-ltb x 0 (omega arith)))

  pub cut_end : (xs : List X) (k n : ℕ) → k ≡ n → Cut k xs → ◌≡◌ {A = ℕ → Y} (λ x. read (get_or xs x d)) (λ x. cond (ltb x n) (f x) (g x))
  cut_end xs k n e h = fun_ext (λ x. h x ∙ ap (λ (y : ℕ). cond (ltb x y) (f x) (g x)) e)

  pub cut_to : (xs : List X) (k n : ℕ) → k ≡ n → Cut k xs → Cut n xs
  cut_to xs k n e h x = h x ∙ ap (λ (y : ℕ). cond (ltb x y) (f x) (g x)) e

pub get_or_zeros : (n x : ℕ) → ◌≡◌ {A = ℕ} (get_or (replicate n 0) x 0) 0
get_or_zeros zero x = refl
get_or_zeros (suc n) zero = refl
get_or_zeros (suc n) (suc x) = get_or_zeros n x

pub cut_zeros : (f : ℕ → ℕ) (n : ℕ) → Cut 0 (λ (x : ℕ). x) f (λ _. 0) 0 (replicate n 0)
cut_zeros f n x = get_or_zeros n x ∙ sym (cond-false (ltb x 0) (f x) 0 (le-ltb x 0 (omega arith)))
