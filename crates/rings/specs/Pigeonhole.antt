-- No function sends n + 1 numbers to n places and keeps them apart.
use Rattle.std.specs.Prelude.{◌≡◌, ℕ, zero, suc, ◌<◌, cond, ◌==◌, ◌≢◌}
use Rattle.std.proofs.Common.{sym, ◌∙◌, ⊎_elim, arith}
use Rattle.std.proofs.lemmas.Bool.{cond-true, cond-false, eq-eqb, ne_eqb, cases_eq}

-- The function f with the value n moved to v.
abbrev moved : (ℕ → ℕ) → ℕ → ℕ → ℕ → ℕ
moved f n v i = cond (f i == n) v (f i)

moved_here : (f : ℕ → ℕ) (n v i : ℕ) → f i ≡ n → moved f n v i ≡ v
moved_here f n v i e = cond-true (f i == n) v (f i) (eq-eqb (f i) n e)

moved_elsewhere : (f : ℕ → ℕ) (n v i : ℕ) → (f i ≢ n) → moved f n v i ≡ f i
moved_elsewhere f n v i e = cond-false (f i == n) v (f i) (ne_eqb (f i) n e)

pub no_room : (n : ℕ) (f : ℕ → ℕ) → ((i : ℕ) → i < suc n → f i < n) → ((i j : ℕ) → i < suc n → j < suc n → f i ≡ f j → i ≡ j) → ⊥
no_room zero f small apart = let h = small 0 (omega arith) in omega arith
no_room (suc n) f small apart = no_room n (moved f n (f (suc n))) fewer still_apart
  where
    last_is_new : (i : ℕ) → i < suc n → f i ≢ f (suc n)
    last_is_new i h e = let q = apart i (suc n) (omega arith) (omega arith) e in omega arith

    fewer : (i : ℕ) → i < suc n → moved f n (f (suc n)) i < n
    fewer i h =
        ⊎_elim
        (λ (e : f i ≡ n). rw (moved_here f n (f (suc n)) i e)
        (let s = small (suc n) (omega arith) in ⊎_elim (λ (q : f (suc n) ≡ n). absurd (last_is_new i h (e ∙ sym q))) (λ (q : f (suc n) ≡ n → ⊥). omega arith) (cases_eq (f (suc n)) n)))
        (λ (e : f i ≡ n → ⊥). rw (moved_elsewhere f n (f (suc n)) i e) (let s = small i (omega arith) in omega arith))
        (cases_eq (f i) n)

    still_apart : (i j : ℕ) → i < suc n → j < suc n → moved f n (f (suc n)) i ≡ moved f n (f (suc n)) j → i ≡ j
    still_apart i j hi hj e =
        ⊎_elim
        (λ (p : f i ≡ n). ⊎_elim
        (λ (q : f j ≡ n). apart i j (omega arith) (omega arith) (p ∙ sym q))
        (λ (q : f j ≡ n → ⊥). absurd (last_is_new j hj (sym (sym (moved_here f n (f (suc n)) i p) ∙ e ∙ moved_elsewhere f n (f (suc n)) j q))))
        (cases_eq (f j) n))
        (λ (p : f i ≡ n → ⊥). ⊎_elim
        (λ (q : f j ≡ n). absurd (last_is_new i hi (sym (moved_elsewhere f n (f (suc n)) i p) ∙ e ∙ moved_here f n (f (suc n)) j q)))
        (λ (q : f j ≡ n → ⊥). apart i j (omega arith) (omega arith) (sym (moved_elsewhere f n (f (suc n)) i p) ∙ e ∙ moved_elsewhere f n (f (suc n)) j q))
        (cases_eq (f j) n))
        (cases_eq (f i) n)
