-- The first place of a number in a list: the number stands there, and nowhere before.
use Rattle.std.specs.Prelude.{◌≡◌, ℕ, zero, suc, ◌<◌, ◌≤◌, List, [], ◌∷◌, length, ◌==◌, ◌≢◌}
use Rattle.std.proofs.Common.{ap, subst, ◌∙◌, ⊎_elim, le_of_suc-le-suc, arith}
use Rattle.std.proofs.lemmas.Bool.{cond-true, cond-false, eq-eqb, ne_eqb, cases_eq}
use Rattle.rings.specs.Powers.{power, place}

pub place_here : (x : ℕ) (xs : List ℕ) (a : ℕ) → x ≡ a → place (x ∷ xs) a ≡ 0
place_here x xs a e = cond-true (x == a) 0 (suc (place xs a)) (eq-eqb x a e)

pub place_behind : (x : ℕ) (xs : List ℕ) (a : ℕ) → (x ≢ a) → place (x ∷ xs) a ≡ suc (place xs a)
place_behind x xs a e = cond-false (x == a) 0 (suc (place xs a)) (ne_eqb x a e)

pub stands_at_place : (xs : List ℕ) (a : ℕ) → place xs a < length xs → power xs (place xs a) ≡ a
stands_at_place [] a h = absurd (omega arith)
stands_at_place (x ∷ xs) a h =
    ⊎_elim
    (λ (e : x ≡ a). ap (power (x ∷ xs)) (place_here x xs a e) ∙ e)
    (λ (e : x ≡ a → ⊥).
    let p = place_behind x xs a e in
    ap (power (x ∷ xs)) p ∙ stands_at_place xs a (le_of_suc-le-suc (subst (λ k. k < suc (length xs)) p h)))
    (cases_eq x a)

pub place_least : (xs : List ℕ) (a i : ℕ) → i < length xs → power xs i ≡ a → place xs a ≤ i
place_least [] a i h e = absurd (omega arith)
place_least (x ∷ xs) a zero h e = let p = place_here x xs a e in omega arith
place_least (x ∷ xs) a (suc i) h e =
    ⊎_elim
    (λ (q : x ≡ a). let p = place_here x xs a q in omega arith)
    (λ (q : x ≡ a → ⊥). let p = place_behind x xs a q in let r = place_least xs a i (le_of_suc-le-suc h) e in omega arith)
    (cases_eq x a)
