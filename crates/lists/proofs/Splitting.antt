-- Laws of a text parted at a byte.
use Rattle.std.proofs.Common.{◌≡◌, ℕ, suc, ◌+◌, ◌-◌, ◌<◌, ◌≤◌, Bool, true, false, cond, not, eqb, ltb, List, [], ◌∷◌, ◌++◌, length, take, drop, Some, None, refl, ap, ◌∙◌, arith}
use Rattle.std.specs.List.{AllByRecursion, onto_first, position, position_or_len}
use Rattle.std.proofs.lemmas.Bool.{cond-true, cond-false, eq-eqb, ltb-true, ltb-false}
use Rattle.std.proofs.lemmas.List.{take_rest}
use Rattle.std.proofs.lemmas.List.Sums.{count_by-le-length}
use Rattle.std.proofs.lemmas.List.Splits.{slice_split_first, length-slice_split, join_with_byte-slice_split}
use Rattle.lists.specs.Split.{split, join}

-- ---- the first part, and what is left behind it, as a range from a place on reads it
pub split_at : (c : ℕ) (bs : List ℕ) (at : ℕ) → Some at ≡ position (λ b. eqb b c) bs → split c bs ≡ take at bs ∷ split c (take (length bs - (at + 1)) (drop (at + 1) bs))
split_at c bs at h = rw (take_rest bs (at + 1)) (by (ltb n (length bs)) refl h)
  where
    n : ℕ
    n = position_or_len (λ b. eqb b c) bs

    by : (t : Bool) → ltb n (length bs) ≡ t → Some at ≡ cond t (Some n) None → split c bs ≡ take at bs ∷ split c (drop (at + 1) bs)
    by true e k = let same : n ≡ at = cc in slice_split_first (λ b. eqb b c) bs 0 (ltb-true n (length bs) e) ∙ ap (λ (i : ℕ). take i bs ∷ split c (drop (i + 1) bs)) same
    by false e k = cc

unmarked : (c : ℕ) (bs : List ℕ) → length bs ≤ position_or_len (λ b. eqb b c) bs → split c bs ≡ bs ∷ []
unmarked c [] h = refl
unmarked c (b ∷ bs) h = by (eqb b c) h (unmarked c bs)
  where
    by : (t : Bool) → suc (length bs) ≤ cond (not t) (1 + position_or_len (λ b. eqb b c) bs) 0 → (length bs ≤ position_or_len (λ b. eqb b c) bs → split c bs ≡ bs ∷ []) → cond t ([] ∷ split c bs) (onto_first b (split c bs)) ≡ (b ∷ bs) ∷ []
    by true k ih = absurd (omega arith)
    by false k ih = ap (onto_first b) (ih (omega arith))

pub split_whole : (c : ℕ) (bs : List ℕ) → None ≡ position (λ b. eqb b c) bs → split c bs ≡ bs ∷ []
split_whole c bs h = by (ltb n (length bs)) refl h
  where
    n : ℕ
    n = position_or_len (λ b. eqb b c) bs

    by : (t : Bool) → ltb n (length bs) ≡ t → None ≡ cond t (Some n) None → split c bs ≡ bs ∷ []
    by true e k = cc
    by false e k = unmarked c bs (ltb-false n (length bs) e)

-- ---- the two laws of split and join
pub join_split : (c : ℕ) (bs : List ℕ) → join c (split c bs) ≡ bs
join_split c bs = join_with_byte-slice_split c bs

-- a part that has no mark in it
abbrev pub Free : ℕ → List ℕ → Type 0
Free c p = AllByRecursion (λ b. eqb b c ≡ false) p

split_free : (c : ℕ) (p : List ℕ) → Free c p → split c p ≡ p ∷ []
split_free c [] h = refl
split_free c (b ∷ p) h = cond-false (eqb b c) ([] ∷ split c p) (onto_first b (split c p)) h.0 ∙ ap (onto_first b) (split_free c p h.1)

split_front : (c : ℕ) (p bs : List ℕ) → Free c p → split c (p ++ (c ∷ bs)) ≡ p ∷ split c bs
split_front c [] bs h = cond-true (eqb c c) ([] ∷ split c bs) (onto_first c (split c bs)) (eq-eqb c c refl)
split_front c (b ∷ p) bs h = cond-false (eqb b c) ([] ∷ split c (p ++ (c ∷ bs))) (onto_first b (split c (p ++ (c ∷ bs)))) h.0 ∙ ap (onto_first b) (split_front c p bs h.1)

pub split_join : (c : ℕ) (p : List ℕ) (ps : List (List ℕ)) → AllByRecursion (Free c) (p ∷ ps) → split c (join c (p ∷ ps)) ≡ p ∷ ps
split_join c p [] h = split_free c p h.0
split_join c p (q ∷ ps) h = split_front c p (join c (q ∷ ps)) h.0 ∙ ap (λ (x : List (List ℕ)). p ∷ x) (split_join c q ps h.1)

-- ---- how many parts there are
pub split_some : (c : ℕ) (bs : List ℕ) → 0 < length (split c bs)
split_some c bs = omega (arith, length-slice_split (λ b. eqb b c) bs)

pub length_split_le : (c : ℕ) (bs : List ℕ) → length (split c bs) ≤ length bs + 1
length_split_le c bs = omega (arith, length-slice_split (λ b. eqb b c) bs, count_by-le-length (λ b. eqb b c) bs)
