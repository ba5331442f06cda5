-- The table of a meaning tells the arithmetic of that meaning.
use Rattle.std.proofs.Common.{◌≡◌, ℕ, ◌<◌, ltb, List, [], map, get_or, Some, None, Option, refl, sym, ap, ◌∙◌, zero-add, arith}
use Rattle.std.specs.List.{range_with_len}
use Rattle.std.proofs.lemmas.List.FromFn.{get_or-map-range_with_len}
use Rattle.std.proofs.lemmas.Bool.{cond_both, ltb-true}
use Rattle.rings.specs.Arithmetic.{reading}
use Rattle.rings.specs.Meaning.{Meaning, Laws, code}
use Rattle.rings.specs.Tables.{TableOf, encoded, decoded, row_of, first}

code_below : (q x : ℕ) → 0 < q → code q x < q
code_below q x h = cond_both (ltb x q) x 0 (λ y. y < q) (λ e. ltb-true x q e) (λ e. h)

first_of_row : (o : Option ℕ) → first (row_of o) ≡ o
first_of_row None = refl
first_of_row (Some b) = refl

module _ (q : ℕ) (m : Meaning) (inv : ℕ → Option ℕ) (h : 0 < q) where
  entry_at : {X : Type 0} (f : ℕ → X) (a : ℕ) (d : X) → get_or (map f (range_with_len 0 q)) (code q a) d ≡ f (code q a)
  entry_at f a d = get_or-map-range_with_len f 0 q (code q a) (code q a) d (code_below q a h) (zero-add (code q a))

  entry_in_row : (f : ℕ → ℕ → ℕ) (a b : ℕ) → get_or (get_or (map (λ x. map (λ y. f x y) (range_with_len 0 q)) (range_with_len 0 q)) (code q a) []) (code q b) 0 ≡ f (code q a) (code q b)
  entry_in_row f a b =
      ap (λ (row : List ℕ). get_or row (code q b) 0) (entry_at (λ x. map (λ y. f x y) (range_with_len 0 q)) a []) ∙ entry_at (λ y. f (code q a) y) b 0

  decoded_encoded : decoded (encoded q m inv) ≡ reading q m inv
  unfolding decoded encoded
  decoded_encoded = λ i. record {
    size = q;
    sum = λ a b. entry_in_row m.sum a b i;
    opposite = λ a. entry_at m.opposite a 0 i;
    product = λ a b. entry_in_row m.product a b i;
    inverse = λ a. (ap first (entry_at (λ x. row_of (inv x)) a []) ∙ first_of_row (inv (code q a))) i;
  }

pub decodes : (q : ℕ) (m : Meaning) (inv : ℕ → Option ℕ) → Laws q m → (t : TableOf q m inv) → decoded t.0 ≡ reading q m inv
decodes q m inv laws t = let two = laws.at_least_two in ap decoded (sym t.1) ∙ decoded_encoded q m inv (omega arith)
