-- Elimination on the numbers that a field's calls answer: read as codes, they are elements of a field with its laws.
use Rattle.std.proofs.Common.{◌≡◌, ℕ, ◌+◌, ◌<◌, Bool, true, false, cond, eqb, Option, sym, refl, ap, ◌∙◌, subst}
use Rattle.std.proofs.lemmas.Bool.{cond_both}
use Rattle.rings.specs.Meaning.{Meaning, Laws, Inverse, code}
use Rattle.recurrences.specs.Fields.{FieldOperations, or_else, quotient}
use Rattle.recurrences.specs.Generators.{Undoes}
use Rattle.recurrences.specs.Sums.{sum}
use Rattle.recurrences.proofs.CodesField as field_of_codes
use Rattle.recurrences.proofs.FieldLaws.{Field, ring_of, field_of, zero_mul}
use Rattle.recurrences.proofs.FieldSums.{sum_assoc, sum_zero}
use Rattle.recurrences.proofs.Summing.{sum_same}
use Rattle.recurrences.proofs.Homomorphisms.{Map, sum_map, unit_map}
use Rattle.recurrences.proofs.UnitVectors.{sum_unit}
use Rattle.rings.specs.Arithmetic.{Arithmetic, reading}
use Rattle.runs.specs.Operations.{operations_of}
use Rattle.runs.specs.Equations.{Side, left, right}
use Rattle.runs.specs.Clearing.{Clears, combined, share, swapped}
use Rattle.runs.specs.Solve.{Codes, OnlySolution, Solves, Spans, row_times}
use Rattle.runs.proofs.LinearEquations.{Progress, Spanning, at_end, at_start, dot, one_more}

module _ (q : ℕ) (m : Meaning) (inv : ℕ → Option ℕ) (L : Laws q m) (V : (a : ℕ) → a < q → Inverse q m a (inv a)) where
  abbrev a : Arithmetic
  a = reading q m inv

  abbrev O : FieldOperations
  O = operations_of a

  abbrev F : Field
  F = field_of_codes.codes q m inv L V

  abbrev H : Map O.ring (ring_of F)
  H = field_of_codes.reading q m inv L V

  abbrev φ : ℕ → F.K
  φ = H.φ

  itself : (x : ℕ) → x < q → code q x ≡ x
  itself = field_of_codes.itself q m inv L V

  same_number : (x y : ℕ) → x < q → y < q → φ x ≡ φ y → x ≡ y
  same_number x y xq yq e = sym (itself x xq) ∙ ap (λ z. z.0) e ∙ itself y yq

  inverse_map : (y : ℕ) → φ (or_else 0 (inv (code q y))) ≡ F.inv (φ y)
  inverse_map y = field_of_codes.same_code q m inv L V (φ (or_else 0 (inv (code q y)))) (F.inv (φ y))
      (itself _ (field_of_codes.inverse_below q m inv L V y) ∙ ap (λ (v : ℕ). or_else 0 (inv v)) (sym (itself (code q y) (field_of_codes.code_below q m inv L V y))))

  quotient_map : (x y : ℕ) → φ (quotient O x y) ≡ quotient (field_of F) (φ x) (φ y)
  quotient_map x y = H.on_mul x (or_else 0 (inv (code q y))) ∙ ap (F.mul (φ x)) (inverse_map y)

  combined_map : (c p : ℕ) (k b : ℕ → ℕ) (j : ℕ) → φ (combined O c p k b j) ≡ combined (field_of F) c p (λ i. φ (k i)) (λ i. φ (b i)) j
  combined_map c p k b j = go (eqb j c)
    where
      go : (t : Bool) → φ (cond t (b p) (O.ring.add (b (swapped c p j)) (O.ring.mul (O.ring.neg (k j)) (b p))))
          ≡ cond t (φ (b p)) (F.add (φ (b (swapped c p j))) (F.mul (F.neg (φ (k j))) (φ (b p))))
      go true = refl
      go false = H.on_add _ _ ∙ ap (F.add (φ (b (swapped c p j)))) (H.on_mul _ _ ∙ ap (λ x. F.mul x (φ (b p))) (H.on_neg (k j)))

  -- equations read as codes
  abbrev pub coded : (ℕ → Side → ℕ → ℕ) → ℕ → Side → ℕ → F.K
  coded E j s e = φ (E j s e)

  module _ (N : ℕ) where
    clears_map : (c : ℕ) (E E' : ℕ → Side → ℕ → ℕ) → c < N → Codes a N (λ j. E j left) → Clears O N c E E' → Clears (field_of F) N c (coded E) (coded E')
    clears_map c E E' cN h C = record {
      pivot = C.pivot;
      from = C.from;
      below = C.below;
      none = λ e j cj jN. ap φ (C.none (same_number _ 0 (h C.pivot c C.below cN) (field_of_codes.some_code q m inv L V) (e ∙ sym H.on_zero)) j cj jN) ∙ H.on_zero;
      becomes = λ j s e jN eN. ap φ (C.becomes j s e jN eN) ∙ combined_map c C.pivot (share O c C.pivot E) (λ i. E i s e) j
          ∙ ap (λ k. combined (field_of F) c C.pivot (λ _. k) (λ i. φ (E i s e)) j) (quotient_map _ _);
    }

    codes_kept : (c : ℕ) (E E' : ℕ → Side → ℕ → ℕ) → Codes a N (λ j. E j left) → Clears O N c E E' → Codes a N (λ j. E' j left)
    codes_kept c E E' h C j e jN eN = subst (λ (x : ℕ). x < q) (sym (C.becomes j left e jN eN))
        (cond_both (eqb j c) _ _ (λ (x : ℕ). x < q) (λ _. h C.pivot e C.below eN) (λ _. field_of_codes.sum_below q m inv L V _ _))

    -- where the equations given are of codes and span, what is left of them after c turns
    abbrev pub Turned : ℕ → (ℕ → Side → ℕ → ℕ) → (ℕ → Side → ℕ → ℕ) → Type 0
    Turned c E₀ E = Codes a N (λ j. E₀ j left) → Spanning F N (λ j. coded E₀ j left) → Codes a N (λ j. E j left) × Progress F N c (coded E₀) (coded E)

    pub turned_none : (E : ℕ → Side → ℕ → ℕ) → Turned 0 E E
    turned_none E h s = (h, at_start F N (coded E) s)

    pub turned_more : (c : ℕ) (E₀ E E' : ℕ → Side → ℕ → ℕ) → c < N → Turned c E₀ E → Clears O N c E E' → Turned (c + 1) E₀ E'
    turned_more c E₀ E E' cN t C h s =
        (codes_kept c E E' (t h s).0 C, one_more F N c (coded E₀) (coded E) (coded E') cN (t h s).1 (clears_map c E E' cN (t h s).0 C))

    products : (y g : ℕ → ℕ) → dot F N (λ e. φ (y e)) (λ e. φ (g e)) ≡ φ (row_times a N y g)
    products y g = sum_same (ring_of F) N _ _ (λ e _. sym (H.on_mul (y e) (g e))) ∙ sym (sum_map O.ring (ring_of F) H N (λ e. a.product (y e) (g e)))

    spans_map : (g : ℕ → ℕ → ℕ) → Spans a N g → Spanning F N (λ j e. φ (g j e))
    spans_map g s y z c cN = field_of_codes.same_code q m inv L V (y c) F.𝟘 (s (λ e. (y e).0) (λ e. (y e).1) zero c cN)
      where
        zero : (j : ℕ) → j < N → sum O.ring N (λ e. a.product (y e).0 (g j e)) ≡ 0
        zero j jN =
            sum_same O.ring N _ _ (λ e _. ap (m.product (code q (y e).0)) (sym (itself (code q (g j e)) (field_of_codes.code_below q m inv L V (g j e)))))
            ∙ sym (sum_map (ring_of F) O.ring (field_of_codes.value q m inv L V).map N (λ e. F.mul (y e) (φ (g j e)))) ∙ ap (λ x. x.0) (z j jN)

    -- vectors that form an invertible matrix span
    pub inverse_spans : (g B : ℕ → ℕ → ℕ) → Undoes O.ring N (λ c j. g j c) B → Spans a N g
    inverse_spans g B u y yq z k kN = same_number (y k) 0 (yq k) (field_of_codes.some_code q m inv L V)
        (sym (sum_unit F N (λ i. φ (y i)) k kN)
        ∙ sum_same (ring_of F) N _ _ (λ i iN. ap (F.mul (φ (y i))) (sym (products (λ j. g j i) (λ j. B j k) ∙ ap φ (u i k iN kN) ∙ unit_map O.ring (ring_of F) H i k)))
        ∙ sym (sum_assoc F N (λ i. φ (y i)) (λ i j. φ (g j i)) (λ j. φ (B j k)))
        ∙ sum_zero F N _ (λ j jN. ap (λ x. F.mul x (φ (B j k))) (products y (g j) ∙ ap φ (z j jN) ∙ H.on_zero) ∙ zero_mul F (φ (B j k)))
        ∙ sym H.on_zero)

    -- each row of a solution, read as codes, solves the equations read as codes
    solves_map : (E : ℕ → Side → ℕ → ℕ) (X : ℕ → ℕ → ℕ) → Solves a N (λ j. E j left) (λ j. E j right) X
        → (r : ℕ) → r < N → (j : ℕ) → j < N → dot F N (λ e. φ (X r e)) (coded E j left) ≡ coded E j right r
    solves_map E X h r rN j jN = products (X r) (E j left) ∙ ap φ (h j r jN rN)

    pub turned_all : (E₀ E : ℕ → Side → ℕ → ℕ) → Turned N E₀ E
        → OnlySolution a N (λ j. E₀ j left) (λ j. E₀ j right) (λ r c. quotient O (E c right r) (E c left c))
    turned_all E₀ E t h s X hX x r c rN cN =
        same_number _ (X r c) (field_of_codes.product_below q m inv L V (E c right r) _) (hX r c rN cN)
        (quotient_map (E c right r) (E c left c)
        ∙ at_end F N (coded E₀) (coded E) (t h (spans_map (λ j. E₀ j left) s)).1 (λ e. φ (X r e)) r rN (solves_map E₀ X x r rN) c cN)
