-- A field that is just a letter.
use Rattle.std.proofs.Common.{◌≡◌, ℕ, ◌^◌, ◌≤◌, Bool, true, false, cond, eqb, List, [], ◌∷◌, Some, None, refl, ap, ◌∙◌, arith}
use Rattle.std.proofs.lemmas.Bool.{eqb-true}
use Rattle.lists.specs.Bytes.{start_letter, matrix_letter, end_letter}
use Rattle.lists.specs.Kinds.{kind_of}
use Rattle.lists.specs.Rings.{size_of, byte_of, letter_of}
use Rattle.lists.specs.declared.kind.Kind.{Kind}
use Rattle.lists.specs.declared.kind.Kind.TheVariants.{Start, Matrix, End}
use Rattle.lists.specs.declared.letter.RingLetter.{RingLetter}
use Rattle.lists.specs.declared.letter.RingLetter.TheVariants.{B, P, Y, W}

pub none_some : {X : Type 0} {x : X} → None ≡ Some x → ⊥
none_some h = cc

abbrev pub kind_letter : Kind → ℕ
kind_letter Start = start_letter
kind_letter Matrix = matrix_letter
kind_letter End = end_letter

-- a field of a kind is its letter
pub kind_field : (f : List ℕ) (k : Kind) → kind_of f ≡ Some k → f ≡ kind_letter k ∷ []
kind_field [] k h = absurd (none_some h)
kind_field (b ∷ []) k h = by (eqb b start_letter) (eqb b matrix_letter) (eqb b end_letter) refl refl refl h
  where
    by : (s m e : Bool) → eqb b start_letter ≡ s → eqb b matrix_letter ≡ m → eqb b end_letter ≡ e → cond s (Some Start) (cond m (Some Matrix) (cond e (Some End) None)) ≡ Some k → b ∷ [] ≡ kind_letter k ∷ []
    by true m e es em ee h = let same : Start ≡ k = cc in ap (λ (x : ℕ). x ∷ []) (eqb-true b start_letter es ∙ ap kind_letter same)
    by false true e es em ee h = let same : Matrix ≡ k = cc in ap (λ (x : ℕ). x ∷ []) (eqb-true b matrix_letter em ∙ ap kind_letter same)
    by false false true es em ee h = let same : End ≡ k = cc in ap (λ (x : ℕ). x ∷ []) (eqb-true b end_letter ee ∙ ap kind_letter same)
    by false false false es em ee h = absurd (none_some h)
kind_field (b ∷ c ∷ bs) k h = absurd (none_some h)

-- a field of a ring is its letter
pub ring_field : (f : List ℕ) (g : RingLetter) → letter_of f ≡ Some g → f ≡ byte_of g ∷ []
ring_field [] g h = absurd (none_some h)
ring_field (b ∷ []) g h = by (eqb b 66) (eqb b 80) (eqb b 89) (eqb b 87) refl refl refl refl h
  where
    by : (s t u v : Bool) → eqb b 66 ≡ s → eqb b 80 ≡ t → eqb b 89 ≡ u → eqb b 87 ≡ v → cond s (Some B) (cond t (Some P) (cond u (Some Y) (cond v (Some W) None))) ≡ Some g → b ∷ [] ≡ byte_of g ∷ []
    by true t u v es et eu ev h = let same : B ≡ g = cc in ap (λ (x : ℕ). x ∷ []) (eqb-true b 66 es ∙ ap byte_of same)
    by false true u v es et eu ev h = let same : P ≡ g = cc in ap (λ (x : ℕ). x ∷ []) (eqb-true b 80 et ∙ ap byte_of same)
    by false false true v es et eu ev h = let same : Y ≡ g = cc in ap (λ (x : ℕ). x ∷ []) (eqb-true b 89 eu ∙ ap byte_of same)
    by false false false true es et eu ev h = let same : W ≡ g = cc in ap (λ (x : ℕ). x ∷ []) (eqb-true b 87 ev ∙ ap byte_of same)
    by false false false false es et eu ev h = absurd (none_some h)
ring_field (b ∷ c ∷ bs) g h = absurd (none_some h)

-- the letter of a ring is read as that ring
pub letter_back : (g : RingLetter) → letter_of (byte_of g ∷ []) ≡ Some g
letter_back B = refl
letter_back P = refl
letter_back Y = refl
letter_back W = refl

pub ring_within_words : (g : RingLetter) → size_of g ≤ 2 ^ 32
ring_within_words B = omega arith
ring_within_words P = omega arith
ring_within_words Y = omega arith
ring_within_words W = omega arith

pub ring_some : (g : RingLetter) → 1 ≤ size_of g
ring_some B = omega arith
ring_some P = omega arith
ring_some Y = omega arith
ring_some W = omega arith
