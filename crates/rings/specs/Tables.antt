-- A field's arithmetic written out as tables of numbers: data, where a meaning is functions.
use mathlib.Core.Path.{contract, sym, ◌∙◌}
use Rattle.std.specs.Prelude.{◌≡◌, ℕ, List, [], ◌∷◌, map, Some, None, Option, slice_index, slice_index_or}
use Rattle.std.specs.List.{range_with_len}
use Rattle.rings.specs.Arithmetic.{Arithmetic}
use Rattle.rings.specs.Meaning.{Meaning, code}

-- Five parts, each of rows: the size and the opposites in one row each, then the sums, the products and the inverses with a row for each code.
abbrev pub Table : Type 0
Table = List (List (List ℕ))

-- An inverse as a row: empty where it is absent.
abbrev pub row_of : Option ℕ → List ℕ
row_of None = []
row_of (Some b) = b ∷ []

-- The inverse that a row tells.
abbrev pub first : List ℕ → Option ℕ
first [] = None
first (b ∷ bs) = Some b

-- The table of a meaning and an inverse on q codes.
unfoldable pub encoded : ℕ → Meaning → (ℕ → Option ℕ) → Table
encoded q m inv =
    ((q ∷ []) ∷ [])
    ∷ (map (λ a. m.opposite a) (range_with_len 0 q) ∷ [])
    ∷ map (λ a. map (λ b. m.sum a b) (range_with_len 0 q)) (range_with_len 0 q)
    ∷ map (λ a. map (λ b. m.product a b) (range_with_len 0 q)) (range_with_len 0 q)
    ∷ map (λ a. row_of (inv a)) (range_with_len 0 q)
    ∷ []

-- A table that is that of a meaning and an inverse on q codes. There is just one.
abbrev pub TableOf : ℕ → Meaning → (ℕ → Option ℕ) → Type 0
TableOf q m inv = (t : Table) × (encoded q m inv ≡ t)

pub table_of_prop : (q : ℕ) (m : Meaning) (inv : ℕ → Option ℕ) → IsProp (TableOf q m inv)
table_of_prop q m inv = λ s t. sym (contract s.1) ∙ contract t.1

abbrev size_of : Table → ℕ
size_of t = slice_index (slice_index_or (slice_index_or t 0 []) 0 []) 0

-- The arithmetic that a table tells, with a number of its size or more read as 0.
unfoldable pub decoded : Table → Arithmetic
decoded t = record {
  size = size_of t;
  sum = λ a b. slice_index (slice_index_or (slice_index_or t 2 []) (code (size_of t) a) []) (code (size_of t) b);
  opposite = λ a. slice_index (slice_index_or (slice_index_or t 1 []) 0 []) (code (size_of t) a);
  product = λ a b. slice_index (slice_index_or (slice_index_or t 3 []) (code (size_of t) a) []) (code (size_of t) b);
  inverse = λ a. first (slice_index_or (slice_index_or t 4 []) (code (size_of t) a) []);
}
