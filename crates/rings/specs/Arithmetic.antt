-- The arithmetic of a field: what its calls answer at every number, a code or not.
use Rattle.std.specs.Prelude.{ℕ, Option}
use Rattle.rings.specs.Meaning.{Meaning, code}

pub record Arithmetic : Type 0 where
  pub size : ℕ
  pub sum : ℕ → ℕ → ℕ
  pub opposite : ℕ → ℕ
  pub product : ℕ → ℕ → ℕ
  pub inverse : ℕ → Option ℕ

-- The arithmetic on q codes of a meaning and an inverse, with a number of q or more read as 0.
abbrev pub reading : ℕ → Meaning → (ℕ → Option ℕ) → Arithmetic
reading q m inv = record {
  size = q;
  sum = λ a b. m.sum (code q a) (code q b);
  opposite = λ a. m.opposite (code q a);
  product = λ a b. m.product (code q a) (code q b);
  inverse = λ a. inv (code q a);
}

-- The arithmetic of a field: the members of its kind, at the field.
abbrev pub arithmetic : {X : Type 0} → record { size : ℕ; means : X → Meaning; inverse : X → ℕ → Option ℕ } → X → Arithmetic
arithmetic F field = reading F.size (F.means field) (F.inverse field)
