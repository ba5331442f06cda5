-- The operations of a field: those of a ring, and an inverse, which is absent at zero.
use Rattle.std.specs.Prelude.{ℕ, Some, None, Option}
use Rattle.rings.specs.Meaning.{Meaning, code}
use Rattle.recurrences.specs.Operations.{Operations, numbers}

pub record FieldOperations : Type 1 where
  pub ring : Operations
  pub inverse : ring.K → Option ring.K

-- the value, and z where it is absent
abbrev pub or_else : {A : Type 0} → A → Option A → A
or_else z None = z
or_else z (Some a) = a

-- a divided by b: a times the inverse of b, an absent inverse counting as zero
abbrev pub quotient : (O : FieldOperations) → O.ring.K → O.ring.K → O.ring.K
quotient O a b = O.ring.mul a (or_else O.ring.𝟘 (O.inverse b))

-- the field of size q, meaning m and inverse inv on numbers, as its calls answer them
abbrev pub field_numbers : ℕ → Meaning → (ℕ → Option ℕ) → FieldOperations
field_numbers q m inv = record { ring = numbers q m; inverse = λ a. inv (code q a) }
