-- The operations of a ring on elements of any kind, with no laws: every definition is stated, and computed, over them.
use Rattle.std.specs.Prelude.{ℕ}
use Rattle.std.proofs.Math.Decide.{ℕ_discrete}
use Rattle.rings.specs.Meaning.{Meaning, code}

-- K are the elements, and dec tells whether two of them are equal
pub record Operations : Type 1 where
  pub K : Type 0
  pub dec : Discrete K
  pub 𝟘 : K
  pub 𝟙 : K
  pub add : K → K → K
  pub neg : K → K
  pub mul : K → K → K

-- the ring of size q and meaning m on numbers, as its calls answer them: a number of q or more is read as 0
abbrev pub numbers : ℕ → Meaning → Operations
numbers q m = record {
  K = ℕ;
  dec = ℕ_discrete;
  𝟘 = 0;
  𝟙 = 1;
  add = λ a b. m.sum (code q a) (code q b);
  neg = λ a. m.opposite (code q a);
  mul = λ a b. m.product (code q a) (code q b);
}
