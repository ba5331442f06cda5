-- An arithmetic as the operations that the definitions are stated over.
use Rattle.std.specs.Prelude.{ℕ}
use Rattle.std.proofs.Math.Decide.{ℕ_discrete}
use Rattle.recurrences.specs.Fields.{FieldOperations}
use Rattle.rings.specs.Arithmetic.{Arithmetic}

abbrev pub operations_of : Arithmetic → FieldOperations
operations_of a = record {
  ring = record { K = ℕ; dec = ℕ_discrete; 𝟘 = 0; 𝟙 = 1; add = a.sum; neg = a.opposite; mul = a.product };
  inverse = a.inverse;
}
