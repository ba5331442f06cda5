-- The remainders on division by q.
use Rattle.std.specs.Prelude.{ℕ, ◌+◌, ◌-◌, ◌*◌, ◌%◌}
use Rattle.rings.specs.Meaning.{Meaning}

abbrev pub modular : ℕ → Meaning
modular q = record { sum = λ a b. (a + b) % q; opposite = λ a. (q - a) % q; product = λ a b. (a * b) % q }
