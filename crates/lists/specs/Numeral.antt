-- The number that a field holds.
use Rattle.std.specs.Prelude.{ℕ, ◌+◌, ◌-◌, ◌*◌, Bool, true, false, cond, not, ◌&&◌, List, [], ◌∷◌, Ok, Err, Result, ◌==◌, nat_lt}
use Rattle.std.specs.Str.{all_ascii_digits}
use Rattle.lists.specs.Limits.{numbers_end}
use Rattle.lists.specs.declared.fault.NumberFault.{NumberFault}
use Rattle.lists.specs.declared.fault.NumberFault.TheVariants.{NotNumber}

-- the value of digits, behind those whose value is n
abbrev pub value_on : ℕ → List ℕ → ℕ
value_on n [] = n
value_on n (c ∷ cs) = value_on (10 * n + (c - 48)) cs

-- digits of a value that is not too great, behind those whose value is n
abbrev pub numeral_on : ℕ → List ℕ → Result ℕ NumberFault
numeral_on n cs = cond (all_ascii_digits cs && nat_lt (value_on n cs) numbers_end) (Ok (value_on n cs)) (Err NotNumber)

-- at least one byte, and no needless 0 in front
abbrev pub shortest : List ℕ → Bool
shortest [] = false
shortest (c ∷ []) = true
shortest (c ∷ d ∷ cs) = not (c == 48)

-- the number of a field: decimal, below the end of numbers, without needless zeros in front
abbrev pub numeral : List ℕ → Result ℕ NumberFault
numeral field = cond (shortest field) (numeral_on 0 field) (Err NotNumber)
