-- The run: the columns after the first n matrices of a list.
use Rattle.std.specs.Prelude.{ℕ, zero, suc}
use Rattle.recurrences.specs.Operations.{Operations}
use Rattle.recurrences.specs.Fields.{FieldOperations}
use Rattle.recurrences.specs.Discrepancy.{Matrices, Column, discrepancy}
use Rattle.recurrences.specs.Columns.{Columns, constant, unit}
use Rattle.recurrences.specs.Step.{step}

-- before any matrix: unit columns of degree 0, and zero columns of degree 1
unfoldable pub start : (O : Operations) → Columns O
start O = record { gen = λ j. constant O (unit O j); gen_degree = λ _. 0; aux = λ _ _ _. O.𝟘; aux_degree = λ _. 1 }

-- entry i of the discrepancy of the column f of degree d at place n
abbrev pub entry_at : (O : Operations) → ℕ → Matrices O → ℕ → ℕ → ℕ → Column O → O.K
entry_at O C M n i d f = discrepancy O C M f d n i

-- the first n matrices of M taken, of R rows and C columns
unfoldable pub run : (O : FieldOperations) → ℕ → ℕ → Matrices O.ring → ℕ → Columns O.ring
run O R C M zero = start O.ring
run O R C M (suc n) = step O C (entry_at O.ring C M n) R (run O R C M n)
