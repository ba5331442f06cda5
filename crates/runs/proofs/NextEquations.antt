-- The equations of a place, as the tables give them.
use Rattle.std.proofs.Common.{◌≡◌, ℕ, suc, ◌+◌, ◌-◌, ltb, List, get_or, replicate, sym, ap, ◌∙◌, add-one}
use Rattle.std.proofs.lemmas.Bool.{cond-true, lt-ltb}
use Rattle.rings.specs.Arithmetic.{Arithmetic}
use Rattle.recurrences.specs.Sums.{sum}
use Rattle.recurrences.proofs.Summing.{sum_same}
use Rattle.runs.specs.Operations.{operations_of}
use Rattle.runs.specs.Views.{no_vector, zero_vector, column_of}
use Rattle.runs.specs.declared.equation.Equation.{Equation}
use Rattle.runs.specs.declared.tables.Column.{Column}

-- four equations of zeros
abbrev pub no_equations_yet : List Equation
no_equations_yet = replicate 4 (record { vector = zero_vector; values = zero_vector })

-- what coefficient k + 1 gives at place l
pub term_behind : (a : Arithmetic) (N : ℕ) (M : ℕ → ℕ → ℕ → ℕ) (x : Column) (l r k : ℕ)
    → sum (operations_of a).ring N (λ c. a.product (M (l - (k + 1)) r c) (get_or (get_or x.coefficients (k + 1) no_vector).entries c 0))
    ≡ sum (operations_of a).ring N (λ c. a.product (M (l - suc k) r c) (column_of N x (suc k) c))
term_behind a N M x l r k =
    ap (λ (i : ℕ). sum (operations_of a).ring N (λ c. a.product (M (l - i) r c) (get_or (get_or x.coefficients i no_vector).entries c 0))) (add-one k)
    ∙ sum_same (operations_of a).ring N _ _ (λ c cN. ap (a.product (M (l - suc k) r c)) (sym (cond-true (ltb c N) _ 0 (lt-ltb c N cN))))
