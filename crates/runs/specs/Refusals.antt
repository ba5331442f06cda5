-- The checks of each call in order: the first condition that holds refuses.
use Rattle.std.specs.Prelude.{ℕ, ◌+◌, ◌-◌, ◌*◌, cond, List, length, Some, None, Option, ◌==◌, nat_lt}
use Rattle.recurrences.specs.declared.phase.Phase.{Phase}
use Rattle.recurrences.specs.declared.phase.Phase.TheVariants.{Short, Running, Settled}
use Rattle.recurrences.specs.declared.refusal.Refusal.{Refusal}
use Rattle.recurrences.specs.declared.refusal.Refusal.TheVariants.{Size, Bound, NotRunning, Length, Code, IsShort, ColumnNumber, NotSettled, Count}
use Rattle.recurrences.specs.Codes.{all_codes}
use Rattle.recurrences.specs.Limits.{greatest_size, greatest_bound, greatest_continuation}

abbrev pub start_refusal : ℕ → ℕ → Option Refusal
start_refusal N bound =
    cond (nat_lt N 1) (Some Size) (cond (nat_lt greatest_size N) (Some Size)
    (cond (nat_lt greatest_bound bound) (Some Bound) None))

-- of a matrix over a field of size q
abbrev pub matrix_refusal : ℕ → ℕ → List ℕ → Option Refusal
matrix_refusal q N matrix = cond (length matrix == N * N) (cond (all_codes q matrix) None (Some Code)) (Some Length)

abbrev pub offer_refusal : ℕ → ℕ → Phase → List ℕ → Option Refusal
offer_refusal q N Short matrix = Some NotRunning
offer_refusal q N Running matrix = matrix_refusal q N matrix
offer_refusal q N Settled matrix = Some NotRunning

-- of a column number j, counted from 1, and a place of some length; `degree` counts the columns from 0
abbrev pub numbered_refusal : ℕ → ℕ → (ℕ → ℕ) → ℕ → Option Refusal
numbered_refusal N j degree length =
    cond (nat_lt j 1) (Some ColumnNumber) (cond (nat_lt N j) (Some ColumnNumber)
    (cond (length == N * (degree (j - 1) + 1)) None (Some Length)))

abbrev pub column_refusal : ℕ → Phase → ℕ → (ℕ → ℕ) → ℕ → Option Refusal
column_refusal N Short j degree length = Some IsShort
column_refusal N Running j degree length = numbered_refusal N j degree length
column_refusal N Settled j degree length = numbered_refusal N j degree length

abbrev pub counted_refusal : ℕ → ℕ → ℕ → Option Refusal
counted_refusal N K length =
    cond (nat_lt K 1) (Some Count) (cond (nat_lt greatest_continuation K) (Some Count)
    (cond (length == K * (N * N)) None (Some Length)))

abbrev pub continuation_refusal : ℕ → Phase → ℕ → ℕ → Option Refusal
continuation_refusal N Short K length = Some NotSettled
continuation_refusal N Running K length = Some NotSettled
continuation_refusal N Settled K length = counted_refusal N K length
