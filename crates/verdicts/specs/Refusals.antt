-- The checks of each call in order: the first condition that holds refuses.
use Rattle.std.specs.Prelude.{ℕ, ◌*◌, ◌%◌, cond, List, length, Some, None, Option, ◌==◌, nat_lt}
use Rattle.recurrences.specs.declared.phase.Phase.{Phase}
use Rattle.recurrences.specs.declared.phase.Phase.TheVariants.{Short, Running, Settled}
use Rattle.recurrences.specs.declared.refusal.Refusal.{Refusal}
use Rattle.recurrences.specs.declared.refusal.Refusal.TheVariants.{Length, Code, IsShort, ColumnNumber}
use Rattle.recurrences.specs.Codes.{all_codes}
use Rattle.runs.specs.Refusals.{start_refusal}

-- of a list: those of the start, then whether the list is of whole matrices, and of codes of a field of size q
abbrev pub list_refusal : ℕ → ℕ → ℕ → List ℕ → Option Refusal
list_refusal q N bound list =
    elim (start_refusal N bound) [ Some e ↦ Some e | None ↦ cond (length list % (N * N) == 0) (cond (all_codes q list) None (Some Code)) (Some Length) ]

-- of a generator column, counted from 0, of a run in a phase
abbrev pub generator_refusal : ℕ → Phase → ℕ → Option Refusal
generator_refusal N Short j = Some IsShort
generator_refusal N Running j = cond (nat_lt j N) None (Some ColumnNumber)
generator_refusal N Settled j = cond (nat_lt j N) None (Some ColumnNumber)
