-- The phases of a run, and a word for each.
use Rattle.std.specs.Prelude.{ℕ, ◌+◌, cond, List, codes, nat_lt}
use Rattle.recurrences.specs.declared.phase.Phase.{Phase}
use Rattle.recurrences.specs.declared.phase.Phase.TheVariants.{Short, Running, Settled}
use Rattle.recurrences.specs.Operations.{Operations}
use Rattle.recurrences.specs.Columns.{Columns}
use Rattle.recurrences.specs.Degrees.{total, least, greatest}

-- σ is the total and μ the greatest of the generator degrees, β the least of the auxiliary degrees.
-- Short: σ exceeds the bound. Settled: it does not, and β + σ exceeds the bound + μ. Running: neither.
abbrev pub phase : ℕ → ℕ → ℕ → ℕ → Phase
phase bound σ μ β = cond (nat_lt bound σ) Short (cond (nat_lt (bound + μ) (β + σ)) Settled Running)

-- the phase at a bound of columns for matrices of R rows and C columns
abbrev pub phase_at : (O : Operations) → ℕ → ℕ → ℕ → Columns O → Phase
phase_at O R C bound s = phase bound (total C s.gen_degree) (greatest C s.gen_degree) (least R s.aux_degree)

-- the word for a phase
abbrev pub phase_word : Phase → List ℕ
phase_word Short = codes "short"
phase_word Running = codes "running"
phase_word Settled = codes "settled"
