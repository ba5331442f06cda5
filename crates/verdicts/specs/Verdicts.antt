-- The verdict on a list, and its letter.
use Rattle.std.specs.Prelude.{ℕ, List, Some, None, Option}
use Rattle.rings.specs.Arithmetic.{Arithmetic}
use Rattle.recurrences.specs.declared.phase.Phase.{Phase}
use Rattle.recurrences.specs.declared.phase.Phase.TheVariants.{Short, Running, Settled}
use Rattle.runs.specs.Standings.{phase_after}
use Rattle.verdicts.specs.declared.verdict.Verdict.{Verdict}
use Rattle.verdicts.specs.declared.verdict.Verdict.TheVariants.{Unsettled, Generated, Misfit, Insufficient}
use Rattle.verdicts.specs.Taking.{taken_of}
use Rattle.verdicts.specs.Misfits.{first_misfit}

-- by the phase of the run, and where its columns do not fit
abbrev pub verdict_by : Phase → Option ℕ → Verdict
verdict_by Short misfit = Insufficient
verdict_by Running misfit = Unsettled
verdict_by Settled None = Generated
verdict_by Settled (Some l) = Misfit l

abbrev pub verdict_on : Arithmetic → ℕ → ℕ → List ℕ → Verdict
verdict_on a N bound list = verdict_by (phase_after a N bound (taken_of a N bound list)) (first_misfit a N (taken_of a N bound list) list)

-- R, G, X or I
abbrev pub letter_of : Verdict → ℕ
letter_of Unsettled = 82
letter_of Generated = 71
letter_of (Misfit l) = 88
letter_of Insufficient = 73
