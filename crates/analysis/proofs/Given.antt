-- Under which verdicts columns are given.
use Rattle.std.proofs.Common.{◌≡◌, ℕ, ◌-◌, ◌*◌, ◌^◌, ◌<◌, ◌≤◌, true, false, ◌≢◌, List, length, Some, None, Option, sym, refl, ap, ◌∙◌, subst, div-le_self, arith}
use mathlib.Core.Bool.{false≢true}
use Rattle.rings.specs.Arithmetic.{Arithmetic}
use Rattle.recurrences.specs.declared.phase.Phase.{Phase}
use Rattle.recurrences.specs.declared.phase.Phase.TheVariants.{Short, Running, Settled}
use Rattle.recurrences.proofs.FirstFailure.{First, first_tells}
use Rattle.runs.specs.Standings.{count_of}
use Rattle.verdicts.specs.Misfits.{first_misfit, misfits}
use Rattle.verdicts.specs.Searches.{some_below}
use Rattle.verdicts.specs.declared.verdict.Verdict.{Verdict}
use Rattle.verdicts.specs.declared.verdict.Verdict.TheVariants.{Unsettled, Generated, Misfit, Insufficient}
use Rattle.verdicts.specs.Verdicts.{verdict_by}
use Rattle.analysis.specs.Answer.{ColumnsGiven}

not_short : (p : Phase) → elim p [ Short ↦ true | Running ↦ false | Settled ↦ false ] ≡ false → p ≢ Short
not_short p e z = false≢true (sym e ∙ ap (λ (x : Phase). elim x [ Short ↦ true | Running ↦ false | Settled ↦ false ]) z)

pub given_not_short : (p : Phase) (v : Verdict) → ColumnsGiven p v → v ≢ Insufficient → p ≢ Short
given_not_short p Unsettled h told = h
given_not_short p Generated h told = h
given_not_short p (Misfit l) h told = h.0
given_not_short p Insufficient h told = absurd (told refl)

pub given_place : (p : Phase) (v : Verdict) → ColumnsGiven p v → (l : ℕ) → v ≡ Misfit l → l < 2 ^ 32
given_place p v h l e = (subst (ColumnsGiven p) e h).1

module _ (a : Arithmetic) (N : ℕ) (taken list : List ℕ) (few : length list ≤ 16384) (within : count_of N taken ≤ count_of N list) where
  by_verdict : (p : Phase) (o : Option ℕ) → First (λ l. some_below N (λ j. misfits a N taken list j l)) (count_of N taken) (count_of N list - count_of N taken) o → ColumnsGiven p (verdict_by p o)
  by_verdict Short o t = tt
  by_verdict Running o t = not_short Running refl
  by_verdict Settled None t = not_short Settled refl
  by_verdict Settled (Some l) t = (not_short Settled refl, omega (arith, t.1, within, few, div-le_self (length list) (N * N)))

  pub columns_given : (p : Phase) → ColumnsGiven p (verdict_by p (first_misfit a N taken list))
  columns_given p = by_verdict p (first_misfit a N taken list) (first_tells _ (count_of N list - count_of N taken) (count_of N taken))
