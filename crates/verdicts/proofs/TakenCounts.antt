-- How many matrices of a list are taken, as a loop finds it, and what the count tells.
use Rattle.std.proofs.Common.{◌≡◌, ℕ, zero, suc, ◌+◌, ◌-◌, ◌*◌, ◌<◌, ◌≤◌, true, false, eqb, List, ◌++◌, length, take, Some, None, drop, sym, refl, ap, ◌∙◌, ap₂, true≢false, add-mul, one-mul, arith, take-add}
use mathlib.Core.Bool.{false≢true}
use Rattle.std.proofs.lemmas.Bool.{cond-true, eq-eqb}
use Rattle.rings.specs.Arithmetic.{Arithmetic}
use Rattle.recurrences.specs.Codes.{all_codes}
use Rattle.recurrences.specs.declared.phase.Phase.{Phase}
use Rattle.recurrences.specs.declared.phase.Phase.TheVariants.{Short, Running, Settled}
use Rattle.recurrences.specs.declared.refusal.Refusal.{Refusal}
use Rattle.recurrences.specs.declared.refusal.Refusal.TheVariants.{NotRunning}
use Rattle.runs.specs.Ran.{is_running}
use Rattle.runs.specs.Refusals.{offer_refusal}
use Rattle.runs.specs.Standings.{phase_after}
use Rattle.verdicts.specs.Taking.{first_matrices, taken_from}
use Rattle.verdicts.proofs.AcceptedLists.{some_not_none}

-- a matrix of codes is taken where the run is running
module _ (q N : ℕ) (matrix : List ℕ) where
  pub taken_running : (p : Phase) → offer_refusal q N p matrix ≡ None → is_running p ≡ true
  taken_running Short h = absurd (some_not_none NotRunning h)
  taken_running Running h = refl
  taken_running Settled h = absurd (some_not_none NotRunning h)

  pub refused_not_running : length matrix ≡ N * N → all_codes q matrix ≡ true → (p : Phase) (e : Refusal) → offer_refusal q N p matrix ≡ Some e → is_running p ≡ false
  refused_not_running long codes Short e h = refl
  refused_not_running long codes Running e h =
      absurd (some_not_none e (sym h ∙ cond-true (eqb (length matrix) (N * N)) _ _ (eq-eqb (length matrix) (N * N) long) ∙ cond-true (all_codes q matrix) _ _ codes))
  refused_not_running long codes Settled e h = refl

module _ (a : Arithmetic) (N bound : ℕ) (list : List ℕ) where
  abbrev phase_at_count : ℕ → Phase
  phase_at_count n = phase_after a N bound (first_matrices a N bound list n)

  abbrev next_by : Phase → ℕ → ℕ → ℕ
  next_by p n more = elim p [ Short ↦ n | Running ↦ taken_from a N bound list (suc n) more | Settled ↦ n ]

  one_more : (n count : ℕ) → n < count → taken_from a N bound list n (count - n) ≡ next_by (phase_at_count n) n (count - n - 1)
  unfolding taken_from
  one_more n count h = ap (taken_from a N bound list n) (let c : count - n ≡ suc (count - n - 1) = omega arith in c)

  -- a matrix is taken
  pub takes_more : (n count : ℕ) → n < count → is_running (phase_at_count n) ≡ true → taken_from a N bound list n (count - n) ≡ taken_from a N bound list (n + 1) (count - (n + 1))
  takes_more n count h e =
      one_more n count h ∙ by (phase_at_count n) e
      ∙ ap₂ (taken_from a N bound list) (let a : suc n ≡ n + 1 = omega arith in a) (let b : count - n - 1 ≡ count - (n + 1) = omega arith in b)
    where
      by : (p : Phase) → is_running p ≡ true → next_by p n (count - n - 1) ≡ taken_from a N bound list (suc n) (count - n - 1)
      by Short e = absurd (false≢true e)
      by Running e = refl
      by Settled e = absurd (false≢true e)

  -- a matrix is not taken
  pub takes_no_more : (n count : ℕ) → n < count → is_running (phase_at_count n) ≡ false → taken_from a N bound list n (count - n) ≡ n
  takes_no_more n count h e = one_more n count h ∙ by (phase_at_count n) e
    where
      by : (p : Phase) → is_running p ≡ false → next_by p n (count - n - 1) ≡ n
      by Short e = refl
      by Running e = absurd (true≢false e)
      by Settled e = refl

  -- there is none left
  pub takes_all : (n count : ℕ) → count ≤ n → taken_from a N bound list n (count - n) ≡ n
  unfolding taken_from
  takes_all n count h = ap (taken_from a N bound list n) (let c : count - n ≡ 0 = omega arith in c)

  pub first_more : (n : ℕ) → first_matrices a N bound list n ++ take (N * N) (drop (n * (N * N)) list) ≡ first_matrices a N bound list (n + 1)
  first_more n = sym (take-add (n * (N * N)) (N * N) list) ∙ ap (λ (k : ℕ). take k list) (let e : n * (N * N) + N * N ≡ (n + 1) * (N * N) = omega (arith, add-mul n 1 (N * N), one-mul (N * N)) in e)

  -- a run that is still running has taken all
  pub running_took_all : (more n : ℕ) → is_running (phase_at_count (taken_from a N bound list n more)) ≡ true → taken_from a N bound list n more ≡ n + more
  unfolding taken_from
  running_took_all zero n e = omega arith
  running_took_all (suc more) n e = by (phase_at_count n) refl e (λ h. running_took_all more (suc n) h)
    where
      by : (p : Phase) → phase_at_count n ≡ p → is_running (phase_at_count (next_by p n more)) ≡ true
          → (is_running (phase_at_count (taken_from a N bound list (suc n) more)) ≡ true → taken_from a N bound list (suc n) more ≡ suc n + more) → next_by p n more ≡ n + suc more
      by Short s e ih = absurd (false≢true (sym (ap is_running s) ∙ e))
      by Running s e ih = ih e ∙ (let same : suc n + more ≡ n + suc more = omega arith in same)
      by Settled s e ih = absurd (false≢true (sym (ap is_running s) ∙ e))

  -- no more are taken than there are
  pub takes_at_most : (more n : ℕ) → taken_from a N bound list n more ≤ n + more
  unfolding taken_from
  takes_at_most zero n = omega arith
  takes_at_most (suc more) n = by (phase_at_count n) (takes_at_most more (suc n))
    where
      by : (p : Phase) → taken_from a N bound list (suc n) more ≤ suc n + more → next_by p n more ≤ n + suc more
      by Short ih = omega arith
      by Running ih = omega arith
      by Settled ih = omega arith
