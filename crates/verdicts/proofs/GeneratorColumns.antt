-- The generator columns of a run as lists of codes.
use Rattle.std.proofs.Common.{◌≡◌, ℕ, zero, suc, ◌+◌, ◌-◌, ◌*◌, ◌/◌, ◌%◌, ◌<◌, ◌≤◌, true, eqb, ltb, ◌≢◌, List, length, get_or, None, Option, sym, refl, ap, ◌∙◌, subst, ap₂, mul_comm, arith}
use lib.Arith.{digits_div, digits_mod, digits_lt}
use Rattle.std.proofs.lemmas.Bool.{cond-true, cond-false, eq-eqb, lt-ltb, le-ltb}
use Rattle.rings.specs.Meaning.{Meaning, Laws, Inverse}
use Rattle.rings.specs.Arithmetic.{Arithmetic, reading}
use Rattle.recurrences.specs.declared.phase.Phase.{Phase}
use Rattle.recurrences.specs.declared.phase.Phase.TheVariants.{Short, Running, Settled}
use Rattle.recurrences.specs.Codes.{all_codes}
use Rattle.recurrences.specs.Degrees.{greatest, least, total}
use Rattle.recurrences.specs.Phases.{phase}
use Rattle.recurrences.specs.Reading.{matrices_in, column_in}
use Rattle.recurrences.specs.Step.{rows}
use Rattle.recurrences.proofs.Listing.{length_listed, get_or_listed}
use Rattle.recurrences.proofs.PhaseFacts.{running_says, settled_says}
use Rattle.recurrences.proofs.Totals.{greatest_is, greatest_total}
use Rattle.recurrences.proofs.MidstepTheorems.{midsteps_are_bounded, generator_degrees_are_at_most_count}
use Rattle.runs.specs.Refusals.{numbered_refusal, column_refusal}
use Rattle.runs.specs.Standings.{count_of, columns_after, column_after, phase_after, shown}
use Rattle.runs.proofs.CodesAt.{all_codes_from}

module _ (a : Arithmetic) (N : ℕ) (taken : List ℕ) (j : ℕ) where
  pub column_length : length (column_after a N taken j) ≡ N * ((columns_after a N taken).gen_degree j + 1)
  column_length = length_listed (N * ((columns_after a N taken).gen_degree j + 1)) _

  -- entry c of coefficient k stands in the list
  pub column_read : (k c : ℕ) → k ≤ (columns_after a N taken).gen_degree j → c < N → column_in N (column_after a N taken j) k c ≡ (columns_after a N taken).gen j k c
  column_read k c kd cN =
      cond-true (ltb c N) (get_or (column_after a N taken j) (k * N + c) 0) 0 (lt-ltb c N cN)
      ∙ get_or_listed (N * ((columns_after a N taken).gen_degree j + 1)) _ (k * N + c) 0 within
      ∙ ap₂ (λ (x y : ℕ). (columns_after a N taken).gen j x y) (digits_div k cN) (digits_mod k cN)
    where
      within : k * N + c < N * ((columns_after a N taken).gen_degree j + 1)
      within =
          let below : k < (columns_after a N taken).gen_degree j + 1 = omega arith in
          omega (arith, digits_lt below cN, mul_comm N ((columns_after a N taken).gen_degree j + 1))

module _ (q : ℕ) (m : Meaning) (inv : ℕ → Option ℕ) (laws : Laws q m) (inverts : (x : ℕ) → x < q → Inverse q m x (inv x)) (N : ℕ) (taken : List ℕ) (j : ℕ) where
  entry_is_code : (k c : ℕ) → (columns_after (reading q m inv) N taken).gen j k c < q
  unfolding rows
  entry_is_code k c = (midsteps_are_bounded q m inv laws inverts N N (matrices_in N N taken) (count_of N taken) 0 (omega arith)).gen_codes j k c

  pub column_is_of_codes : all_codes q (column_after (reading q m inv) N taken j) ≡ true
  column_is_of_codes = all_codes_from q (column_after (reading q m inv) N taken j) (λ i h.
      subst (λ (x : ℕ). x < q) (sym (get_or_listed (N * ((columns_after (reading q m inv) N taken).gen_degree j + 1)) _ i 0 (omega (arith, column_length (reading q m inv) N taken j)))) (entry_is_code (i / N) (i % N)))

  pub degree_within_count : j < N → (columns_after (reading q m inv) N taken).gen_degree j ≤ count_of N taken
  degree_within_count h = generator_degrees_are_at_most_count q m inv laws inverts N N (matrices_in N N taken) (count_of N taken) j h

-- a run that is not short gives a column to a place of just its length
pub column_given : (N : ℕ) (p : Phase) (j : ℕ) (degree : ℕ → ℕ) (long : ℕ) → p ≢ Short → j < N → long ≡ N * (degree j + 1) → column_refusal N p (j + 1) degree long ≡ None
column_given N p j degree long told jN e = by p told
  where
    numbered : numbered_refusal N (j + 1) degree long ≡ None
    numbered =
        cond-false (ltb (j + 1) 1) _ _ (le-ltb (j + 1) 1 (omega arith)) ∙ cond-false (ltb N (j + 1)) _ _ (le-ltb N (j + 1) (omega arith))
        ∙ cond-true (eqb long (N * (degree (j + 1 - 1) + 1))) _ _ (eq-eqb long _ (e ∙ ap (λ (x : ℕ). N * (degree x + 1)) (let same : j ≡ j + 1 - 1 = omega arith in same)))

    by : (p : Phase) → p ≢ Short → column_refusal N p (j + 1) degree long ≡ None
    by Short told = absurd (told refl)
    by Running told = numbered
    by Settled told = numbered

-- a run that is not short totals no more than the bound
not_short_says : (bound σ μ β : ℕ) → phase bound σ μ β ≢ Short → σ ≤ bound
not_short_says bound σ μ β h = by (phase bound σ μ β) refl
  where
    by : (p : Phase) → phase bound σ μ β ≡ p → σ ≤ bound
    by Short e = absurd (h e)
    by Running e = (running_says bound σ μ β e).0
    by Settled e = (settled_says bound σ μ β e).0

module _ (a : Arithmetic) (N bound : ℕ) (taken : List ℕ) (given : phase_after a N bound taken ≢ Short) where
  pub total_within_bound : total N (columns_after a N taken).gen_degree ≤ bound
  total_within_bound =
      let d = (columns_after a N taken).gen_degree in
      not_short_says bound (total N d) (greatest N d) (least N (columns_after a N taken).aux_degree) given

  pub degree_within_bound : (j : ℕ) → j < N → (columns_after a N taken).gen_degree j ≤ bound
  degree_within_bound j h =
      let d = (columns_after a N taken).gen_degree in
      omega (arith, greatest_is N d j h, greatest_total N d, total_within_bound)

-- the degrees that a run shows, by their numbers
pub shown_degree : (N : ℕ) (d : ℕ → ℕ) (j : ℕ) → N ≤ 4 → j < N → get_or (shown N d) j 0 ≡ d j
shown_degree N d zero small h = cond-true (ltb 0 N) (d 0) 0 (lt-ltb 0 N h)
shown_degree N d (suc zero) small h = cond-true (ltb 1 N) (d 1) 0 (lt-ltb 1 N h)
shown_degree N d (suc (suc zero)) small h = cond-true (ltb 2 N) (d 2) 0 (lt-ltb 2 N h)
shown_degree N d (suc (suc (suc zero))) small h = cond-true (ltb 3 N) (d 3) 0 (lt-ltb 3 N h)
shown_degree N d (suc (suc (suc (suc j)))) small h = absurd (omega arith)
