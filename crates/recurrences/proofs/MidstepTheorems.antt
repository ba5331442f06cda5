-- The theorems on the midst of a step, over every field.
use Rattle.std.proofs.Common.{◌≡◌, ℕ, ◌<◌, ◌≤◌, ◌≢◌, Some, None, Option, ap, ◌∙◌, subst, ap₂}
use Rattle.rings.specs.Meaning.{Meaning, Laws, Inverse, code}
use Rattle.recurrences.specs.Theorems.{ListOfMatrices}
use Rattle.recurrences.specs.Midsteps.{before_row, Bounded, divisor, MidstepsAreBounded, DivisorsAreNotZero, GeneratorDegreesAreAtMostCount, RunRestsOnMatricesTaken}
use Rattle.recurrences.specs.Pivot.{Candidate, pivot, Midstep}
use Rattle.recurrences.specs.Operations.{Operations, numbers}
use Rattle.recurrences.specs.Run.{entry_at, run}
use Rattle.recurrences.specs.Discrepancy.{Matrices, Column}
use Rattle.recurrences.specs.Step.{at_first, rows}
use Rattle.recurrences.specs.Columns.{Columns}
use Rattle.recurrences.specs.Fields.{field_numbers}
use Rattle.recurrences.proofs.OnNumbers.{field, as_codes, run_is, entries_read}
use Rattle.recurrences.proofs.Invariant.{midstep}
use Rattle.recurrences.proofs.CodesField.{value, same_code}
use Rattle.recurrences.proofs.Dependence.{run_same}
use Rattle.recurrences.proofs.RunInvariant.{run_holds}
use Rattle.recurrences.proofs.MidstepFacts.{mid_divisor, mid_bounded}
use Rattle.recurrences.proofs.Homomorphisms.{candidate_from, pivot_map, column_map, midstep_map, discrepancy_map, rows_map}
use Rattle.recurrences.proofs.FieldLaws.{ring_of, Field, field_of}

module _ (q : ℕ) (m : Meaning) (inv : ℕ → Option ℕ) (L : Laws q m) (V : (a : ℕ) → a < q → Inverse q m a (inv a)) (R C : ℕ) (M : ListOfMatrices) (n : ℕ) where
  abbrev O : Operations
  O = numbers q m

  abbrev F : Field
  F = field q m inv L V R C

  abbrev N : Matrices (ring_of F)
  N = as_codes q m inv L V R C M

  abbrev S : Columns (ring_of F)
  S = run (field_of F) R C N n

  abbrev coded : ℕ → ℕ → ℕ → ℕ
  coded l r c = code q (M l r c)

  abbrev entry : ℕ → ℕ → Column O → ℕ
  entry = entry_at O C coded n

  same : (i d : ℕ) (f : Column (ring_of F)) → (entry_at (ring_of F) C N n i d f).0 ≡ entry i d (column_map (ring_of F) O (value q m inv L V).map f)
  same i d f = discrepancy_map (ring_of F) O (value q m inv L V).map C N f d n i

  abbrev number_mid : ℕ → Midstep O
  number_mid i = midstep_map (ring_of F) O (value q m inv L V).map (midstep F R C N n S i)

  mid_is : (i : ℕ) → number_mid i ≡ before_row q m inv R C M n i
  mid_is i =
      rows_map (field_of F) (field_numbers q m inv) (value q m inv L V) C (entry_at (ring_of F) C N n) entry same i (at_first (ring_of F) C S)
      ∙ ap₂ (λ (e : ℕ → ℕ → Column O → ℕ) (s : Columns O). rows (field_numbers q m inv) C e i (at_first O C s)) (entries_read q m inv L V R C M n) (run_is q m inv L V R C M n)

  bounded : (i : ℕ) → i ≤ R → Bounded O (λ a. a < q) R C n (before_row q m inv R C M n i)
  bounded i h = subst (Bounded O (λ a. a < q) R C n) (mid_is i)
      (let b = mid_bounded F R C N n S (run_holds F R C N n) i h (λ x. x.0 < q) (λ x. x.1) in
      record {
        gen_codes = b.gen_codes;
        aux_codes = b.aux_codes;
        gen_ends = λ j k c jC o. ap (λ x. x.0) (b.gen_ends j k c jC o);
        aux_ends = λ j k c jR o. ap (λ x. x.0) (b.aux_ends j k c jR o);
        gen_width = λ j k c jC o. ap (λ x. x.0) (b.gen_width j k c jC o);
        aux_width = λ j k c jR o. ap (λ x. x.0) (b.aux_width j k c jR o);
        gen_degrees = b.gen_degrees;
        aux_degrees = b.aux_degrees;
      })

  divisor_same : (i : ℕ) (t : Midstep (ring_of F)) (o : Option ℕ)
      → (divisor (ring_of F) C (entry_at (ring_of F) C N n) t i o).0 ≡ divisor O C entry (midstep_map (ring_of F) O (value q m inv L V).map t) i o
  divisor_same i t None = same i _ _
  divisor_same i t (Some l) = same i _ _

  not_zero : (i j : ℕ) → i < R → j < C → Candidate O C entry (number_mid i) i j → divisor O C entry (number_mid i) i (pivot O C entry i (number_mid i)) ≢ 0
  not_zero i j iR jC found z =
      mid_divisor F R C N n S (run_holds F R C N n) i j iR jC (candidate_from (field_of F) (field_numbers q m inv) (value q m inv L V) C (entry_at (ring_of F) C N n) entry same (midstep F R C N n S i) i j found)
      (same_code q m inv L V _ _
      (divisor_same i (midstep F R C N n S i) (pivot (ring_of F) C (entry_at (ring_of F) C N n) i (midstep F R C N n S i))
      ∙ ap (divisor O C entry (number_mid i) i) (pivot_map (field_of F) (field_numbers q m inv) (value q m inv L V) C (entry_at (ring_of F) C N n) entry same i (midstep F R C N n S i))
      ∙ z))

  divides : (i j : ℕ) → i < R → j < C → Candidate O C (entry_at O C M n) (before_row q m inv R C M n i) i j
      → divisor O C (entry_at O C M n) (before_row q m inv R C M n i) i (pivot O C (entry_at O C M n) i (before_row q m inv R C M n i)) ≢ 0
  divides i j iR jC =
      subst (λ (t : Midstep O). Candidate O C (entry_at O C M n) t i j → divisor O C (entry_at O C M n) t i (pivot O C (entry_at O C M n) i t) ≢ 0) (mid_is i)
      (subst (λ (e : ℕ → ℕ → Column O → ℕ). Candidate O C e (number_mid i) i j → divisor O C e (number_mid i) i (pivot O C e i (number_mid i)) ≢ 0) (entries_read q m inv L V R C M n) (not_zero i j iR jC))

pub midsteps_are_bounded : MidstepsAreBounded
midsteps_are_bounded q m inv L V R C M n i h = bounded q m inv L V R C M n i h

pub divisors_are_not_zero : DivisorsAreNotZero
divisors_are_not_zero q m inv L V R C M n i j iR jC = divides q m inv L V R C M n i j iR jC

pub generator_degrees_are_at_most_count : GeneratorDegreesAreAtMostCount
generator_degrees_are_at_most_count q m inv L V R C M n j jC =
    subst (λ (s : Columns (numbers q m)). s.gen_degree j ≤ n) (run_is q m inv L V R C M n)
    ((run_holds (field q m inv L V R C) R C (as_codes q m inv L V R C M) n).gen_degrees j jC)

pub run_rests_on_matrices_taken : RunRestsOnMatricesTaken
run_rests_on_matrices_taken q m inv R C M N n same = run_same (field_numbers q m inv) R C M N n same
