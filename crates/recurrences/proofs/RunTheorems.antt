-- The theorems on runs over every field, from those over a field of codes.
use Rattle.std.proofs.Common.{◌≡◌, ℕ, suc, ◌+◌, ◌*◌, ◌<◌, ◌≤◌, ◌⊎◌, sym, ap, subst, inl, inr, arith}
use Rattle.recurrences.specs.Degrees.{total, least, greatest}
use Rattle.recurrences.specs.Theorems.{DegreesAddUp, ColumnsGenerate, Beyond, CountsAreBounded, ShortExactlyWhenBeyond, DegreesAreLeast, SettledIsFinal}
use Rattle.recurrences.specs.Operations.{numbers}
use Rattle.recurrences.specs.Run.{run}
use Rattle.recurrences.specs.Discrepancy.{Column, Matrices}
use Rattle.recurrences.specs.Columns.{Columns}
use Rattle.recurrences.specs.Generators.{Generates}
use Rattle.recurrences.specs.Pairing.{Pairing}
use Rattle.recurrences.proofs.OnNumbers.{field, as_codes, run_is, to_codes, to_numbers}
use Rattle.recurrences.proofs.CodesField.{reading}
use Rattle.recurrences.proofs.PhaseFacts.{running_says, settled_says}
use Rattle.recurrences.proofs.RunInvariant.{run_holds}
use Rattle.recurrences.proofs.PairingOff.{pairs_off, FieldGenerator, total_least}
use Rattle.recurrences.proofs.Consequences.{settled_final, at_most_greatest, at_most_twice, Wants, columns_generate}
use Rattle.recurrences.proofs.FieldLaws.{Field, ring_of, field_of}

pub degrees_add_up : DegreesAddUp
degrees_add_up q m inv L V R C M n =
    subst (λ (s : Columns (numbers q m)). total C s.gen_degree + total R s.aux_degree ≡ R * suc n) (run_is q m inv L V R C M n)
    (run_holds (field q m inv L V R C) R C (as_codes q m inv L V R C M) n).sums

pub columns_generate_numbers : ColumnsGenerate
columns_generate_numbers q m inv L V R C M n =
    subst (λ (s : Columns (numbers q m)). Generates (numbers q m) R C M n s.gen s.gen_degree) (run_is q m inv L V R C M n)
    (to_numbers q m inv L V R C M n _ _ (columns_generate (field q m inv L V R C) R C (as_codes q m inv L V R C M) n))

pub degrees_are_least : DegreesAreLeast
degrees_are_least q m inv L V R C M n h d g =
    subst (λ (s : Columns (numbers q m)). (π : Pairing C) × ((k : ℕ) → k < C → s.gen_degree (π.to k) ≤ d k)) (run_is q m inv L V R C M n)
    (let (h', g') = to_codes q m inv L V R C M n h d g in
    let (π, le, _) = pairs_off F R C N n (run (field_of F) R C N n) (run_holds F R C N n) h' d g' in
    (π, le))
  where
    F : Field
    F = field q m inv L V R C

    N : Matrices (ring_of F)
    N = as_codes q m inv L V R C M

pub short_exactly_when_beyond : ShortExactlyWhenBeyond
short_exactly_when_beyond q m inv L V R C M n bound = (
  (λ short h d g.
      let (h', g') = to_codes q m inv L V R C M n h d g in
      let e = ap (λ (s : Columns (numbers q m)). total C s.gen_degree) (run_is q m inv L V R C M n) in
      let x = total_least F R C N n (run (field_of F) R C N n) (run_holds F R C N n) h' d g' in
      omega arith),
  λ beyond. beyond _ _ (columns_generate_numbers q m inv L V R C M n),
)
  where
    F : Field
    F = field q m inv L V R C

    N : Matrices (ring_of F)
    N = as_codes q m inv L V R C M

pub counts_are_bounded : CountsAreBounded
counts_are_bounded q m inv L V R C M n bound R_pos taken = (
  (let x = at_most_twice F R C N R_pos bound n wants in omega arith),
  subst (λ (s : Columns (numbers q m)). n ≤ bound + greatest C s.gen_degree) (run_is q m inv L V R C M n) (at_most_greatest F R C N R_pos bound n wants),
)
  where
    F : Field
    F = field q m inv L V R C

    N : Matrices (ring_of F)
    N = as_codes q m inv L V R C M

    wants : (i : ℕ) → i < n → Wants F R C N bound (run (field_of F) R C N i)
    wants i h =
        subst (λ (s : Columns (numbers q m)). (total C s.gen_degree ≤ bound) × (least R s.aux_degree + total C s.gen_degree ≤ bound + greatest C s.gen_degree))
        (sym (run_is q m inv L V R C M i)) (running_says bound _ _ _ (taken i h))

pub settled_is_final : SettledIsFinal
settled_is_final q m inv L V R C M n bound R_pos settled longer k nk same =
    subst (λ (s : Columns (numbers q m)). Generates (numbers q m) R C longer k s.gen s.gen_degree ⊎ Beyond q m R C longer k bound) (run_is q m inv L V R C M n)
    (both (settled_final F R C N R_pos bound n k nk far (as_codes q m inv L V R C longer) (λ l r c ln rR cC. ap (reading q m inv L V).φ (sym (same l r c ln rR cC)))))
  where
    F : Field
    F = field q m inv L V R C

    N : Matrices (ring_of F)
    N = as_codes q m inv L V R C M

    s : Columns (ring_of F)
    s = run (field_of F) R C N n

    far : bound + greatest C s.gen_degree < least R s.aux_degree + total C s.gen_degree
    far =
        subst (λ (s : Columns (numbers q m)). bound + greatest C s.gen_degree < least R s.aux_degree + total C s.gen_degree)
        (sym (run_is q m inv L V R C M n)) (settled_says bound _ _ _ settled).1

    both : FieldGenerator F R C (as_codes q m inv L V R C longer) k s.gen s.gen_degree
        ⊎ ((h : ℕ → Column (ring_of F)) (d : ℕ → ℕ) → FieldGenerator F R C (as_codes q m inv L V R C longer) k h d → bound < total C d)
        → Generates (numbers q m) R C longer k (λ j i c. (s.gen j i c).0) s.gen_degree ⊎ Beyond q m R C longer k bound
    both (inl g) = inl (to_numbers q m inv L V R C longer k s.gen s.gen_degree g)
    both (inr f) = inr (λ h d g. let (h', g') = to_codes q m inv L V R C longer k h d g in f h' d g')
