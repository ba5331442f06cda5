-- What discrepancies and runs depend on, whatever the laws: the matrices taken, in their rows and columns, and the columns' entries.
use Rattle.std.proofs.Common.{◌≡◌, ℕ, zero, suc, ◌-◌, ◌<◌, ◌≤◌, min, Some, None, Option, sym, refl, ap, ◌∙◌, ap₂, arith}
use mathlib.Core.Path.{fun_ext}
use Rattle.recurrences.specs.Operations.{Operations}
use Rattle.recurrences.specs.Fields.{FieldOperations}
use Rattle.recurrences.specs.Discrepancy.{Matrices, Column, discrepancy}
use Rattle.recurrences.specs.Pivot.{Midstep, candidate, pivot}
use Rattle.recurrences.specs.Step.{reduced, by_auxiliary, moved, traded, copied, by_open, row_by, row, rows, at_first, shifted, step}
use Rattle.recurrences.specs.Run.{entry_at, run}
use Rattle.recurrences.proofs.Summing.{sum_same}

module _ (O : Operations) (C : ℕ) where
  pub discrepancy_cong : (M N : Matrices O) (f g : Column O) (d l r : ℕ)
      → ((m k c : ℕ) → m ≤ l → k ≤ d → c < C → O.mul (M m r c) (f k c) ≡ O.mul (N m r c) (g k c))
      → discrepancy O C M f d l r ≡ discrepancy O C N g d l r
  unfolding discrepancy
  discrepancy_cong M N f g d l r h =
      sum_same O (suc (min l d)) _ _ (λ k kl. sum_same O C _ _ (λ c cC. h (l - k) k c (omega arith) (omega arith) cC))

-- row i rests on the entries of row i alone
module _ (O : FieldOperations) (C : ℕ) (E : ℕ → ℕ → Column O.ring → O.ring.K) where
  row_by_alone : (i : ℕ) (t : Midstep O.ring) (o : Option ℕ) → row_by O C E i t o ≡ row_by O C (λ _. E i) i t o
  unfolding row_by by_auxiliary by_open copied traded moved reduced candidate
  row_by_alone i t None = refl
  row_by_alone i t (Some l) = refl

  row_alone : (i : ℕ) (t : Midstep O.ring) → row O C E i t ≡ row O C (λ _. E i) i t
  unfolding row pivot candidate
  row_alone i t = row_by_alone i t _

module _ (O : FieldOperations) (R C : ℕ) where
  pub rows_same : (E D : ℕ → ℕ → Column O.ring → O.ring.K) (t : Midstep O.ring) → ((i : ℕ) → i < R → E i ≡ D i)
      → (i : ℕ) → i ≤ R → rows O C E i t ≡ rows O C D i t
  unfolding rows
  rows_same E D t same zero h = refl
  rows_same E D t same (suc i) h =
      row_alone O C E i (rows O C E i t) ∙ ap₂ (λ e t. row O C (λ _. e) i t) (same i (omega arith)) (rows_same E D t same i (omega arith))
      ∙ sym (row_alone O C D i (rows O C D i t))

  pub run_by_entries : (M N : Matrices O.ring) (n : ℕ) → ((l : ℕ) → l < n → (i : ℕ) → i < R → entry_at O.ring C M l i ≡ entry_at O.ring C N l i)
      → run O R C M n ≡ run O R C N n
  unfolding run step
  run_by_entries M N zero same = refl
  run_by_entries M N (suc n) same =
      ap (λ s. step O C (entry_at O.ring C M n) R s) (run_by_entries M N n (λ l ln. same l (omega arith)))
      ∙ ap (λ t. shifted O.ring t.columns) (rows_same (entry_at O.ring C M n) (entry_at O.ring C N n) (at_first O.ring C (run O R C N n)) (same n (omega arith)) R (omega arith))

  -- the run of n matrices rests on those alone, in their R rows and C columns
  pub run_same : (M N : Matrices O.ring) (n : ℕ) → ((l r c : ℕ) → l < n → r < R → c < C → M l r c ≡ N l r c) → run O R C M n ≡ run O R C N n
  run_same M N n same = run_by_entries M N n (λ l ln r rR. fun_ext (λ d. fun_ext (λ f.
      discrepancy_cong O.ring C M N f f d l r (λ m k c ml kd cC. ap (λ x. O.ring.mul x (f k c)) (same m r c (omega arith) rR cC)))))
