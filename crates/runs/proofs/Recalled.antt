-- Where a run stands, from its tables: they give the columns and the phase after the matrices taken.
use Rattle.std.proofs.Common.{◌≡◌, ℕ, zero, suc, ◌<◌, ◌≤◌, min, max, Bool, true, false, cond, ltb, [], ◌∷◌, refl, ap, ◌∙◌, ap₂, arith}
use Rattle.std.proofs.lemmas.Bool.{ltb-true}
use Rattle.rings.specs.Arithmetic.{Arithmetic}
use Rattle.recurrences.specs.Degrees.{greatest, least}
use Rattle.recurrences.specs.Phases.{phase_at}
use Rattle.recurrences.specs.Reading.{matrices_in}
use Rattle.recurrences.specs.Run.{run}
use Rattle.recurrences.proofs.Dependence.{run_same}
use Rattle.runs.specs.declared.tables.State.{State}
use Rattle.runs.specs.Operations.{operations_of}
use Rattle.runs.specs.Recorded.{recorded}
use Rattle.runs.specs.Sound.{run_of}
use Rattle.runs.specs.Standings.{count_of, columns_after, phase_after, shown}
use Rattle.runs.specs.Views.{matrices_of}
use Rattle.runs.proofs.Recording.{count_of_codes, entries_of_codes}

-- degrees that are alike below n
pub greatest_same : (n : ℕ) (d e : ℕ → ℕ) → ((i : ℕ) → i < n → d i ≡ e i) → greatest n d ≡ greatest n e
greatest_same zero d e h = refl
greatest_same (suc n) d e h = ap₂ max (greatest_same n d e (λ i l. h i (omega arith))) (h n (omega arith))

pub least_same : (n : ℕ) (d e : ℕ → ℕ) → ((i : ℕ) → i < n → d i ≡ e i) → least n d ≡ least n e
least_same zero d e h = refl
least_same (suc zero) d e h = h 0 (omega arith)
least_same (suc (suc n)) d e h = ap₂ min (least_same (suc n) d e (λ i l. h i (omega arith))) (h (suc n) (omega arith))

pub shown_same : (n : ℕ) (d e : ℕ → ℕ) → ((i : ℕ) → i < n → d i ≡ e i) → shown n d ≡ shown n e
shown_same n d e h = λ i. place 0 i ∷ place 1 i ∷ place 2 i ∷ place 3 i ∷ []
  where
    place : (j : ℕ) → cond (ltb j n) (d j) 0 ≡ cond (ltb j n) (e j) 0
    place j = by (ltb j n) (λ t. h j (ltb-true j n t))
      where
        by : (b : Bool) → (b ≡ true → d j ≡ e j) → cond b (d j) 0 ≡ cond b (e j) 0
        by true k = k refl
        by false k = refl

-- the columns after the matrices taken are those of the tables, before each of them too
module _ (a : Arithmetic) (s : State) (positive : 0 < s.size) where
  pub run_recorded : (i : ℕ) → i ≤ s.count
      → run (operations_of a) s.size s.size (matrices_in s.size s.size (recorded s)) i ≡ run (operations_of a) s.size s.size (matrices_of s.size s.matrices) i
  run_recorded i h = run_same (operations_of a) s.size s.size _ _ i (λ l r c ln rN cN. entries_of_codes s.size s.count (matrices_of s.size s.matrices) l r c (omega arith) rN cN)

  pub count_recorded : count_of s.size (recorded s) ≡ s.count
  count_recorded = count_of_codes s.size s.count (matrices_of s.size s.matrices) positive

  pub columns_recorded : columns_after a s.size (recorded s) ≡ run_of a s
  columns_recorded =
      ap (λ (n : ℕ). run (operations_of a) s.size s.size (matrices_in s.size s.size (recorded s)) n) count_recorded ∙ run_recorded s.count (omega arith)

  pub phase_recorded : (bound : ℕ) → phase_after a s.size bound (recorded s) ≡ phase_at (operations_of a).ring s.size s.size bound (run_of a s)
  phase_recorded bound = ap (phase_at (operations_of a).ring s.size s.size bound) columns_recorded
