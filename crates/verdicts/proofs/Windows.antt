-- The discrepancies of a generator column in a list whose first matrices are left out: only so many are that each place from the
-- degree on keeps the matrices that its discrepancy is made of.
use Rattle.std.proofs.Common.{◌≡◌, ℕ, suc, ◌+◌, ◌-◌, ◌*◌, ◌≤◌, min, cond, ltb, List, get_or, drop, Option, ap, ◌∙◌, ap₂, mul_assoc, add-mul, arith, get_or-drop}
use Rattle.rings.specs.Meaning.{Meaning}
use Rattle.rings.specs.Arithmetic.{reading}
use Rattle.recurrences.specs.Discrepancy.{discrepancy}
use Rattle.recurrences.specs.Fits.{column_discrepancy}
use Rattle.recurrences.specs.Operations.{numbers}
use Rattle.recurrences.specs.Reading.{matrices_in}
use Rattle.recurrences.specs.Sums.{sum}
use Rattle.recurrences.proofs.Summing.{sum_same}
use Rattle.runs.specs.Standings.{columns_after, column_after}
use Rattle.verdicts.specs.Misfits.{generator_discrepancy}
use Rattle.verdicts.proofs.GeneratorColumns.{column_read}

-- the matrices of a list without its first s
pub matrices_dropped : (N s : ℕ) (list : List ℕ) (l r c : ℕ) → matrices_in N N (drop (s * (N * N)) list) l r c ≡ matrices_in N N list (l + s) r c
matrices_dropped N s list l r c =
    ap (λ (x : ℕ). cond (ltb r N) (cond (ltb c N) x 0) 0)
    (get_or-drop (s * (N * N)) list ((l * N + r) * N + c) 0
    ∙ ap (λ (i : ℕ). get_or list i 0) (let e : s * (N * N) + ((l * N + r) * N + c) ≡ ((l + s) * N + r) * N + c = omega (arith, add-mul l s N, add-mul (l * N + r) (s * N) N, add-mul (l * N + s * N) r N, add-mul (l * N) (s * N) N, add-mul (l * N) r N, mul_assoc s N N) in e))

module _ (q : ℕ) (m : Meaning) (inv : ℕ → Option ℕ) (N s : ℕ) (taken list : List ℕ) (j : ℕ) where
  abbrev d : ℕ
  d = (columns_after (reading q m inv) N taken).gen_degree j

  pub in_window : (l r : ℕ) → d ≤ l
      → column_discrepancy q m N d (drop (s * (N * N)) list) (column_after (reading q m inv) N taken j) l r ≡ generator_discrepancy (reading q m inv) N taken list j (l + s) r
  unfolding discrepancy
  in_window l r h =
      sum_same (numbers q m) (suc (min l d)) _ _ (λ k kl. sum_same (numbers q m) N _ _ (λ c cN.
      ap₂ (numbers q m).mul
      (matrices_dropped N s list (l - k) r c ∙ ap (λ (x : ℕ). matrices_in N N list x r c) (let e : l - k + s ≡ l + s - k = omega arith in e))
      (column_read (reading q m inv) N taken j k c (omega arith) cN)))
      ∙ ap (λ (n : ℕ). sum (numbers q m) (suc n) (λ k. sum (numbers q m) N (λ c. (numbers q m).mul (matrices_in N N list (l + s - k) r c) ((columns_after (reading q m inv) N taken).gen j k c))))
      (let e : min l d ≡ min (l + s) d = omega arith in e)
