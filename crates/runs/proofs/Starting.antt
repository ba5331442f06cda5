-- A run that has taken nothing is sound.
use Rattle.std.proofs.Common.{◌≡◌, ℕ, zero, suc, ◌<◌, ◌≤◌, cond, ltb, List, [], ◌∷◌, get_or, set, replicate, sym, refl, ap, ◌∙◌, subst, arith, lit≤, get_or-set_other, get_or-set_same}
use native.Mathlib.Decide.{ℕ_discrete}
use Rattle.std.proofs.lemmas.Bool.{cond-true, lt-ltb}
use Rattle.rings.specs.Arithmetic.{Arithmetic}
use Rattle.recurrences.specs.Choice.{pick}
use Rattle.recurrences.specs.Columns.{constant, unit}
use Rattle.recurrences.specs.Run.{run, start}
use Rattle.runs.specs.Operations.{operations_of}
use Rattle.runs.specs.Views.{no_column, no_matrix, matrix_of, column_of, degree_at, matrices_of}
use Rattle.runs.specs.Starts.{zero_column, zero_matrix, unit_column, started}
use Rattle.runs.specs.Sound.{Sound}
use Rattle.runs.specs.declared.tables.Column.{Column}
use Rattle.runs.specs.declared.tables.Matrix.{Matrix}
use Rattle.runs.proofs.Vectors.{alike, cut_off, zero_entry, zero_vectors}

zero_matrices : (N l r c : ℕ) → matrices_of N (replicate 128 zero_matrix) l r c ≡ 0
zero_matrices N l r c = alike (λ (x : Matrix). matrix_of N x r c) 0 128 zero_matrix no_matrix (ap (λ (v : ℕ → ℕ). v c) (zero_vectors N 4 r)) (cut_off (ltb c N) 0 refl) l

abbrev zeros : List ℕ
zeros = replicate 4 0

unit_column_is : (a : Arithmetic) (N j : ℕ) → j < N → N ≤ 4 → (k e : ℕ) → column_of N (unit_column j) k e ≡ constant (operations_of a).ring (unit (operations_of a).ring j) k e
unfolding constant pick
unit_column_is a N j jN small zero e = go (ℕ_discrete j e)
  where
    go : (d : Dec (j ≡ e)) → cond (ltb e N) (get_or (set zeros j 1) e 0) 0 ≡ pick d 1 0
    go (yes h) = cond-true (ltb e N) _ 0 (lt-ltb e N (omega arith)) ∙ ap (λ (y : ℕ). get_or (set zeros j 1) y 0) (sym h) ∙ get_or-set_same zeros j 1 0 (omega arith)
    go (no h) = cut_off (ltb e N) _ (get_or-set_other zeros j e 1 0 (λ p. h (sym p)) ∙ zero_entry e)
unit_column_is a N j jN small (suc k) e = ap (λ (v : ℕ → ℕ). v e) (zero_vectors N 129 k)

unit_at : (j : ℕ) → j < 4 → get_or (unit_column 0 ∷ unit_column 1 ∷ unit_column 2 ∷ unit_column 3 ∷ []) j no_column ≡ unit_column j
unit_at zero h = refl
unit_at (suc zero) h = refl
unit_at (suc (suc zero)) h = refl
unit_at (suc (suc (suc zero))) h = refl
unit_at (suc (suc (suc (suc j)))) h = absurd (omega arith)

one_at : (j : ℕ) → j < 4 → degree_at (replicate 4 zero_column) j ≡ 1
one_at zero h = refl
one_at (suc zero) h = refl
one_at (suc (suc zero)) h = refl
one_at (suc (suc (suc zero))) h = refl
one_at (suc (suc (suc (suc j)))) h = absurd (omega arith)

pub started_sound : (a : Arithmetic) (N : ℕ) → 1 ≤ N → N ≤ 4 → 0 < a.size → Sound a (started N)
unfolding run start
started_sound a N some small positive = record {
  some = some;
  small = small;
  few = lit≤ tt;
  codes = λ l r c. subst (λ (v : ℕ). v < a.size) (sym (zero_matrices N l r c)) positive;
  gens = λ j k e. let jN = j.1 in ap (λ (x : Column). column_of N x k e) (unit_at j.0 (omega arith)) ∙ unit_column_is a N j.0 jN small k e;
  gen_degrees = λ j jN. ap (λ (x : Column). x.degree) (unit_at j (omega arith));
  auxs = λ j k e. alike (λ (x : Column). column_of N x k e) 0 4 zero_column no_column (ap (λ (v : ℕ → ℕ). v e) (zero_vectors N 130 k)) (cut_off (ltb e N) 0 refl) j.0;
  aux_degrees = λ j jN. one_at j (omega arith);
}
