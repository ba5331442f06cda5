-- A step: all rows, and then the auxiliary columns are shifted.
use Rattle.std.proofs.Common.{◌≡◌, ℕ, zero, suc, ◌+◌, ◌<◌, ◌≤◌, Bool, true, false, cond, ltb, List, [], ◌∷◌, get_or, sym, refl, ap, ◌∙◌, subst, add-one, arith}
use mathlib.Core.Path.{fun_ext}
use native.Mathlib.Decide.{dec_lt}
use Rattle.std.proofs.lemmas.Bool.{cond-true, cond-false, lt-ltb, le-ltb}
use Rattle.rings.specs.Arithmetic.{Arithmetic}
use Rattle.recurrences.specs.Operations.{Operations}
use Rattle.recurrences.specs.Columns.{Columns, shift}
use Rattle.recurrences.specs.Step.{row, rows, at_first, shifted, step}
use Rattle.recurrences.specs.Run.{run, entry_at}
use Rattle.runs.specs.Operations.{operations_of}
use Rattle.runs.specs.Views.{no_vector, no_column, vector_of, column_of, degree_at}
use Rattle.runs.specs.Reach.{reach_of}
use Rattle.runs.specs.Shifts.{before, Shifted}
use Rattle.runs.specs.Midsteps.{Holds, Matches, Tabular, AllTabular}
use Rattle.runs.specs.declared.tables.Column.{Column}
use Rattle.runs.specs.declared.tables.Columns.{Columns as Tables}
use Rattle.runs.proofs.Vectors.{zero_entries}

four_open : (j : ℕ) → j < 4 → get_or (true ∷ true ∷ true ∷ true ∷ []) j false ≡ true
four_open zero h = refl
four_open (suc zero) h = refl
four_open (suc (suc zero)) h = refl
four_open (suc (suc (suc zero))) h = refl
four_open (suc (suc (suc (suc j)))) h = absurd (omega arith)

module _ (a : Arithmetic) (N : ℕ) (M : ℕ → ℕ → ℕ → ℕ) (n : ℕ) (s : Columns (operations_of a).ring) where
  abbrev O : Operations
  O = (operations_of a).ring

  abbrev E : ℕ → ℕ → (ℕ → ℕ → ℕ) → ℕ
  E = entry_at O N M n

  pub no_row : (c : Tables) → N ≤ 4 → Holds a N c s → Matches a N c (true ∷ true ∷ true ∷ true ∷ []) (rows (operations_of a) N E 0 (at_first O N s))
  unfolding rows
  no_row c h H = record { columns = H; open_alike = λ j jN. four_open j (omega arith) ∙ sym (lt-ltb j N jN) }

  pub next_row : (i : ℕ) (c : Tables) (opened : List Bool) → Matches a N c opened (row (operations_of a) N E i (rows (operations_of a) N E i (at_first O N s)))
      → Matches a N c opened (rows (operations_of a) N E (i + 1) (at_first O N s))
  unfolding rows
  next_row i c opened A = rw (add-one i) A

  -- a table that is shifted up to its new degree is shifted whole
  shifted_whole : (d : ℕ) (f : ℕ → ℕ → ℕ) (c c' : Column) → Tabular a N d f → column_of N c ≡ f → Shifted (d + 1) c c' → column_of N c' ≡ shift O f
  unfolding shift
  shifted_whole d f c c' T e h = fun_ext (λ k. ap {B = ℕ → ℕ} (vector_of N) (h k) ∙ go k (dec_lt k (reach_of (d + 1))))
    where
      go : (k : ℕ) → Dec (k < reach_of (d + 1)) → vector_of N (cond (ltb k (reach_of (d + 1))) (before c.coefficients k) (get_or c.coefficients k no_vector)) ≡ shift O f k
      go zero (yes p) = ap {B = ℕ → ℕ} (vector_of N) (cond-true (ltb 0 (reach_of (d + 1))) _ _ (lt-ltb 0 (reach_of (d + 1)) p)) ∙ zero_entries N
      go (suc k) (yes p) = ap {B = ℕ → ℕ} (vector_of N) (cond-true (ltb (suc k) (reach_of (d + 1))) _ _ (lt-ltb (suc k) (reach_of (d + 1)) p)) ∙ ap (λ (g : ℕ → ℕ → ℕ). g k) e
      go zero (no p) = absurd (omega arith)
      go (suc k) (no p) =
          let low = T.low in
          ap {B = ℕ → ℕ} (vector_of N) (cond-false (ltb (suc k) (reach_of (d + 1))) _ _ (le-ltb (suc k) (reach_of (d + 1)) (omega arith)))
          ∙ ap (λ (g : ℕ → ℕ → ℕ). g (suc k)) e ∙ fun_ext (λ x. T.ends (suc k) x (omega arith) ∙ sym (T.ends k x (omega arith)))

  pub step_holds : (mid new : Tables) → AllTabular a N (rows (operations_of a) N E N (at_first O N s)).columns → Holds a N mid (rows (operations_of a) N E N (at_first O N s)).columns
      → new.gens ≡ mid.gens
      → ((j : ℕ) → j < N → Shifted (degree_at new.auxs j) (get_or mid.auxs j no_column) (get_or new.auxs j no_column))
      → ((j : ℕ) → j < N → degree_at new.auxs j ≡ degree_at mid.auxs j + 1)
      → Holds a N new (step (operations_of a) N E N s)
  unfolding step shifted
  step_holds mid new T H ge sh ra =
      let d : (j : ℕ) → j < N → degree_at new.auxs j ≡ (rows (operations_of a) N E N (at_first O N s)).columns.aux_degree j + 1 =
      λ j jN. ra j jN ∙ ap (λ (x : ℕ). x + 1) (H.aux_degrees j jN) in
      record {
        gens = λ j jN. ap (λ (xs : List Column). column_of N (get_or xs j no_column)) ge ∙ H.gens j jN;
        gen_degrees = λ j jN. ap (λ (xs : List Column). degree_at xs j) ge ∙ H.gen_degrees j jN;
        auxs = λ j jN. shifted_whole _ _ (get_or mid.auxs j no_column) (get_or new.auxs j no_column) (T.auxs j jN) (H.auxs j jN)
            (subst (λ (x : ℕ). Shifted x (get_or mid.auxs j no_column) (get_or new.auxs j no_column)) (d j jN) (sh j jN));
        aux_degrees = λ j jN. d j jN ∙ add-one _;
      }

  pub low_degrees : (c : Tables) → AllTabular a N (rows (operations_of a) N E N (at_first O N s)).columns → Holds a N c (rows (operations_of a) N E N (at_first O N s)).columns
      → (j : ℕ) → j < N → degree_at c.auxs j ≤ 128
  low_degrees c T H j jN = let d = (T.auxs j jN).low in let e = H.aux_degrees j jN in omega arith

pub run_more : (a : Arithmetic) (N : ℕ) (M : ℕ → ℕ → ℕ → ℕ) (n : ℕ) (c : Tables)
    → Holds a N c (step (operations_of a) N (entry_at (operations_of a).ring N M n) N (run (operations_of a) N N M n)) → Holds a N c (run (operations_of a) N N M (n + 1))
unfolding run
run_more a N M n c H = rw (add-one n) H
