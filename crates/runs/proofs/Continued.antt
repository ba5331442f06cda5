-- The matrix that solves the equations of a place continues the list there, and it is the only one.
use Rattle.std.proofs.Common.{◌≡◌, ℕ, ◌<◌, ◌≤◌, Option, sym, ap, ◌∙◌, subst, arith}
use native.Mathlib.Decide.{ℕ_discrete}
use Rattle.rings.specs.Meaning.{Meaning, Laws, Inverse}
use Rattle.rings.specs.Arithmetic.{Arithmetic, reading}
use Rattle.recurrences.specs.Choice.{put}
use Rattle.recurrences.specs.Columns.{Columns}
use Rattle.recurrences.specs.Continuation.{Continues}
use Rattle.recurrences.specs.Discrepancy.{Matrices, Column, discrepancy}
use Rattle.recurrences.specs.Operations.{Operations, numbers}
use Rattle.recurrences.specs.Run.{run}
use Rattle.recurrences.specs.Theorems.{ListOfMatrices}
use Rattle.recurrences.proofs.Choosing.{put_here, put_away}
use Rattle.recurrences.proofs.ContinuationTheorem.{continuation_is_unique}
use Rattle.recurrences.proofs.Dependence.{discrepancy_cong}
use Rattle.recurrences.proofs.FieldLaws.{field_of}
use Rattle.recurrences.proofs.OnNumbers.{field, as_codes, run_is}
use Rattle.recurrences.proofs.RunTheorems.{columns_generate_numbers}
use Rattle.recurrences.proofs.Summing.{sum_same}
use Rattle.runs.specs.NextMatrix.{behind}
use Rattle.runs.specs.Operations.{operations_of}
use Rattle.runs.specs.Solve.{OnlySolution}
use Rattle.runs.proofs.CodedEquations.{inverse_spans}
use Rattle.runs.proofs.NextSolution.{continues_solves}

-- a discrepancy at place l rests on the matrices before it and on the one there
pub discrepancy_put : (O : Operations) (N : ℕ) (M M' : Matrices O) (l : ℕ) (X : ℕ → ℕ → O.K)
    → ((k r c : ℕ) → k < l → r < N → c < N → M k r c ≡ M' k r c) → ((r c : ℕ) → r < N → c < N → X r c ≡ M' l r c)
    → (f : Column O) (d r : ℕ) → r < N → discrepancy O N (put l X M) f d l r ≡ discrepancy O N M' f d l r
discrepancy_put O N M M' l X before here f d r rN =
    discrepancy_cong O N (put l X M) M' f f d l r (λ k i c kl id cN. ap (λ x. O.mul x (f i c)) (go k c kl cN (ℕ_discrete k l)))
  where
    go : (k c : ℕ) → k ≤ l → c < N → Dec (k ≡ l) → put l X M k r c ≡ M' k r c
    go k c kl cN (yes e) = ap (λ (x : ℕ → ℕ → O.K). x r c) (put_here l X M k e) ∙ here r c rN cN ∙ ap (λ (x : ℕ). M' x r c) (sym e)
    go k c kl cN (no e) = ap (λ (x : ℕ → ℕ → O.K). x r c) (put_away l X M k e) ∙ before k r c (omega arith) rN cN

module _ (q : ℕ) (m : Meaning) (inv : ℕ → Option ℕ) (L : Laws q m) (V : (a : ℕ) → a < q → Inverse q m a (inv a)) (N : ℕ) (M₀ : ListOfMatrices) (n : ℕ) where
  abbrev a : Arithmetic
  a = reading q m inv

  -- the columns after the n matrices of M₀
  abbrev pub columns : Columns (numbers q m)
  columns = run (operations_of a) N N M₀ n

  -- X continues the list M at place l by the generator columns
  abbrev pub Next : ListOfMatrices → ℕ → (ℕ → ℕ → ℕ) → Type 0
  Next M l X = Continues (numbers q m) N N M l columns.gen columns.gen_degree X

  gen_code : (j k c : ℕ) → columns.gen j k c < q
  gen_code j k c = subst (λ (s : Columns (numbers q m)). s.gen j k c < q) (run_is q m inv L V N N M₀ n) ((run (field_of (field q m inv L V N N)) N N (as_codes q m inv L V N N M₀) n).gen j k c).1

  pub only_next : (M : ListOfMatrices) (l : ℕ) (X Y : ℕ → ℕ → ℕ) → ((r c : ℕ) → r < N → c < N → X r c < q) → ((r c : ℕ) → r < N → c < N → Y r c < q)
      → Next M l X → Next M l Y → (r c : ℕ) → r < N → c < N → X r c ≡ Y r c
  only_next M l X Y Xq Yq x y r c rN cN = let only = (continuation_is_unique q m inv L V N N M₀ n M l).3 in only X Xq x r c rN cN ∙ sym (only Y Yq y r c rN cN)

  -- x is what solves the equations of place l, with the vectors g and the values v
  pub solution_next : (M : ListOfMatrices) (l : ℕ) (g v x : ℕ → ℕ → ℕ) → ((j c : ℕ) → j < N → c < N → g j c ≡ columns.gen j 0 c)
      → ((j r : ℕ) → j < N → r < N → v j r ≡ a.opposite (behind a N M (columns.gen j) (columns.gen_degree j) l r))
      → OnlySolution a N g v x → ((r c : ℕ) → r < N → c < N → x r c < q) × Next M l x
  solution_next M l g v x gs vs only =
      let (Y, coded, continues, _) = continuation_is_unique q m inv L V N N M₀ n M l in
      let G = columns_generate_numbers q m inv L V N N M₀ n in
      let solves = continues_solves q m inv L V N M l columns.gen columns.gen_degree Y continues in
      let same : (r c : ℕ) → r < N → c < N → x r c ≡ Y r c = only
      (λ j c jN cN. subst (λ (y : ℕ). y < q) (sym (gs j c jN cN)) (gen_code j 0 c))
      (λ y yq z. inverse_spans q m inv L V N (λ j. columns.gen j 0) G.inverse G.inverse_right y yq
      (λ j jN. sum_same (numbers q m) N _ _ (λ c cN. ap (a.product (y c)) (sym (gs j c jN cN))) ∙ z j jN))
      Y (λ r c _ _. coded r c)
      (λ j r jN rN. sum_same (numbers q m) N _ _ (λ c cN. ap (a.product (Y r c)) (gs j c jN cN)) ∙ solves j r jN rN ∙ sym (vs j r jN rN)) in (
        (λ r c rN cN. subst (λ (y : ℕ). y < q) (sym (same r c rN cN)) (coded r c)),
        λ j r jN rN. discrepancy_put (numbers q m) N M (put l Y M) l x
            (λ k i c kl _ _. ap (λ (y : ℕ → ℕ → ℕ). y i c) (sym (put_away l Y M k (omega arith))))
            (λ i c iN cN. same i c iN cN ∙ ap (λ (y : ℕ → ℕ → ℕ). y i c) (sym (put_here l Y M l (omega arith))))
            (columns.gen j) (columns.gen_degree j) r rN ∙ continues j r jN rN,
      )
