-- What the laws of a field give for its arithmetic.
use Rattle.std.proofs.Common.{◌≡◌, ℕ, ◌<◌, ◌≤◌, Option, sym, refl, ap, ◌∙◌, ap₂, arith}
use Rattle.rings.specs.Meaning.{Meaning, Laws, Inverse, code}
use Rattle.recurrences.specs.Operations.{numbers}
use Rattle.recurrences.specs.Step.{rows, at_first}
use Rattle.recurrences.specs.Run.{run, entry_at}
use Rattle.recurrences.proofs.MidstepTheorems.{midsteps_are_bounded}
use Rattle.recurrences.proofs.FieldLaws.{mul_zero}
use Rattle.recurrences.proofs.CodesField.{codes, code_below, some_code, itself}
use Rattle.rings.specs.Arithmetic.{reading}
use Rattle.runs.specs.Operations.{operations_of}
use Rattle.runs.specs.Midsteps.{AllTabular}
use Rattle.runs.proofs.Losing.{AddsZero}

module _ (q : ℕ) (m : Meaning) (inv : ℕ → Option ℕ) (L : Laws q m) (V : (a : ℕ) → a < q → Inverse q m a (inv a)) where
  product_zero : (c : ℕ) → (numbers q m).mul c 0 ≡ 0
  product_zero c = ap₂ m.product (sym (itself q m inv L V (code q c) (code_below q m inv L V c))) refl ∙ ap (λ z. z.0) (mul_zero (codes q m inv L V) (code q c, code_below q m inv L V c))

  pub adds_zero : AddsZero (reading q m inv)
  adds_zero = (
    (λ c x h. ap ((numbers q m).add x) (product_zero c) ∙ ap₂ m.sum (itself q m inv L V x h) (itself q m inv L V 0 (some_code q m inv L V)) ∙ L.sum_zero x h),
    some_code q m inv L V,
  )

  -- what the midst of a step holds fits the tables
  pub tabular : (N : ℕ) (M : ℕ → ℕ → ℕ → ℕ) (n i : ℕ) → n < 128 → i ≤ N
      → AllTabular (reading q m inv) N (rows (operations_of (reading q m inv)) N (entry_at (numbers q m) N M n) i (at_first (numbers q m) N (run (operations_of (reading q m inv)) N N M n))).columns
  tabular N M n i h iN =
      let b = midsteps_are_bounded q m inv L V N N M n i iN in
      record {
        gens = λ j jN. let d = b.gen_degrees j jN in record { codes = b.gen_codes j; ends = λ k e. b.gen_ends j k e jN; narrow = λ k e. b.gen_width j k e jN; low = omega arith };
        auxs = λ j jN. let d = b.aux_degrees j jN in record { codes = b.aux_codes j; ends = λ k e. b.aux_ends j k e jN; narrow = λ k e. b.aux_width j k e jN; low = omega arith };
      }
