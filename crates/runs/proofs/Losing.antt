-- A loss that stops at the pivot's degree is the whole loss.
use Rattle.std.proofs.Common.{◌≡◌, ℕ, ◌<◌, Bool, true, false, cond, eqb, ltb, sym, refl, ap, ◌∙◌, ap₂, arith}
use mathlib.Core.Path.{fun_ext}
use native.Mathlib.Decide.{ℕ_discrete, dec_lt}
use Rattle.std.proofs.lemmas.Bool.{cond-true, cond-false, lt-ltb, le-ltb, ne_eqb, eq-eqb}
use Rattle.recurrences.specs.Operations.{Operations}
use Rattle.recurrences.specs.Fields.{or_else}
use Rattle.recurrences.specs.Choice.{pick}
use Rattle.recurrences.specs.Columns.{lessen}
use Rattle.recurrences.specs.Pivot.{Midstep, gen_entry, candidate_by, candidate}
use Rattle.recurrences.specs.Step.{reduced}
use Rattle.rings.specs.Arithmetic.{Arithmetic}
use Rattle.runs.specs.Operations.{operations_of}
use Rattle.runs.specs.Reach.{reach_of}
use Rattle.runs.specs.Losses.{plus_times, lessened, reduced_by}
use Rattle.runs.specs.Midsteps.{Tabular}

-- a multiple of zero adds nothing to a code, and there is a code
abbrev pub AddsZero : Arithmetic → Type 0
AddsZero a = ((c x : ℕ) → x < a.size → plus_times a c x 0 ≡ x) × (0 < a.size)

module _ (a : Arithmetic) (N : ℕ) (Z : AddsZero a) where
  abbrev O : Operations
  O = (operations_of a).ring

  pub whole_loss : (c d d' : ℕ) (p f : ℕ → ℕ → ℕ) → Tabular a N d p → Tabular a N d' f → lessened a N (reach_of d) c p f ≡ lessen O c p f
  whole_loss c d d' p f P F = fun_ext (λ k. fun_ext (λ e. go k e (dec_lt k (reach_of d)) (dec_lt e N)))
    where
      go : (k e : ℕ) → Dec (k < reach_of d) → Dec (e < N) → lessened a N (reach_of d) c p f k e ≡ plus_times a (a.opposite c) (f k e) (p k e)
      go k e (yes h) (yes i) =
          ap (λ (v : ℕ → ℕ). v e) (cond-true (ltb k (reach_of d)) _ (f k) (lt-ltb k (reach_of d) h)) ∙ cond-true (ltb e N) _ 0 (lt-ltb e N i)
      go k e (yes h) (no i) =
          ap (λ (v : ℕ → ℕ). v e) (cond-true (ltb k (reach_of d)) _ (f k) (lt-ltb k (reach_of d) h)) ∙ cond-false (ltb e N) _ 0 (le-ltb e N (omega arith))
          ∙ sym (Z.0 (a.opposite c) 0 Z.1) ∙ ap₂ (plus_times a (a.opposite c)) (sym (F.narrow k e (omega arith))) (sym (P.narrow k e (omega arith)))
      go k e (no h) j =
          let low = P.low in
          ap (λ (v : ℕ → ℕ). v e) (cond-false (ltb k (reach_of d)) _ (f k) (le-ltb k (reach_of d) (omega arith)))
          ∙ sym (Z.0 (a.opposite c) (f k e) (F.codes k e)) ∙ ap (plus_times a (a.opposite c) (f k e)) (sym (P.ends k e (omega arith)))

  loss_of_candidates : (b : Bool) (x y : ℕ) (d : Dec (x ≡ 0)) (p f : ℕ → ℕ → ℕ)
      → cond (eqb (cond b x 0) 0) f (lessen O (a.product (cond b x 0) y) p f) ≡ pick (candidate_by O b x d) (lessen O (a.product x y) p f) f
  unfolding candidate_by pick
  loss_of_candidates true x y (yes z) p f = cond-true (eqb x 0) f _ (eq-eqb x 0 z)
  loss_of_candidates true x y (no z) p f = cond-false (eqb x 0) f _ (ne_eqb x 0 z)
  loss_of_candidates false x y d p f = refl

  -- a generator column as it is reduced in the tables, and by the definition
  pub reduced_is : (entry : ℕ → ℕ → (ℕ → ℕ → ℕ) → ℕ) (i : ℕ) (t : Midstep O) (j x y y' d d' : ℕ) (p p' f : ℕ → ℕ → ℕ)
      → x ≡ cond (t.opened j) (gen_entry O N entry t i j) 0 → f ≡ t.columns.gen j → p ≡ p' → y ≡ y' → d ≡ d'
      → Tabular a N d' p' → Tabular a N (t.columns.gen_degree j) (t.columns.gen j)
      → reduced_by a N (reach_of d) x (or_else 0 (a.inverse y)) p f ≡ reduced (operations_of a) N entry i p' y' t j
  unfolding reduced candidate
  reduced_is entry i t j x y y' d d' p p' f ex ef ep ey ed P F =
      let g = t.columns.gen j in
      let z = gen_entry O N entry t i j in
      let w = or_else 0 (a.inverse y') in
      (λ h. reduced_by a N (reach_of (ed h)) (ex h) (or_else 0 (a.inverse (ey h))) (ep h) (ef h))
      ∙ ap (λ (v : ℕ → ℕ → ℕ). cond (eqb (cond (t.opened j) z 0) 0) g v) (whole_loss (a.product (cond (t.opened j) z 0) w) d' (t.columns.gen_degree j) p' g P F)
      ∙ loss_of_candidates (t.opened j) z w (ℕ_discrete z 0) p' g
