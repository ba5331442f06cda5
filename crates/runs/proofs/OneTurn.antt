-- One turn of the elimination, as the swap and the clearing of the others make it.
use Rattle.std.proofs.Common.{◌≡◌, ℕ, ◌<◌, ◌≤◌, cond, eqb, ltb, sym, ap, ◌∙◌, ap₂}
use native.Mathlib.Decide.{ℕ_discrete}
use Rattle.std.proofs.lemmas.Bool.{cond-true, cond-false, lt-ltb, eq-eqb, ne_eqb}
use Rattle.recurrences.specs.Fields.{or_else}
use Rattle.rings.specs.Arithmetic.{Arithmetic}
use Rattle.runs.specs.Operations.{operations_of}
use Rattle.runs.specs.Losses.{plus_times}
use Rattle.runs.specs.Equations.{Side, left}
use Rattle.runs.specs.Clearing.{Clears, cleared, combined, share, swapped}
use Rattle.runs.proofs.Swaps.{swapped_first}

-- S are the equations E after the swap, and E' those of S cleared by the one at c, whose entry c has the inverse y
pub clears_by : (a : Arithmetic) (N c p : ℕ) (E S E' : ℕ → Side → ℕ → ℕ) (y : ℕ) → c ≤ p → p < N
    → (E p left c ≡ 0 → (j : ℕ) → c ≤ j → j < N → E j left c ≡ 0)
    → ((j : ℕ) → S j ≡ E (swapped c p j)) → y ≡ or_else 0 (a.inverse (S c left c))
    → ((j : ℕ) → E' j ≡ cond (ltb j N) (cleared a N c j y (S c) (S j)) (S j)) → Clears (operations_of a) N c E E'
clears_by a N c p E S E' y cp pN none swap inverse clear = record { pivot = p; from = cp; below = pN; none = none; becomes = becomes }
  where
    becomes : (j : ℕ) (s : Side) (e : ℕ) → j < N → e < N → E' j s e ≡ combined (operations_of a) c p (share (operations_of a) c p E) (λ i. E i s e) j
    becomes j s e jN eN =
        ap (λ (f : Side → ℕ → ℕ). f s e) (clear j ∙ cond-true (ltb j N) _ _ (lt-ltb j N jN))
        ∙ ap (λ (x : ℕ). cleared a N c j x (S c) (S j) s e) inverse
        ∙ ap₂ (λ (g f : Side → ℕ → ℕ). cleared a N c j (or_else 0 (a.inverse (g left c))) g f s e) (swap c ∙ ap E (swapped_first c p)) (swap j)
        ∙ go (ℕ_discrete j c)
      where
        rest : ℕ
        rest = plus_times a (a.opposite (share (operations_of a) c p E j)) (E (swapped c p j) s e) (E p s e)

        go : Dec (j ≡ c) → cond (eqb j c) (E (swapped c p j) s e) (cond (ltb e N) rest (E (swapped c p j) s e)) ≡ cond (eqb j c) (E p s e) rest
        go (yes q) = cond-true (eqb j c) _ _ (eq-eqb j c q) ∙ ap (λ i. E i s e) (ap (swapped c p) q ∙ swapped_first c p) ∙ sym (cond-true (eqb j c) _ _ (eq-eqb j c q))
        go (no q) = cond-false (eqb j c) _ _ (ne_eqb j c q) ∙ cond-true (ltb e N) _ _ (lt-ltb e N eN) ∙ sym (cond-false (eqb j c) _ _ (ne_eqb j c q))
