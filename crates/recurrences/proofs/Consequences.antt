-- What follows from the invariant: the degrees, the counts and the end of a run, over a field.
use Rattle.std.proofs.Common.{◌≡◌, ℕ, zero, suc, ◌+◌, ◌<◌, ◌≤◌, ◌⊎◌, sym, subst, inl, inr, arith}
use native.Mathlib.Decide.{ℕ_discrete, dec_le}
use Rattle.recurrences.specs.Degrees.{total, least, greatest}
use Rattle.recurrences.specs.Run.{run}
use Rattle.recurrences.specs.Discrepancy.{Column, Matrices}
use Rattle.recurrences.specs.Columns.{Columns}
use Rattle.recurrences.proofs.SettledFinal.{stays_generator}
use Rattle.recurrences.proofs.Invariant.{step_rises, Holds}
use Rattle.recurrences.proofs.Dependence.{run_same}
use Rattle.recurrences.proofs.RunInvariant.{run_holds}
use Rattle.recurrences.proofs.PairingOff.{own_generator, FieldGenerator}
use Rattle.recurrences.proofs.Convolutions.{convolution}
use Rattle.recurrences.proofs.Totals.{least_is, greatest_le, least_among, greatest_is, greatest_total}
use Rattle.recurrences.proofs.FieldLaws.{Field, field_of, ring_of}

-- whether a property holds of every number below n
all_below : (P : ℕ → Type 0) → ((i : ℕ) → Dec (P i)) → (n : ℕ) → Dec ((i : ℕ) → i < n → P i)
all_below P d zero = yes (λ i h. absurd (omega arith))
all_below P d (suc n) = go (all_below P d n) (d n)
  where
    go : Dec ((i : ℕ) → i < n → P i) → Dec (P n) → Dec ((i : ℕ) → i < suc n → P i)
    go (yes a) (yes b) = yes (λ i h. elim (ℕ_discrete i n) [ yes e ↦ subst P (sym e) b | no e ↦ a i (omega arith) ])
    go (no a) b = no (λ f. a (λ i h. f i (omega arith)))
    go (yes a) (no b) = no (λ f. b (f n (omega arith)))

dec_if : (A B : Type 0) → Dec A → Dec B → Dec (A → B)
dec_if A B (yes a) (yes b) = yes (λ _. b)
dec_if A B (yes a) (no b) = no (λ f. b (f a))
dec_if A B (no a) b = yes (λ x. absurd (a x))

module _ (F : Field) (R C : ℕ) (M : Matrices (ring_of F)) where
  abbrev after : ℕ → Columns (ring_of F)
  after n = run (field_of F) R C M n

  pub columns_generate : (n : ℕ) → FieldGenerator F R C M n (after n).gen (after n).gen_degree
  columns_generate n = own_generator F R C M n (after n) (run_holds F R C M n)

  -- neither short nor settled
  abbrev pub Wants : ℕ → Columns (ring_of F) → Type 0
  Wants bound s = (total C s.gen_degree ≤ bound) × (least R s.aux_degree + total C s.gen_degree ≤ bound + greatest C s.gen_degree)

  module _ (R_pos : 0 < R) (bound : ℕ) where
    reached : (n : ℕ) → Wants bound (after n) → suc n ≤ bound + greatest C (after n).gen_degree
    reached n w =
        let (i, iR, e) = least_among R (after n).aux_degree R_pos in
        let x = (run_holds F R C M n).reach i iR in
        omega arith

    pub at_most_twice : (n : ℕ) → ((i : ℕ) → i < n → Wants bound (after i)) → n ≤ bound + bound
    at_most_twice zero t = omega arith
    at_most_twice (suc n) t =
        let w = t n (omega arith) in
        let x = reached n w in
        let y = greatest_total C (after n).gen_degree in
        omega arith

    pub at_most_greatest : (n : ℕ) → ((i : ℕ) → i < n → Wants bound (after i)) → n ≤ bound + greatest C (after n).gen_degree
    unfolding run
    at_most_greatest zero t = omega arith
    at_most_greatest (suc n) t =
        let x = reached n (t n (omega arith)) in
        let y = greatest_le C (after n).gen_degree (after (suc n)).gen_degree (step_rises F R C M n (after n) (run_holds F R C M n)) in
        omega arith

    -- whatever stands behind a settled run's matrices
    pub settled_final : (n k : ℕ) → n ≤ k → bound + greatest C (after n).gen_degree < least R (after n).aux_degree + total C (after n).gen_degree
        → (N : Matrices (ring_of F)) → ((l r c : ℕ) → l < n → r < R → c < C → M l r c ≡ N l r c)
        → FieldGenerator F R C N k (after n).gen (after n).gen_degree ⊎ ((h : ℕ → Column (ring_of F)) (d : ℕ → ℕ) → FieldGenerator F R C N k h d → bound < total C d)
    settled_final n k nk st N same = go fit_dec
      where
        s : Columns (ring_of F)
        s = after n

        H : Holds F R C N n s
        H = subst (Holds F R C N n) (sym (run_same (field_of F) R C M N n same)) (run_holds F R C N n)

        far : (i j : ℕ) → i < R → j < C → bound + s.gen_degree j < s.aux_degree i + total C s.gen_degree
        far i j iR jC = let a = greatest_is C s.gen_degree j jC in let b = least_is R s.aux_degree i iR in omega arith

        Fit : Type 0
        Fit = (l : ℕ) → l < k → (r : ℕ) → r < R → (j : ℕ) → j < C → s.gen_degree j ≤ l → convolution (ring_of F) C N l r (s.gen j) ≡ F.𝟘

        fit_dec : Dec Fit
        fit_dec = all_below _ (λ l. all_below _ (λ r. all_below _ (λ j. dec_if _ _ (dec_le (s.gen_degree j) l) (F.dec (convolution (ring_of F) C N l r (s.gen j)) F.𝟘)) C) R) k

        go : Dec Fit → FieldGenerator F R C N k s.gen s.gen_degree ⊎ ((h : ℕ → Column (ring_of F)) (d : ℕ → ℕ) → FieldGenerator F R C N k h d → bound < total C d)
        go (yes f) = inl (record { inside = (own_generator F R C N n s H).inside; fits = λ j jC l r jl lk rR. f l lk r rR j jC jl; basis = H.basis })
        go (no f) = inr (λ h d g. elim (dec_le (total C d) bound) [
          | no q ↦ omega arith
          | yes q ↦ absurd (f (λ l lk r rR j jC jl. (stays_generator F R C N n k bound R_pos nk s H far h d g q).fits j jC l r jl lk rR))
        ])
