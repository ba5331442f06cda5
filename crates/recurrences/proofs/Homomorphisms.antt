-- A map of operations carries sums, discrepancies, generators and runs over.
use Rattle.std.proofs.Common.{◌≡◌, ℕ, zero, suc, min, false, Some, None, Option, sym, refl, ap, ◌∙◌, ap₂}
use mathlib.Core.Path.{fun_ext}
use native.Mathlib.Decide.{ℕ_discrete}
use Rattle.recurrences.specs.Sums.{sum}
use Rattle.recurrences.specs.Pivot.{Midstep, aux_entry, Candidate, candidate, against, pivot}
use Rattle.recurrences.specs.Operations.{Operations}
use Rattle.recurrences.specs.Run.{start, run, entry_at}
use Rattle.recurrences.specs.Discrepancy.{discrepancy, Column, Matrices}
use Rattle.recurrences.specs.Step.{moved, row_by, step, copied, row, reduced, shifted, by_auxiliary, traded, at_first, rows, by_open}
use Rattle.recurrences.specs.Choice.{put, pick}
use Rattle.recurrences.specs.Columns.{unit, Columns, shift, lessen, constant}
use Rattle.recurrences.specs.Generators.{Generates}
use Rattle.recurrences.specs.Fields.{FieldOperations, quotient}
use Rattle.recurrences.proofs.BestCandidate.{best_same}
use Rattle.recurrences.proofs.Choosing.{pick_same, pick_map}

pub record Map (A B : Operations) : Type 0 where
  pub φ : A.K → B.K
  pub on_zero : φ A.𝟘 ≡ B.𝟘
  pub on_one : φ A.𝟙 ≡ B.𝟙
  pub on_add : (x y : A.K) → φ (A.add x y) ≡ B.add (φ x) (φ y)
  pub on_neg : (x : A.K) → φ (A.neg x) ≡ B.neg (φ x)
  pub on_mul : (x y : A.K) → φ (A.mul x y) ≡ B.mul (φ x) (φ y)

module _ (A B : Operations) (H : Map A B) where
  open H use {φ}

  abbrev pub column_map : Column A → Column B
  column_map f k c = φ (f k c)

  abbrev pub matrices_map : Matrices A → Matrices B
  matrices_map M l r c = φ (M l r c)

  abbrev pub columns_map : Columns A → Columns B
  columns_map s = record { gen = λ j. column_map (s.gen j); gen_degree = s.gen_degree; aux = λ k. column_map (s.aux k); aux_degree = s.aux_degree }

  abbrev pub midstep_map : Midstep A → Midstep B
  midstep_map t = record { columns = columns_map t.columns; opened = t.opened }

  pub sum_map : (n : ℕ) (g : ℕ → A.K) → φ (sum A n g) ≡ sum B n (λ i. φ (g i))
  unfolding sum
  sum_map zero g = H.on_zero
  sum_map (suc n) g = H.on_add _ _ ∙ ap (λ x. B.add x (φ (g n))) (sum_map n g)

  pub discrepancy_map : (C : ℕ) (M : Matrices A) (f : Column A) (d l r : ℕ) → φ (discrepancy A C M f d l r) ≡ discrepancy B C (matrices_map M) (column_map f) d l r
  unfolding discrepancy
  discrepancy_map C M f d l r =
      sum_map (suc (min l d)) _ ∙ ap (sum B (suc (min l d))) (fun_ext (λ k. sum_map C _ ∙ ap (sum B C) (fun_ext (λ c. H.on_mul _ _))))

  pub unit_map : (i k : ℕ) → φ (unit A i k) ≡ unit B i k
  unit_map i k = pick_map φ (ℕ_discrete i k) _ _ ∙ ap₂ (pick (ℕ_discrete i k)) H.on_one H.on_zero

  pub generates_map : (R C : ℕ) (M : Matrices A) (n : ℕ) (h : ℕ → Column A) (d : ℕ → ℕ)
      → Generates A R C M n h d → Generates B R C (matrices_map M) n (λ j. column_map (h j)) d
  generates_map R C M n h d g = record {
    ends = λ j jC k c dk cC. ap φ (g.ends j jC k c dk cC) ∙ H.on_zero;
    fits = λ j jC l r dl ln rR. sym (discrepancy_map C M (h j) (d j) l r) ∙ ap φ (g.fits j jC l r dl ln rR) ∙ H.on_zero;
    inverse = λ i j. φ (g.inverse i j);
    inverse_left = λ i k iC kC. undone g.inverse (λ c j. h j 0 c) i k (g.inverse_left i k iC kC);
    inverse_right = λ i k iC kC. undone (λ c j. h j 0 c) g.inverse i k (g.inverse_right i k iC kC);
  }
    where
      undone : (S T : ℕ → ℕ → A.K) (i k : ℕ) → sum A C (λ j. A.mul (S i j) (T j k)) ≡ unit A i k → sum B C (λ j. B.mul (φ (S i j)) (φ (T j k))) ≡ unit B i k
      undone S T i k e = ap (sum B C) (fun_ext (λ j. sym (H.on_mul (S i j) (T j k)))) ∙ sym (sum_map C _) ∙ ap φ e ∙ unit_map i k

  put_map : (l : ℕ) (x : Column A) (g : ℕ → Column A) (j : ℕ) → column_map (put l x g j) ≡ put l (column_map x) (λ j. column_map (g j)) j
  unfolding put
  put_map l x g j = pick_map column_map (ℕ_discrete j l) x (g j)

  lessen_map : (a : A.K) (p f : Column A) → column_map (lessen A a p f) ≡ lessen B (φ a) (column_map p) (column_map f)
  lessen_map a p f = fun_ext (λ k. fun_ext (λ c. H.on_add _ _ ∙ ap (λ x. B.add (φ (f k c)) x) (H.on_mul _ _ ∙ ap (λ y. B.mul y (φ (p k c))) (H.on_neg a))))

  shift_map : (f : Column A) → column_map (shift A f) ≡ shift B (column_map f)
  unfolding shift
  shift_map f = fun_ext (elim [ zero ↦ fun_ext (λ c. H.on_zero) | suc k ↦ refl ])

  shifted_map : (s : Columns A) → columns_map (shifted A s) ≡ shifted B (columns_map s)
  unfolding shifted
  shifted_map s =
      ap (λ h. let r : Columns B = record { gen = λ j. column_map (s.gen j); gen_degree = s.gen_degree; aux = h; aux_degree = λ k. suc (s.aux_degree k) } in r) (fun_ext (λ k. shift_map (s.aux k)))

  start_map : columns_map (start A) ≡ start B
  unfolding start constant
  start_map =
      ap₂ (λ g h. let r : Columns B = record { gen = g; gen_degree = λ _. 0; aux = h; aux_degree = λ _. 1 } in r) (fun_ext (λ j. fun_ext (gens j))) (fun_ext (λ k. fun_ext (λ i. fun_ext (λ c. H.on_zero))))
    where
      gens : (j k : ℕ) → (λ c. φ (constant A (unit A j) k c)) ≡ constant B (unit B j) k
      gens j zero = fun_ext (λ c. unit_map j c)
      gens j (suc k) = fun_ext (λ c. H.on_zero)

-- a map of fields keeps quotients too, and sends nothing but zero to zero
pub record FieldMap (A B : FieldOperations) : Type 0 where
  pub map : Map A.ring B.ring
  pub on_quotient : (x y : A.ring.K) → map.φ (quotient A x y) ≡ quotient B (map.φ x) (map.φ y)
  pub only_zero : (x : A.ring.K) → map.φ x ≡ B.ring.𝟘 → x ≡ A.ring.𝟘

module _ (A B : FieldOperations) (H : FieldMap A B) where
  abbrev φ : A.ring.K → B.ring.K
  φ = H.map.φ

  abbrev col : Column A.ring → Column B.ring
  col = column_map A.ring B.ring H.map

  abbrev mid : Midstep A.ring → Midstep B.ring
  mid = midstep_map A.ring B.ring H.map

  module _ (C : ℕ) (EA : ℕ → ℕ → Column A.ring → A.ring.K) (EB : ℕ → ℕ → Column B.ring → B.ring.K)
      (same : (i d : ℕ) (f : Column A.ring) → φ (EA i d f) ≡ EB i d (col f)) where
    zero_to : (i d : ℕ) (f : Column A.ring) → EA i d f ≡ A.ring.𝟘 → EB i d (col f) ≡ B.ring.𝟘
    zero_to i d f e = sym (same i d f) ∙ ap φ e ∙ H.map.on_zero

    zero_from : (i d : ℕ) (f : Column A.ring) → EB i d (col f) ≡ B.ring.𝟘 → EA i d f ≡ A.ring.𝟘
    zero_from i d f e = H.only_zero _ (same i d f ∙ e)

    pub candidate_to : (t : Midstep A.ring) (i j : ℕ) → Candidate A.ring C EA t i j → Candidate B.ring C EB (mid t) i j
    candidate_to t i j (v, z) = (v, λ e. z (zero_from i _ _ e))

    pub candidate_from : (t : Midstep A.ring) (i j : ℕ) → Candidate B.ring C EB (mid t) i j → Candidate A.ring C EA t i j
    candidate_from t i j (v, z) = (v, λ e. z (zero_to i _ _ e))

    quotient_map : (x y : A.ring.K) (x' y' : B.ring.K) → φ x ≡ x' → φ y ≡ y' → φ (quotient A x y) ≡ quotient B x' y'
    quotient_map x y x' y' p q = H.on_quotient x y ∙ ap₂ (quotient B) p q

    reduced_map : (i : ℕ) (p : Column A.ring) (y : A.ring.K) (y' : B.ring.K) → φ y ≡ y' → (t : Midstep A.ring) (j : ℕ)
        → col (reduced A C EA i p y t j) ≡ reduced B C EB i (col p) y' (mid t) j
    unfolding reduced
    reduced_map i p y y' e t j =
        pick_map col (candidate A.ring C EA t i j) _ _
        ∙ pick_same (candidate A.ring C EA t i j) (candidate B.ring C EB (mid t) i j) _ _ (candidate_to t i j) (candidate_from t i j)
        ∙ ap (λ x. pick (candidate B.ring C EB (mid t) i j) x (col (t.columns.gen j)))
        (lessen_map A.ring B.ring H.map _ p (t.columns.gen j) ∙ ap (λ a. lessen B.ring a (col p) (col (t.columns.gen j))) (quotient_map _ y _ y' (same i _ _) e))

    by_auxiliary_map : (i : ℕ) (t : Midstep A.ring) → mid (by_auxiliary A C EA i t) ≡ by_auxiliary B C EB i (mid t)
    unfolding by_auxiliary
    by_auxiliary_map i t =
        ap (λ g. let r : Midstep B.ring = record { columns = record { gen = g; gen_degree = t.columns.gen_degree; aux = λ k. col (t.columns.aux k); aux_degree = t.columns.aux_degree }; opened = t.opened } in r)
        (fun_ext (λ j. reduced_map i (t.columns.aux i) _ _ (same i _ _) t j))

    moved_map : (i l : ℕ) (x : Column A.ring) (t : Midstep A.ring) → columns_map A.ring B.ring H.map (moved A C EA i l x t) ≡ moved B C EB i l (col x) (mid t)
    unfolding moved
    moved_map i l x t =
        ap₂ (λ g h. let r : Columns B.ring = record { gen = g; gen_degree = put l (t.columns.aux_degree i) t.columns.gen_degree; aux = h; aux_degree = put i (t.columns.gen_degree l) t.columns.aux_degree } in r)
        (fun_ext (λ j. put_map A.ring B.ring H.map l x _ j ∙ ap (λ g. put l (col x) g j) (fun_ext (λ j. reduced_map i (t.columns.gen l) _ _ (same i _ _) t j))))
        (fun_ext (λ k. put_map A.ring B.ring H.map i (t.columns.gen l) t.columns.aux k))

    traded_map : (i l : ℕ) (t : Midstep A.ring) → mid (traded A C EA i l t) ≡ traded B C EB i l (mid t)
    unfolding traded
    traded_map i l t = ap (λ s. let r : Midstep B.ring = record { columns = s; opened = t.opened } in r)
        (moved_map i l _ t ∙ ap (λ x. moved B C EB i l x (mid t))
        (lessen_map A.ring B.ring H.map _ (t.columns.aux i) (t.columns.gen l) ∙ ap (λ a. lessen B.ring a (col (t.columns.aux i)) (col (t.columns.gen l))) (quotient_map _ _ _ _ (same i _ _) (same i _ _))))

    copied_map : (i l : ℕ) (t : Midstep A.ring) → mid (copied A C EA i l t) ≡ copied B C EB i l (mid t)
    unfolding copied
    copied_map i l t = ap (λ s. let r : Midstep B.ring = record { columns = s; opened = put l false t.opened } in r) (moved_map i l (t.columns.gen l) t)

    by_open_map : (i l : ℕ) (t : Midstep A.ring) → mid (by_open A C EA i l t) ≡ by_open B C EB i l (mid t)
    unfolding by_open
    by_open_map i l t =
        pick_map mid (A.ring.dec (aux_entry A.ring C EA t i) A.ring.𝟘) _ _
        ∙ pick_same (A.ring.dec (aux_entry A.ring C EA t i) A.ring.𝟘) (B.ring.dec (aux_entry B.ring C EB (mid t) i) B.ring.𝟘) _ _ (zero_to i _ (t.columns.aux i)) (zero_from i _ (t.columns.aux i))
        ∙ ap₂ (pick (B.ring.dec (aux_entry B.ring C EB (mid t) i) B.ring.𝟘)) (copied_map i l t) (traded_map i l t)

    row_by_map : (i : ℕ) (t : Midstep A.ring) (o : Option ℕ) → mid (row_by A C EA i t o) ≡ row_by B C EB i (mid t) o
    unfolding row_by
    row_by_map i t None = by_auxiliary_map i t
    row_by_map i t (Some l) = by_open_map i l t

    pub pivot_map : (i : ℕ) (t : Midstep A.ring) → pivot A.ring C EA i t ≡ pivot B.ring C EB i (mid t)
    unfolding pivot
    pivot_map i t = ap (against (t.columns.aux_degree i) t.columns.gen_degree)
        (best_same (Candidate A.ring C EA t i) (Candidate B.ring C EB (mid t) i) (candidate A.ring C EA t i) (candidate B.ring C EB (mid t) i) t.columns.gen_degree
        (candidate_to t i) (candidate_from t i) C)

    row_map : (i : ℕ) (t : Midstep A.ring) → mid (row A C EA i t) ≡ row B C EB i (mid t)
    unfolding row
    row_map i t = row_by_map i t _ ∙ ap (row_by B C EB i (mid t)) (pivot_map i t)

    pub rows_map : (i : ℕ) (t : Midstep A.ring) → mid (rows A C EA i t) ≡ rows B C EB i (mid t)
    unfolding rows
    rows_map zero t = refl
    rows_map (suc i) t = row_map i (rows A C EA i t) ∙ ap (row B C EB i) (rows_map i t)

    step_map : (R : ℕ) (s : Columns A.ring) → columns_map A.ring B.ring H.map (step A C EA R s) ≡ step B C EB R (columns_map A.ring B.ring H.map s)
    unfolding step
    step_map R s =
        shifted_map A.ring B.ring H.map (rows A C EA R (at_first A.ring C s)).columns ∙ ap (λ t. shifted B.ring t.columns) (rows_map R (at_first A.ring C s))

  pub run_map : (R C : ℕ) (M : Matrices A.ring) (n : ℕ)
      → columns_map A.ring B.ring H.map (run A R C M n) ≡ run B R C (matrices_map A.ring B.ring H.map M) n
  unfolding run
  run_map R C M zero = start_map A.ring B.ring H.map
  run_map R C M (suc n) =
      step_map C (entry_at A.ring C M n) (entry_at B.ring C (matrices_map A.ring B.ring H.map M) n) (λ i d f. discrepancy_map A.ring B.ring H.map C M f d n i) R (run A R C M n)
      ∙ ap (step B C (entry_at B.ring C (matrices_map A.ring B.ring H.map M) n) R) (run_map R C M n)
