-- The pivot found in the tables is that of the definition.
use Rattle.std.proofs.Common.{◌≡◌, ℕ, ◌<◌, Bool, true, false, cond, ltb, ◌≢◌, List, get_or, Some, None, Option, sym, refl, ap, ◌∙◌, ap₂, true≢false, arith}
use native.Mathlib.Decide.{dec_lt, dec_le}
use Rattle.std.proofs.lemmas.Bool.{cond-true, lt-ltb}
use Rattle.recurrences.specs.Operations.{Operations}
use Rattle.recurrences.specs.Choice.{pick}
use Rattle.recurrences.specs.Discrepancy.{discrepancy}
use Rattle.recurrences.specs.Pivot.{Midstep, best, against, Candidate, candidate, pivot}
use Rattle.recurrences.specs.Step.{by_auxiliary, by_open, row, row_by}
use Rattle.recurrences.specs.Run.{entry_at}
use Rattle.recurrences.proofs.BestCandidate.{Best, best_is}
use Rattle.rings.specs.Arithmetic.{Arithmetic}
use Rattle.runs.specs.Operations.{operations_of}
use Rattle.runs.specs.Views.{no_column, column_of, degree_at}
use Rattle.runs.specs.Candidates.{Nonzero, nonzero, best_of, pivot_of}
use Rattle.runs.specs.Midsteps.{Matches, AllTabular, Ready}
use Rattle.runs.specs.declared.tables.Columns.{Columns as Tables}

-- there is one best of the candidates below n
pub best_unique : (P Q : ℕ → Type 0) (d e : ℕ → ℕ) (n : ℕ) → ((j : ℕ) → j < n → P j → Q j) → ((j : ℕ) → j < n → Q j → P j) → ((j : ℕ) → j < n → d j ≡ e j)
    → (r s : Option ℕ) → Best P d n r → Best Q e n s → r ≡ s
best_unique P Q d e n to from same None None h k = refl
best_unique P Q d e n to from same None (Some b) h (bn, q, _, _) = absurd (h b bn (from b bn q))
best_unique P Q d e n to from same (Some b) None (bn, p, _, _) k = absurd (k b bn (to b bn p))
best_unique P Q d e n to from same (Some b) (Some c) (bn, p, least, first) (cn, q, least', first') = go (dec_lt b c) (dec_lt c b)
  where
    go : Dec (b < c) → Dec (c < b) → Some b ≡ Some c
    go (yes lt) _ = let x = first' b lt (to b bn p) in let y = least c cn (from c cn q) in let u = same b bn in let v = same c cn in absurd (omega arith)
    go (no ge) (yes lt) = let x = first c lt (from c cn q) in let y = least' b bn (to b bn p) in let u = same b bn in let v = same c cn in absurd (omega arith)
    go (no ge) (no le) = let z : b ≡ c = omega arith in ap (λ (x : ℕ). Some x) z

against_alike : (P : ℕ → Type 0) (d e : ℕ → ℕ) (n x y : ℕ) → x ≡ y → ((j : ℕ) → j < n → d j ≡ e j) → (r : Option ℕ) → Best P d n r → against x d r ≡ against y e r
unfolding against
against_alike P d e n x y xy same None h = refl
against_alike P d e n x y xy same (Some l) (ln, _, _, _) = ap₂ (λ (u v : ℕ). pick (dec_le u v) None (Some l)) xy (same l ln)

module _ (a : Arithmetic) (N : ℕ) (M : ℕ → ℕ → ℕ → ℕ) (n i : ℕ) (t : Midstep (operations_of a).ring) where
  abbrev O : Operations
  O = (operations_of a).ring

  abbrev E : ℕ → ℕ → (ℕ → ℕ → ℕ) → ℕ
  E = entry_at O N M n

  pub ready : (es : List ℕ) (y : ℕ) (c : Tables) (opened : List Bool) → i < N → Matches a N c opened t → AllTabular a N t.columns
      → ((j : ℕ) → get_or es j 0 ≡ cond (ltb j N) (cond (get_or opened j false) (discrepancy O N M (column_of N (get_or c.gens j no_column)) (degree_at c.gens j) n i) 0) 0)
      → y ≡ discrepancy O N M (column_of N (get_or c.auxs i no_column)) (degree_at c.auxs i) n i
      → Ready a N M n i es y c opened t
  ready es y c opened iN A T he ey = record {
    alike = A;
    tabular = T;
    entries = λ j jN. he j ∙ cond-true (ltb j N) _ 0 (lt-ltb j N jN) ∙ (λ h. cond (A.open_alike j jN h) (discrepancy O N M (A.columns.gens j jN h) (A.columns.gen_degrees j jN h) n i) 0);
    entry = ey ∙ (λ h. discrepancy O N M (A.columns.auxs i iN h) (A.columns.aux_degrees i iN h) n i);
  }

  module _ (es : List ℕ) (y : ℕ) (c : Tables) (opened : List Bool) (R : Ready a N M n i es y c opened t) (iN : i < N) where
    pivot_is : pivot_of es (degree_at c.gens) (degree_at c.auxs i) N ≡ pivot O N E i t
    unfolding pivot
    pivot_is =
        let found = best_is (Nonzero es) (nonzero es) (degree_at c.gens) N in
        against_alike (Nonzero es) (degree_at c.gens) t.columns.gen_degree N (degree_at c.auxs i) (t.columns.aux_degree i) (R.alike.columns.aux_degrees i iN) R.alike.columns.gen_degrees
        (best_of es (degree_at c.gens) N) found
        ∙ ap (against (t.columns.aux_degree i) t.columns.gen_degree)
        (best_unique (Nonzero es) (Candidate O N E t i) (degree_at c.gens) t.columns.gen_degree N (λ j jN. to (t.opened j) _ (get_or es j 0) (R.entries j jN)) (λ j jN. from (t.opened j) _ (get_or es j 0) (R.entries j jN)) R.alike.columns.gen_degrees
        (best_of es (degree_at c.gens) N) (best (Candidate O N E t i) (candidate O N E t i) t.columns.gen_degree N) found (best_is (Candidate O N E t i) (candidate O N E t i) t.columns.gen_degree N))
      where
        to : (b : Bool) (x z : ℕ) → z ≡ cond b x 0 → z ≢ 0 → (b ≡ true) × (x ≢ 0)
        to true x z e nz = (refl, λ w. nz (e ∙ w))
        to false x z e nz = absurd (nz e)

        from : (b : Bool) (x z : ℕ) → z ≡ cond b x 0 → (b ≡ true) × (x ≢ 0) → z ≢ 0
        from true x z e h = λ w. h.1 (sym e ∙ w)
        from false x z e h = absurd (true≢false (sym h.0))

    pub row_none : None ≡ pivot_of es (degree_at c.gens) (degree_at c.auxs i) N → by_auxiliary (operations_of a) N E i t ≡ row (operations_of a) N E i t
    unfolding row row_by
    row_none e = ap (row_by (operations_of a) N E i t) (e ∙ pivot_is)

    pub row_some : (l : ℕ) → Some l ≡ pivot_of es (degree_at c.gens) (degree_at c.auxs i) N → by_open (operations_of a) N E i l t ≡ row (operations_of a) N E i t
    unfolding row row_by
    row_some l e = ap (row_by (operations_of a) N E i t) (e ∙ pivot_is)
