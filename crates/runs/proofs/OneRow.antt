-- One row of a step: what the tables hold after it is what the definition says.
use Rattle.std.proofs.Common.{◌≡◌, ℕ, ◌<◌, Bool, true, false, cond, eqb, ltb, ◌≢◌, List, length, get_or, set, sym, refl, ap, ◌∙◌, subst, ap₂, arith, get_or-set_other, get_or-set_same}
use mathlib.Core.Path.{fun_ext}
use native.Mathlib.Decide.{ℕ_discrete, dec_lt}
use Rattle.std.proofs.lemmas.Bool.{cond-true, cond-false, lt-ltb, le-ltb, eq-eqb}
use Rattle.recurrences.specs.Operations.{Operations}
use Rattle.recurrences.specs.Fields.{or_else, quotient}
use Rattle.recurrences.specs.Choice.{pick, put}
use Rattle.recurrences.specs.Columns.{Columns, lessen}
use Rattle.recurrences.specs.Pivot.{Midstep, gen_entry, aux_entry}
use Rattle.recurrences.specs.Step.{reduced, by_auxiliary, moved, traded, copied, by_open}
use Rattle.recurrences.specs.Run.{entry_at}
use Rattle.recurrences.proofs.Choosing.{pick_yes, pick_no, put_here, put_away}
use Rattle.rings.specs.Arithmetic.{Arithmetic}
use Rattle.runs.specs.Operations.{operations_of}
use Rattle.runs.specs.Views.{no_vector, no_column, vector_of, column_of, degree_at}
use Rattle.runs.specs.Reach.{reach_of}
use Rattle.runs.specs.Losses.{lessened, reduced_by}
use Rattle.runs.specs.Midsteps.{Holds, Matches, Ready}
use Rattle.runs.specs.declared.tables.Column.{Column}
use Rattle.runs.specs.declared.tables.Columns.{Columns as Tables}
use Rattle.runs.proofs.Losing.{AddsZero, whole_loss, reduced_is}

-- a list written at one place is the function put at that place
put_set : {X Y : Type 0} (read : X → Y) (xs : List X) (l : ℕ) (v d : X) → l < length xs → (j : ℕ) → read (get_or (set xs l v) j d) ≡ put l (read v) (λ j. read (get_or xs j d)) j
unfolding put pick
put_set read xs l v d h j = go (ℕ_discrete j l)
  where
    go : (e : Dec (j ≡ l)) → read (get_or (set xs l v) j d) ≡ pick e (read v) (read (get_or xs j d))
    go (yes e) = ap (λ (y : ℕ). read (get_or (set xs l v) y d)) e ∙ ap read (get_or-set_same xs l v d h)
    go (no n) = ap read (get_or-set_other xs l j v d n)

put_same : {X : Type 0} (l j : ℕ) (a b : X) (f g : ℕ → X) → a ≡ b → f j ≡ g j → put l a f j ≡ put l b g j
unfolding put
put_same l j a b f g e h = ap₂ (pick (ℕ_discrete j l)) e h

-- a function that is z at l, and elsewhere is g
put_by : {X : Type 0} (l j : ℕ) (z : X) (f g : ℕ → X) → f l ≡ z → (j ≢ l → f j ≡ g j) → f j ≡ put l z g j
put_by l j z f g here away = go (ℕ_discrete j l)
  where
    go : (e : Dec (j ≡ l)) → f j ≡ put l z g j
    go (yes e) = ap f e ∙ here ∙ sym (put_here l z g j e)
    go (no n) = away n ∙ sym (put_away l z g j n)

module _ (a : Arithmetic) (N : ℕ) (Z : AddsZero a) (M : ℕ → ℕ → ℕ → ℕ) (n i : ℕ) (t : Midstep (operations_of a).ring) where
  abbrev O : Operations
  O = (operations_of a).ring

  abbrev E : ℕ → ℕ → (ℕ → ℕ → ℕ) → ℕ
  E = entry_at O N M n

  -- columns reduced by auxiliary column i, whose entry is y, in the tables
  abbrev ReducedIn : (es : List ℕ) (y : ℕ) (c new : Tables) → Type 0
  ReducedIn es y c new = (j : ℕ) → column_of N (get_or new.gens j no_column) ≡ cond (ltb j N) (reduced_by a N (reach_of (degree_at c.auxs i)) (get_or es j 0) (or_else 0 (a.inverse y)) (column_of N (get_or c.auxs i no_column)) (column_of N (get_or c.gens j no_column))) (column_of N (get_or c.gens j no_column))

  module _ (es : List ℕ) (y : ℕ) (c : Tables) (opened : List Bool) (R : Ready a N M n i es y c opened t) (iN : i < N) where
    pub aux_row : (new : Tables) → ReducedIn es y c new → ((j : ℕ) → degree_at new.gens j ≡ degree_at c.gens j) → new.auxs ≡ c.auxs → Matches a N new opened (by_auxiliary (operations_of a) N E i t)
    unfolding by_auxiliary
    aux_row new h gd ax =
        let H = R.alike.columns in
        record {
          columns = record {
            gens = λ j jN. h j ∙ cond-true (ltb j N) _ _ (lt-ltb j N jN)
                ∙ reduced_is a N Z E i t j (get_or es j 0) y (aux_entry O N E t i) (degree_at c.auxs i) (t.columns.aux_degree i) (column_of N (get_or c.auxs i no_column)) (t.columns.aux i) (column_of N (get_or c.gens j no_column))
                (R.entries j jN) (H.gens j jN) (H.auxs i iN) R.entry (H.aux_degrees i iN) (R.tabular.auxs i iN) (R.tabular.gens j jN);
            gen_degrees = λ j jN. gd j ∙ H.gen_degrees j jN;
            auxs = λ j jN. ap (λ (xs : List Column). column_of N (get_or xs j no_column)) ax ∙ H.auxs j jN;
            aux_degrees = λ j jN. ap (λ (xs : List Column). degree_at xs j) ax ∙ H.aux_degrees j jN;
          };
          open_alike = R.alike.open_alike;
        }

    -- where no column is a candidate, nothing changes
    pub idle_row : ((j : ℕ) → j < N → get_or es j 0 ≡ 0) → Matches a N c opened (by_auxiliary (operations_of a) N E i t)
    idle_row none = aux_row c (λ j. sym (go j (dec_lt j N))) (λ j. refl) refl
      where
        go : (j : ℕ) → Dec (j < N)
            → cond (ltb j N) (reduced_by a N (reach_of (degree_at c.auxs i)) (get_or es j 0) (or_else 0 (a.inverse y)) (column_of N (get_or c.auxs i no_column)) (column_of N (get_or c.gens j no_column))) (column_of N (get_or c.gens j no_column))
            ≡ column_of N (get_or c.gens j no_column)
        go j (yes h) = cond-true (ltb j N) _ _ (lt-ltb j N h) ∙ cond-true (eqb (get_or es j 0) 0) _ _ (eq-eqb (get_or es j 0) 0 (none j h))
        go j (no h) = cond-false (ltb j N) _ _ (le-ltb j N (omega arith))

    module _ (l : ℕ) (lN : l < N) where
      -- auxiliary column i and generator column l have changed places, where x is what became of column l
      abbrev exchanged : (ℕ → ℕ → ℕ) → Columns O
      exchanged x = record {
        gen = put l x t.columns.gen;
        gen_degree = put l (t.columns.aux_degree i) t.columns.gen_degree;
        aux = put i (t.columns.gen l) t.columns.aux;
        aux_degree = put i (t.columns.gen_degree l) t.columns.aux_degree;
      }

      -- column l less z times auxiliary column i
      abbrev less_aux : ℕ → ℕ → ℕ → ℕ
      less_aux z = lessen O z (t.columns.aux i) (t.columns.gen l)

      -- a list of columns that is written at one place
      written : {Y : Type 0} (read : Column → Y) (xs ys : List Column) (k : ℕ) (v : Column) (f : ℕ → Y) (z : Y) → k < length xs → ys ≡ set xs k v → read v ≡ z
          → (j : ℕ) → read (get_or xs j no_column) ≡ f j → read (get_or ys j no_column) ≡ put k z f j
      written read xs ys k v f z h e ve j ej = ap (λ (cs : List Column). read (get_or cs j no_column)) e ∙ put_set read xs k v no_column h j ∙ put_same k j _ _ _ _ ve ej

      pub copy_holds : (mid : Tables) → mid.gens ≡ set c.gens l (record { degree = degree_at c.auxs i; coefficients = (get_or c.gens l no_column).coefficients })
          → mid.auxs ≡ set c.auxs i (get_or c.gens l no_column) → l < length c.gens → i < length c.auxs → Holds a N mid (exchanged (t.columns.gen l))
      copy_holds mid ge ax l₁ l₂ =
          let H = R.alike.columns in
          record {
            gens = λ j jN. written {Y = ℕ → ℕ → ℕ} (column_of N) c.gens mid.gens l _ t.columns.gen (t.columns.gen l) l₁ ge (H.gens l lN) j (H.gens j jN);
            gen_degrees = λ j jN. written (λ (x : Column). x.degree) c.gens mid.gens l _ t.columns.gen_degree (t.columns.aux_degree i) l₁ ge (H.aux_degrees i iN) j (H.gen_degrees j jN);
            auxs = λ j jN. written {Y = ℕ → ℕ → ℕ} (column_of N) c.auxs mid.auxs i _ t.columns.aux (t.columns.gen l) l₂ ax (H.gens l lN) j (H.auxs j jN);
            aux_degrees = λ j jN. written (λ (x : Column). x.degree) c.auxs mid.auxs i _ t.columns.aux_degree (t.columns.gen_degree l) l₂ ax (H.gen_degrees l lN) j (H.aux_degrees j jN);
          }

      module _ (smaller : degree_at c.gens l < degree_at c.auxs i) where
        -- what is copied up to the greater degree is copied whole
        copied_whole : (new : Column)
            → ((k : ℕ) → get_or new.coefficients k no_vector ≡ cond (ltb k (reach_of (degree_at c.auxs i))) (get_or (get_or c.gens l no_column).coefficients k no_vector) (get_or (get_or c.auxs i no_column).coefficients k no_vector))
            → column_of N new ≡ t.columns.gen l
        copied_whole new h = fun_ext (λ k. ap {B = ℕ → ℕ} (vector_of N) (h k) ∙ go k (dec_lt k (reach_of (degree_at c.auxs i))))
          where
            H : Holds a N c t.columns
            H = R.alike.columns

            go : (k : ℕ) → Dec (k < reach_of (degree_at c.auxs i))
                → vector_of N (cond (ltb k (reach_of (degree_at c.auxs i))) (get_or (get_or c.gens l no_column).coefficients k no_vector) (get_or (get_or c.auxs i no_column).coefficients k no_vector)) ≡ t.columns.gen l k
            go k (yes p) = ap {B = ℕ → ℕ} (vector_of N) (cond-true (ltb k (reach_of (degree_at c.auxs i))) _ _ (lt-ltb k (reach_of (degree_at c.auxs i)) p)) ∙ ap (λ (f : ℕ → ℕ → ℕ). f k) (H.gens l lN)
            go k (no p) =
                let ed = H.aux_degrees i iN in
                let dl = H.gen_degrees l lN in
                let low = (R.tabular.auxs i iN).low in
                ap {B = ℕ → ℕ} (vector_of N) (cond-false (ltb k (reach_of (degree_at c.auxs i))) _ _ (le-ltb k (reach_of (degree_at c.auxs i)) (omega arith)))
                ∙ ap (λ (f : ℕ → ℕ → ℕ). f k) (H.auxs i iN) ∙ fun_ext (λ e. (R.tabular.auxs i iN).ends k e (omega arith) ∙ sym ((R.tabular.gens l lN).ends k e (omega arith)))

        pub trade_holds : (mid : Tables) (b : ℕ) (z : ℕ) → b ≡ z
            → column_of N (get_or mid.gens l no_column) ≡ lessened a N (reach_of (degree_at c.auxs i)) b (column_of N (get_or c.auxs i no_column)) (column_of N (get_or c.gens l no_column))
            → ((j : ℕ) → j ≢ l → get_or mid.gens j no_column ≡ get_or c.gens j no_column)
            → ((k : ℕ) → get_or (get_or mid.auxs i no_column).coefficients k no_vector ≡ cond (ltb k (reach_of (degree_at c.auxs i))) (get_or (get_or c.gens l no_column).coefficients k no_vector) (get_or (get_or c.auxs i no_column).coefficients k no_vector))
            → ((j : ℕ) → j ≢ i → get_or mid.auxs j no_column ≡ get_or c.auxs j no_column)
            → degree_at mid.gens l ≡ degree_at c.auxs i → degree_at mid.auxs i ≡ degree_at c.gens l → Holds a N mid (exchanged (less_aux z))
        trade_holds mid b z bz here others aux other_auxs gd ad =
            let H = R.alike.columns in
            record {
              gens = λ j jN. put_by l j (less_aux z) (λ j. column_of N (get_or mid.gens j no_column)) t.columns.gen
                  (here ∙ (λ h. lessened a N (reach_of (H.aux_degrees i iN h)) (bz h) (H.auxs i iN h) (H.gens l lN h))
                  ∙ whole_loss a N Z z (t.columns.aux_degree i) (t.columns.gen_degree l) (t.columns.aux i) (t.columns.gen l) (R.tabular.auxs i iN) (R.tabular.gens l lN))
                  (λ ne. ap {B = ℕ → ℕ → ℕ} (column_of N) (others j ne) ∙ H.gens j jN);
              gen_degrees = λ j jN. put_by l j (t.columns.aux_degree i) (degree_at mid.gens) t.columns.gen_degree (gd ∙ H.aux_degrees i iN) (λ ne. ap (λ (x : Column). x.degree) (others j ne) ∙ H.gen_degrees j jN);
              auxs = λ j jN. put_by i j (t.columns.gen l) (λ j. column_of N (get_or mid.auxs j no_column)) t.columns.aux (copied_whole (get_or mid.auxs i no_column) aux)
                  (λ ne. ap {B = ℕ → ℕ → ℕ} (column_of N) (other_auxs j ne) ∙ H.auxs j jN);
              aux_degrees = λ j jN. put_by i j (t.columns.gen_degree l) (degree_at mid.auxs) t.columns.aux_degree (ad ∙ H.gen_degrees l lN) (λ ne. ap (λ (x : Column). x.degree) (other_auxs j ne) ∙ H.aux_degrees j jN);
            }

      module _ (nz : get_or es l 0 ≢ 0) (long : l < length es) where
        -- the entry of a column that is open
        pub own_entry : get_or es l 0 ≡ gen_entry O N E t i l
        own_entry = go (t.opened l) (R.entries l lN)
          where
            go : (b : Bool) → get_or es l 0 ≡ cond b (gen_entry O N E t i l) 0 → get_or es l 0 ≡ gen_entry O N E t i l
            go true e = e
            go false e = absurd (nz e)

        -- after the exchange the other candidates are reduced by the former column l
        pub moved_holds : (x : ℕ → ℕ → ℕ) (mid new : Tables) → Holds a N mid (exchanged x) → ReducedIn (set es l 0) (get_or es l 0) mid new
            → ((j : ℕ) → degree_at new.gens j ≡ degree_at mid.gens j) → new.auxs ≡ mid.auxs
            → Holds a N new (moved (operations_of a) N E i l x t)
        unfolding moved
        moved_holds x mid new X h gd ax = record {
          gens = λ j jN. h j ∙ cond-true (ltb j N) _ _ (lt-ltb j N jN) ∙ go j jN (ℕ_discrete j l);
          gen_degrees = λ j jN. gd j ∙ X.gen_degrees j jN;
          auxs = λ j jN. ap (λ (xs : List Column). column_of N (get_or xs j no_column)) ax ∙ X.auxs j jN;
          aux_degrees = λ j jN. ap (λ (xs : List Column). degree_at xs j) ax ∙ X.aux_degrees j jN;
        }
          where
            go : (j : ℕ) → j < N → Dec (j ≡ l)
                → reduced_by a N (reach_of (degree_at mid.auxs i)) (get_or (set es l 0) j 0) (or_else 0 (a.inverse (get_or es l 0))) (column_of N (get_or mid.auxs i no_column)) (column_of N (get_or mid.gens j no_column))
                ≡ put l x (reduced (operations_of a) N E i (t.columns.gen l) (gen_entry O N E t i l) t) j
            go j jN (yes e) =
                cond-true (eqb (get_or (set es l 0) j 0) 0) _ _ (eq-eqb (get_or (set es l 0) j 0) 0 (ap (λ (y : ℕ). get_or (set es l 0) y 0) e ∙ get_or-set_same es l 0 0 long))
                ∙ X.gens j jN ∙ put_here l x _ j e ∙ sym (put_here l x _ j e)
            go j jN (no ne) =
                reduced_is a N Z E i t j (get_or (set es l 0) j 0) (get_or es l 0) (gen_entry O N E t i l) (degree_at mid.auxs i) (t.columns.gen_degree l) (column_of N (get_or mid.auxs i no_column)) (t.columns.gen l) (column_of N (get_or mid.gens j no_column))
                (get_or-set_other es l j 0 0 ne ∙ R.entries j jN) (X.gens j jN ∙ put_away l x _ j ne) (X.auxs i iN ∙ put_here i _ _ i refl) own_entry (X.aux_degrees i iN ∙ put_here i _ _ i refl) (R.tabular.gens l lN) (R.tabular.gens j jN)
                ∙ sym (put_away l x _ j ne)

        pub copied_row : (mid new : Tables) → y ≡ 0 → l < length opened → Holds a N mid (exchanged (t.columns.gen l)) → ReducedIn (set es l 0) (get_or es l 0) mid new
            → ((j : ℕ) → degree_at new.gens j ≡ degree_at mid.gens j) → new.auxs ≡ mid.auxs
            → Matches a N new (set opened l false) (by_open (operations_of a) N E i l t)
        unfolding by_open copied
        copied_row mid new z long_opened X h gd ax = subst (Matches a N new (set opened l false))
            (sym (pick_yes (ℕ_discrete (aux_entry O N E t i) 0) (copied (operations_of a) N E i l t) (traded (operations_of a) N E i l t) (sym R.entry ∙ z)))
            record {
              columns = moved_holds (t.columns.gen l) mid new X h gd ax;
              open_alike = λ j jN. put_set (λ (b : Bool). b) opened l false false long_opened j ∙ put_same l j _ _ _ _ refl (R.alike.open_alike j jN);
            }

        pub traded_row : (mid new : Tables) → y ≢ 0 → Holds a N mid (exchanged (less_aux (quotient (operations_of a) (gen_entry O N E t i l) (aux_entry O N E t i)))) → ReducedIn (set es l 0) (get_or es l 0) mid new
            → ((j : ℕ) → degree_at new.gens j ≡ degree_at mid.gens j) → new.auxs ≡ mid.auxs
            → Matches a N new opened (by_open (operations_of a) N E i l t)
        unfolding by_open traded
        traded_row mid new z X h gd ax = subst (Matches a N new opened)
            (sym (pick_no (ℕ_discrete (aux_entry O N E t i) 0) (copied (operations_of a) N E i l t) (traded (operations_of a) N E i l t) (λ e. z (R.entry ∙ e))))
            record { columns = moved_holds (less_aux (quotient (operations_of a) (gen_entry O N E t i l) (aux_entry O N E t i))) mid new X h gd ax; open_alike = R.alike.open_alike }

        -- the part of the auxiliary column that is taken away
        pub part_is : quotient (operations_of a) (get_or es l 0) y ≡ quotient (operations_of a) (gen_entry O N E t i l) (aux_entry O N E t i)
        part_is = λ h. quotient (operations_of a) (own_entry h) (R.entry h)
