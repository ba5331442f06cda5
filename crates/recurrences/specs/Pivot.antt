-- The pivot of a row: which column the others are reduced by.
use Rattle.std.specs.Prelude.{◌≡◌, ℕ, zero, suc, Bool, true, false, ◌≢◌, Some, None, Option, refl}
use Rattle.std.proofs.lemmas.Bool.{false≢true}
use Rattle.std.proofs.Math.Decide.{dec_le, dec_lt}
use Rattle.recurrences.specs.Operations.{Operations}
use Rattle.recurrences.specs.Discrepancy.{Column}
use Rattle.recurrences.specs.Columns.{Columns}
use Rattle.recurrences.specs.Choice.{pick}

-- n against what was best below n: a candidate n wins where its degree is smaller
unfoldable pub better : {P : Type 0} → Dec P → (ℕ → ℕ) → ℕ → Option ℕ → Option ℕ
better candidate degree n None = pick candidate (Some n) None
better candidate degree n (Some b) = pick candidate (pick (dec_lt (degree n) (degree b)) (Some n) (Some b)) (Some b)

-- of the candidates below n the one of least degree, and of several such the lowest
unfoldable pub best : (P : ℕ → Type 0) → ((j : ℕ) → Dec (P j)) → (ℕ → ℕ) → ℕ → Option ℕ
best P candidate degree zero = None
best P candidate degree (suc n) = better (candidate n) degree n (best P candidate degree n)

-- the auxiliary column, of degree d, against the best candidate: none where the auxiliary column is the pivot. It wins a tie.
unfoldable pub against : ℕ → (ℕ → ℕ) → Option ℕ → Option ℕ
against d degree None = None
against d degree (Some l) = pick (dec_le d (degree l)) None (Some l)

-- the columns in the midst of a step, and which generator columns are open
pub record Midstep (O : Operations) : Type 0 where
  pub columns : Columns O
  pub opened : ℕ → Bool

-- whether a column is open and its entry x is not zero
unfoldable pub candidate_by : (O : Operations) (b : Bool) (x : O.K) → Dec (x ≡ O.𝟘) → Dec ((b ≡ true) × (x ≢ O.𝟘))
candidate_by O true x (yes z) = no (λ p. p.1 z)
candidate_by O true x (no z) = yes (refl, z)
candidate_by O false x d = no (λ p. false≢true p.0)

-- `entry i d f` is entry i of the discrepancy of the column f of degree d at the place of the matrix taken
module _ (O : Operations) (C : ℕ) (entry : ℕ → ℕ → Column O → O.K) where
  abbrev pub gen_entry : Midstep O → ℕ → ℕ → O.K
  gen_entry t i j = entry i (t.columns.gen_degree j) (t.columns.gen j)

  abbrev pub aux_entry : Midstep O → ℕ → O.K
  aux_entry t i = entry i (t.columns.aux_degree i) (t.columns.aux i)

  -- generator column j is a candidate in row i: it is open, and its entry is not zero
  abbrev pub Candidate : Midstep O → ℕ → ℕ → Type 0
  Candidate t i j = (t.opened j ≡ true) × (gen_entry t i j ≢ O.𝟘)

  unfoldable pub candidate : (t : Midstep O) (i j : ℕ) → Dec (Candidate t i j)
  candidate t i j = candidate_by O (t.opened j) (gen_entry t i j) (O.dec (gen_entry t i j) O.𝟘)

  -- the pivot of row i: the number of an open column, or none where it is the auxiliary column i
  unfoldable pub pivot : ℕ → Midstep O → Option ℕ
  pivot i t = against (t.columns.aux_degree i) t.columns.gen_degree (best (Candidate t i) (candidate t i) t.columns.gen_degree C)
