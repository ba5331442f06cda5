-- The pivot of a row from the entries of its generator columns and their degrees, those of column j at j, where a column whose entry is 0 is no candidate.
use Rattle.std.specs.Prelude.{◌≡◌, ℕ, ◌<◌, cond, ◌≢◌, List, Some, None, Option, nat_lt, slice_index}
use Rattle.std.proofs.Math.Decide.{ℕ_discrete}
use Rattle.recurrences.specs.Pivot.{best, against}

-- entry j is not 0
abbrev pub Nonzero : List ℕ → ℕ → Type 0
Nonzero es j = slice_index es j ≢ 0

unfoldable pub nonzero_by : (x : ℕ) → Dec (x ≡ 0) → Dec (x ≢ 0)
nonzero_by x (yes z) = no (λ n. n z)
nonzero_by x (no n) = yes n

unfoldable pub nonzero : (es : List ℕ) (j : ℕ) → Dec (Nonzero es j)
nonzero es j = nonzero_by (slice_index es j) (ℕ_discrete (slice_index es j) 0)

-- of the first N columns that are candidates the one of least degree, and of several such the lowest
abbrev pub best_of : List ℕ → (ℕ → ℕ) → ℕ → Option ℕ
best_of es d N = best (Nonzero es) (nonzero es) d N

-- the best against an auxiliary column of degree x
abbrev pub pivot_of : List ℕ → (ℕ → ℕ) → ℕ → ℕ → Option ℕ
pivot_of es d x N = against x d (best_of es d N)

-- of a candidate j and the best before it, the better
abbrev pub better_of : (ℕ → ℕ) → ℕ → Option ℕ → Option ℕ
better_of d j None = Some j
better_of d j (Some b) = cond (nat_lt (d j) (d b)) (Some j) (Some b)

-- what is chosen, if anything, is below n
abbrev pub Within : ℕ → Option ℕ → Type 0
Within n None = Unit {0}
Within n (Some b) = b < n

-- what is chosen, if anything, is a candidate below n
abbrev pub Found : List ℕ → ℕ → Option ℕ → Type 0
Found es n None = Unit {0}
Found es n (Some b) = (b < n) × Nonzero es b
