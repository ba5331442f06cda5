-- What a column loses of another, whose coefficients beyond the first are left out.
use Rattle.std.specs.Prelude.{ℕ, cond, ◌==◌, nat_lt}
use Rattle.rings.specs.Arithmetic.{Arithmetic}

-- x plus c times y
abbrev pub plus_times : Arithmetic → ℕ → ℕ → ℕ → ℕ
plus_times a c x y = a.sum x (a.product c y)

-- the column f with c times the first `count` coefficients of p added, for vectors of N entries
abbrev pub with_multiple : Arithmetic → ℕ → ℕ → ℕ → (ℕ → ℕ → ℕ) → (ℕ → ℕ → ℕ) → ℕ → ℕ → ℕ
with_multiple a N count c p f k = cond (nat_lt k count) (λ e. cond (nat_lt e N) (plus_times a c (f k e) (p k e)) 0) (f k)

-- the column f less c times the first `count` coefficients of p
abbrev pub lessened : Arithmetic → ℕ → ℕ → ℕ → (ℕ → ℕ → ℕ) → (ℕ → ℕ → ℕ) → ℕ → ℕ → ℕ
lessened a N count c p f = with_multiple a N count (a.opposite c) p f

-- the column f, whose entry is x, reduced by the pivot column p, whose entry has the inverse y
abbrev pub reduced_by : Arithmetic → ℕ → ℕ → ℕ → ℕ → (ℕ → ℕ → ℕ) → (ℕ → ℕ → ℕ) → ℕ → ℕ → ℕ
reduced_by a N count x y p f = cond (x == 0) f (lessened a N count (a.product x y) p f)
