-- A matrix row by row.
use native.Mathlib.Decide.{dec_lt}
use Rattle.std.proofs.lemmas.Bool.{cond-false, le-ltb}
use Rattle.std.proofs.Common.{◌≡◌, ℕ, zero, suc, ◌+◌, ◌-◌, ◌*◌, ◌<◌, ◌≤◌, take, drop, add-mul, one-mul, get_or-take, get_or-drop, Bool, true, false, cond, ltb, List, get_or, replicate, sym, refl, ap, ◌∙◌, zero-add, zero-mul, arith}
use mathlib.Core.Path.{fun_ext}
use Rattle.recurrences.specs.Reading.{matrices_in}
use Rattle.runs.specs.Equations.{entries_of}
use Rattle.runs.specs.Views.{no_vector, zero_vector, vector_of}
use Rattle.runs.proofs.Cut.{get_or_zeros}
use Rattle.runs.specs.declared.tables.Vector.{Vector}

-- row i of a matrix of N rows and columns lies within it
pub row_room : (N i : ℕ) → N ≤ 4 → i < N → i * N + N ≤ N * N
row_room zero i h k = absurd (omega arith)
row_room (suc zero) i h k = omega arith
row_room (suc (suc zero)) i h k = omega arith
row_room (suc (suc (suc zero))) i h k = omega arith
row_room (suc (suc (suc (suc zero)))) i h k = omega arith
row_room (suc (suc (suc (suc (suc N))))) i h k = absurd (omega arith)

-- row i of the codes
abbrev pub row_in : ℕ → List ℕ → ℕ → ℕ → ℕ
row_in N codes i c = cond (ltb c N) (get_or codes (i * N + c) 0) 0

twice : (b : Bool) (x y : ℕ) → x ≡ cond b y 0 → cond b x 0 ≡ cond b y 0
twice true x y h = h
twice false x y h = refl

pub line_is : (N i : ℕ) (codes : List ℕ) (v : Vector) → ((c : ℕ) → get_or v.entries c 0 ≡ cond (ltb c N) (get_or codes (i * N + c) 0) 0) → vector_of N v ≡ row_in N codes i
line_is N i codes v h = fun_ext (λ c. twice (ltb c N) (get_or v.entries c 0) (get_or codes (i * N + c) 0) (h c))

at_entry : (b : Bool) (f : ℕ → ℕ) (c : ℕ) → cond b f (λ _. 0) c ≡ cond b (f c) 0
at_entry true f c = refl
at_entry false f c = refl

pub rows_are : (N i c : ℕ) (codes : List ℕ) → cond (ltb i N) (row_in N codes i) (λ _. 0) c ≡ matrices_in N N codes 0 i c
rows_are N i c codes = at_entry (ltb i N) (row_in N codes i) c ∙ ap (λ (x : ℕ). cond (ltb i N) (cond (ltb c N) (get_or codes (x * N + c) 0) 0) 0) (sym (ap (λ (x : ℕ). x + i) (zero-mul N) ∙ zero-add i))

-- rows of zeros
pub zero_rows : (r : ℕ) → ◌≡◌ {A = ℕ → ℕ} (entries_of (get_or (replicate 4 zero_vector) r no_vector)) (λ _. 0)
zero_rows zero = fun_ext (get_or_zeros 4)
zero_rows (suc zero) = fun_ext (get_or_zeros 4)
zero_rows (suc (suc zero)) = fun_ext (get_or_zeros 4)
zero_rows (suc (suc (suc zero))) = fun_ext (get_or_zeros 4)
zero_rows (suc (suc (suc (suc r)))) = refl

-- the entries of row i, read from the codes of that row alone
pub codes_of_row : (N i c : ℕ) (codes : List ℕ) → cond (ltb c N) (get_or (take ((i + 1) * N - i * N) (drop (i * N) codes)) c 0) 0 ≡ cond (ltb c N) (get_or codes (i * N + c) 0) 0
codes_of_row N i c codes = by (dec_lt c N)
  where
    by : Dec (c < N) → cond (ltb c N) (get_or (take ((i + 1) * N - i * N) (drop (i * N) codes)) c 0) 0 ≡ cond (ltb c N) (get_or codes (i * N + c) 0) 0
    by (yes lt) =
        ap (λ (x : ℕ). cond (ltb c N) x 0)
        (get_or-take ((i + 1) * N - i * N) (drop (i * N) codes) c 0 (omega (arith, add-mul i 1 N, one-mul N)) ∙ get_or-drop (i * N) codes c 0)
    by (no n) = cond-false (ltb c N) _ 0 (le-ltb c N (omega arith)) ∙ sym (cond-false (ltb c N) _ 0 (le-ltb c N (omega arith)))
