-- The codes of the matrices taken hold these matrices, and one more matrix goes behind them.
use Rattle.std.proofs.Common.{◌≡◌, ℕ, ◌+◌, ◌*◌, ◌/◌, ◌%◌, ◌<◌, cond, ltb, List, [], ◌++◌, length, get_or, sym, ap, ◌∙◌, ap₂, mod-lt, mul_assoc, mul_comm, div-lt_iff_lt-mul, add-mul, mul-pos, one-mul, zero-mul, arith}
use native.Mathlib.Nat.{mul-div_left, mod-add-div}
use lib.Arith.{digits_div, digits_mod, digits_lt}
use Rattle.std.proofs.lemmas.Bool.{cond-true, lt-ltb}
use Rattle.recurrences.specs.Reading.{matrices_in}
use Rattle.recurrences.specs.Standing.{listed}
use Rattle.recurrences.proofs.Listing.{length_listed, get_or_listed, listed_same, listed_append, listed_own}
use Rattle.runs.specs.Standings.{count_of}

-- place l, row r and entry c stand at (l N + r) N + c, which tells them
module _ (N l r c : ℕ) (rN : r < N) (cN : c < N) where
  pub place_told : ((l * N + r) * N + c) / N / N ≡ l
  place_told = ap (λ (x : ℕ). x / N) (digits_div (l * N + r) cN) ∙ digits_div l rN

  pub row_told : ((l * N + r) * N + c) / N % N ≡ r
  row_told = ap (λ (x : ℕ). x % N) (digits_div (l * N + r) cN) ∙ digits_mod l rN

  pub entry_told : ((l * N + r) * N + c) % N ≡ c
  entry_told = digits_mod (l * N + r) cN

  pub entry_below : (n : ℕ) → l < n → (l * N + r) * N + c < n * (N * N)
  entry_below n ln = omega (arith, digits_lt (digits_lt ln rN) cN, mul_assoc n N N)

-- the list of n matrices with the entries M
abbrev pub codes_of : ℕ → ℕ → (ℕ → ℕ → ℕ → ℕ) → List ℕ
codes_of N n M = listed (n * (N * N)) (λ i. M (i / N / N) (i / N % N) (i % N))

pub count_of_codes : (N n : ℕ) (M : ℕ → ℕ → ℕ → ℕ) → 0 < N → count_of N (codes_of N n M) ≡ n
count_of_codes N n M h = ap (λ (x : ℕ). x / (N * N)) (length_listed (n * (N * N)) _) ∙ mul-div_left n (mul-pos h h)

pub entries_of_codes : (N n : ℕ) (M : ℕ → ℕ → ℕ → ℕ) (l r c : ℕ) → l < n → r < N → c < N → matrices_in N N (codes_of N n M) l r c ≡ M l r c
entries_of_codes N n M l r c ln rN cN =
    cond-true (ltb r N) (cond (ltb c N) (get_or (codes_of N n M) ((l * N + r) * N + c) 0) 0) 0 (lt-ltb r N rN)
    ∙ cond-true (ltb c N) (get_or (codes_of N n M) ((l * N + r) * N + c) 0) 0 (lt-ltb c N cN)
    ∙ get_or_listed (n * (N * N)) _ ((l * N + r) * N + c) 0 (entry_below N l r c rN cN n ln)
    ∙ ap (λ (x : ℕ). M x (i / N % N) (i % N)) (place_told N l r c rN cN)
    ∙ ap₂ (λ (x y : ℕ). M l x y) (row_told N l r c rN cN) (entry_told N l r c rN cN)
  where
    i : ℕ
    i = (l * N + r) * N + c

-- a number below n (N N) is told by a place below n, a row and an entry
divided : (N i : ℕ) → i / N * N + i % N ≡ i
divided N i = omega (arith, mod-add-div i N, mul_comm N (i / N))

place_below : (N n i : ℕ) → 0 < N → i < n * (N * N) → i / N / N < n
place_below N n i h lt = (div-lt_iff_lt-mul h).1 ((div-lt_iff_lt-mul h).1 (omega (arith, mul_assoc n N N)))

-- one matrix, with its codes in the list m, behind n
pub codes_push : (N n : ℕ) (M M' : ℕ → ℕ → ℕ → ℕ) (m : List ℕ) → 0 < N → length m ≡ N * N
    → ((l r c : ℕ) → l < n → r < N → c < N → M' l r c ≡ M l r c)
    → ((r c : ℕ) → r < N → c < N → M' n r c ≡ get_or m (r * N + c) 0)
    → codes_of N (n + 1) M' ≡ codes_of N n M ++ m
codes_push N n M M' m h len before last =
    ap (λ (k : ℕ). listed k f) (add-mul n 1 (N * N) ∙ ap (λ (k : ℕ). n * (N * N) + k) (one-mul (N * N)))
    ∙ listed_append (n * (N * N)) (N * N) f
    ∙ ap₂ ◌++◌
    (listed_same (n * (N * N)) f _ (λ i lt. before (i / N / N) (i / N % N) (i % N) (place_below N n i h lt) (mod-lt (i / N) h) (mod-lt i h)))
    (listed_same (N * N) _ (λ i. get_or m i 0) behind ∙ ap (λ (k : ℕ). listed k (λ i. get_or m i 0)) (sym len) ∙ listed_own m 0)
  where
    f : ℕ → ℕ
    f i = M' (i / N / N) (i / N % N) (i % N)

    behind : (i : ℕ) → i < N * N → f (n * (N * N) + i) ≡ get_or m i 0
    behind i lt =
        let rN : i / N < N = (div-lt_iff_lt-mul h).1 lt in
        let cN : i % N < N = mod-lt i h in
        let at : n * (N * N) + i ≡ (n * N + i / N) * N + i % N = omega (arith, add-mul (n * N) (i / N) N, mul_assoc n N N, divided N i) in
        ap f at
        ∙ ap (λ (x : ℕ). M' x (((n * N + i / N) * N + i % N) / N % N) (((n * N + i / N) * N + i % N) % N)) (place_told N n (i / N) (i % N) rN cN)
        ∙ ap₂ (λ (x y : ℕ). M' n x y) (row_told N n (i / N) (i % N) rN cN) (entry_told N n (i / N) (i % N) rN cN)
        ∙ last (i / N) (i % N) rN cN
        ∙ ap (λ (x : ℕ). get_or m x 0) (divided N i)

pub codes_none : (N n : ℕ) (M : ℕ → ℕ → ℕ → ℕ) → n ≡ 0 → codes_of N n M ≡ []
unfolding listed
codes_none N n M e = ap (λ (k : ℕ). listed k (λ i. M (i / N / N) (i / N % N) (i % N))) (ap (λ (k : ℕ). k * (N * N)) e ∙ zero-mul (N * N))
