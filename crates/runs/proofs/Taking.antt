-- One matrix more: the codes of the matrices taken grow by its codes, and the run was running before it.
use Rattle.std.proofs.Common.{◌≡◌, ℕ, ◌+◌, ◌*◌, ◌<◌, ◌≤◌, Bool, true, cond, ltb, ◌≢◌, List, ◌++◌, length, get_or, set, sym, ap, ◌∙◌, subst, ap₂, arith, get_or-set_other, get_or-set_same, below_more}
use native.Mathlib.Decide.{dec_lt}
use Rattle.std.proofs.lemmas.Bool.{cond-true, cond_both, lt-ltb}
use Rattle.std.proofs.lemmas.List.{get_or_past}
use Rattle.rings.specs.Arithmetic.{Arithmetic}
use Rattle.recurrences.specs.Codes.{all_codes}
use Rattle.recurrences.specs.declared.phase.Phase.TheVariants.{Running}
use Rattle.recurrences.specs.Columns.{Columns}
use Rattle.recurrences.specs.Phases.{phase_at}
use Rattle.recurrences.specs.Reading.{matrices_in}
use Rattle.recurrences.specs.Run.{run}
use Rattle.recurrences.proofs.Dependence.{run_same}
use Rattle.runs.specs.declared.tables.Matrix.{Matrix}
use Rattle.runs.specs.declared.tables.State.{State}
use Rattle.runs.specs.Operations.{operations_of}
use Rattle.runs.specs.Ran.{RanIn, is_running}
use Rattle.runs.specs.Recorded.{recorded}
use Rattle.runs.specs.Sound.{run_of}
use Rattle.runs.specs.Views.{matrices_of, matrix_of, vector_of, no_matrix, no_vector}
use Rattle.runs.proofs.CodesAt.{code_at}
use Rattle.runs.proofs.Recording.{codes_of, codes_push}

-- the entries of a list of codes are codes, also past its end
code_in : (q : ℕ) (xs : List ℕ) → 0 < q → all_codes q xs ≡ true → (i : ℕ) → get_or xs i 0 < q
code_in q xs h e i = elim (dec_lt i (length xs)) [ yes p ↦ code_at q xs e i p | no n ↦ rw (get_or_past xs i 0 (omega arith)) h ]

pub matrix_codes : (q N : ℕ) (xs : List ℕ) → 0 < q → all_codes q xs ≡ true → (l r c : ℕ) → matrices_in N N xs l r c < q
matrix_codes q N xs h e l r c =
    cond_both (ltb r N) (cond (ltb c N) (get_or xs ((l * N + r) * N + c) 0) 0) 0 (λ x. x < q)
    (λ _. cond_both (ltb c N) (get_or xs ((l * N + r) * N + c) 0) 0 (λ x. x < q) (λ _. code_in q xs h e ((l * N + r) * N + c)) (λ _. h)) (λ _. h)

module _ (N n : ℕ) (ms : List Matrix) (x : Matrix) (room : n < length ms) where
  set_earlier : (l r c : ℕ) → l < n → matrices_of N (set ms n x) l r c ≡ matrices_of N ms l r c
  set_earlier l r c ln = ap (λ (y : Matrix). vector_of N (get_or y.rows r no_vector) c) (get_or-set_other ms n l x no_matrix (let ne : l ≢ n = omega arith in ne))

  set_last : (r c : ℕ) → matrices_of N (set ms n x) n r c ≡ matrix_of N x r c
  set_last r c = ap (λ (y : Matrix). vector_of N (get_or y.rows r no_vector) c) (get_or-set_same ms n x no_matrix room)

  recorded_more : (m : List ℕ) → 0 < N → length m ≡ N * N → ((r c : ℕ) → matrix_of N x r c ≡ matrices_in N N m 0 r c)
      → codes_of N (n + 1) (matrices_of N (set ms n x)) ≡ codes_of N n (matrices_of N ms) ++ m
  recorded_more m h len is =
      codes_push N n (matrices_of N ms) (matrices_of N (set ms n x)) m h len (λ l r c ln rN cN. set_earlier l r c ln)
      (λ r c rN cN. set_last r c ∙ is r c
      ∙ cond-true (ltb r N) (cond (ltb c N) (get_or m ((0 * N + r) * N + c) 0) 0) 0 (lt-ltb r N rN)
      ∙ cond-true (ltb c N) (get_or m ((0 * N + r) * N + c) 0) 0 (lt-ltb c N cN)
      ∙ ap (λ (i : ℕ). get_or m (i * N + c) 0) (let e : 0 * N + r ≡ r = omega arith in e))

  abbrev Ran : Arithmetic → ℕ → ℕ → List Matrix → Type 0
  Ran a bound k ys = (i : ℕ) → i < k
      → is_running (phase_at (operations_of a).ring N N bound (run (operations_of a) N N (matrices_of N ys) i)) ≡ true

  ran_more : (a : Arithmetic) (bound : ℕ) → Ran a bound n ms → phase_at (operations_of a).ring N N bound (run (operations_of a) N N (matrices_of N ms) n) ≡ Running
      → Ran a bound (n + 1) (set ms n x)
  ran_more a bound ran now =
      below_more (λ i. is_running (phase_at (operations_of a).ring N N bound (run (operations_of a) N N (matrices_of N (set ms n x)) i)) ≡ true) n
      (λ i h. ap at (same i (omega arith)) ∙ ran i h) (ap at (same n (omega arith)) ∙ ap is_running now)
    where
      at : Columns (operations_of a).ring → Bool
      at s = is_running (phase_at (operations_of a).ring N N bound s)

      same : (i : ℕ) → i ≤ n → run (operations_of a) N N (matrices_of N (set ms n x)) i ≡ run (operations_of a) N N (matrices_of N ms) i
      same i h = run_same (operations_of a) N N _ _ i (λ l r c ln rN cN. set_earlier l r c (omega arith))

-- from a state s to one with the matrix x behind
module _ (s t : State) (x : Matrix) (room : s.count < length s.matrices) (size : t.size ≡ s.size) (count : t.count ≡ s.count + 1) (matrices : t.matrices ≡ set s.matrices s.count x) where
  pub recorded_grows : (m : List ℕ) → 0 < s.size → length m ≡ s.size * s.size → ((r c : ℕ) → matrix_of s.size x r c ≡ matrices_in s.size s.size m 0 r c)
      → recorded t ≡ recorded s ++ m
  recorded_grows m h len is =
      ap (λ (N : ℕ). codes_of N t.count (matrices_of N t.matrices)) size
      ∙ ap₂ (λ (n : ℕ) (ys : List Matrix). codes_of s.size n (matrices_of s.size ys)) count matrices
      ∙ recorded_more s.size s.count s.matrices x room m h len is

  pub ran_grows : (a : Arithmetic) (bound : ℕ) → RanIn a bound s → phase_at (operations_of a).ring s.size s.size bound (run_of a s) ≡ Running → RanIn a bound t
  ran_grows a bound ran now =
      subst (λ (N : ℕ). (i : ℕ) → i < t.count → is_running (phase_at (operations_of a).ring N N bound (run (operations_of a) N N (matrices_of N t.matrices) i)) ≡ true) (sym size)
      (subst (λ (n : ℕ). (i : ℕ) → i < n → is_running (phase_at (operations_of a).ring s.size s.size bound (run (operations_of a) s.size s.size (matrices_of s.size t.matrices) i)) ≡ true) (sym count)
      (subst (λ (ys : List Matrix). (i : ℕ) → i < s.count + 1 → is_running (phase_at (operations_of a).ring s.size s.size bound (run (operations_of a) s.size s.size (matrices_of s.size ys) i)) ≡ true) (sym matrices)
      (ran_more s.size s.count s.matrices x room a bound ran now)))
