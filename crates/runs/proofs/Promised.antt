-- A run that took each matrix while it was running keeps the promise.
use Rattle.std.proofs.Common.{◌≡◌, ℕ, ◌+◌, ◌*◌, ◌/◌, ◌<◌, ◌≤◌, cond, ltb, List, ◌++◌, length, Option, sym, ap, ◌∙◌, mul-pos, le-div_iff_mul-le, div-mul-le_self, add-one, arith, length-append}
use Rattle.std.proofs.lemmas.List.{get_or_append_left}
use Rattle.rings.specs.Meaning.{Meaning, Laws, Inverse}
use Rattle.rings.specs.Arithmetic.{reading}
use Rattle.recurrences.specs.declared.phase.Phase.TheVariants.{Running}
use Rattle.recurrences.specs.Degrees.{greatest}
use Rattle.recurrences.specs.Reading.{matrices_in}
use Rattle.recurrences.specs.Theorems.{run_of}
use Rattle.recurrences.specs.Phases.{phase_at}
use Rattle.recurrences.specs.Operations.{numbers}
use Rattle.recurrences.proofs.PhaseFacts.{short_says, short_if}
use Rattle.recurrences.proofs.Rooms.{matrix_room, row_room}
use Rattle.recurrences.proofs.RunTheorems as theorem
use Rattle.runs.specs.Standings.{count_of}
use Rattle.runs.specs.Promise.{Promise}

-- the entries of a matrix of the list lie within the list
entry_within : (N l r c L : ℕ) → l < L / (N * N) → r < N → c < N → (l * N + r) * N + c < L
entry_within N l r c L h rN cN = omega (arith, row_room l r N L (matrix_room l (N * N) L h) rN)

count_grows : (N : ℕ) (taken more : List ℕ) → 0 < N → count_of N taken ≤ count_of N (taken ++ more)
count_grows N taken more h = (le-div_iff_mul-le (mul-pos h h)).1 (omega (arith, div-mul-le_self (length taken) (N * N), length-append taken more))

begins : (N : ℕ) (taken more : List ℕ) (l r c : ℕ) → l < count_of N taken → r < N → c < N → matrices_in N N (taken ++ more) l r c ≡ matrices_in N N taken l r c
begins N taken more l r c h rN cN =
    ap (λ (x : ℕ). cond (ltb r N) (cond (ltb c N) x 0) 0) (get_or_append_left taken more 0 ((l * N + r) * N + c) (entry_within N l r c (length taken) h rN cN))

module _ (q : ℕ) (m : Meaning) (inv : ℕ → Option ℕ) (laws : Laws q m) (inverts : (a : ℕ) → a < q → Inverse q m a (inv a)) (N bound : ℕ) (positive : 0 < N) where
  pub promised : (taken : List ℕ)
      → ((i : ℕ) → i < count_of N taken → phase_at (numbers q m) N N bound (run_of q m inv N N (matrices_in N N taken) i) ≡ Running)
      → Promise (reading q m inv) N bound taken
  promised taken ran = record {
    degrees_add_up = theorem.degrees_add_up q m inv laws inverts N N M n ∙ ap (λ (k : ℕ). N * k) (sym (add-one n));
    columns_generate = theorem.columns_generate_numbers q m inv laws inverts N N M n;
    every_generator_pairs_off = theorem.degrees_are_least q m inv laws inverts N N M n;
    short_only_beyond_the_bound = λ e. (theorem.short_exactly_when_beyond q m inv laws inverts N N M n bound).0 (short_says bound _ _ _ e);
    short_if_beyond_the_bound = λ b. short_if bound _ _ _ ((theorem.short_exactly_when_beyond q m inv laws inverts N N M n bound).1 b);
    at_most_twice_the_bound = bounded.0;
    settled_within_bound_and_degree = λ _. bounded.1;
    settled_is_final = λ e more. theorem.settled_is_final q m inv laws inverts N N M n bound positive e (matrices_in N N (taken ++ more)) (count_of N (taken ++ more)) (count_grows N taken more positive) (begins N taken more);
  }
    where
      n : ℕ
      n = count_of N taken

      M : ℕ → ℕ → ℕ → ℕ
      M = matrices_in N N taken

      bounded : (n ≤ 2 * bound) × (n ≤ bound + greatest N (run_of q m inv N N M n).gen_degree)
      bounded = theorem.counts_are_bounded q m inv laws inverts N N M n bound positive ran
