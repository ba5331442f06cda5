-- The degrees of a run are small.
use Rattle.std.proofs.Common.{◌≡◌, ℕ, zero, suc, ◌+◌, ◌<◌, ◌≤◌, Bool, true, false, cond, ltb, List, get_or, refl, mul-le-mul, arith}
use Rattle.rings.specs.Arithmetic.{Arithmetic}
use Rattle.recurrences.specs.Degrees.{total}
use Rattle.recurrences.proofs.Totals.{greatest_is, greatest_total}
use Rattle.std.proofs.lemmas.Bool.{ltb-true}
use Rattle.runs.specs.Promise.{Promise}
use Rattle.runs.specs.Standings.{count_of, columns_after, shown}

module _ (a : Arithmetic) (N bound : ℕ) (taken : List ℕ) (small : N ≤ 4) (bounded : bound ≤ 64) (promise : Promise a N bound taken) where
  pub count_small : count_of N taken ≤ 128
  count_small = omega (arith, promise.at_most_twice_the_bound)

  pub total_small : total N (columns_after a N taken).gen_degree ≤ 516
  total_small =
      let more : count_of N taken + 1 ≤ 129 = omega (arith, count_small) in
      omega (arith, promise.degrees_add_up, mul-le-mul small more)

  pub degree_small : (j : ℕ) → j < N → (columns_after a N taken).gen_degree j ≤ 516
  degree_small j h = omega (arith, greatest_is N (columns_after a N taken).gen_degree j h, greatest_total N (columns_after a N taken).gen_degree, total_small)

  shown_by : (j : ℕ) → cond (ltb j N) ((columns_after a N taken).gen_degree j) 0 ≤ 516
  shown_by j = by (ltb j N) (λ e. degree_small j (ltb-true j N e))
    where
      by : (b : Bool) → (b ≡ true → (columns_after a N taken).gen_degree j ≤ 516) → cond b ((columns_after a N taken).gen_degree j) 0 ≤ 516
      by true h = h refl
      by false h = omega arith

  pub shown_small : (j : ℕ) → j < 4 → get_or (shown N (columns_after a N taken).gen_degree) j 0 ≤ 516
  shown_small zero h = shown_by 0
  shown_small (suc zero) h = shown_by 1
  shown_small (suc (suc zero)) h = shown_by 2
  shown_small (suc (suc (suc zero))) h = shown_by 3
  shown_small (suc (suc (suc (suc j)))) h = absurd (omega arith)
