-- What is done to the first entries of vectors, entry by entry.
use Rattle.std.proofs.Common.{◌≡◌, ℕ, ◌+◌, ◌<◌, cond, ltb, List, length, get_or, set, sym, refl, ap, ◌∙◌, arith, length-set}
use Rattle.rings.specs.Arithmetic.{Arithmetic}
use Rattle.recurrences.specs.Sums.{sum}
use Rattle.recurrences.proofs.Summing.{sum_none, sum_more}
use Rattle.runs.specs.Operations.{operations_of}
use Rattle.runs.specs.Losses.{plus_times}
use Rattle.runs.proofs.Cut.{Cut, cut_start, cut_here, cut_more, cut_to}

module _ (a : Arithmetic) (f : ℕ → ℕ) where
  -- r is the sum of the first n terms
  abbrev pub SumOf : ℕ → ℕ → Type 0
  SumOf n r = r ≡ sum (operations_of a).ring n f

  pub no_terms : SumOf 0 0
  no_terms = sum_none (operations_of a).ring f

  pub term_more : (n r s : ℕ) → SumOf n r → s ≡ a.sum r (f n) → SumOf (n + 1) s
  term_more n r s h e = e ∙ ap (λ (x : ℕ). a.sum x (f n)) h ∙ sum_more (operations_of a).ring f n

  pub all_terms : (n m r : ℕ) → m ≡ n → SumOf n r → SumOf m r
  all_terms n m r e h = h ∙ ap (λ (x : ℕ). sum (operations_of a).ring x f) (sym e)

module _ (a : Arithmetic) (c : ℕ) (own other : List ℕ) where
  -- c times the first n entries of the other vector is added
  abbrev pub Added : ℕ → List ℕ → Type 0
  Added n xs = (length xs ≡ 4) × Cut 0 (λ (x : ℕ). x) (λ e. plus_times a c (get_or own e 0) (get_or other e 0)) (λ e. get_or own e 0) n xs

  pub none_added : length own ≡ 4 → Added 0 own
  none_added long = (long, cut_start 0 (λ (x : ℕ). x) _ _ own (λ e. refl))

  pub added_more : (n : ℕ) (xs new : List ℕ) → n < 4 → Added n xs → new ≡ set xs n (plus_times a c (get_or xs n 0) (get_or other n 0)) → Added (n + 1) new
  added_more n xs new lt (long, cut) e =
      let v = plus_times a c (get_or xs n 0) (get_or other n 0) in
      let here = cut_here 0 (λ (x : ℕ). x) _ _ xs n cut in
      let more = cut_more 0 (λ (x : ℕ). x) _ _ xs n v (omega arith) cut (ap (λ (x : ℕ). plus_times a c x (get_or other n 0)) here) in
      (ap (λ (ys : List ℕ). length ys) e ∙ length-set xs n v ∙ long, λ k. ap (λ (ys : List ℕ). get_or ys k 0) e ∙ more k)

  pub all_added : (n m : ℕ) (xs : List ℕ) → m ≡ n → Added n xs → (e : ℕ) → get_or xs e 0 ≡ cond (ltb e m) (plus_times a c (get_or own e 0) (get_or other e 0)) (get_or own e 0)
  all_added n m xs e h = cut_to 0 (λ (x : ℕ). x) _ _ xs n m (sym e) h.1
