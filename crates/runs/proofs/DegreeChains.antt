-- What the library says of a sum, a maximum and a minimum, as the total, the greatest and the least.
use Rattle.std.proofs.Common.{◌≡◌, ℕ, zero, suc, ◌+◌, ◌*◌, ◌<◌, ◌≤◌, List, length, take, sum_by, Option, Some, None, unwrap_or, MatchOption, sym, refl, ap, ◌∙◌, arith, add-one}
use Rattle.std.proofs.Math.Seq.{take-length}
use Rattle.std.proofs.lemmas.List.Sums.{sum_by_more}
use Rattle.recurrences.specs.Degrees.{total, greatest, least}
use Rattle.recurrences.proofs.Totals.{total_le, total_const, greatest_is, least_is, least_among}
use Rattle.runs.specs.Views.{no_column, degree_at}
use Rattle.runs.specs.declared.tables.Column.{Column}

sum_so_far : (cs : List Column) (i : ℕ) → i ≤ length cs → sum_by (λ (c : Column). c.degree) (take i cs) ≡ total i (degree_at cs)
unfolding total
sum_so_far cs zero h = refl
sum_so_far cs (suc i) h =
    ap (λ (n : ℕ). sum_by (λ (c : Column). c.degree) (take n cs)) (sym (add-one i)) ∙ sum_by_more (λ (c : Column). c.degree) cs i no_column (omega arith)
    ∙ ap (λ (s : ℕ). s + degree_at cs i) (sum_so_far cs i (omega arith))

pub sum_is_total : (cs : List Column) → sum_by (λ (c : Column). c.degree) cs ≡ total (length cs) (degree_at cs)
sum_is_total cs = ap (sum_by (λ (c : Column). c.degree)) (sym (take-length cs)) ∙ sum_so_far cs (length cs) (omega arith)

pub total_low : (n m : ℕ) (d : ℕ → ℕ) → ((i : ℕ) → i < n → d i ≤ m) → total n d ≤ n * m
total_low n m d h = omega (arith, total_le n d (λ _. m) h, total_const n m)

greatest_below : (n m : ℕ) (d : ℕ → ℕ) → ((i : ℕ) → i < n → d i ≤ m) → greatest n d ≤ m
greatest_below zero m d h = omega arith
greatest_below (suc n) m d h = let x = greatest_below n m d (λ i l. h i (omega arith)) in let y = h n (omega arith) in omega arith

module _ (n : ℕ) (d : ℕ → ℕ) where
  pub maximum_is_greatest : (o : Option ℕ) → MatchOption o (n ≡ 0) (λ m. (i : ℕ) → i < n → d i ≤ m) → MatchOption o (n ≡ 0) (λ m. (i : ℕ) × (i < n) × (d i ≡ m)) → unwrap_or o 0 ≡ greatest n d
  maximum_is_greatest None none _ = ap (λ (k : ℕ). greatest k d) (sym none)
  maximum_is_greatest (Some m) above (i, l, e) = omega (arith, greatest_below n m d above, greatest_is n d i l)

  pub minimum_is_least : (o : Option ℕ) → MatchOption o (n ≡ 0) (λ m. (i : ℕ) → i < n → m ≤ d i) → MatchOption o (n ≡ 0) (λ m. (i : ℕ) × (i < n) × (d i ≡ m)) → unwrap_or o 0 ≡ least n d
  minimum_is_least None none _ = ap (λ (k : ℕ). least k d) (sym none)
  minimum_is_least (Some m) below (i, l, e) = go (least_among n d (omega arith))
    where
      go : (j : ℕ) × (j < n) × (least n d ≡ d j) → m ≡ least n d
      go (j, k, f) = omega (arith, below j k, least_is n d i l)
