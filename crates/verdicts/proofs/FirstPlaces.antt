-- Searches: whether some number passes a test, and the first one that does.
use Rattle.std.proofs.Common.{◌≡◌, ℕ, zero, suc, ◌<◌, ◌≤◌, min, Bool, true, false, ◌||◌, Some, None, Option, sym, refl, ap, ◌∙◌, subst, ap₂, true≢false, arith}
use mathlib.Core.Bool.{false≢true}
use native.Mathlib.Decide.{dec_le, dec_lt}
use Rattle.recurrences.specs.Fits.{first}
use Rattle.recurrences.proofs.FirstFailure.{First, first_tells}
use Rattle.verdicts.specs.Searches.{some_below}

left_of : (a b : Bool) → a || b ≡ false → a ≡ false
left_of true b e = e
left_of false b e = refl

right_of : (a b : Bool) → a || b ≡ false → b ≡ false
right_of true b e = absurd (true≢false e)
right_of false b e = e

pub some_if : (n : ℕ) (test : ℕ → Bool) (i : ℕ) → i < n → test i ≡ true → some_below n test ≡ true
unfolding some_below
some_if zero test i h e = absurd (omega arith)
some_if (suc n) test i h e = go (dec_lt i n) (λ l. some_if n test i l e)
  where
    here : (b : Bool) → test n ≡ true → b || test n ≡ true
    here true t = refl
    here false t = t

    go : Dec (i < n) → (i < n → some_below n test ≡ true) → some_below n test || test n ≡ true
    go (yes l) ih = ap (λ (b : Bool). b || test n) (ih l)
    go (no l) ih = here (some_below n test) (ap test (let same : n ≡ i = omega arith in same) ∙ e)

pub some_tells : (n : ℕ) (test : ℕ → Bool) → some_below n test ≡ true → (i : ℕ) × (i < n) × (test i ≡ true)
unfolding some_below
some_tells zero test e = absurd (false≢true e)
some_tells (suc n) test e = by (some_below n test) (λ s. some_tells n test s) e
  where
    by : (b : Bool) → (b ≡ true → (i : ℕ) × (i < n) × (test i ≡ true)) → b || test n ≡ true → (i : ℕ) × (i < suc n) × (test i ≡ true)
    by true ih e = let w = ih refl in (w.0, omega (arith, w.1), w.2)
    by false ih e = (n, omega arith, e)

pub none_if : (n : ℕ) (test : ℕ → Bool) → ((i : ℕ) → i < n → test i ≡ false) → some_below n test ≡ false
unfolding some_below
none_if zero test h = refl
none_if (suc n) test h = ap₂ ◌||◌ (none_if n test (λ i l. h i (omega arith))) (h n (omega arith))

pub none_tells : (n : ℕ) (test : ℕ → Bool) → some_below n test ≡ false → (i : ℕ) → i < n → test i ≡ false
unfolding some_below
none_tells zero test e i h = absurd (omega arith)
none_tells (suc n) test e i h = go (dec_lt i n) (λ l. none_tells n test (left_of (some_below n test) (test n) e) i l)
  where
    go : Dec (i < n) → (i < n → test i ≡ false) → test i ≡ false
    go (yes l) ih = ih l
    go (no l) ih = ap test (let same : i ≡ n = omega arith in same) ∙ right_of (some_below n test) (test n) e

-- what the first number that passes tells is told of one number alone
module _ (test : ℕ → Bool) (from count : ℕ) where
  alone : (o o' : Option ℕ) → First test from count o → First test from count o' → o ≡ o'
  alone None None t t' = refl
  alone None (Some k) t t' = absurd (false≢true (sym (t k t'.0 t'.1) ∙ t'.2))
  alone (Some k) None t t' = absurd (false≢true (sym (t' k t.0 t.1) ∙ t.2))
  alone (Some k) (Some k') t t' = ap Some (go (dec_lt k k') (dec_lt k' k))
    where
      go : Dec (k < k') → Dec (k' < k) → k ≡ k'
      go (yes l) d = absurd (false≢true (sym (t'.3 k t.0 l) ∙ t.2))
      go (no l) (yes l') = absurd (false≢true (sym (t.3 k' t'.0 l') ∙ t'.2))
      go (no l) (no l') = omega arith

  pub first_is : (o : Option ℕ) → First test from count o → o ≡ first test from count
  first_is o t = alone o (first test from count) t (first_tells test count from)

-- the lesser of two numbers, of which each may be missing
abbrev pub earlier : Option ℕ → Option ℕ → Option ℕ
earlier None y = y
earlier (Some a) None = Some a
earlier (Some a) (Some b) = Some (min a b)

-- of two tests, the first number that passes one of them
module _ (p q : ℕ → Bool) (from count : ℕ) where
  either : (a b : Bool) → a ≡ false → b ≡ false → a || b ≡ false
  either a b e f = ap₂ ◌||◌ e f

  one : (a b : Bool) → a ≡ true → a || b ≡ true
  one a b e = ap (λ (x : Bool). x || b) e

  other : (a b : Bool) → b ≡ true → a || b ≡ true
  other true b e = refl
  other false b e = e

  pub first_of_either : (x y : Option ℕ) → First p from count x → First q from count y → First (λ i. p i || q i) from count (earlier x y)
  first_of_either None None s t = λ i a b. either (p i) (q i) (s i a b) (t i a b)
  first_of_either None (Some k) s t = (t.0, t.1, other (p k) (q k) t.2, λ i a b. either (p i) (q i) (s i a (omega (arith, t.1))) (t.3 i a b))
  first_of_either (Some k) None s t = (s.0, s.1, one (p k) (q k) s.2, λ i a b. either (p i) (q i) (s.3 i a b) (t i a (omega (arith, s.1))))
  first_of_either (Some k) (Some l) s t = go (dec_le k l)
    where
      go : Dec (k ≤ l) → First (λ i. p i || q i) from count (Some (min k l))
      go (yes h) = subst (λ (m : ℕ). First (λ i. p i || q i) from count (Some m)) (let e : k ≡ min k l = omega arith in e)
          (s.0, s.1, one (p k) (q k) s.2, λ i a b. either (p i) (q i) (s.3 i a b) (t.3 i a (omega arith)))
      go (no h) = subst (λ (m : ℕ). First (λ i. p i || q i) from count (Some m)) (let e : l ≡ min k l = omega arith in e)
          (t.0, t.1, other (p l) (q l) t.2, λ i a b. either (p i) (q i) (s.3 i a (omega arith)) (t.3 i a b))
