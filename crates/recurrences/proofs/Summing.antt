-- A finite sum as a loop or a fold makes it, and sums of equal terms.
use Rattle.std.proofs.Common.{◌≡◌, ℕ, zero, suc, ◌+◌, ◌<◌, ◌≤◌, List, length, get_or, take, fold, Option, sym, refl, ap, ◌∙◌, ap₂, add-one, arith}
use Rattle.std.proofs.Math.Seq.{take-length}
use Rattle.std.proofs.lemmas.List.Sums.{fold_more, fold_push}
use Rattle.std.proofs.lemmas.Fn.{fold_over}
use Rattle.std.proofs.lemmas.Iterator.{YieldsList}
use Rattle.std.specs.Fn.{Called}
use Rattle.std.specs.Iterator.{Drains}
use Rattle.std.specs.List.{FoldsTo}
use denote.Param.Members.{Mut}
use Rattle.recurrences.specs.Operations.{Operations}
use Rattle.recurrences.specs.Sums.{sum}

module _ (O : Operations) where
  pub sum_none : (g : ℕ → O.K) → O.𝟘 ≡ sum O 0 g
  unfolding sum
  sum_none g = refl

  pub sum_more : (g : ℕ → O.K) (i : ℕ) → O.add (sum O i g) (g i) ≡ sum O (i + 1) g
  unfolding sum
  sum_more g i = rw (add-one i)

  pub sum_same : (n : ℕ) (f g : ℕ → O.K) → ((i : ℕ) → i < n → f i ≡ g i) → sum O n f ≡ sum O n g
  unfolding sum
  sum_same zero f g h = refl
  sum_same (suc n) f g h = ap₂ O.add (sum_same n f g (λ i l. h i (omega arith))) (h n (omega arith))

  -- a fold that adds a term for each item is the sum of the terms
  module _ {A : Type 0} (t : A → O.K) (xs : List A) (d : A) where
    abbrev add : O.K → A → O.K
    add a x = O.add a (t x)

    fold_so_far : (i : ℕ) → i ≤ length xs → fold add O.𝟘 (take i xs) ≡ sum O i (λ k. t (get_or xs k d))
    unfolding sum
    fold_so_far zero h = refl
    fold_so_far (suc i) h =
        ap (λ (n : ℕ). fold add O.𝟘 (take n xs)) (sym (add-one i)) ∙ fold_more add O.𝟘 xs i d (omega arith)
        ∙ ap (λ (a : O.K). add a (get_or xs i d)) (fold_so_far i (omega arith))

    fold_sum : fold add O.𝟘 xs ≡ sum O (length xs) (λ k. t (get_or xs k d))
    fold_sum = ap (fold add O.𝟘) (sym (take-length xs)) ∙ fold_so_far (length xs) (omega arith)

  -- what `fold` answers over an iterator, where the closure adds a term for each item
  pub fold_adds : {S A B F : Type 0} {steps : S → Option A → S → Type 0} {v : A → B} {g : Mut F (O.K × (A × Unit {0})) O.K} {s : S} {all : List B} (f : F) (t : B → O.K) (d : B) (r : O.K)
      → YieldsList steps v s all → ((a : O.K) (x : A) (b : O.K) (f' : F) → Called g f (a, (x, tt)) b f' → (b ≡ O.add a (t (v x))) × (f' ≡ f))
      → (xs : List A) × (f' : F) × Drains steps s xs × FoldsTo {P = F × O.K} (λ p x q. Called g p.0 (p.1, (x, tt)) q.1 q.0) (f, O.𝟘) xs (f', r)
      → r ≡ sum O (length all) (λ k. t (get_or all k d))
  fold_adds {steps = steps} {v = v} {g = g} {s = s} {all = all} f t d r items calls ran =
      fold_over steps v g (λ ys a. a ≡ fold (λ a y. O.add a (t y)) O.𝟘 ys) f
      (λ ys a x b f' e c. let k = calls a x b f' c in (k.0 ∙ ap (λ a. O.add a (t (v x))) e ∙ sym (fold_push (λ a y. O.add a (t y)) O.𝟘 ys (v x)), k.1))
      s all O.𝟘 r items.runs refl ran
      ∙ fold_sum t all d
