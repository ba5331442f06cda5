-- One turn of the elimination in a list of linear equations.
use Rattle.std.specs.Prelude.{◌≡◌, ℕ, ◌<◌, ◌≤◌, cond, ◌==◌, nat_lt}
use Rattle.recurrences.specs.Fields.{FieldOperations, quotient}
use Rattle.rings.specs.Arithmetic.{Arithmetic}
use Rattle.runs.specs.Losses.{plus_times}
use Rattle.runs.specs.Equations.{Side, left, right}

-- where what stands at j stood before c and p changed places
abbrev pub swapped : ℕ → ℕ → ℕ → ℕ
swapped c p j = cond (j == c) p (cond (j == p) c j)

module _ (O : FieldOperations) where
  -- with an element a j for each equation j: the elements at c and p change places, and then each but the one at c loses k j times the one at c
  abbrev pub combined : ℕ → ℕ → (ℕ → O.ring.K) → (ℕ → O.ring.K) → ℕ → O.ring.K
  combined c p k a j = cond (j == c) (a p) (O.ring.add (a (swapped c p j)) (O.ring.mul (O.ring.neg (k j)) (a p)))

  -- how many times the equation at c the one at j loses, so that its entry c becomes zero
  abbrev pub share : ℕ → ℕ → (ℕ → Side → ℕ → O.ring.K) → ℕ → O.ring.K
  share c p E j = quotient O (E (swapped c p j) left c) (E p left c)

  -- N equations E, of N entries, become E' by a turn at c: a pivot among those from c on, whose entry c is not zero unless all of theirs are,
  -- comes to c, and each other loses so much of it that its entry c becomes zero
  pub record Clears (N c : ℕ) (E E' : ℕ → Side → ℕ → O.ring.K) : Type 0 where
    pub pivot : ℕ
    pub from : c ≤ pivot
    pub below : pivot < N
    pub none : E pivot left c ≡ O.ring.𝟘 → (j : ℕ) → c ≤ j → j < N → E j left c ≡ O.ring.𝟘
    pub becomes : (j : ℕ) (s : Side) (e : ℕ) → j < N → e < N → E' j s e ≡ combined c pivot (share c pivot E) (λ i. E i s e) j

  -- entry c of row r of the solution, where on the left of equation c only entry c is not zero
  abbrev pub solved : (ℕ → Side → ℕ → O.ring.K) → ℕ → ℕ → O.ring.K
  solved E r c = quotient O (E c right r) (E c left c)

-- the equation f at j, of N entries, less so much of the pivot equation p at c, whose entry c has the inverse y, that its entry c becomes 0
abbrev pub cleared : Arithmetic → ℕ → ℕ → ℕ → ℕ → (Side → ℕ → ℕ) → (Side → ℕ → ℕ) → Side → ℕ → ℕ
cleared a N c j y p f s e = cond (j == c) (f s e) (cond (nat_lt e N) (plus_times a (a.opposite (a.product (f left c) y)) (f s e) (p s e)) (f s e))
