-- What `pick` and `put` give.
use Rattle.std.proofs.Common.{◌≡◌, ℕ, ◌≢◌, refl}
use native.Mathlib.Decide.{ℕ_discrete}
use Rattle.recurrences.specs.Choice.{pick, put}

pub pick_yes : {A P : Type 0} (d : Dec P) (a b : A) → P → pick d a b ≡ a
unfolding pick
pick_yes (yes p) a b h = refl
pick_yes (no p) a b h = absurd (p h)

pub pick_no : {A P : Type 0} (d : Dec P) (a b : A) → ¬ P → pick d a b ≡ b
unfolding pick
pick_no (yes p) a b h = absurd (h p)
pick_no (no p) a b h = refl

pub put_here : {A : Type 0} (k : ℕ) (a : A) (f : ℕ → A) (j : ℕ) → j ≡ k → put k a f j ≡ a
unfolding put
put_here k a f j e = pick_yes (ℕ_discrete j k) a (f j) e

pub put_away : {A : Type 0} (k : ℕ) (a : A) (f : ℕ → A) (j : ℕ) → j ≢ k → put k a f j ≡ f j
unfolding put
put_away k a f j e = pick_no (ℕ_discrete j k) a (f j) e

-- decisions of the same thing choose alike
pub pick_same : {X P Q : Type 0} (p : Dec P) (q : Dec Q) (a b : X) → (P → Q) → (Q → P) → pick p a b ≡ pick q a b
unfolding pick
pick_same (yes p) (yes q) a b f g = refl
pick_same (no p) (no q) a b f g = refl
pick_same (yes p) (no q) a b f g = absurd (q (f p))
pick_same (no p) (yes q) a b f g = absurd (p (g q))

pub pick_map : {X Y P : Type 0} (f : X → Y) (p : Dec P) (a b : X) → f (pick p a b) ≡ pick p (f a) (f b)
unfolding pick
pick_map f (yes p) a b = refl
pick_map f (no p) a b = refl
