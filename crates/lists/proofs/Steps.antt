-- What is known of checks that came out well.
use Rattle.std.proofs.Common.{◌≡◌, Bool, true, false, cond, ◌⊎◌, Ok, Err, Result, refl, ap, inl, inr}
use Rattle.lists.specs.Checks.{then, carried}

pub err_ok : {X E : Type 0} {e : E} {x : X} → Err e ≡ Ok x → ⊥
err_ok h = cc

pub then_ok : {X Y E : Type 0} (r : Result X E) (f : X → Result Y E) (y : Y) → then r f ≡ Ok y → (x : X) × (r ≡ Ok x) × (f x ≡ Ok y)
then_ok (Ok x) f y h = (x, refl, h)
then_ok (Err e) f y h = absurd (err_ok h)

pub carried_ok : {X E F : Type 0} (f : E → F) (r : Result X E) (x : X) → carried f r ≡ Ok x → r ≡ Ok x
carried_ok f (Ok y) x h = cc
carried_ok f (Err e) x h = absurd (err_ok h)

pub cond_ok : {X E : Type 0} (t : Bool) (x y : X) (e : E) → cond t (Ok x) (Err e) ≡ Ok y → (t ≡ true) × (x ≡ y)
cond_ok true x y e h = (refl, cc)
cond_ok false x y e h = absurd (err_ok h)

-- ---- refusals
pub ok_err : {X E : Type 0} {x : X} {e : E} → Ok x ≡ Err e → ⊥
ok_err h = cc

-- the first step refuses, or the second does
pub then_err : {X Y E : Type 0} (r : Result X E) (f : X → Result Y E) (e : E) → then r f ≡ Err e → (r ≡ Err e) ⊎ ((x : X) × (r ≡ Ok x) × (f x ≡ Err e))
then_err (Ok x) f e h = inr (x, refl, h)
then_err (Err d) f e h = let same : d ≡ e = cc in inl (ap (λ (y : _). Err y) same)

pub carried_err : {X E F : Type 0} (f : E → F) (r : Result X E) (e : F) → carried f r ≡ Err e → (d : E) × (f d ≡ e)
carried_err f (Ok y) e h = absurd (ok_err h)
carried_err f (Err d) e h = (d, cc)
