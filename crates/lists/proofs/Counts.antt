-- What the count of fields tells.
use Rattle.std.proofs.Common.{◌≡◌, ℕ, Bool, true, false, cond, eqb, List, length, Ok, Err, refl}
use Rattle.std.proofs.lemmas.Bool.{eqb-true}
use Rattle.lists.specs.declared.fault.FileFault.{FileFault}
use Rattle.lists.specs.LineChecks.{counted}

pub counted_ok : (due line : ℕ) (fs : List (List ℕ)) (u : Unit {0}) → Ok u ≡ counted due line fs → length fs ≡ due
counted_ok due line fs u h = by _ (eqb (length fs) due) refl h
  where
    by : (e : FileFault) (t : Bool) → eqb (length fs) due ≡ t → Ok u ≡ cond t (Ok tt) (Err e) → length fs ≡ due
    by e true p q = eqb-true (length fs) due p
    by e false p q = cc
