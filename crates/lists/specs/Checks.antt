-- Checks one after another.
use Rattle.std.specs.Prelude.{Ok, Err, Result}

-- a check, and then a next one that may use what the first answered; the first refusal ends it
abbrev pub then : {X Y E : Type 0} → Result X E → (X → Result Y E) → Result Y E
then (Ok x) f = f x
then (Err e) f = Err e

-- the same answer, with the refusal carried whole inside another
abbrev pub carried : {X E F : Type 0} → (E → F) → Result X E → Result X F
carried f (Ok x) = Ok x
carried f (Err e) = Err (f e)
