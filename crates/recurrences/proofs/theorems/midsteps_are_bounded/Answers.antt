use Rattle.recurrences.proofs.MidstepTheorems.{midsteps_are_bounded, divisors_are_not_zero}
use Rattle.recurrences.proofs.theorems.midsteps_are_bounded.Goals as goal

pub returns : goal.returns
returns c = record { midsteps_are_bounded = midsteps_are_bounded; divisors_are_not_zero = divisors_are_not_zero }
