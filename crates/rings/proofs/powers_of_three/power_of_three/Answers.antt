use Rattle.std.proofs.Common.{refl}
use Rattle.rings.specs.PowersOfThree.{powers_of_three}
use Rattle.rings.specs.ThreePowers.{entry_is_power_of_three}
use Rattle.rings.proofs.powers_of_three.power_of_three.Goals as goal

pub returns : goal.returns
unfolding powers_of_three
returns c = record { entry = refl; rule = entry_is_power_of_three c.args.i c.requires }
