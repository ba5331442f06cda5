use Rattle.rings.specs.ByteLaws.{product_by_powers_of_three}
use Rattle.rings.specs.ThreePowers.{powers_are_all, powers_of_three_pass, entry_is_power_of_three}
use Rattle.rings.proofs.power_theorems.powers_of_three_make_the_byte_field.Goals as goal

pub returns : goal.returns
returns c = (powers_are_all, powers_of_three_pass, entry_is_power_of_three, product_by_powers_of_three)
