use Rattle.rings.specs.PassedLaws.{powers_make_a_field}
use Rattle.rings.proofs.power_theorems.powers_make_a_field.Goals as goal

pub returns : goal.returns
returns c = powers_make_a_field
