use Rattle.std.proofs.Common.{◌∙◌}
use Rattle.rings.specs.ByteLaws.{product_by_powers_of_three}
use Rattle.rings.proofs.bytes.product_of.Goals as goal

pub returns : goal.returns
returns c = c.product_by_places.ensures ∙ product_by_powers_of_three c.args.a c.args.b c.requires.a_bound c.requires.b_bound
