use Rattle.std.proofs.Common.{refl}
use Rattle.rings.specs.Bytes.{polynomial_product, reduced, byte_product}
use Rattle.rings.proofs.examples.as_published.Goals as goal

pub returns : goal.returns
unfolding byte_product polynomial_product reduced
returns c = record { same = refl; published = c.requires }
