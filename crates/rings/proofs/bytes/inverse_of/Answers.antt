use Rattle.std.proofs.Common.{sym, subst}
use Rattle.rings.specs.Bytes.{bytes}
use Rattle.rings.specs.Meaning.{Inverse}
use Rattle.rings.specs.ByteLaws.{byte_inverts}
use Rattle.rings.proofs.bytes.inverse_of.Goals as goal

pub returns : goal.returns
returns c =
    let e = c.inverse_by_places.ensures in
    record { value = e; law = subst (Inverse 256 bytes c.args.a) (sym e) (byte_inverts c.args.a c.requires) }
