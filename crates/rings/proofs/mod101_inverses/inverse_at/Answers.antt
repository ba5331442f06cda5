use Rattle.rings.specs.InverseTable.{entry_is_power, entry_inverts}
use Rattle.rings.proofs.mod101_inverses.inverse_at.Goals as goal

pub returns : goal.returns
returns c = record { entry = entry_is_power c.args.a c.requires; rule = entry_inverts c.args.a c.requires }
