use Rattle.std.proofs.Common.{arith}
use Rattle.runs.proofs.RunFacts.{low_degree}
use Rattle.runs.proofs.run.ahead.Ahead.equation.Goals as goal

pub values-requires : goal.values-requires
values-requires g c = omega (arith, low_degree g.F.Field g.F.Ring g.met.F.Ring.lawful g.met.F.Field.inverts c.args.self.now.run.now c.args.j c.requires)
