use Rattle.runs.proofs.RunFacts.{keeps_promise}
use Rattle.runs.proofs.run.Run.standing.Goals as goal

pub returns-clause-promise : goal.returns-clause-promise
returns-clause-promise g c = keeps_promise g.F.Field g.F.Ring g.met.F.Ring.lawful g.met.F.Field.inverts c.args.self.now
