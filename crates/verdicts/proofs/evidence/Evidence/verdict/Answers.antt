use Rattle.runs.specs.Recorded.{recorded}
use Rattle.verdicts.proofs.Evidences.{entitled_by}
use Rattle.verdicts.proofs.evidence.Evidence.verdict.Goals as goal

pub returns-in-Short-clause-entitles : goal.returns-in-Short-clause-entitles
returns-in-Short-clause-entitles g c =
    let r = c.args.self.now.run.now in
    entitled_by g.F.Ring.size (g.F.Ring.means r.field) (g.F.Field.inverse r.field) (g.met.F.Ring.lawful r.field) (g.met.F.Field.inverts r.field) r.state.size r.bound (recorded r.state) c.args.self.now.codes.now
    r.sound.some c.args.self.now.whole c.args.self.now.taken c.standing.ensures.promise

pub returns-in-Running-clause-entitles : goal.returns-in-Running-clause-entitles
returns-in-Running-clause-entitles g c =
    let r = c.args.self.now.run.now in
    entitled_by g.F.Ring.size (g.F.Ring.means r.field) (g.F.Field.inverse r.field) (g.met.F.Ring.lawful r.field) (g.met.F.Field.inverts r.field) r.state.size r.bound (recorded r.state) c.args.self.now.codes.now
    r.sound.some c.args.self.now.whole c.args.self.now.taken c.standing.ensures.promise

pub returns-in-None-clause-entitles : goal.returns-in-None-clause-entitles
returns-in-None-clause-entitles g c =
    let r = c.args.self.now.run.now in
    entitled_by g.F.Ring.size (g.F.Ring.means r.field) (g.F.Field.inverse r.field) (g.met.F.Ring.lawful r.field) (g.met.F.Field.inverts r.field) r.state.size r.bound (recorded r.state) c.args.self.now.codes.now
    r.sound.some c.args.self.now.whole c.args.self.now.taken c.standing.ensures.promise

pub returns-in-Some-clause-entitles : goal.returns-in-Some-clause-entitles
returns-in-Some-clause-entitles g c =
    let r = c.args.self.now.run.now in
    entitled_by g.F.Ring.size (g.F.Ring.means r.field) (g.F.Field.inverse r.field) (g.met.F.Ring.lawful r.field) (g.met.F.Field.inverts r.field) r.state.size r.bound (recorded r.state) c.args.self.now.codes.now
    r.sound.some c.args.self.now.whole c.args.self.now.taken c.standing.ensures.promise
