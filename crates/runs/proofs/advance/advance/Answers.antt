use Rattle.std.proofs.Common.{◌≡◌, length, sym, ◌∙◌, rules, arith}
use Rattle.rings.specs.Arithmetic.{reading}
use Rattle.runs.proofs.Recalled.{phase_recorded}
use Rattle.runs.proofs.Soundness.{sound_holds}
use Rattle.runs.proofs.Taking.{ran_grows}
use Rattle.runs.proofs.advance.advance.Goals as goal

pub step-requires-clause-holds : goal.step-requires-clause-holds
step-requires-clause-holds g c = sound_holds (reading g.F.Ring.size (g.F.Ring.means c.args.field) (g.F.Field.inverse c.args.field)) c.args.state.now c.args.matrix.now c.requires.sound

pub returns-clause-ran : goal.returns-clause-ran
returns-clause-ran g c = λ bound now ran.
    let a = reading g.F.Ring.size (g.F.Ring.means c.args.field) (g.F.Field.inverse c.args.field) in
    let s = c.args.state.now in
    let long : length s.matrices ≡ 128 = search rules in
    let e = c.step.ensures in
    ran_grows s c.step.new.state c.args.matrix.now (omega arith) e.size e.count e.matrices a bound ran (sym (phase_recorded a s c.requires.sound.some bound) ∙ now)
