use Rattle.std.proofs.Common.{◌≡◌, ℕ, ◌<◌, ◌≤◌, get_or}
use Rattle.rings.specs.Arithmetic.{reading}
use Rattle.runs.specs.declared.script.Answer.TheVariants.{Done}
use Rattle.runs.specs.Promise.{Promise}
use Rattle.runs.specs.Recorded.{recorded}
use Rattle.runs.specs.Scripts.{accepted, answer_to, no_call}
use Rattle.runs.proofs.run.Run.play.Given as goal

abbrev pub invariant-loop-i : goal.invariant-loop-i
invariant-loop-i g l =
    let a = reading g.F.Ring.size (g.F.Ring.means l.initial.self.field) (g.F.Field.inverse l.initial.self.field) in
    record {
      taken : recorded l.self.state ≡ accepted l.script l.answers l.i;
      over : l.self.field ≡ l.initial.self.field;
      size : l.self.state.size ≡ l.initial.self.state.size;
      bound : l.self.bound ≡ l.initial.self.bound;
      answered : (k : ℕ) → k < l.i → get_or l.answers k Done ≡ answer_to a l.initial.self.state.size l.initial.self.bound (accepted l.script l.answers k) (get_or l.script k no_call);
      promised : (k : ℕ) → k ≤ l.i → Promise a l.initial.self.state.size l.initial.self.bound (accepted l.script l.answers k);
    }
