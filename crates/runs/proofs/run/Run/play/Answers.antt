use Rattle.std.proofs.Common.{◌≡◌, ℕ, ◌+◌, ◌<◌, List, ◌++◌, length, get_or, set, sym, refl, ap, ◌∙◌, subst, arith}
use Rattle.rings.specs.Arithmetic.{Arithmetic, reading}
use Rattle.runs.specs.Promise.{Promise}
use Rattle.runs.specs.Recorded.{recorded}
use Rattle.runs.specs.Scripts.{accepted, accepted_by, no_call}
use Rattle.runs.proofs.RunFacts.{keeps_promise}
use Rattle.runs.proofs.Replaying.{accepted_none, accepted_more, answered_more, promised_more, promise_same, answer_same}
use Rattle.runs.proofs.run.Run.play.Goals as goal

pub loop-i-init : goal.loop-i-init
loop-i-init g c =
    let r = c.args.self.now in
    let a = reading g.F.Ring.size (g.F.Ring.means r.field) (g.F.Field.inverse r.field) in
    let script = c.args.script.now in
    let answers = c.args.answers.now in
    let kept = keeps_promise g.F.Field g.F.Ring g.met.F.Ring.lawful g.met.F.Field.inverts r in
    let none : recorded r.state ≡ accepted script answers 0 = c.requires.fresh ∙ sym (accepted_none script answers) in
    record {
      taken = none;
      over = refl;
      size = refl;
      bound = refl;
      answered = λ k h. absurd (omega arith);
      promised = λ k h.
          let z : 0 ≡ k = omega arith in
          subst (λ (n : ℕ). Promise a r.state.size r.bound (accepted script answers n)) z (subst (Promise a r.state.size r.bound) none kept);
    }

pub loop-i-preserved : goal.loop-i-preserved
loop-i-preserved g c =
    let r = c.args.self.now in
    let now = c.loop-i.self in
    let last = c.answer.new.self in
    let reads : g.row.F.Denot → Arithmetic = λ f. reading g.F.Ring.size (g.F.Ring.means f) (g.F.Field.inverse f) in
    let script = c.args.script.now in
    let answers = c.loop-i.answers in
    let i = c.loop-i.i in
    let x = c.answer.result in
    let e = c.answer.ensures in
    let k = c.loop-i.invariant in
    let within : i < length answers = omega arith in
    let over : last.field ≡ r.field = e.over ∙ k.over in
    let size : last.state.size ≡ r.state.size = e.size ∙ k.size in
    let bound : last.bound ≡ r.bound = e.bound ∙ k.bound in
    let more : recorded last.state ≡ accepted script (set answers i x) (i + 1) = e.accepted ∙ ap (λ (t : List ℕ). t ++ accepted_by (get_or script i no_call) x) k.taken ∙ sym (accepted_more script answers i x within) in
    let kept = keeps_promise g.F.Field g.F.Ring g.met.F.Ring.lawful g.met.F.Field.inverts last in
    record {
      taken = more;
      over = over;
      size = size;
      bound = bound;
      answered = answered_more script answers i x (reads r.field) r.state.size r.bound within k.answered
          (e.answer ∙ answer_same reads now.field r.field now.state.size r.state.size now.bound r.bound (recorded now.state) (accepted script answers i) (get_or script i no_call) k.over k.size k.bound k.taken);
      promised = promised_more script answers i x (reads r.field) r.state.size r.bound k.promised
          (promise_same reads last.field r.field last.state.size r.state.size last.bound r.bound (recorded last.state) (accepted script (set answers i x) (i + 1)) over size bound more kept);
    }
