use Rattle.std.proofs.Common.{◌≡◌, ℕ, ◌*◌, ◌≤◌, length, sym, ◌∙◌, subst, arith}
use Rattle.recurrences.proofs.Rooms.{fewer_fit}
use Rattle.runs.specs.Recorded.{recorded}
use Rattle.runs.proofs.TakenAndWritten.{length_recorded}
use Rattle.runs.proofs.WholeContinuation.{Continued, continued_none, continued_more, continued_whole, continued_only}
use Rattle.runs.proofs.run.Run.write_continuation.Goals as goal

pub loop-i-init : goal.loop-i-init
loop-i-init g c = continued_none _ _ _ _ _ _ c.args.place.now

pub write_next-requires : goal.write_next-requires
write_next-requires g c =
    let s = c.args.self.now.state in
    let few = c.requires.few in
    let fits : c.args.count * (s.size * s.size) ≤ length c.loop-i.place = omega arith in
    record {
      few = omega arith;
      within = fewer_fit _ c.args.count _ (length c.loop-i.place) (omega arith) fits;
    }

pub loop-i-preserved : goal.loop-i-preserved
loop-i-preserved g c =
    let s = c.args.self.now.state in
    let k = c.write_next.ensures in
    continued_more g.F.Ring.size (g.F.Ring.means c.args.self.now.field) (g.F.Field.inverse c.args.self.now.field) s.size s.count (recorded s) c.args.self.now.sound.some (length_recorded s)
    c.loop-i.place c.write_next.new.place c.loop-i.i c.loop-i.invariant (λ x lt. sym (k.before x lt)) k.codes k.zeros

pub returns : goal.returns
returns g c =
    let q = g.F.Ring.size in
    let m = g.F.Ring.means c.args.self.now.field in
    let inverse = g.F.Field.inverse c.args.self.now.field in
    let s = c.args.self.now.state in
    let some = c.args.self.now.sound.some in
    let n = c.args.count in
    let all : c.loop-i.i ≡ n = omega arith in
    let long = c.loop-i.auto.place ∙ c.requires.length in
    let continued = subst (λ (k : ℕ). Continued q m inverse s.size s.count (recorded s) k c.loop-i.place) all c.loop-i.invariant in
    record {
      continues = continued_whole q m inverse s.size s.count (recorded s) some (length_recorded s) n c.loop-i.place long continued;
      only = continued_only q m inverse s.size s.count (recorded s) some (length_recorded s) (g.met.F.Ring.lawful c.args.self.now.field) (g.met.F.Field.inverts c.args.self.now.field) n c.loop-i.place long continued;
    }
