use Rattle.std.proofs.Common.{ℕ, ◌<◌, ◌≤◌, sym, subst, arith}
use Rattle.runs.proofs.RunFacts.{room_left}
use Rattle.runs.proofs.Taking.{matrix_codes}
use Rattle.runs.proofs.run.Run.accept.Goals as goal

pub advance-requires-clause-room : goal.advance-requires-clause-room
advance-requires-clause-room g c = room_left g.F.Field g.F.Ring g.met.F.Ring.lawful g.met.F.Field.inverts c.args.self.now c.requires.running

pub advance-requires-clause-codes : goal.advance-requires-clause-codes
advance-requires-clause-codes g c = λ r e.
    let q = g.F.Ring.size in
    let two : 2 ≤ q = (g.met.F.Ring.lawful c.args.self.now.field).at_least_two in
    subst (λ (x : ℕ). x < q) (sym (c.square-taken.ensures r e)) (matrix_codes q c.args.self.now.state.size c.args.matrix.now (omega arith) c.requires.codes 0 r e)
