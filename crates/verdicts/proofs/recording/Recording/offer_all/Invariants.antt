use Rattle.std.proofs.Common.{◌≡◌, ◌-◌, ◌*◌, length, take, drop}
use Rattle.std.specs.Slice.Iter.{chunks_exact_rest, chunks_exact_size}
use Rattle.rings.specs.Arithmetic.{reading}
use Rattle.runs.specs.Recorded.{recorded}
use Rattle.runs.specs.Standings.{count_of}
use Rattle.verdicts.specs.Taking.{taken_from}
use Rattle.verdicts.proofs.recording.Recording.offer_all.Given as goal

-- the first matrices are taken, the others are left, and those taken in all are the ones taken from here on
abbrev pub invariant-loop-matrix : goal.invariant-loop-matrix
invariant-loop-matrix g l =
    let a = reading g.F.Ring.size (g.F.Ring.means l.initial.run.field) (g.F.Field.inverse l.initial.run.field) in
    let N = l.self.size in
    let list = l.self.codes.now in
    let n = length l.yielded in
    record {
      can_next : (goal.iterator-loop-matrix g).can_next l.matrix-iterator;
      finite : (goal.iterator-loop-matrix g).is_finite l.matrix-iterator;
      cells : chunks_exact_size l.matrix-iterator ≡ N * N;
      left : chunks_exact_rest l.matrix-iterator ≡ drop (n * (N * N)) list;
      taken : recorded l.run.state ≡ take (n * (N * N)) list;
      field : l.run.field ≡ l.initial.run.field;
      size : l.run.state.size ≡ N;
      bound : l.run.bound ≡ l.initial.run.bound;
      more : taken_from a N l.initial.run.bound list n (count_of N list - n) ≡ taken_from a N l.initial.run.bound list 0 (count_of N list);
    }
