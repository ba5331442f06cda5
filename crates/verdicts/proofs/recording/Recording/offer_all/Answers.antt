use Rattle.std.proofs.Common.{◌≡◌, ℕ, ◌+◌, ◌-◌, ◌*◌, ◌<◌, true, false, [], ◌∷◌, ◌++◌, length, take, drop, sym, ap, ◌∙◌, ap₂, arith, length-append}
use Rattle.rings.specs.Arithmetic.{reading}
use Rattle.recurrences.specs.Codes.{all_codes}
use Rattle.runs.specs.Ran.{is_running}
use Rattle.runs.specs.Recorded.{recorded}
use Rattle.runs.specs.Standings.{count_of, phase_after}
use Rattle.verdicts.proofs.Chunks.{none_left, one_left, part_is, rest_is}
use Rattle.verdicts.proofs.CodedParts.{codes_taken, codes_dropped}
use Rattle.verdicts.proofs.TakenCounts.{first_more, refused_not_running, taken_running, takes_all, takes_more, takes_no_more}
use Rattle.verdicts.specs.Taking.{first_matrices, taken_from}
use Rattle.verdicts.proofs.recording.Recording.offer_all.Goals as goal

pub loop-matrix-preserved : goal.loop-matrix-preserved
loop-matrix-preserved g c =
    let N = c.args.self.now.size in
    let run = c.args.run.now in
    let list = c.args.self.now.codes.now in
    let a = reading g.F.Ring.size (g.F.Ring.means run.field) (g.F.Field.inverse run.field) in
    let h = c.loop-matrix.invariant in
    let n = length c.loop-matrix.yielded in
    let n' = length (c.loop-matrix.yielded ++ c.in-Some.matrix ∷ []) in
    let next : n' ≡ n + 1 = length-append c.loop-matrix.yielded (c.in-Some.matrix ∷ []) in
    let s = c.in-Some.ensures.steps in
    let cut = sym h.left ∙ s.1.0 in
    let long = s.1.1 ∙ h.cells in
    let some : 0 < N * N = omega (arith, h.can_next, h.cells) in
    let o = c.in-Ok.ensures in
    let runs : is_running (phase_after a N run.bound (first_matrices a N run.bound list n)) ≡ true =
    (λ i. is_running (phase_after (reading g.F.Ring.size (g.F.Ring.means (sym h.field i)) (g.F.Field.inverse (sym h.field i))) (sym h.size i) (sym h.bound i) (sym h.taken i)))
    ∙ taken_running g.F.Ring.size c.loop-matrix.run.state.size c.in-Some.matrix.now _ o.0 in
    record {
      can_next = omega (arith, s.0, h.can_next);
      finite = tt;
      cells = s.0 ∙ h.cells;
      left = rest_is (N * N) n list c.in-Some.matrix.now _ cut long ∙ ap (λ (k : ℕ). drop (k * (N * N)) list) (sym next);
      taken =
          o.1.1.1.1 ∙ ap₂ ◌++◌ h.taken (part_is (N * N) n list c.in-Some.matrix.now _ cut long) ∙ first_more a N run.bound list n
          ∙ ap (λ (k : ℕ). take (k * (N * N)) list) (sym next);
      field = o.1.0 ∙ h.field;
      size = o.1.1.0 ∙ h.size;
      bound = o.1.1.1.0 ∙ h.bound;
      more =
          ap (λ (k : ℕ). taken_from a N run.bound list k (count_of N list - k)) next
          ∙ sym (takes_more a N run.bound list n (count_of N list) (one_left (N * N) n list c.in-Some.matrix.now _ cut long some) runs) ∙ h.more;
    }

pub returns-in_default-clause-taken : goal.returns-in_default-clause-taken
returns-in_default-clause-taken g c =
    let N = c.args.self.now.size in
    let run = c.args.run.now in
    let list = c.args.self.now.codes.now in
    let a = reading g.F.Ring.size (g.F.Ring.means run.field) (g.F.Field.inverse run.field) in
    let h = c.loop-matrix.invariant in
    let n = length c.loop-matrix.yielded in
    let s = c.in-Some.ensures.steps in
    let cut = sym h.left ∙ s.1.0 in
    let long = s.1.1 ∙ h.cells in
    let some : 0 < N * N = omega (arith, h.can_next, h.cells) in
    let o = c.in_default.ensures in
    let q = g.F.Ring.size in
    let codes : all_codes q c.in-Some.matrix.now ≡ true =
    ap (all_codes q) (part_is (N * N) n list c.in-Some.matrix.now _ cut long) ∙ codes_taken q (N * N) (drop (n * (N * N)) list) (codes_dropped q (n * (N * N)) list c.args.self.now.of_codes) in
    let ended : is_running (phase_after a N run.bound (first_matrices a N run.bound list n)) ≡ false =
    (λ i. is_running (phase_after (reading q (g.F.Ring.means (sym h.field i)) (g.F.Field.inverse (sym h.field i))) (sym h.size i) (sym h.bound i) (sym h.taken i)))
    ∙ refused_not_running q c.loop-matrix.run.state.size c.in-Some.matrix.now (long ∙ ap (λ (k : ℕ). k * k) (sym h.size)) codes _ _ o.0 in
    ap (λ r. recorded r.state) o.1 ∙ h.taken
    ∙ ap (first_matrices a N run.bound list)
    (sym (takes_no_more a N run.bound list n (count_of N list) (one_left (N * N) n list c.in-Some.matrix.now _ cut long some) ended) ∙ h.more)

pub returns-clause-taken : goal.returns-clause-taken
returns-clause-taken g c =
    let N = c.args.self.now.size in
    let run = c.args.run.now in
    let list = c.args.self.now.codes.now in
    let a = reading g.F.Ring.size (g.F.Ring.means run.field) (g.F.Field.inverse run.field) in
    let h = c.loop-matrix.invariant in
    let n = length c.loop-matrix.yielded in
    let some : 0 < N * N = omega (arith, h.can_next, h.cells) in
    let short : length (drop (n * (N * N)) list) < N * N = omega (arith, ap length h.left, h.cells, c.in-None.ensures.steps.1.0) in
    h.taken ∙ ap (first_matrices a N run.bound list) (sym (takes_all a N run.bound list n (count_of N list) (none_left (N * N) n list some short)) ∙ h.more)
