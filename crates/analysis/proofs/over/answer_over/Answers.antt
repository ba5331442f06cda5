use Rattle.std.proofs.Common.{◌≡◌, None, sym}
use mathlib.Core.Path.{transport}
use Rattle.rings.specs.Arithmetic.{reading}
use Rattle.runs.specs.Standings.{phase_after}
use Rattle.verdicts.specs.Refusals.{list_refusal}
use Rattle.verdicts.specs.Taking.{taken_of}
use Rattle.verdicts.proofs.AcceptedLists.{accepted, whole_matrices}
use Rattle.verdicts.proofs.Entitled.{taken_within}
use Rattle.analysis.specs.Answer.{ColumnsGiven}
use Rattle.analysis.proofs.Given.{columns_given}
use Rattle.analysis.proofs.over.answer_over.Goals as goal

pub new-requires-clause-given : goal.new-requires-clause-given
new-requires-clause-given g c =
    let q = g.F.Ring.size in
    let m = g.F.Ring.means c.args.field in
    let inv = g.F.Field.inverse c.args.field in
    let a = reading q m inv in
    let N = c.rows-size.result in
    let bound = c.degree-bound.result in
    let list = c.args.codes.now in
    let taken = taken_of a N bound list in
    let given : list_refusal q N bound list ≡ None = rw (c.rows-size.ensures.rows, c.degree-bound.ensures.degree) c.requires.accepted in
    let h = accepted q N bound list given in
    let within = taken_within q m inv (g.met.F.Ring.lawful c.args.field) (g.met.F.Field.inverts c.args.field) N bound list h.some (whole_matrices N list h.whole) in
    let run = rw c.unwrap-verdict.ensures at c.judge.ensures.run in
    let answer = rw c.unwrap-verdict.ensures at c.judge.ensures.answer in
    transport
    (λ i. ColumnsGiven (phase_after (reading q (g.F.Ring.means (sym run.0 i)) (g.F.Field.inverse (sym run.0 i))) (sym run.1.0 i) (sym run.1.1.0 i) (sym run.1.1.1 i)) (sym answer.1 i))
    (columns_given a N taken list c.requires.few within (phase_after a N bound taken))
