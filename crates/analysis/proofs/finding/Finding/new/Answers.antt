use Rattle.std.proofs.Common.{ℕ, ◌+◌, List, ◌∷◌, take, ap, ◌∙◌}
use Rattle.rings.specs.Arithmetic.{reading}
use Rattle.recurrences.specs.Degrees.{total}
use Rattle.runs.specs.Recorded.{recorded}
use Rattle.runs.specs.Standings.{columns_after, count_of, phase_after, shown}
use Rattle.runs.proofs.RunFacts.{keeps_promise}
use Rattle.verdicts.proofs.GeneratorColumns.{column_is_of_codes}
use Rattle.analysis.proofs.Given.{given_not_short, given_place}
use Rattle.analysis.proofs.Room.{answer_short}
use Rattle.analysis.proofs.Texts.{first_shown, two_more}
use Rattle.analysis.proofs.finding.Finding.new.Goals as goal

pub invariant_of-result : goal.invariant_of-result
invariant_of-result g c =
    let r = c.args.run.now in
    let q = g.F.Ring.size in
    let m = g.F.Ring.means r.field in
    let inv = g.F.Field.inverse r.field in
    let a = reading q m inv in
    let N = r.state.size in
    let taken = recorded r.state in
    let d = (columns_after a N taken).gen_degree in
    let p = phase_after a N r.bound taken in
    record {
      told =
          ap (take {A = ℕ} (2 + N)) c.numbers_of.ensures
          ∙ two_more N (count_of N taken) (total N d) (shown N d)
          ∙ ap (λ (xs : List ℕ). count_of N taken ∷ total N d ∷ xs) (first_shown N d r.sound.small);
      columns = given_not_short p c.args.verdict c.requires.given;
      place = given_place p c.args.verdict c.requires.given;
      short =
          answer_short a N taken r.sound.small q c.requires.bytes (column_is_of_codes q m inv (g.met.F.Ring.lawful r.field) (g.met.F.Field.inverts r.field) N taken) r.bound r.bounded (keeps_promise g.F.Field g.F.Ring g.met.F.Ring.lawful g.met.F.Field.inverts r) c.args.verdict c.requires.given;
    }
