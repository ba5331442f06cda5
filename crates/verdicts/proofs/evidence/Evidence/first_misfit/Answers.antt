use Rattle.std.proofs.Common.{◌≡◌, ℕ, ◌-◌, min, Option, sym, refl, ◌∙◌, rules, tests, arith}
use Rattle.std.specs.Option.{option_map}
use Rattle.std.specs.List.{filter_map, range_with_len, reduce}
use Rattle.std.proofs.lemmas.Iterator.{YieldsList-from_range}
use Rattle.std.proofs.lemmas.Iterator.Adapters.{option_map_id}
use Rattle.std.proofs.lemmas.Iterator.Consumers.{YieldsList-at, YieldsList-from_filter_map, min_from_yields_List}
use Rattle.rings.specs.Arithmetic.{reading}
use Rattle.recurrences.specs.Fits.{first}
use Rattle.runs.specs.Recorded.{recorded}
use Rattle.runs.specs.Standings.{count_of}
use Rattle.verdicts.specs.Misfits.{misfits}
use Rattle.verdicts.proofs.AllMisfits.{least_misfit}
use Rattle.verdicts.proofs.evidence.Evidence.first_misfit.Goals as goal

pub returns : goal.returns
returns g c =
    let list = c.args.self.now.codes.now in
    let r = c.args.self.now.run.now in
    let a = reading g.F.Ring.size (g.F.Ring.means r.field) (g.F.Field.inverse r.field) in
    let N = r.state.size in
    let taken = recorded r.state in
    let misfit : ℕ → Option ℕ = λ j. first (misfits a N taken list j) (count_of N taken) (count_of N list - count_of N taken) in
    let rows : c.rows.result ≡ N = c.rows.ensures.rows ∙ c.size.ensures in
    let size : c.rows.result - 0 ≡ N = omega (arith, rows) in
    let places : option_map (λ l. l) c.min.result ≡ reduce min (filter_map misfit (range_with_len 0 N)) =
    min_from_yields_List c.filter_map.result c.min.result c.min.ensures.ran
    (YieldsList-from_filter_map _ misfit (YieldsList-at c.filter_map.ensures.source (YieldsList-from_range 0 c.rows.result N refl size)) c.filter_map.ensures.closure (λ x r q k. search (rules, tests))) in
    sym (option_map_id c.min.result) ∙ places ∙ least_misfit a N taken list
