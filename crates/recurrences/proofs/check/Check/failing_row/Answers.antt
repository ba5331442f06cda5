use Rattle.std.proofs.Common.{sym, refl, ◌∙◌, rules, tests, arith}
use Rattle.std.proofs.lemmas.Iterator.{YieldsList-from_range}
use Rattle.std.proofs.lemmas.Iterator.Search.{find_from_yields_List}
use Rattle.std.proofs.lemmas.Iterator.Adapters.{option_map_id}
use Rattle.recurrences.specs.Fits.{fails}
use Rattle.recurrences.proofs.FirstFailure.{find_first}
use Rattle.recurrences.proofs.check.Check.failing_row.Goals as goal

pub returns-clause-row : goal.returns-clause-row
returns-clause-row g c =
    let s = c.args.self.now in
    let test = fails g.R.Ring.size (g.R.Ring.means s.ring) s.size s.degree s.list.now s.column.now c.args.place in
    sym (option_map_id c.find.result)
    ∙ find_from_yields_List test _ _ c.find.result c.find.ensures.ran (YieldsList-from_range 0 s.size s.size refl (omega arith)) (λ x b q k. search (rules, tests))
    ∙ find_first test s.size 0
