use Rattle.std.proofs.Common.{◌≡◌, ℕ, cond, eqb, ap, ◌∙◌, arith}
use Rattle.std.proofs.lemmas.List.{get_or-take, length-take-le}
use Rattle.runs.specs.Candidates.{best_of, better_of}
use Rattle.runs.specs.Views.{degree_at}
use Rattle.runs.proofs.BestPivot.{best_none, best_more, best_found, found_within}
use Rattle.runs.proofs.pivot.best.Goals as goal

pub loop-j-init : goal.loop-j-init
loop-j-init c = best_none c.args.entries.now (degree_at c.args.columns.now)

pub better-best-requires-clause-best : goal.better-best-requires-clause-best
better-best-requires-clause-best c =
    let es = c.args.entries.now in
    found_within es c.loop-j.j 4 c.loop-j.best (omega (arith, length-take-le c.args.size es)) (best_found es (degree_at c.args.columns.now) c.loop-j.j c.loop-j.best c.loop-j.invariant)

pub loop-j-preserved : goal.loop-j-preserved
loop-j-preserved c =
    let es = c.args.entries.now in
    let d = degree_at c.args.columns.now in
    let j = c.loop-j.j in
    let best = c.loop-j.best in
    best_more es d j best c.better-best.result c.loop-j.invariant
    (c.better-best.ensures ∙ ap (λ (x : ℕ). cond (eqb x 0) best (better_of d j best)) (get_or-take c.args.size es j 0 (omega (arith, length-take-le c.args.size es))))

pub returns-clause-found : goal.returns-clause-found
returns-clause-found c =
    let es = c.args.entries.now in
    let d = degree_at c.args.columns.now in
    let e : c.loop-j.j ≡ c.args.size = omega (arith, length-take-le c.args.size es) in
    best_found es d c.args.size c.loop-j.best (c.loop-j.invariant ∙ ap (best_of es d) e)
