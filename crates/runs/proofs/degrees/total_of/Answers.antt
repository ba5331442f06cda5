use Rattle.std.proofs.Common.{◌≡◌, ◌<◌, ◌≤◌, ◌^◌, length, sum_by, ◌∙◌, rules, arith}
use Rattle.runs.specs.Views.{degree_at}
use Rattle.runs.specs.declared.tables.Column.{Column}
use Rattle.runs.proofs.DegreeChains.{sum_is_total, total_low}
use Rattle.runs.proofs.degrees.total_of.Goals as goal

pub sum-requires-clause-fits : goal.sum-requires-clause-fits
sum-requires-clause-fits c =
    let cs = c.args.columns.now in
    let few : length cs ≤ 4 = c.requires.few in
    let fits : sum_by (λ (x : Column). x.degree) cs < 2 ^ 64 = omega (arith, sum_is_total cs, total_low (length cs) 128 (degree_at cs) c.requires.low) in
    search rules

pub returns : goal.returns
returns c =
    let sums : c.sum.result ≡ sum_by (λ (x : Column). x.degree) c.args.columns.now = search rules in
    sums ∙ sum_is_total c.args.columns.now
