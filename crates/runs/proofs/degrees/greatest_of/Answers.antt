use Rattle.std.proofs.Common.{◌≡◌, ℕ, ◌<◌, ◌≤◌, length, MatchOption, ◌∙◌, rules}
use Rattle.runs.specs.Views.{degree_at}
use Rattle.runs.proofs.DegreeChains.{maximum_is_greatest}
use Rattle.runs.proofs.degrees.greatest_of.Goals as goal

pub returns : goal.returns
returns c =
    let n = length c.args.columns.now in
    let d = degree_at c.args.columns.now in
    let above : MatchOption c.max.result (n ≡ 0) (λ m. (i : ℕ) → i < n → d i ≤ m) = search rules in
    let among : MatchOption c.max.result (n ≡ 0) (λ m. (i : ℕ) × (i < n) × (d i ≡ m)) = search rules in
    c.unwrap_or.ensures ∙ maximum_is_greatest n d c.max.result above among
