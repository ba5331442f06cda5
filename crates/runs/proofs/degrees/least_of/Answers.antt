use Rattle.std.proofs.Common.{◌≡◌, ℕ, ◌<◌, ◌≤◌, length, MatchOption, ◌∙◌, rules}
use Rattle.runs.specs.Views.{degree_at}
use Rattle.runs.proofs.DegreeChains.{minimum_is_least}
use Rattle.runs.proofs.degrees.least_of.Goals as goal

pub returns : goal.returns
returns c =
    let n = length c.args.columns.now in
    let d = degree_at c.args.columns.now in
    let below : MatchOption c.min.result (n ≡ 0) (λ m. (i : ℕ) → i < n → m ≤ d i) = search rules in
    let among : MatchOption c.min.result (n ≡ 0) (λ m. (i : ℕ) × (i < n) × (d i ≡ m)) = search rules in
    c.unwrap_or.ensures ∙ minimum_is_least n d c.min.result below among
