use Rattle.std.proofs.Common.{ℕ, get_or, ap, ◌∙◌, arith, rules}
use Rattle.std.specs.List.{zip}
use Rattle.std.proofs.lemmas.Iterator.{YieldsList-from_slice, YieldsList-from_zip}
use Rattle.std.proofs.lemmas.Slice.Zip.{length-zip, get_or-zip}
use Rattle.recurrences.specs.Operations.{numbers}
use Rattle.recurrences.specs.Sums.{sum}
use Rattle.recurrences.proofs.Summing.{fold_adds, sum_same}
use Rattle.recurrences.proofs.check.dot.Goals as goal

pub returns : goal.returns
returns g c =
    let O = numbers g.R.Ring.size (g.R.Ring.means c.args.ring) in
    let a = c.args.a.now in
    let b = c.args.b.now in
    let product : ℕ × ℕ → ℕ = λ p. O.mul p.0 p.1 in
    fold_adds O _ product (0, 0) c.fold.result (YieldsList-from_zip (YieldsList-from_slice a cc) (YieldsList-from_slice b cc)) (λ a x b f k. search rules) c.fold.ensures.ran
    ∙ ap (λ (n : ℕ). sum O n (λ k. product (get_or (zip a b) k (0, 0)))) (length-zip a b)
    ∙ sum_same O _ _ _ (λ k h. ap product (get_or-zip a b k (0, 0) (omega arith) (omega arith)))
