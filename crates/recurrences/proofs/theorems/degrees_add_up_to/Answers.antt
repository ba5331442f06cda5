use Rattle.std.proofs.Common.{ℕ, ◌*◌, sym, ap, ◌∙◌, add-one}
use Rattle.recurrences.proofs.RunTheorems.{degrees_add_up}
use Rattle.recurrences.proofs.theorems.degrees_add_up_to.Goals as goal

pub returns : goal.returns
returns c = λ q m inv laws inverts C M.
    degrees_add_up q m inv laws inverts c.args.rows C M c.args.count ∙ ap (λ (k : ℕ). c.args.rows * k) (sym (add-one c.args.count))
