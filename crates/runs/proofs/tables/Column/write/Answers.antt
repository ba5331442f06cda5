use Rattle.std.proofs.Common.{◌<◌, length, sym, ◌∙◌, arith}
use Rattle.std.proofs.lemmas.List.{ext_get_or}
use Rattle.recurrences.proofs.Listing.{length_listed, get_or_listed}
use Rattle.runs.proofs.tables.Column.write.Goals as goal

pub returns : goal.returns
returns c =
    let n = length c.args.place.now in
    ext_get_or 0 c.loop-i.place _ (c.loop-i.auto.place ∙ sym (length_listed n _))
    (λ k h. let below : k < n = omega arith in c.loop-i.invariant k (omega arith) ∙ sym (get_or_listed n _ k 0 below))
