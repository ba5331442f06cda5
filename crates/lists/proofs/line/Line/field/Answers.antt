use Rattle.std.proofs.Common.{◌≡◌, ℕ, ◌-◌, List, [], Some, None, Option, Bor, refl, ap, ◌∙◌}
use Rattle.std.specs.Option.{option_map, unwrap_or}
use Rattle.std.proofs.lemmas.Iterator.Consumers.{YieldsList-from_first, nth_from_yields_List}
use Rattle.std.proofs.lemmas.Option.{unwrap_or-slice_get}
use Rattle.lists.specs.Bytes.{comma}
use Rattle.lists.specs.Cursor.{left}
use Rattle.lists.specs.Split.{split}
use Rattle.lists.proofs.line.Line.field.Goals as goal

part_or : (r : Option (Bor (List ℕ))) (d : Bor (List ℕ)) → (unwrap_or r d).now ≡ unwrap_or (option_map (λ p. p.now) r) d.now
part_or None d = refl
part_or (Some p) d = refl

pub returns-clause-bytes : goal.returns-clause-bytes
returns-clause-bytes c =
    let ps = split comma c.args.self.bytes.now in let n = c.args.number - 1 in
    ap (λ (p : Bor (List ℕ)). p.now) c.unwrap_or-bytes.ensures
    ∙ part_or c.nth.result _
    ∙ ap (λ (o : Option (List ℕ)). unwrap_or o []) (nth_from_yields_List c.nth.result c.nth.new.self n c.nth.ensures.ran (YieldsList-from_first (λ p. p.now) (λ s. left comma s.rest) ps c.fields.ensures))
    ∙ unwrap_or-slice_get ps n []
