use Rattle.std.proofs.Common.{ℕ, [], ◌∷◌, map, length, ap, ◌∙◌, arith}
use Rattle.lists.specs.Contents.{value_of}
use Rattle.lists.specs.Places.{written}
use Rattle.lists.proofs.Writing.{put_more}
use Rattle.lists.proofs.matrix_line.put_matrix.Goals as goal

pub loop-field-preserved : goal.loop-field-preserved
loop-field-preserved c =
    let i = c.loop-field.invariant in
    let e = ap (map value_of) c.in-Some.ensures.steps in
    let v = value_of c.in-Some.field.now in
    let put = c.put-next.ensures.place ∙ ap (λ (x : ℕ). written c.loop-field.next (x ∷ []) c.loop-field.place) c.value_of.ensures in (
      omega (arith, i.0, ap length e, c.put-next.ensures.next),
      put_more c.loop-field.place _ c.loop-field.next c.put-next.result (v ∷ []) _ _ _ e (omega (arith, i.0, ap length e, c.requires, c.loop-field.auto.place)) c.put-next.ensures.next put i.1,
    )
