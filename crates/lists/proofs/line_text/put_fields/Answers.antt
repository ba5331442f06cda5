use Rattle.std.proofs.Common.{◌≡◌, ◌+◌, [], ◌∷◌, ◌++◌, length, get_or, drop, decimal, ap, arith, length-append}
use Rattle.std.proofs.lemmas.List.{at_drop_more, at_drop_all}
use Rattle.lists.specs.Bytes.{comma}
use Rattle.lists.specs.LineText.{commaed}
use Rattle.lists.proofs.Writing.{put_more, all_put}
use Rattle.lists.proofs.line_text.put_fields.Goals as goal

pub put_field-next-requires : goal.put_field-next-requires
put_field-next-requires c =
    let xs = c.args.numbers.now in let i = c.loop-x.x-index in let v = get_or xs i 0 in
    let e : commaed (drop i xs) ≡ (comma ∷ decimal v) ++ commaed (drop (i + 1) xs) = at_drop_more commaed xs i 0 c.loop-x-test.true in
    omega (arith, ap length e, length-append (comma ∷ decimal v) (commaed (drop (i + 1) xs)), c.loop-x.invariant.0, c.requires, c.loop-x.auto.place)

pub loop-x-preserved : goal.loop-x-preserved
loop-x-preserved c =
    let xs = c.args.numbers.now in let i = c.loop-x.x-index in let v = get_or xs i 0 in
    let e : commaed (drop i xs) ≡ (comma ∷ decimal v) ++ commaed (drop (i + 1) xs) = at_drop_more commaed xs i 0 c.loop-x-test.true in
    let n = length-append (comma ∷ decimal v) (commaed (drop (i + 1) xs)) in (
      omega (arith, ap length e, n, c.loop-x.invariant.0, c.put_field-next.ensures.next),
      put_more c.loop-x.place _ c.loop-x.next c.put_field-next.result (comma ∷ decimal v) (commaed (drop i xs)) (commaed (drop (i + 1) xs)) _ e (omega (arith, ap length e, n, c.loop-x.invariant.0, c.requires, c.loop-x.auto.place)) c.put_field-next.ensures.next c.put_field-next.ensures.place c.loop-x.invariant.1,
    )

pub returns : goal.returns
returns c =
    let xs = c.args.numbers.now in let i = c.loop-x.x-index in
    let e : commaed (drop i xs) ≡ [] = at_drop_all commaed xs i c.loop-x-test.false in
    record { next = omega (arith, ap length e, c.loop-x.invariant.0); place = all_put c.loop-x.place c.loop-x.next (commaed (drop i xs)) _ e c.loop-x.invariant.1 }
