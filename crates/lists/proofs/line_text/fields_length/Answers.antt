use Rattle.std.proofs.Common.{◌≡◌, ◌+◌, [], ◌∷◌, ◌++◌, length, get_or, drop, decimal, ap, arith, length-append}
use Rattle.std.proofs.lemmas.List.{at_drop_more, at_drop_all}
use Rattle.lists.specs.Bytes.{comma}
use Rattle.lists.specs.LineText.{commaed}
use Rattle.lists.proofs.line_text.fields_length.Goals as goal

pub loop-x-preserved : goal.loop-x-preserved
loop-x-preserved c =
    let xs = c.args.numbers.now in let i = c.loop-x.x-index in let v = get_or xs i 0 in
    let e : commaed (drop i xs) ≡ (comma ∷ decimal v) ++ commaed (drop (i + 1) xs) = at_drop_more commaed xs i 0 c.loop-x-test.true in
    (omega (arith, c.loop-x.invariant.0, c.digits_of.ensures.few), omega (arith, ap length e, length-append (comma ∷ decimal v) (commaed (drop (i + 1) xs)), c.loop-x.invariant.1, c.digits_of.ensures.value))

pub returns : goal.returns
returns c =
    let xs = c.args.numbers.now in let i = c.loop-x.x-index in
    let e : commaed (drop i xs) ≡ [] = at_drop_all commaed xs i c.loop-x-test.false in
    record { value = omega (arith, ap length e, c.loop-x.invariant.1); few = omega (arith, c.loop-x.invariant.0) }
