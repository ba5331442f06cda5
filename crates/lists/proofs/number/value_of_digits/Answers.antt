use Rattle.std.proofs.Common.{◌≡◌, ℕ, ◌+◌, get_or, drop, None, Option, sym, ap, ◌∙◌, arith, rules}
use Rattle.std.specs.Option.{ok_or}
use Rattle.std.proofs.lemmas.List.{at_drop_more, at_drop_all}
use Rattle.lists.specs.Numeral.{numeral_on}
use Rattle.lists.specs.declared.fault.NumberFault.TheVariants.{NotNumber}
use Rattle.lists.proofs.Numerals.{digit_refused, digit_taken, digits_end}
use Rattle.lists.proofs.number.value_of_digits.Goals as goal

pub returns-in_err-n : goal.returns-in_err-n
returns-in_err-n c =
    let xs = c.args.bytes.now in let i = c.loop-b.b-index in let n = c.loop-b.n in
    let none : c.from_residual.result ≡ None = search rules in
    ap (λ (o : Option ℕ). ok_or o NotNumber) none ∙ sym (digit_refused n (get_or xs i 0) (drop (i + 1) xs) c.in_err-n.ensures) ∙ sym (at_drop_more (numeral_on n) xs i 0 c.loop-b-test.true) ∙ c.loop-b.invariant.1

pub loop-b-preserved : goal.loop-b-preserved
loop-b-preserved c =
    let xs = c.args.bytes.now in let i = c.loop-b.b-index in let n = c.loop-b.n in (
      omega arith,
      sym (digit_taken n (get_or xs i 0) c.in_ok-n.n (drop (i + 1) xs) c.in_ok-n.ensures) ∙ sym (at_drop_more (numeral_on n) xs i 0 c.loop-b-test.true) ∙ c.loop-b.invariant.1,
    )

pub returns : goal.returns
returns c =
    let xs = c.args.bytes.now in let n = c.loop-b.n in
    sym (digits_end n (omega arith)) ∙ sym (at_drop_all (numeral_on n) xs c.loop-b.b-index c.loop-b-test.false) ∙ c.loop-b.invariant.1
