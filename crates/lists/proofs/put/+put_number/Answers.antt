use Rattle.std.proofs.Common.{ℕ, ◌+◌, List, length, sym, ap, ◌∙◌, arith}
use Rattle.std.proofs.lemmas.Fmt.{decimal_digit}
use Rattle.lists.specs.Places.{written}
use Rattle.lists.proofs.Digits.{length_digit, length_step, number_put}
use Rattle.lists.proofs.put.+put_number.Goals as goal

pub put-requires : goal.put-requires
put-requires t c = omega (arith, length_digit c.args.n c.if-n-lt10.true, c.requires)

pub put_number-next-requires : goal.put_number-next-requires
put_number-next-requires t c = omega (arith, length_step c.args.n c.if-n-lt10.false (omega arith), c.requires)

pub put-requires-else-n-lt10 : goal.put-requires-else-n-lt10
put-requires-else-n-lt10 t c =
    let s = length_step c.args.n c.if-n-lt10.false (omega arith) in
    omega (arith, c.requires, c.put_number-next.ensures.next, c.put_number-next.auto)

pub returns-then-n-lt10 : goal.returns-then-n-lt10
returns-then-n-lt10 t c =
    let d = decimal_digit c.args.n c.if-n-lt10.true in
    record { next = c.put.ensures.next ∙ ap (λ (k : ℕ). c.args.at + k) (sym (ap length d)); place = c.put.ensures.place ∙ ap (λ (s : List ℕ). written c.args.at s c.args.place.now) (sym d) }

pub returns-else-n-lt10 : goal.returns-else-n-lt10
returns-else-n-lt10 t c =
    let s = length_step c.args.n c.if-n-lt10.false (omega arith) in
    record { next = omega (arith, c.put-else-n-lt10.ensures.next, c.put_number-next.ensures.next); place = number_put c.args.place.now _ _ c.args.at c.put_number-next.result c.args.n c.if-n-lt10.false (omega arith) c.requires c.put_number-next.ensures.next c.put_number-next.ensures.place c.put-else-n-lt10.ensures.place }
