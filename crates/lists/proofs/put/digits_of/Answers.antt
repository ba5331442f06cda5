use Rattle.std.proofs.Common.{◌≡◌, ℕ, ◌+◌, ◌*◌, ◌^◌, ◌<◌, ◌≤◌, Some, None, length, decimal, Option, sym, ap, ◌∙◌, arith}
use Rattle.std.specs.Option.{IfNone, IfSome, unwrap_or}
use Rattle.lists.proofs.Digits.{length_digit, length_between, digits_few}
use Rattle.lists.proofs.put.digits_of.Goals as goal

digits : (n : ℕ) (o : Option ℕ) → n < 2 ^ 32 → IfNone o (n ≡ 0) → IfSome o (λ k. 10 ^ k ≤ n) → IfSome o (λ k. n < 10 * 10 ^ k) → unwrap_or o 0 + 1 ≡ length (decimal n)
digits n None small zero low high = sym (length_digit n (omega arith))
digits n (Some k) small zero low high = sym (length_between k n low high small)

pub returns : goal.returns
returns c =
    let l = c.checked_ilog10.ensures in
    let value = ap (λ (k : ℕ). k + 1) c.unwrap_or.ensures ∙ digits c.args.n c.checked_ilog10.result (omega arith) l.none l.power_le l.next_power_gt in
    record { value = value; few = omega (arith, value, digits_few c.args.n (omega arith)) }
