use Rattle.std.proofs.Common.{◌≡◌, ◌^◌, ◌<◌, drop}
use Rattle.lists.specs.Numeral.{numeral_on}
use Rattle.lists.proofs.number.value_of_digits.Given as goal

abbrev pub invariant-loop-b : goal.invariant-loop-b
invariant-loop-b l = (l.n < 2 ^ 32) × (numeral_on l.n (drop l.b-index l.bytes) ≡ numeral_on 0 l.bytes)
