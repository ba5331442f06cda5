-- A file that is not refused as a whole.
use Rattle.std.proofs.Common.{◌≡◌, ℕ, ◌-◌, ◌<◌, ◌≤◌, Bool, true, false, cond, eqb, ltb, List, [], ◌∷◌, length, get_or, take, Ok, Err, refl, arith, length-take}
use Rattle.std.proofs.lemmas.Bool.{eqb-true, ltb-false}
use Rattle.lists.specs.Bytes.{line_end}
use Rattle.lists.specs.FileChecks.{lines_of, opened}
use Rattle.lists.specs.Limits.{greatest_length}
use Rattle.lists.specs.declared.fault.WholeFault.TheVariants.{TooLong, Unended}
use Rattle.lists.proofs.Splitting.{length_split_le}
use Rattle.lists.proofs.Steps.{err_ok}

module _ (b : List ℕ) (u : Unit {0}) (e : opened b ≡ Ok u) where
  tests : (ltb greatest_length (length b) ≡ false) × (eqb (get_or b (length b - 1) 0) line_end ≡ true)
  tests = by (ltb greatest_length (length b)) (eqb (get_or b (length b - 1) 0) line_end) e
    where
      by : (s t : Bool) → cond s (Err TooLong) (cond t (Ok tt) (Err Unended)) ≡ Ok u → (s ≡ false) × (t ≡ true)
      by true t h = absurd (err_ok h)
      by false true h = (refl, refl)
      by false false h = absurd (err_ok h)

  pub opened_short : length b ≤ greatest_length
  opened_short = ltb-false greatest_length (length b) tests.0

  pub opened_ended : get_or b (length b - 1) 0 ≡ line_end
  opened_ended = eqb-true (get_or b (length b - 1) 0) line_end tests.1

last_some : (b : List ℕ) → get_or b (length b - 1) 0 ≡ line_end → 0 < length b
last_some [] h = absurd (omega arith)
last_some (x ∷ b) h = omega arith

pub opened_some : (b : List ℕ) (u : Unit {0}) → opened b ≡ Ok u → 0 < length b
opened_some b u e = last_some b (opened_ended b u e)

pub lines_few : (b : List ℕ) (u : Unit {0}) → opened b ≡ Ok u → length (lines_of b) ≤ greatest_length
lines_few b u e = omega (arith, opened_short b u e, opened_some b u e, length_split_le line_end (take (length b - 1) b), length-take (length b - 1) b)
