-- The table of inverses of the integers modulo 101: one test, computed at every entry.
use Rattle.std.specs.Prelude.{◌≡◌, ℕ, ◌*◌, ◌%◌, ◌^◌, ◌<◌, Bool, true, cond, ◌&&◌, ◌≢◌, List, [], ◌∷◌, Some, None, ◌==◌, slice_index, refl}
use Rattle.std.proofs.Common.{subst, ◌∙◌, mod-lt, arith, lit<}
use Rattle.std.proofs.lemmas.Bool.{and_parts, cond_both, cond-false, eqb-false, eqb-true, ne_eqb}
use Rattle.rings.specs.AllBelow.{all_below}
use Rattle.rings.specs.Meaning.{Inverse}
use Rattle.rings.specs.Mod101.{mod101_inverse}
use Rattle.rings.specs.Modular.{modular}
use Rattle.rings.specs.AllBelowLemmas.{all_below_at}

abbrev pub inverses : List ℕ
inverses = 0 ∷ 1 ∷ 51 ∷ 34 ∷ 76 ∷ 81 ∷ 17 ∷ 29 ∷ 38 ∷ 45 ∷ 91 ∷ 46 ∷ 59 ∷ 70 ∷ 65 ∷ 27 ∷ 19 ∷ 6 ∷ 73 ∷ 16 ∷ 96 ∷ 77 ∷ 23 ∷ 22 ∷ 80 ∷ 97 ∷ 35 ∷ 15 ∷ 83 ∷ 7 ∷ 64 ∷ 88 ∷ 60 ∷ 49 ∷ 3 ∷ 26 ∷ 87 ∷ 71 ∷ 8 ∷ 57 ∷ 48 ∷ 69 ∷ 89 ∷ 47 ∷ 62 ∷ 9 ∷ 11 ∷ 43 ∷ 40 ∷ 33 ∷ 99 ∷ 2 ∷ 68 ∷ 61 ∷ 58 ∷ 90 ∷ 92 ∷ 39 ∷ 54 ∷ 12 ∷ 32 ∷ 53 ∷ 44 ∷ 93 ∷ 30 ∷ 14 ∷ 75 ∷ 98 ∷ 52 ∷ 41 ∷ 13 ∷ 37 ∷ 94 ∷ 18 ∷ 86 ∷ 66 ∷ 4 ∷ 21 ∷ 79 ∷ 78 ∷ 24 ∷ 5 ∷ 85 ∷ 28 ∷ 95 ∷ 82 ∷ 74 ∷ 36 ∷ 31 ∷ 42 ∷ 55 ∷ 10 ∷ 56 ∷ 63 ∷ 72 ∷ 84 ∷ 20 ∷ 25 ∷ 67 ∷ 50 ∷ 100 ∷ []

-- The entry is the power, and its product with the code is 1 unless the code is 0.
entry_test : ℕ → Bool
entry_test a = slice_index inverses a == a ^ 99 % 101 && a * slice_index inverses a % 101 == cond (a == 0) 0 1

entries_pass : all_below entry_test 101 ≡ true
unfolding all_below entry_test
entries_pass = refl

entry_passes : (a : ℕ) → a < 101 → ((slice_index inverses a == a ^ 99 % 101) ≡ true) × ((a * slice_index inverses a % 101 == cond (a == 0) 0 1) ≡ true)
unfolding entry_test
entry_passes a h =
    and_parts (slice_index inverses a == a ^ 99 % 101) (a * slice_index inverses a % 101 == cond (a == 0) 0 1) (all_below_at entry_test 101 entries_pass a h)

pub entry_is_power : (a : ℕ) → a < 101 → slice_index inverses a ≡ a ^ 99 % 101
entry_is_power a h = eqb-true (slice_index inverses a) (a ^ 99 % 101) (entry_passes a h).0

pub entry_inverts : (a : ℕ) → a < 101 → 0 < a → a * slice_index inverses a % 101 ≡ 1
entry_inverts a h p =
    eqb-true (a * slice_index inverses a % 101) (cond (a == 0) 0 1) (entry_passes a h).1 ∙ cond-false (a == 0) 0 1 (ne_eqb a 0 (λ e. omega arith))

pub mod101_inverts : (a : ℕ) → a < 101 → Inverse 101 (modular 101) a (mod101_inverse a)
mod101_inverts a h =
    cond_both (a == 0) None (Some (a ^ 99 % 101)) (Inverse 101 (modular 101) a) (λ e. eqb-true a 0 e)
    (λ e. (mod-lt (a ^ 99) (lit< tt), subst (λ x. a * x % 101 ≡ 1) (entry_is_power a h) (entry_inverts a h (let n : a ≢ 0 = eqb-false a 0 e in omega arith))))
