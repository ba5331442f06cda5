-- The inverses of the integers modulo 7: one test, computed at every code.
use Rattle.std.specs.Prelude.{◌≡◌, ℕ, ◌*◌, ◌%◌, ◌^◌, ◌<◌, Bool, true, cond, Some, None, ◌==◌, refl}
use Rattle.std.proofs.Common.{◌∙◌, mod-lt, lit<}
use Rattle.std.proofs.lemmas.Bool.{cond_both, cond-false, eqb-true}
use Rattle.rings.specs.AllBelow.{all_below}
use Rattle.rings.specs.Meaning.{Inverse}
use Rattle.rings.specs.Modular.{modular}
use Rattle.rings.specs.AllBelowLemmas.{all_below_at}
use Rattle.own_field.specs.Mod7.{mod7_inverse}

-- The product of a code with its power of exponent 5 is 1 unless the code is 0.
power_test : ℕ → Bool
power_test a = a * (a ^ 5 % 7) % 7 == cond (a == 0) 0 1

powers_pass : all_below power_test 7 ≡ true
unfolding all_below power_test
powers_pass = refl

power_passes : (a : ℕ) → a < 7 → a * (a ^ 5 % 7) % 7 ≡ cond (a == 0) 0 1
unfolding power_test
power_passes a h = eqb-true (a * (a ^ 5 % 7) % 7) (cond (a == 0) 0 1) (all_below_at power_test 7 powers_pass a h)

pub mod7_inverts : (a : ℕ) → a < 7 → Inverse 7 (modular 7) a (mod7_inverse a)
mod7_inverts a h =
    cond_both (a == 0) None (Some (a ^ 5 % 7)) (Inverse 7 (modular 7) a) (λ e. eqb-true a 0 e)
    (λ e. (mod-lt (a ^ 5) (lit< tt), power_passes a h ∙ cond-false (a == 0) 0 1 e))
