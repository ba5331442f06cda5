use Rattle.std.proofs.Common.{◌≡◌, ℕ, sym, subst}
use Rattle.rings.specs.PowersOfThree.{three_to}
use Rattle.rings.specs.ThreePowers.{places, entry_is_place, power_of_place}
use Rattle.rings.proofs.powers_of_three.place_among_powers.Goals as goal

pub returns : goal.returns
unfolding places
returns c =
    let a = c.args.a in
    let e = entry_is_place a c.requires in
    record { entry = e; rule = λ p. subst (λ (x : ℕ). three_to x ≡ a) (sym e) (power_of_place a c.requires p) }
