use Rattle.std.specs.Prelude.{ℕ, Bool, List, length, take, drop, nat_le, ◌&&◌, ◌++◌, Result, Ok, Err, if◌then◌else◌}
use Rattle.std.specs.Cmp.Lexicographic.{pointwise}
use Rattle.std.specs.List.{list_all}
use Rattle.cases.specs.declared.error.CallError.{CallError}
use Rattle.cases.specs.declared.error.CallError.TheVariants.{WrittenElsewhere}

-- whether a place begins with a front and is blank behind it
abbrev pub held_in : {A : Type 0} → (A → A → Bool) → List A → A → List A → Bool
held_in eq front blank place =
    pointwise eq (take (length front) place) front && list_all (λ x. eq x blank) (drop (length front) place)

-- what a call wrote to the front of a place, if all behind it is blank
abbrev pub written_in : {A : Type 0} → (A → A → Bool) → ℕ → A → List A → Result (List A) CallError
written_in eq n blank place =
    if nat_le n (length place) && list_all (λ x. eq x blank) (drop n place)
    then Ok (take n place)
    else Err WrittenElsewhere

-- a place, when a front was put into it as far as it goes in
abbrev pub put_in : {A : Type 0} → List A → List A → List A
put_in front place = take (length place) front ++ drop (length front) place
