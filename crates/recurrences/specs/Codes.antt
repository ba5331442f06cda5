-- Lists of codes.
use Rattle.std.specs.Prelude.{ℕ, Bool, List, nat_lt}
use Rattle.std.specs.List.{list_all}

-- each entry is a code: a number below q
abbrev pub all_codes : ℕ → List ℕ → Bool
all_codes q = list_all (λ x. nat_lt x q)
