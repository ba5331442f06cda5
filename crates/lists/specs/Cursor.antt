-- What a cursor has left to hand out.
use Rattle.std.specs.Prelude.{ℕ, List, [], Some, None, Option}
use Rattle.std.specs.Borrow.{Bor}
use Rattle.lists.specs.Split.{split}

-- the parts of the text that is left; none is left once the last was handed out
abbrev pub left : ℕ → Option (Bor (List ℕ)) → List (List ℕ)
left c None = []
left c (Some text) = split c text.now
