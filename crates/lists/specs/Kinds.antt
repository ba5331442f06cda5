-- The kinds of lines.
use Rattle.std.specs.Prelude.{ℕ, cond, List, [], ◌∷◌, Some, None, Option, ◌==◌}
use Rattle.lists.specs.Bytes.{start_letter, matrix_letter, end_letter}
use Rattle.lists.specs.declared.kind.Kind.{Kind}
use Rattle.lists.specs.declared.kind.Kind.TheVariants.{Start, Matrix, End}

-- the kind of a line, if its first field is just the letter of a kind
abbrev pub kind_of : List ℕ → Option Kind
kind_of [] = None
kind_of (b ∷ []) = cond (b == start_letter) (Some Start) (cond (b == matrix_letter) (Some Matrix) (cond (b == end_letter) (Some End) None))
kind_of (b ∷ c ∷ bs) = None

-- one of four, by the kind of a line
abbrev pub by_kind : {X : Type 0} → Option Kind → X → X → X → X → X
by_kind None start matrix end other = other
by_kind (Some Start) start matrix end other = start
by_kind (Some Matrix) start matrix end other = matrix
by_kind (Some End) start matrix end other = end
