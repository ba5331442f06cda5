-- The codes of lines.
use Rattle.std.proofs.Common.{◌≡◌, ℕ, true, false, cond, List, [], ◌∷◌, ◌++◌, Some, None, Option, refl}
use Rattle.lists.specs.Bytes.{comma}
use Rattle.lists.specs.Contents.{values_of, matrices_in, flat, line_codes}
use Rattle.lists.specs.Kinds.{kind_of, by_kind}
use Rattle.lists.specs.Split.{split, first}
use Rattle.lists.specs.declared.kind.Kind.{Kind}
use Rattle.lists.specs.declared.kind.Kind.TheVariants.{Start, Matrix, End}

pub line_codes_first : (l : List ℕ) (ls : List (List ℕ)) → flat (matrices_in (l ∷ ls)) ≡ line_codes l ++ flat (matrices_in ls)
line_codes_first l ls = by (kind_of (first (split comma l)))
  where
    by : (o : Option Kind) → flat (by_kind o (matrices_in ls) (values_of l ∷ matrices_in ls) (matrices_in ls) (matrices_in ls)) ≡ cond (by_kind o false true false false) (values_of l) [] ++ flat (matrices_in ls)
    by None = refl
    by (Some Start) = refl
    by (Some Matrix) = refl
    by (Some End) = refl
