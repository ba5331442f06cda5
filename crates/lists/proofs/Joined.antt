-- Lines joined with their ends.
use Rattle.std.proofs.Common.{◌≡◌, ℕ, List, [], ◌∷◌, ◌++◌, map, sym, refl, ap, ◌∙◌, append_assoc}
use Rattle.lists.specs.Bytes.{line_end, comma}
use Rattle.lists.specs.Split.{join}
use Rattle.lists.specs.Text.{header_fields, matrix_fields, end_fields, body_fields, closed}
use Rattle.lists.specs.declared.header.Header.{Header}

abbrev pub header_line : Header → List ℕ
header_line h = join comma (header_fields h)

abbrev pub matrix_line : List ℕ → List ℕ
matrix_line m = join comma (matrix_fields m)

abbrev pub end_line : ℕ → List ℕ
end_line n = join comma (end_fields n)

abbrev pub body_lines : ℕ → List (List ℕ) → List (List ℕ)
body_lines n ms = map (join comma) (body_fields n ms)

pub closed_join : (l : List ℕ) (ls : List (List ℕ)) → closed (l ∷ ls) ≡ join line_end (l ∷ ls) ++ (line_end ∷ [])
closed_join l [] = refl
closed_join l (x ∷ ls) = ap (λ (s : List ℕ). l ++ (line_end ∷ s)) (closed_join x ls) ∙ sym (append_assoc l (line_end ∷ join line_end (x ∷ ls)) (line_end ∷ []))
