-- The lines of an accepted file are those that its list is written with.
use Rattle.std.proofs.Common.{◌≡◌, ℕ, ◌+◌, ◌*◌, ◌<◌, ◌≤◌, eqb, List, [], ◌∷◌, length, get_or, drop, Some, None, Ok, decimal, Option, sym, refl, ap, ◌∙◌, subst, arith, length-append}
use Rattle.std.specs.List.{AllByRecursion}
use Rattle.std.proofs.lemmas.List.{length-map}
use Rattle.std.proofs.lemmas.Bool.{eqb-true}
use Rattle.lists.specs.Bytes.{line_end, comma, start_letter, matrix_letter, end_letter}
use Rattle.lists.specs.Checks.{then}
use Rattle.lists.specs.Contents.{value_of, values_of, matrices_in, flat}
use Rattle.lists.specs.Faults.{line_refused}
use Rattle.lists.specs.FileChecks.{nothing_behind, checked_body, checked_lines}
use Rattle.lists.specs.FirstFault.{MatrixOf}
use Rattle.lists.specs.Kinds.{kind_of, by_kind}
use Rattle.lists.specs.LineChecks.{counted, number_at, checked_header, checked_matrix, checked_end}
use Rattle.lists.specs.Numeral.{numeral}
use Rattle.lists.specs.Rings.{size_of, byte_of}
use Rattle.lists.specs.Split.{split, join, first}
use Rattle.lists.specs.Text.{list_lines, cells}
use Rattle.lists.specs.declared.fault.LineFault.TheVariants.{Letter}
use Rattle.lists.specs.declared.header.Header.{Header}
use Rattle.lists.specs.declared.header.Listing.{Listing}
use Rattle.lists.specs.declared.kind.Kind.{Kind}
use Rattle.lists.specs.declared.kind.Kind.TheVariants.{Start, Matrix, End}
use Rattle.lists.proofs.Counts.{counted_ok}
use Rattle.lists.proofs.Fields.{some_fields, two_fields, four_fields, number_field, codes_ok}
use Rattle.lists.proofs.Headers.{HeaderFields, header_ok}
use Rattle.lists.proofs.Joined.{header_line, matrix_line, end_line, body_lines}
use Rattle.lists.proofs.Letters.{kind_field, ring_field}
use Rattle.lists.proofs.Splitting.{join_split}
use Rattle.lists.proofs.Steps.{err_ok, then_ok, carried_ok, cond_ok}

-- ---- one line
pub header_written : (line : ℕ) (l : List ℕ) (h : Header) → HeaderFields line (split comma l) h → header_line h ≡ l
header_written line l h f =
    let fs = split comma l in
    ap (join comma) (sym (four_fields fs f.count
    ∙ ap (λ (p : List ℕ). p ∷ get_or fs 1 [] ∷ get_or fs 2 [] ∷ get_or fs 3 [] ∷ []) (kind_field (first fs) Start f.kind)
    ∙ ap (λ (p : List ℕ). (start_letter ∷ []) ∷ p ∷ get_or fs 2 [] ∷ get_or fs 3 [] ∷ []) (ring_field (get_or fs 1 []) h.letter f.letter)
    ∙ ap (λ (p : List ℕ). (start_letter ∷ []) ∷ (byte_of h.letter ∷ []) ∷ p ∷ get_or fs 3 [] ∷ []) (number_field (get_or fs 2 []) h.size f.size)
    ∙ ap (λ (p : List ℕ). (start_letter ∷ []) ∷ (byte_of h.letter ∷ []) ∷ decimal h.size ∷ p ∷ []) (number_field (get_or fs 3 []) h.bound f.bound))) ∙ join_split comma l

-- ---- how long joined parts are
long_join : (c : ℕ) (p : List ℕ) (ps : List (List ℕ)) → AllByRecursion (λ f. 0 < length f) ps → length p + 2 * length ps ≤ length (join c (p ∷ ps))
long_join c p [] h = omega arith
long_join c p (r ∷ ps) h = omega (arith, h.0, length-append p (c ∷ join c (r ∷ ps)), long_join c r ps h.1)

join_more : (c : ℕ) (l : List ℕ) (ls : List (List ℕ)) → length l + length (join c ls) ≤ length (join c (l ∷ ls))
join_more c l [] = omega arith
join_more c l (x ∷ ls) = omega (arith, length-append l (c ∷ join c (x ∷ ls)))

pub record MatrixLine (h : Header) (l : List ℕ) : Type 0 where
  pub written : matrix_line (values_of l) ≡ l
  pub matrix : MatrixOf h (values_of l)
  pub room : 2 * length (values_of l) ≤ length l

pub matrix_ok : (h : Header) (line : ℕ) (l : List ℕ) (u : Unit {0}) → kind_of (first (split comma l)) ≡ Some Matrix → checked_matrix h line (split comma l) ≡ Ok u → MatrixLine h l
matrix_ok h line l u k e =
    let fs = split comma l in
    let a = then_ok (counted (cells h + 1) line fs) _ u e in
    let n = counted_ok (cells h + 1) line fs a.0 (sym a.1) in
    let cs = codes_ok (size_of h.letter) line 2 (drop 1 fs) u a.2 in
    let some = some_fields fs (cells h) n in
    let whole : join comma (first fs ∷ drop 1 fs) ≡ l = ap (join comma) (sym some) ∙ join_split comma l in
    record {
      written = ap (join comma) (ap (λ (xs : List (List ℕ)). (matrix_letter ∷ []) ∷ xs) cs.decimals ∙ ap (λ (p : List ℕ). p ∷ drop 1 fs) (sym (kind_field (first fs) Matrix k))) ∙ whole;
      matrix = (omega (arith, length-map (drop 1 fs) value_of, n, ap length some), cs.codes);
      room = omega (arith, length-map (drop 1 fs) value_of, ap length whole, long_join comma (first fs) (drop 1 fs) cs.some);
    }

pub end_ok : (n line : ℕ) (l : List ℕ) (u : Unit {0}) → kind_of (first (split comma l)) ≡ Some End → checked_end n line (split comma l) ≡ Ok u → end_line n ≡ l
end_ok n line l u k e =
    let fs = split comma l in
    let a = then_ok (counted 2 line fs) _ u e in
    let c = counted_ok 2 line fs a.0 (sym a.1) in
    let b = then_ok (number_at line 2 (get_or fs 1 [])) _ u a.2 in
    let t = cond_ok (eqb b.0 n) tt u _ b.2 in
    let v : get_or fs 1 [] ≡ decimal n = number_field (get_or fs 1 []) b.0 (carried_ok _ (numeral (get_or fs 1 [])) b.0 b.1) ∙ ap decimal (eqb-true b.0 n t.0) in
    ap (join comma) (sym (two_fields fs c ∙ ap (λ (p : List ℕ). p ∷ get_or fs 1 [] ∷ []) (kind_field (first fs) End k) ∙ ap (λ (p : List ℕ). (end_letter ∷ []) ∷ p ∷ []) v)) ∙ join_split comma l

-- ---- the lines behind the header
pub nothing_behind_ok : (n line : ℕ) (ls : List (List ℕ)) (m : ℕ) → nothing_behind n line ls ≡ Ok m → (ls ≡ []) × (n ≡ m)
nothing_behind_ok n line [] m h = (refl, cc)
nothing_behind_ok n line (l ∷ ls) m h = absurd (err_ok h)

pub record Body (h : Header) (n : ℕ) (ls : List (List ℕ)) (m : ℕ) : Type 0 where
  pub written : ls ≡ body_lines m (matrices_in ls)
  pub count : m ≡ n + length (matrices_in ls)
  pub matrices : AllByRecursion (MatrixOf h) (matrices_in ls)
  pub room : 2 * length (flat (matrices_in ls)) ≤ length (join line_end ls)

pub body_ok : (h : Header) (n line : ℕ) (ls : List (List ℕ)) (m : ℕ) → checked_body h n line ls ≡ Ok m → Body h n ls m
body_ok h n line [] m e = absurd (err_ok e)
body_ok h n line (l ∷ ls) m e = by (kind_of (first (split comma l))) refl e (λ e'. body_ok h (n + 1) (line + 1) ls m e')
  where
    by : (k : Option Kind) → kind_of (first (split comma l)) ≡ k
        → by_kind k (line_refused Letter line 1) (then (checked_matrix h line (split comma l)) (λ _. checked_body h (n + 1) (line + 1) ls)) (then (checked_end n line (split comma l)) (λ _. nothing_behind n (line + 1) ls)) (line_refused Letter line 1) ≡ Ok m
        → (checked_body h (n + 1) (line + 1) ls ≡ Ok m → Body h (n + 1) ls m)
        → Body h n (l ∷ ls) m
    by None k e ih = absurd (err_ok e)
    by (Some Start) k e ih = absurd (err_ok e)
    by (Some Matrix) k e ih =
        let a = then_ok (checked_matrix h line (split comma l)) _ m e in
        let r = ih a.2 in
        let w = matrix_ok h line l a.0 k a.1 in
        let here : matrices_in (l ∷ ls) ≡ values_of l ∷ matrices_in ls = ap (λ (o : Option Kind). by_kind o (matrices_in ls) (values_of l ∷ matrices_in ls) (matrices_in ls) (matrices_in ls)) k in
        record {
          written = ap (λ (x : List ℕ). x ∷ ls) (sym w.written) ∙ ap (λ (xs : List (List ℕ)). matrix_line (values_of l) ∷ xs) r.written ∙ ap (body_lines m) (sym here);
          count = omega (arith, r.count, ap length here);
          matrices = subst (AllByRecursion (MatrixOf h)) (sym here) (w.matrix, r.matrices);
          room = omega (arith, w.room, r.room, join_more line_end l ls, ap (λ (x : List (List ℕ)). length (flat x)) here, length-append (values_of l) (flat (matrices_in ls)));
        }
    by (Some End) k e ih =
        let a = then_ok (checked_end n line (split comma l)) _ m e in
        let d = nothing_behind_ok n (line + 1) ls m a.2 in
        let here : matrices_in (l ∷ ls) ≡ [] = ap (λ (o : Option Kind). by_kind o (matrices_in ls) (values_of l ∷ matrices_in ls) (matrices_in ls) (matrices_in ls)) k ∙ ap matrices_in d.0 in
        record {
          written = ap (λ (x : List ℕ). x ∷ ls) (sym (end_ok n line l a.0 k a.1)) ∙ ap (λ (xs : List (List ℕ)). end_line n ∷ xs) d.0 ∙ ap (λ (x : ℕ). end_line x ∷ []) d.1 ∙ ap (body_lines m) (sym here);
          count = omega (arith, d.1, ap length here);
          matrices = subst (AllByRecursion (MatrixOf h)) (sym here) tt;
          room = omega (arith, ap (λ (x : List (List ℕ)). length (flat x)) here);
        }

-- ---- the whole
pub record ListFile (ls : List (List ℕ)) (r : Listing) : Type 0 where
  pub fields : HeaderFields 1 (split comma (first ls)) r.header
  pub written : ls ≡ list_lines r.header (matrices_in ls)
  pub count : r.count ≡ length (matrices_in ls)
  pub matrices : AllByRecursion (MatrixOf r.header) (matrices_in ls)
  pub room : 2 * length (flat (matrices_in ls)) ≤ length (join line_end ls)

pub lines_ok : (ls : List (List ℕ)) (r : Listing) → checked_lines ls ≡ Ok r → ListFile ls r
lines_ok [] r e = absurd (err_ok e)
lines_ok (l ∷ ls) r e =
    let a = then_ok (checked_header 1 (split comma l)) _ r e in
    let d = then_ok (checked_body a.0 0 2 ls) _ r a.2 in
    let same : record { header = a.0; count = d.0 } ≡ r = cc in
    let f = header_ok 1 (split comma l) a.0 a.1 in
    let b = body_ok a.0 0 2 ls d.0 d.1 in
    let here : matrices_in (l ∷ ls) ≡ matrices_in ls = ap (λ (o : Option Kind). by_kind o (matrices_in ls) (values_of l ∷ matrices_in ls) (matrices_in ls) (matrices_in ls)) f.kind in
    let n : d.0 ≡ length (matrices_in ls) = omega (arith, b.count) in
    subst (ListFile (l ∷ ls)) same (record {
      fields = f;
      written = ap (λ (x : List ℕ). x ∷ ls) (sym (header_written 1 l a.0 f)) ∙ ap (λ (xs : List (List ℕ)). header_line a.0 ∷ xs) (b.written ∙ ap (λ (k : ℕ). body_lines k (matrices_in ls)) n) ∙ ap (list_lines a.0) (sym here);
      count = n ∙ ap length (sym here);
      matrices = subst (AllByRecursion (MatrixOf a.0)) (sym here) b.matrices;
      room = omega (arith, b.room, join_more line_end l ls, ap (λ (x : List (List ℕ)). length (flat x)) here);
    })
