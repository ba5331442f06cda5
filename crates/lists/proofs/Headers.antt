-- What an accepted header is.
use Rattle.std.proofs.Common.{◌≡◌, ℕ, ◌≤◌, true, leb, List, [], length, get_or, Some, None, Ok, Option, sym, refl, ap, ◌∙◌, arith}
use Rattle.std.proofs.lemmas.Bool.{leb-true, and_parts}
use Rattle.recurrences.specs.Limits.{greatest_size, greatest_bound}
use Rattle.lists.specs.Faults.{line_refused}
use Rattle.lists.specs.Kinds.{kind_of, by_kind}
use Rattle.lists.specs.LineChecks.{counted, number_at, ring_at, size_at, bound_at, checked_fields, checked_header}
use Rattle.recurrences.specs.declared.refusal.Refusal.TheVariants.{Size, Bound}
use Rattle.lists.specs.Numeral.{numeral}
use Rattle.lists.specs.declared.letter.RingLetter.{RingLetter}
use Rattle.recurrences.specs.Ranges.{is_size, checked_size, checked_bound}
use Rattle.lists.specs.Rings.{letter_of}
use Rattle.lists.specs.Split.{first}
use Rattle.lists.specs.declared.fault.LineFault.TheVariants.{Letter}
use Rattle.lists.specs.declared.header.Header.{Header}
use Rattle.lists.specs.declared.kind.Kind.{Kind}
use Rattle.lists.specs.declared.kind.Kind.TheVariants.{Start, Matrix, End}
use Rattle.lists.proofs.Counts.{counted_ok}
use Rattle.lists.proofs.Steps.{err_ok, then_ok, carried_ok, cond_ok}

pub size_least : (n : ℕ) → is_size n ≡ true → 1 ≤ n
size_least n h = leb-true 1 n (and_parts (leb 1 n) (leb n greatest_size) h).0

pub size_greatest : (n : ℕ) → is_size n ≡ true → n ≤ greatest_size
size_greatest n h = leb-true n greatest_size (and_parts (leb 1 n) (leb n greatest_size) h).1

-- the fields of an accepted header
pub record HeaderFields (line : ℕ) (fs : List (List ℕ)) (h : Header) : Type 0 where
  pub kind : kind_of (first fs) ≡ Some Start
  pub count : length fs ≡ 4
  pub letter : letter_of (get_or fs 1 []) ≡ Some h.letter
  pub size : numeral (get_or fs 2 []) ≡ Ok h.size
  pub is_size : is_size h.size ≡ true
  pub bound : numeral (get_or fs 3 []) ≡ Ok h.bound
  pub is_bound : h.bound ≤ greatest_bound

pub ring_ok : (line k : ℕ) (o : Option RingLetter) (g : RingLetter) → ring_at line k o ≡ Ok g → o ≡ Some g
ring_ok line k None g h = absurd (err_ok h)
ring_ok line k (Some x) g h = cc

pub size_ok : (line k : ℕ) (f : List ℕ) (n : ℕ) → size_at line k f ≡ Ok n → (numeral f ≡ Ok n) × (is_size n ≡ true)
size_ok line k f n h =
    let a = then_ok (number_at line k f) _ n h in
    let v = a.0 in
    let r = cond_ok (is_size v) v n Size (carried_ok _ (checked_size v) n a.2) in
    (carried_ok _ (numeral f) v a.1 ∙ ap (λ (x : ℕ). Ok x) r.1, ap is_size (sym r.1) ∙ r.0)

bound_ok : (line k : ℕ) (f : List ℕ) (d : ℕ) → bound_at line k f ≡ Ok d → (numeral f ≡ Ok d) × (d ≤ greatest_bound)
bound_ok line k f d h =
    let a = then_ok (number_at line k f) _ d h in
    let v = a.0 in
    let r = cond_ok (leb v greatest_bound) v d Bound (carried_ok _ (checked_bound v) d a.2) in
    (carried_ok _ (numeral f) v a.1 ∙ ap (λ (x : ℕ). Ok x) r.1, omega (arith, r.1, leb-true v greatest_bound r.0))

fields_ok : (line : ℕ) (fs : List (List ℕ)) (h : Header) → kind_of (first fs) ≡ Some Start → checked_fields line fs ≡ Ok h → HeaderFields line fs h
fields_ok line fs h k e =
    let a = then_ok (counted 4 line fs) _ h e in
    let r = then_ok (ring_at line 2 (letter_of (get_or fs 1 []))) _ h a.2 in
    let s = then_ok (size_at line 3 (get_or fs 2 [])) _ h r.2 in
    let d = then_ok (bound_at line 4 (get_or fs 3 [])) _ h s.2 in
    let same : record { letter = r.0; size = s.0; bound = d.0 } ≡ h = cc in
    let sz = size_ok line 3 (get_or fs 2 []) s.0 s.1 in
    let bd = bound_ok line 4 (get_or fs 3 []) d.0 d.1 in
    let n : s.0 ≡ h.size = ap (λ (x : Header). x.size) same in
    let m : d.0 ≡ h.bound = ap (λ (x : Header). x.bound) same in
    record {
      kind = k;
      count = counted_ok 4 line fs a.0 (sym a.1);
      letter = ring_ok line 2 (letter_of (get_or fs 1 [])) r.0 r.1 ∙ ap (λ (x : Header). Some x.letter) same;
      size = sz.0 ∙ ap (λ (x : ℕ). Ok x) n;
      is_size = ap is_size (sym n) ∙ sz.1;
      bound = bd.0 ∙ ap (λ (x : ℕ). Ok x) m;
      is_bound = omega (arith, m, bd.1);
    }

pub header_ok : (line : ℕ) (fs : List (List ℕ)) (h : Header) → checked_header line fs ≡ Ok h → HeaderFields line fs h
header_ok line fs h e = by (kind_of (first fs)) refl e
  where
    by : (k : Option Kind) → kind_of (first fs) ≡ k → by_kind k (checked_fields line fs) (line_refused Letter line 1) (line_refused Letter line 1) (line_refused Letter line 1) ≡ Ok h → HeaderFields line fs h
    by None k e = absurd (err_ok e)
    by (Some Start) k e = fields_ok line fs h k e
    by (Some Matrix) k e = absurd (err_ok e)
    by (Some End) k e = absurd (err_ok e)
