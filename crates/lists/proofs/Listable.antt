-- The lists that write accepts.
use Rattle.std.proofs.Common.{◌≡◌, ℕ, ◌%◌, ◌<◌, ◌≤◌, Bool, true, false, cond, eqb, ltb, leb, List, [], ◌∷◌, length, Ok, Err, Result, sym, refl, ap, ◌∙◌, mul-le-mul, arith}
use Rattle.std.specs.List.{AllByRecursion}
use Rattle.std.proofs.lemmas.Bool.{eqb-true, eq-eqb, leb-true, le-leb, ltb-true, ltb-false, lt-ltb, le-ltb, and_parts, and_from, cond-true, cond-false}
use Rattle.recurrences.specs.Limits.{greatest_bound}
use Rattle.recurrences.specs.declared.refusal.Refusal.{Refusal}
use Rattle.recurrences.specs.declared.refusal.Refusal.TheVariants.{Size, Bound, Length, Code}
use Rattle.lists.specs.Checks.{then, carried}
use Rattle.lists.specs.Contents.{flat}
use Rattle.lists.specs.FirstFault.{IsList}
use Rattle.lists.specs.Limits.{greatest_length}
use Rattle.recurrences.specs.Ranges.{is_size, checked_size, checked_bound}
use Rattle.lists.specs.Rings.{size_of}
use Rattle.lists.specs.Text.{cells, count_of, matrices_of, text}
use Rattle.recurrences.specs.Codes.{all_codes}
use Rattle.lists.specs.Write.{checked_multiple, checked_codes, checked_text, checked_list}
use Rattle.lists.specs.declared.fault.WholeFault.TheVariants.{TooLong}
use Rattle.lists.specs.declared.fault.WriteFault.TheVariants.{OfList, OfText}
use Rattle.lists.specs.declared.header.Header.{Header}
use Rattle.lists.proofs.Headers.{size_least}
use Rattle.lists.proofs.Parted.{flat_parted, parted_lengths, parted_all, length_parted, count_times, all_both}
use Rattle.lists.proofs.Steps.{err_ok, then_ok, carried_ok, cond_ok}

pub codes_all : (q : ℕ) (cs : List ℕ) → all_codes q cs ≡ true → AllByRecursion (λ c. c < q) cs
codes_all q [] h = tt
codes_all q (c ∷ cs) h = let p = and_parts (ltb c q) (all_codes q cs) h in (ltb-true c q p.0, codes_all q cs p.1)

pub all_codes_from : (q : ℕ) (cs : List ℕ) → AllByRecursion (λ c. c < q) cs → all_codes q cs ≡ true
all_codes_from q [] h = refl
all_codes_from q (c ∷ cs) h = and_from (ltb c q) (all_codes q cs) (lt-ltb c q h.0) (all_codes_from q cs h.1)

pub record Listable (h : Header) (cs : List ℕ) : Type 0 where
  pub size : is_size h.size ≡ true
  pub bound : h.bound ≤ greatest_bound
  pub multiple : length cs % cells h ≡ 0
  pub codes : AllByRecursion (λ c. c < size_of h.letter) cs
  pub short : length (text h cs) ≤ greatest_length

text_ok : (t : List ℕ) (n : ℕ) → checked_text t ≡ Ok n → (length t ≤ greatest_length) × (length t ≡ n)
text_ok t n h = by (ltb greatest_length (length t)) refl h
  where
    by : (b : Bool) → ltb greatest_length (length t) ≡ b → cond b (Err TooLong) (Ok (length t)) ≡ Ok n → (length t ≤ greatest_length) × (length t ≡ n)
    by true e h = absurd (err_ok h)
    by false e h = (ltb-false greatest_length (length t) e, cc)

pub text_too_long : (t : List ℕ) → greatest_length < length t → Err TooLong ≡ checked_text t
text_too_long t h = sym (cond-true (ltb greatest_length (length t)) (Err TooLong) (Ok (length t)) (lt-ltb greatest_length (length t) h))

pub text_fits : (t : List ℕ) (n : ℕ) → n ≡ length t → n ≤ greatest_length → Ok n ≡ checked_text t
text_fits t n e h = ap (λ (x : ℕ). Ok x) e ∙ sym (cond-false (ltb greatest_length (length t)) (Err TooLong) (Ok (length t)) (le-ltb greatest_length (length t) (omega (arith, e, h))))

pub size_accepted : (n v : ℕ) → Ok v ≡ checked_size n → is_size n ≡ true
size_accepted n v e = (cond_ok (is_size n) n v Size (sym e)).0

pub multiple_accepted : (k : ℕ) (cs : List ℕ) (u : Unit {0}) → Ok u ≡ checked_multiple k cs → length cs % k ≡ 0
multiple_accepted k cs u e = eqb-true (length cs % k) 0 (cond_ok (eqb (length cs % k) 0) tt u Length (sym e)).0

pub list_ok : (h : Header) (cs : List ℕ) (n : ℕ) → checked_list h cs ≡ Ok n → Listable h cs × (length (text h cs) ≡ n)
list_ok h cs n e =
    let a = then_ok (carried OfList (checked_size h.size)) _ n e in
    let b = then_ok (carried OfList (checked_bound h.bound)) _ n a.2 in
    let m = then_ok (carried OfList (checked_multiple (cells h) cs)) _ n b.2 in
    let c = then_ok (carried OfList (checked_codes (size_of h.letter) cs)) _ n m.2 in
    let t = text_ok (text h cs) n (carried_ok OfText (checked_text (text h cs)) n c.2) in (
      record {
        size = size_accepted h.size a.0 (sym (carried_ok OfList (checked_size h.size) a.0 a.1));
        bound = leb-true h.bound greatest_bound (cond_ok (leb h.bound greatest_bound) h.bound b.0 Bound (carried_ok OfList (checked_bound h.bound) b.0 b.1)).0;
        multiple = multiple_accepted (cells h) cs m.0 (sym (carried_ok OfList (checked_multiple (cells h) cs) m.0 m.1));
        codes = codes_all (size_of h.letter) cs (cond_ok (all_codes (size_of h.letter) cs) tt c.0 Code (carried_ok OfList (checked_codes (size_of h.letter) cs) c.0 c.1)).0;
        short = t.0;
      },
      t.1,
    )

pub list_accepted : (h : Header) (cs : List ℕ) → Listable h cs → checked_list h cs ≡ Ok (length (text h cs))
list_accepted h cs l =
    let t = text h cs in
    let q = size_of h.letter in
    ap (λ (r : Result ℕ Refusal). then (carried OfList r) (λ _. then (carried OfList (checked_bound h.bound)) (λ _. then (carried OfList (checked_multiple (cells h) cs)) (λ _. then (carried OfList (checked_codes q cs)) (λ _. carried OfText (checked_text t))))))
    (cond-true (is_size h.size) (Ok h.size) (Err Size) l.size)
    ∙ ap (λ (r : Result ℕ Refusal). then (carried OfList r) (λ _. then (carried OfList (checked_multiple (cells h) cs)) (λ _. then (carried OfList (checked_codes q cs)) (λ _. carried OfText (checked_text t)))))
    (cond-true (leb h.bound greatest_bound) (Ok h.bound) (Err Bound) (le-leb h.bound greatest_bound l.bound))
    ∙ ap (λ (r : Result (Unit {0}) Refusal). then (carried OfList r) (λ _. then (carried OfList (checked_codes q cs)) (λ _. carried OfText (checked_text t))))
    (cond-true (eqb (length cs % cells h) 0) (Ok tt) (Err Length) (eq-eqb (length cs % cells h) 0 l.multiple))
    ∙ ap (λ (r : Result (Unit {0}) Refusal). then (carried OfList r) (λ _. carried OfText (checked_text t)))
    (cond-true (all_codes q cs) (Ok tt) (Err Code) (all_codes_from q cs l.codes))
    ∙ ap (carried OfText) (cond-false (ltb greatest_length (length t)) (Err TooLong) (Ok (length t)) (le-ltb greatest_length (length t) l.short))

pub cells_some : (h : Header) → is_size h.size ≡ true → 0 < cells h
cells_some h e = mul-le-mul (size_least h.size e) (size_least h.size e)

-- the matrices of an accepted list
module _ (h : Header) (cs : List ℕ) (l : Listable h cs) where
  pub listed_codes : flat (matrices_of h cs) ≡ cs
  listed_codes = flat_parted (cells h) (count_of h cs) cs (count_times (cells h) cs l.multiple)

  pub listed_count : length (matrices_of h cs) ≡ count_of h cs
  listed_count = length_parted (cells h) (count_of h cs) cs

  pub listed : IsList h (matrices_of h cs)
  listed = record {
    size = l.size;
    bound = l.bound;
    matrices = all_both (λ m. length m ≡ cells h) (AllByRecursion (λ c. c < size_of h.letter)) (matrices_of h cs) (parted_lengths (cells h) (count_of h cs) cs (count_times (cells h) cs l.multiple)) (parted_all (cells h) (λ c. c < size_of h.letter) (count_of h cs) cs l.codes);
  }
