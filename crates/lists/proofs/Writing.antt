-- Texts written into a place one behind the other.
use Rattle.std.proofs.Common.{◌≡◌, ℕ, ◌+◌, ◌<◌, ◌≤◌, List, [], ◌∷◌, ◌++◌, length, take, drop, set, sym, ap, ◌∙◌, append_assoc, add-zero, add-one, arith, length-append}
use Rattle.std.proofs.lemmas.List.{set_split, take_at, drop_at, length-take-le, drop-drop, take-append-drop}
use Rattle.lists.specs.Places.{written}

pub written_one : {X : Type 0} (p : List X) (at : ℕ) (x : X) → at < length p → set p at x ≡ written at (x ∷ []) p
written_one p at x h = set_split p at x h ∙ ap (λ (n : ℕ). take at p ++ (x ∷ drop n p)) (sym (add-one at))

pub written_none : {X : Type 0} (at : ℕ) (p : List X) → written at [] p ≡ p
written_none at p = ap (λ (n : ℕ). take at p ++ drop n p) (add-zero at) ∙ take-append-drop at p

-- t behind s
pub written_more : {X : Type 0} (p : List X) (at : ℕ) (s t : List X) (n : ℕ) → n ≡ at + length s → n ≤ length p → written n t (written at s p) ≡ written at (s ++ t) p
written_more p at s t n e h =
    let a = take at p in let b = drop (at + length s) p in
    let l : length (a ++ s) ≡ n = length-append a s ∙ ap (λ (k : ℕ). k + length s) (length-take-le at p (omega arith)) ∙ sym e in
    let w : written at s p ≡ (a ++ s) ++ b = sym (append_assoc a s b) in
    let d : drop (n + length t) ((a ++ s) ++ b) ≡ drop (length t) b = sym (drop-drop (length t) n ((a ++ s) ++ b)) ∙ ap (drop (length t)) (drop_at (a ++ s) b n l) in
    ap (written n t) w
    ∙ ap (λ (x : List _). x ++ (t ++ drop (n + length t) ((a ++ s) ++ b))) (take_at (a ++ s) b n l)
    ∙ ap (λ (x : List _). (a ++ s) ++ (t ++ x)) (d ∙ drop-drop (length t) (at + length s) p)
    ∙ ap (λ (k : ℕ). (a ++ s) ++ (t ++ drop k p)) (let f : at + length s + length t ≡ at + length (s ++ t) = omega (arith, length-append s t) in f)
    ∙ append_assoc a s (t ++ drop (at + length (s ++ t)) p)
    ∙ ap (λ (x : List _). a ++ x) (sym (append_assoc s t (drop (at + length (s ++ t)) p)))

-- t behind s, which was written into p
pub put_on : {X : Type 0} (p r : List X) (at n : ℕ) (s t : List X) → n ≡ at + length s → n ≤ length p → r ≡ written at s p → written n t r ≡ written at (s ++ t) p
put_on p r at n s t e h g = ap (written n t) g ∙ written_more p at s t n e h

-- of what is left to put, ts, its beginning s is put
pub put_more : {X : Type 0} (p r : List X) (n next : ℕ) (s ts rest whole : List X) → ts ≡ s ++ rest → n + length s ≤ length p → next ≡ n + length s → r ≡ written n s p → written n ts p ≡ whole → written next rest r ≡ whole
put_more p r n next s ts rest whole e h f g i = put_on p r n next s rest f (omega arith) g ∙ ap (λ (x : List _). written n x p) (sym e) ∙ i

-- nothing is left to put
pub all_put : {X : Type 0} (p : List X) (n : ℕ) (ts whole : List X) → ts ≡ [] → written n ts p ≡ whole → p ≡ whole
all_put p n ts whole e i = sym (written_none n p) ∙ ap (λ (x : List _). written n x p) (sym e) ∙ i

-- three texts one behind the other
pub put_three : {X : Type 0} (p r s t : List X) (at n m : ℕ) (a b c : List X) → n ≡ at + length a → m ≡ n + length b → m ≤ length p → r ≡ written at a p → s ≡ written n b r → t ≡ written m c s → t ≡ written at (a ++ (b ++ c)) p
put_three p r s t at n m a b c e f h i j k =
    let two : s ≡ written at (a ++ b) p = j ∙ put_on p r at n a b e (omega arith) i in
    k ∙ put_on p s at m (a ++ b) c (omega (arith, length-append a b)) h two ∙ ap (λ (x : List _). written at x p) (append_assoc a b c)

-- the text at the front of a place that it was written into
pub take_written : {X : Type 0} (n : ℕ) (t p : List X) → length t ≡ n → take n (written 0 t p) ≡ t
take_written n t p e = take_at t _ n e
