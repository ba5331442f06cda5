-- Vectors as functions that are 0 outside.
use Rattle.std.proofs.Common.{◌≡◌, ℕ, zero, suc, Bool, true, false, cond, ltb, get_or, replicate, sym, refl, ap, ◌∙◌, ap₂}
use mathlib.Core.Path.{fun_ext}
use Rattle.std.proofs.lemmas.Bool.{cond-true, lt-ltb}
use Rattle.rings.specs.Arithmetic.{Arithmetic}
use Rattle.recurrences.specs.Sums.{sum}
use Rattle.recurrences.proofs.Summing.{sum_same}
use Rattle.runs.specs.Operations.{operations_of}
use Rattle.runs.specs.Views.{no_vector, zero_vector, vector_of}
use Rattle.runs.specs.Losses.{plus_times}
use Rattle.runs.specs.declared.tables.Vector.{Vector}

-- within the first N entries a vector is what its table holds
pub dot_of : (a : Arithmetic) (N : ℕ) (v w : Vector)
    → sum (operations_of a).ring N (λ e. a.product (get_or v.entries e 0) (get_or w.entries e 0)) ≡ sum (operations_of a).ring N (λ e. a.product (vector_of N v e) (vector_of N w e))
dot_of a N v w = sum_same (operations_of a).ring N _ _ (λ e h. let t = lt-ltb e N h in ap₂ a.product (sym (cond-true (ltb e N) _ 0 t)) (sym (cond-true (ltb e N) _ 0 t)))

inside : (b : Bool) (x y z w v : ℕ) (f : ℕ → ℕ → ℕ) → cond b x 0 ≡ w → cond b z 0 ≡ v → y ≡ cond b (f x z) x → cond b y 0 ≡ cond b (f w v) 0
inside true x y z w v f e d h = h ∙ ap₂ f e d
inside false x y z w v f e d h = refl

pub vector_plus_times : (a : Arithmetic) (N c : ℕ) (own other new : Vector) (f g : ℕ → ℕ) → vector_of N own ≡ f → vector_of N other ≡ g
    → ((e : ℕ) → get_or new.entries e 0 ≡ cond (ltb e N) (plus_times a c (get_or own.entries e 0) (get_or other.entries e 0)) (get_or own.entries e 0))
    → vector_of N new ≡ (λ e. cond (ltb e N) (plus_times a c (f e) (g e)) 0)
vector_plus_times a N c own other new f g s t h =
    fun_ext (λ e. inside (ltb e N) (get_or own.entries e 0) (get_or new.entries e 0) (get_or other.entries e 0) (f e) (g e) (plus_times a c) (ap (λ (v : ℕ → ℕ). v e) s) (ap (λ (v : ℕ → ℕ). v e) t) (h e))

pub alike : {X Y : Type 0} (read : X → Y) (z : Y) (n : ℕ) (x d : X) → read x ≡ z → read d ≡ z → (k : ℕ) → read (get_or (replicate n x) k d) ≡ z
alike read z zero x d hx hd k = hd
alike read z (suc n) x d hx hd zero = hx
alike read z (suc n) x d hx hd (suc k) = alike read z n x d hx hd k

pub cut_off : (b : Bool) (x : ℕ) → x ≡ 0 → cond b x 0 ≡ 0
cut_off true x h = h
cut_off false x h = refl

pub zero_entry : (e : ℕ) → get_or zero_vector.entries e 0 ≡ 0
zero_entry e = alike (λ (x : ℕ). x) 0 4 0 0 refl refl e

pub zero_entries : (N : ℕ) → vector_of N zero_vector ≡ (λ _. 0)
zero_entries N = fun_ext (λ e. cut_off (ltb e N) _ (zero_entry e))

past_entries : (N : ℕ) → vector_of N no_vector ≡ (λ _. 0)
past_entries N = fun_ext (λ e. cut_off (ltb e N) 0 refl)

-- any number of zero vectors
pub zero_vectors : (N n k : ℕ) → vector_of N (get_or (replicate n zero_vector) k no_vector) ≡ (λ _. 0)
zero_vectors N n k = alike (vector_of N) (λ _. 0) n zero_vector no_vector (zero_entries N) (past_entries N) k
