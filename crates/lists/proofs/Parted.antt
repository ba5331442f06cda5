-- Codes parted into matrices, and matrices one behind the other.
use Rattle.std.proofs.Common.{◌≡◌, ℕ, zero, suc, ◌+◌, ◌*◌, ◌/◌, ◌%◌, ◌<◌, List, [], ◌∷◌, ◌++◌, length, take, drop, sym, refl, ap, ◌∙◌, suc-mul, mul_comm, mul-div_cancel, arith, length-append, length-drop}
use native.Mathlib.Nat.{div-add-mod, mul-mod_left}
use Rattle.std.specs.List.{AllByRecursion}
use Rattle.std.proofs.ByRecursion.{All-append, All-take, All-drop}
use Rattle.std.proofs.lemmas.List.{take-append-drop, length-take-le, take_at, drop_at, nil_from_length}
use Rattle.lists.specs.Contents.{flat}
use Rattle.lists.specs.Text.{parted}

module _ (k : ℕ) where
  pub flat_parted : (n : ℕ) (cs : List ℕ) → n * k ≡ length cs → flat (parted k n cs) ≡ cs
  flat_parted zero cs e = sym (nil_from_length cs (omega (arith, e)))
  flat_parted (suc n) cs e =
      let s : k + n * k ≡ length cs = omega (arith, suc-mul n k, e) in
      ap (λ (x : List ℕ). take k cs ++ x) (flat_parted n (drop k cs) (omega (arith, s, length-drop k cs))) ∙ take-append-drop k cs

  pub parted_lengths : (n : ℕ) (cs : List ℕ) → n * k ≡ length cs → AllByRecursion (λ m. length m ≡ k) (parted k n cs)
  parted_lengths zero cs e = tt
  parted_lengths (suc n) cs e =
      let s : k + n * k ≡ length cs = omega (arith, suc-mul n k, e) in
      (length-take-le k cs (omega arith), parted_lengths n (drop k cs) (omega (arith, s, length-drop k cs)))

  pub parted_all : (P : ℕ → Type 0) (n : ℕ) (cs : List ℕ) → AllByRecursion P cs → AllByRecursion (AllByRecursion P) (parted k n cs)
  parted_all P zero cs h = tt
  parted_all P (suc n) cs h = (All-take P k cs h, parted_all P n (drop k cs) (All-drop P k cs h))

  pub length_parted : (n : ℕ) (cs : List ℕ) → length (parted k n cs) ≡ n
  length_parted zero cs = refl
  length_parted (suc n) cs = ap suc (length_parted n (drop k cs))

  pub parted_flat : (ms : List (List ℕ)) → AllByRecursion (λ m. length m ≡ k) ms → parted k (length ms) (flat ms) ≡ ms
  parted_flat [] h = refl
  parted_flat (m ∷ ms) h =
      ap (λ (x : List ℕ). x ∷ parted k (length ms) (drop k (m ++ flat ms))) (take_at m (flat ms) k h.0)
      ∙ ap (λ (x : List ℕ). m ∷ parted k (length ms) x) (drop_at m (flat ms) k h.0)
      ∙ ap (λ (x : List (List ℕ)). m ∷ x) (parted_flat ms h.1)

  pub length_flat : (ms : List (List ℕ)) → AllByRecursion (λ m. length m ≡ k) ms → length (flat ms) ≡ length ms * k
  length_flat [] h = omega arith
  length_flat (m ∷ ms) h = omega (arith, length-append m (flat ms), h.0, length_flat ms h.1, suc-mul (length ms) k)

  pub count_times : (cs : List ℕ) → length cs % k ≡ 0 → length cs / k * k ≡ length cs
  count_times cs e = omega (arith, div-add-mod (length cs) k, mul_comm k (length cs / k))

  module _ (some : 0 < k) (ms : List (List ℕ)) (h : AllByRecursion (λ m. length m ≡ k) ms) where
    pub count_flat : length (flat ms) / k ≡ length ms
    count_flat = ap (λ (n : ℕ). n / k) (length_flat ms h) ∙ mul-div_cancel (length ms) some

    pub multiple_flat : length (flat ms) % k ≡ 0
    multiple_flat = ap (λ (n : ℕ). n % k) (length_flat ms h) ∙ mul-mod_left (length ms) k

pub flat_all : (P : ℕ → Type 0) (ms : List (List ℕ)) → AllByRecursion (AllByRecursion P) ms → AllByRecursion P (flat ms)
flat_all P [] h = tt
flat_all P (m ∷ ms) h = All-append P m (flat ms) h.0 (flat_all P ms h.1)

pub all_both : {X : Type 0} (P Q : X → Type 0) (xs : List X) → AllByRecursion P xs → AllByRecursion Q xs → AllByRecursion (λ x. P x × Q x) xs
all_both P Q [] p q = tt
all_both P Q (x ∷ xs) p q = ((p.0, q.0), all_both P Q xs p.1 q.1)
