-- A list is cut into parts of one length, from its front on.
use Rattle.std.proofs.Common.{◌≡◌, ℕ, ◌+◌, ◌*◌, ◌/◌, ◌<◌, ◌≤◌, List, ◌++◌, length, take, drop, sym, ap, ◌∙◌, add-mul, one-mul, arith, length-append, length-drop}
use Rattle.std.proofs.lemmas.List.{take_at, drop_at, drop-drop}
use Rattle.std.proofs.lemmas.Nat.{div_below, le-div}

-- the first n parts are cut off
module _ (K n : ℕ) (list : List ℕ) where
  pub none_left : 0 < K → length (drop (n * K) list) < K → length list / K ≤ n
  none_left some short =
      let below : length list < (n + 1) * K = omega (arith, length-drop (n * K) list, add-mul n 1 K, one-mul K) in
      omega (arith, div_below (length list) K (n + 1) some below)

  -- and another part is
  module _ (part rest : List ℕ) (cut : drop (n * K) list ≡ part ++ rest) (long : length part ≡ K) where
    pub part_is : part ≡ take K (drop (n * K) list)
    part_is = sym (ap (take K) cut ∙ take_at part rest K long)

    pub rest_is : rest ≡ drop ((n + 1) * K) list
    rest_is =
        sym (drop_at part rest K long) ∙ ap (drop K) (sym cut) ∙ drop-drop K (n * K) list
        ∙ ap (λ (k : ℕ). drop k list) (let e : n * K + K ≡ (n + 1) * K = omega (arith, add-mul n 1 K, one-mul K) in e)

    pub one_left : 0 < K → n < length list / K
    one_left some =
        let room : (n + 1) * K ≤ length list = omega (arith, ap length cut, length-append part rest, length-drop (n * K) list, long, some, add-mul n 1 K, one-mul K) in
        omega (arith, le-div (n + 1) (length list) K some room)
