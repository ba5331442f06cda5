-- A list whose first elements are written from the front, while the others stand.
use Rattle.std.proofs.Common.{◌≡◌, ℕ, ◌+◌, ◌<◌, List, ◌++◌, length, get_or, set, take, drop, sym, ap, ◌∙◌, subst, arith, length-append}
use Rattle.std.proofs.Math.ListN.{get_or-append}
use Rattle.std.proofs.lemmas.List.{take-append-drop, set-append_left}
use Rattle.runs.proofs.Cut.{Cut, cut_start, cut_here, cut_more}

module _ {X Y : Type 0} (d : X) (read : X → Y) (f g : ℕ → Y) (rest : List X) where
  -- below k as f says, and from k on still as g says
  abbrev pub PartCut : ℕ → List X → Type 0
  PartCut k xs = Cut d read f g k (xs ++ rest)

  pub part_here : (xs : List X) (k : ℕ) → k < length xs → PartCut k xs → read (get_or xs k d) ≡ g k
  part_here xs k lt h = sym (ap read (get_or-append xs rest d k lt)) ∙ cut_here d read f g (xs ++ rest) k h

  pub part_more : (xs : List X) (k : ℕ) (v : X) → k < length xs → PartCut k xs → read v ≡ f k → PartCut (k + 1) (set xs k v)
  part_more xs k v lt h e = subst (Cut d read f g (k + 1)) (set-append_left xs rest k v lt) (cut_more d read f g (xs ++ rest) k v (omega (arith, length-append xs rest)) h e)

pub part_start : {X Y : Type 0} (d : X) (read : X → Y) (f g : ℕ → Y) (n : ℕ) (xs : List X) → ((x : ℕ) → read (get_or xs x d) ≡ g x) → PartCut d read f g (drop n xs) 0 (take n xs)
part_start d read f g n xs h = subst (Cut d read f g 0) (sym (take-append-drop n xs)) (cut_start d read f g xs h)
