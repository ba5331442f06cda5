-- Pairings composed, of an exchange, and with one more pair.
use Rattle.std.proofs.Common.{◌≡◌, ℕ, suc, ◌<◌, sym, refl, ap, ◌∙◌, arith}
use native.Mathlib.Decide.{ℕ_discrete}
use Rattle.recurrences.specs.Choice.{put}
use Rattle.recurrences.specs.Pairing.{Pairing}
use Rattle.recurrences.proofs.Choosing.{put_here, put_away}
use Rattle.recurrences.proofs.Transpositions.{flip, flip_flip, flip_below}

unfoldable pub pairing_trans : (n : ℕ) → Pairing n → Pairing n → Pairing n
pairing_trans n p q = record {
  to = λ k. q.to (p.to k);
  from = λ k. p.from (q.from k);
  to_below = λ k h. q.to_below _ (p.to_below k h);
  from_below = λ k h. p.from_below _ (q.from_below k h);
  from_to = λ k h. ap p.from (q.from_to _ (p.to_below k h)) ∙ p.from_to k h;
  to_from = λ k h. ap q.to (p.to_from _ (q.from_below k h)) ∙ q.to_from k h;
}

unfoldable pub pairing_flip : (m j n : ℕ) → j < m → n < m → Pairing m
pairing_flip m j n a b = record {
  to = flip j n;
  from = flip j n;
  to_below = λ k h. flip_below j n m k a b h;
  from_below = λ k h. flip_below j n m k a b h;
  from_to = λ k h. flip_flip j n k;
  to_from = λ k h. flip_flip j n k;
}

abbrev pub at_last : ℕ → (ℕ → ℕ) → ℕ → ℕ
at_last n f k = put n n f k

unfoldable pub pairing_more : (n : ℕ) → Pairing n → Pairing (suc n)
pairing_more n p = record {
  to = at_last n p.to;
  from = at_last n p.from;
  to_below = λ k h. below p.to p.to_below k h (ℕ_discrete k n);
  from_below = λ k h. below p.from p.from_below k h (ℕ_discrete k n);
  from_to = λ k h. back p.to p.from p.to_below p.from_to k h (ℕ_discrete k n);
  to_from = λ k h. back p.from p.to p.from_below p.to_from k h (ℕ_discrete k n);
}
  where
    below : (f : ℕ → ℕ) → ((k : ℕ) → k < n → f k < n) → (k : ℕ) → k < suc n → Dec (k ≡ n) → at_last n f k < suc n
    below f b k h (yes e) = rw (put_here n n f k e) (omega arith)
    below f b k h (no e) = rw (put_away n n f k e) (let x = b k (omega arith) in omega arith)

    back : (f g : ℕ → ℕ) → ((k : ℕ) → k < n → f k < n) → ((k : ℕ) → k < n → g (f k) ≡ k)
        → (k : ℕ) → k < suc n → Dec (k ≡ n) → at_last n g (at_last n f k) ≡ k
    back f g b r k h (yes e) = rw (put_here n n f k e) (put_here n n g n refl ∙ sym e)
    back f g b r k h (no e) =
        let x = b k (omega arith) in
        rw (put_away n n f k e) (put_away n n g (f k) (omega arith) ∙ r k (omega arith))
