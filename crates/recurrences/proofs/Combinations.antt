-- Linear combinations, and the span of a family of vectors.
use Rattle.std.proofs.Common.{◌≡◌, ℕ, zero, suc, ◌<◌, ◌≤◌, ◌≢◌, ◌⊎◌, sym, refl, ap, ◌∙◌, subst, ap₂, inl, inr, arith}
use native.Mathlib.Decide.{ℕ_discrete}
use Rattle.recurrences.specs.Choice.{put}
use Rattle.recurrences.proofs.FieldLaws.{Field, mul_zero}
use Rattle.recurrences.proofs.Vectors.{Space}
use Rattle.recurrences.proofs.Choosing.{put_away, put_here}

module _ (F : Field) (M : Space F) where
  open F use {K, 𝟘, 𝟙, add as ◌⊕◌, neg as ⊖, mul as ◌⊗◌, inv}
  open M use {V, vzero, vadd as ◌⊞◌, smul as ◌⊡◌, vadd_comm, vadd_assoc, vadd_zero, smul_add, add_smul, mul_smul, one_smul, zero_smul}

  infixl 60 ◌⊕◌
  infixl 70 ◌⊗◌
  infixl 60 ◌⊞◌
  infixr 70 ◌⊡◌
  pub vzero_add : (a : V) → vzero ⊞ a ≡ a
  vzero_add a = vadd_comm vzero a ∙ vadd_zero a

  pub vadd_left_comm : (a b c : V) → a ⊞ (b ⊞ c) ≡ b ⊞ (a ⊞ c)
  vadd_left_comm a b c = sym (vadd_assoc a b c) ∙ ap (λ x. x ⊞ c) (vadd_comm a b) ∙ vadd_assoc b a c

  pub smul_zero : (k : K) → k ⊡ vzero ≡ vzero
  smul_zero k = ap (λ x. k ⊡ x) (sym (zero_smul vzero)) ∙ sym (mul_smul k 𝟘 vzero) ∙ ap (λ x. x ⊡ vzero) (mul_zero F k) ∙ zero_smul vzero

  pub vadd_four : (a b c d : V) → (a ⊞ b) ⊞ (c ⊞ d) ≡ (a ⊞ c) ⊞ (b ⊞ d)
  vadd_four a b c d = simp (vadd_assoc, vadd_comm, vadd_left_comm)

  pub vadd_neg : (a : V) → a ⊞ (⊖ 𝟙 ⊡ a) ≡ vzero
  vadd_neg a = ap (λ x. x ⊞ (⊖ 𝟙 ⊡ a)) (sym (one_smul a)) ∙ sym (add_smul 𝟙 (⊖ 𝟙) a) ∙ ap (λ x. x ⊡ a) (F.add_neg 𝟙) ∙ zero_smul a

  -- the combination γ 0 · f 0 + … + γ (n - 1) · f (n - 1)
  unfoldable pub comb : ℕ → (ℕ → K) → (ℕ → V) → V
  comb zero γ f = vzero
  comb (suc n) γ f = comb n γ f ⊞ (γ n ⊡ f n)

  pub comb_cong : (n : ℕ) (γ δ : ℕ → K) (f g : ℕ → V) → ((i : ℕ) → i < n → γ i ⊡ f i ≡ δ i ⊡ g i) → comb n γ f ≡ comb n δ g
  unfolding comb
  comb_cong zero γ δ f g h = refl
  comb_cong (suc n) γ δ f g h = ap₂ ◌⊞◌ (comb_cong n γ δ f g (λ i l. h i (omega arith))) (h n (omega arith))

  pub comb_cong_l : (n : ℕ) (γ δ : ℕ → K) (f : ℕ → V) → ((i : ℕ) → i < n → γ i ≡ δ i) → comb n γ f ≡ comb n δ f
  comb_cong_l n γ δ f h = comb_cong n γ δ f f (λ i l. ap (λ x. x ⊡ f i) (h i l))

  pub comb_cong_r : (n : ℕ) (γ : ℕ → K) (f g : ℕ → V) → ((i : ℕ) → i < n → f i ≡ g i) → comb n γ f ≡ comb n γ g
  comb_cong_r n γ f g h = comb_cong n γ γ f g (λ i l. ap (λ x. γ i ⊡ x) (h i l))

  pub comb_zero : (n : ℕ) (γ : ℕ → K) (f : ℕ → V) → ((i : ℕ) → i < n → γ i ≡ 𝟘) → comb n γ f ≡ vzero
  unfolding comb
  comb_zero zero γ f h = refl
  comb_zero (suc n) γ f h =
      ap₂ ◌⊞◌ (comb_zero n γ f (λ i l. h i (omega arith))) (ap (λ x. x ⊡ f n) (h n (omega arith)) ∙ zero_smul (f n)) ∙ vadd_zero vzero

  pub comb_add : (n : ℕ) (γ δ : ℕ → K) (f : ℕ → V) → comb n (λ j. γ j ⊕ δ j) f ≡ comb n γ f ⊞ comb n δ f
  unfolding comb
  comb_add zero γ δ f = sym (vadd_zero vzero)
  comb_add (suc n) γ δ f = ap₂ ◌⊞◌ (comb_add n γ δ f) (add_smul (γ n) (δ n) (f n)) ∙ vadd_four _ _ _ _

  pub comb_add_r : (n : ℕ) (γ : ℕ → K) (f g : ℕ → V) → comb n γ (λ j. f j ⊞ g j) ≡ comb n γ f ⊞ comb n γ g
  unfolding comb
  comb_add_r zero γ f g = sym (vadd_zero vzero)
  comb_add_r (suc n) γ f g = ap₂ ◌⊞◌ (comb_add_r n γ f g) (smul_add (γ n) (f n) (g n)) ∙ vadd_four _ _ _ _

  pub comb_smul : (n : ℕ) (k : K) (γ : ℕ → K) (f : ℕ → V) → comb n (λ j. k ⊗ γ j) f ≡ k ⊡ comb n γ f
  unfolding comb
  comb_smul zero k γ f = sym (smul_zero k)
  comb_smul (suc n) k γ f = ap₂ ◌⊞◌ (comb_smul n k γ f) (mul_smul k (γ n) (f n)) ∙ sym (smul_add k (comb n γ f) (γ n ⊡ f n))

  -- one coefficient changed
  pub comb_put : (n k : ℕ) (c : K) (γ : ℕ → K) (f : ℕ → V) → k < n → comb n (put k c γ) f ⊞ (γ k ⊡ f k) ≡ comb n γ f ⊞ (c ⊡ f k)
  unfolding comb
  comb_put zero k c γ f h = absurd (omega arith)
  comb_put (suc n) k c γ f h = go (λ l. comb_put n k c γ f l) (ℕ_discrete n k)
    where
      swap : (a b c : V) → (a ⊞ b) ⊞ c ≡ (a ⊞ c) ⊞ b
      swap a b c = simp (vadd_assoc, vadd_comm, vadd_left_comm)

      go : (k < n → comb n (put k c γ) f ⊞ (γ k ⊡ f k) ≡ comb n γ f ⊞ (c ⊡ f k)) → Dec (n ≡ k)
          → (comb n (put k c γ) f ⊞ (put k c γ n ⊡ f n)) ⊞ (γ k ⊡ f k) ≡ (comb n γ f ⊞ (γ n ⊡ f n)) ⊞ (c ⊡ f k)
      go ih (yes e) = rw (put_here k c γ n e, comb_cong_l n (put k c γ) γ f (λ i l. put_away k c γ i (omega arith)), e)
          (swap _ _ _)
      go ih (no e) = rw (put_away k c γ n e) (swap _ _ _ ∙ ap (λ x. x ⊞ (γ n ⊡ f n)) (ih (omega arith)) ∙ swap _ _ _)

  pub comb_delta : (n k : ℕ) (c : K) (f : ℕ → V) → k < n → comb n (put k c (λ _. 𝟘)) f ≡ c ⊡ f k
  comb_delta n k c f h =
      sym (vadd_zero _) ∙ ap (λ x. comb n (put k c (λ _. 𝟘)) f ⊞ x) (sym (zero_smul (f k))) ∙ comb_put n k c (λ _. 𝟘) f h
      ∙ ap (λ x. x ⊞ (c ⊡ f k)) (comb_zero n (λ _. 𝟘) f (λ i l. refl)) ∙ vzero_add _

  -- one term alone
  pub comb_single : (n k : ℕ) (γ : ℕ → K) (f : ℕ → V) → k < n → ((i : ℕ) → i < n → i ≢ k → γ i ⊡ f i ≡ vzero) → comb n γ f ≡ γ k ⊡ f k
  comb_single n k γ f h z = comb_cong n γ (put k (γ k) (λ _. 𝟘)) f f (λ i l. go i l (ℕ_discrete i k)) ∙ comb_delta n k (γ k) f h
    where
      go : (i : ℕ) → i < n → Dec (i ≡ k) → γ i ⊡ f i ≡ put k (γ k) (λ _. 𝟘) i ⊡ f i
      go i l (yes e) = ap (λ x. x ⊡ f i) (ap γ e ∙ sym (put_here k (γ k) (λ _. 𝟘) i e))
      go i l (no e) = z i l e ∙ sym (ap (λ x. x ⊡ f i) (put_away k (γ k) (λ _. 𝟘) i e) ∙ zero_smul (f i))

  -- what is made of the vectors of P by sums and multiples
  pub data Span (P : V → Type 0) : V → Type 0 where
    span_none : {h : V} → h ≡ vzero → Span P h
    span_more : {h : V} (c : K) (x t : V) → P x → Span P t → h ≡ (c ⊡ x) ⊞ t → Span P h

  pub span_eq : (P : V → Type 0) {h g : V} → g ≡ h → Span P h → Span P g
  span_eq P e (span_none p) = span_none (e ∙ p)
  span_eq P e (span_more c x t px l p) = span_more c x t px l (e ∙ p)

  pub span_one : (P : V → Type 0) (x : V) → P x → Span P x
  span_one P x px = span_more 𝟙 x vzero px (span_none refl) (sym (one_smul x) ∙ sym (vadd_zero (𝟙 ⊡ x)))

  pub span_add : (P : V → Type 0) {h g : V} → Span P h → Span P g → Span P (h ⊞ g)
  span_add P {h} {g} (span_none p) m = span_eq P (ap (λ x. x ⊞ g) p ∙ vzero_add g) m
  span_add P {h} {g} (span_more c x t px l p) m = span_more c x (t ⊞ g) px (span_add P l m) (ap (λ y. y ⊞ g) p ∙ vadd_assoc _ _ _)

  pub span_smul : (P : V → Type 0) (k : K) {h : V} → Span P h → Span P (k ⊡ h)
  span_smul P k (span_none p) = span_none (ap (λ x. k ⊡ x) p ∙ smul_zero k)
  span_smul P k (span_more c x t px l p) =
      span_more (k ⊗ c) x (k ⊡ t) px (span_smul P k l) (ap (λ y. k ⊡ y) p ∙ smul_add k (c ⊡ x) t ∙ ap (λ y. y ⊞ (k ⊡ t)) (sym (mul_smul k c x)))

  pub span_bind : (P Q : V → Type 0) {h : V} → Span P h → ((x : V) → P x → Span Q x) → Span Q h
  span_bind P Q (span_none p) f = span_none p
  span_bind P Q (span_more c x t px l p) f = span_eq Q p (span_add Q (span_smul Q c (f x px)) (span_bind P Q l f))

  pub span_map : (P Q : V → Type 0) {h : V} → Span P h → ((x : V) → P x → Q x) → Span Q h
  span_map P Q l f = span_bind P Q l (λ x px. span_one Q x (f x px))

  -- a part from P and a part from Q
  pub span_split : (P Q : V → Type 0) {h : V} → Span (λ x. P x ⊎ Q x) h → (a : V) × (b : V) × Span P a × Span Q b × (h ≡ a ⊞ b)
  span_split P Q (span_none p) = (vzero, vzero, span_none refl, span_none refl, p ∙ sym (vadd_zero vzero))
  span_split P Q (span_more c x t (inl px) l p) =
      let (a, b, la, lb, e) = span_split P Q l in
      ((c ⊡ x) ⊞ a, b, span_more c x a px la refl, lb, p ∙ ap (λ y. (c ⊡ x) ⊞ y) e ∙ sym (vadd_assoc _ _ _))
  span_split P Q (span_more c x t (inr qx) l p) =
      let (a, b, la, lb, e) = span_split P Q l in
      (a, (c ⊡ x) ⊞ b, la, span_more c x b qx lb refl, p ∙ ap (λ y. (c ⊡ x) ⊞ y) e ∙ vadd_left_comm _ _ _)

  -- the vectors f j with j < n and Q j
  abbrev pub Among : ℕ → (ℕ → Type 0) → (ℕ → V) → V → Type 0
  Among n Q f x = (j : ℕ) × (j < n) × Q j × (x ≡ f j)

  pub span_comb : (n : ℕ) (Q : ℕ → Type 0) (f : ℕ → V) (h : V) → Span (Among n Q f) h
      → (γ : ℕ → K) × ((j : ℕ) → ¬ Q j → γ j ≡ 𝟘) × (h ≡ comb n γ f)
  span_comb n Q f h (span_none p) = ((λ _. 𝟘), (λ j _. refl), p ∙ sym (comb_zero n (λ _. 𝟘) f (λ i l. refl)))
  span_comb n Q f h (span_more c x t px l p) =
      let (γ, z, e) = span_comb n Q f t l in
      let (j, jn, qj, xe) = px in (
        (λ i. put j c (λ _. 𝟘) i ⊕ γ i),
        (λ i ni. ap₂ ◌⊕◌ (put_away j c (λ _. 𝟘) i (λ ij. ni (subst Q (sym ij) qj))) (z i ni) ∙ F.add_zero 𝟘),
        p ∙ ap₂ ◌⊞◌ (ap (λ y. c ⊡ y) xe ∙ sym (comb_delta n j c f jn)) e ∙ sym (comb_add n (put j c (λ _. 𝟘)) γ f),
      )

  comb_span_go : (n : ℕ) (Q : ℕ → Type 0) (f : ℕ → V) (γ : ℕ → K) → ((j : ℕ) → j < n → (γ j ≡ 𝟘) ⊎ Q j)
      → (m : ℕ) → m ≤ n → Span (Among n Q f) (comb m γ f)
  unfolding comb
  comb_span_go n Q f γ h zero l = span_none refl
  comb_span_go n Q f γ h (suc m) l = one (comb_span_go n Q f γ h m (omega arith)) (h m (omega arith))
    where
      one : Span (Among n Q f) (comb m γ f) → (γ m ≡ 𝟘) ⊎ Q m → Span (Among n Q f) (comb m γ f ⊞ (γ m ⊡ f m))
      one r (inl e) = span_eq (Among n Q f) (ap (λ x. comb m γ f ⊞ x) (ap (λ x. x ⊡ f m) e ∙ zero_smul (f m)) ∙ vadd_zero _) r
      one r (inr q) = span_more (γ m) (f m) (comb m γ f) (m, omega arith, q, refl) r (vadd_comm _ _)

  pub comb_span : (n : ℕ) (Q : ℕ → Type 0) (f : ℕ → V) (γ : ℕ → K) → ((j : ℕ) → j < n → (γ j ≡ 𝟘) ⊎ Q j) → Span (Among n Q f) (comb n γ f)
  comb_span n Q f γ h = comb_span_go n Q f γ h n (omega arith)

  -- c taken of b away from a, where b is not wanted if c is zero
  pub span_less : (P : V → Type 0) {a b : V} (c : K) → Span P a → (c ≡ 𝟘) ⊎ Span P b → Span P (a ⊞ (c ⊡ b))
  span_less P {a} {b} c la (inl e) = span_eq P (ap (λ x. a ⊞ x) (ap (λ x. x ⊡ b) e ∙ zero_smul b) ∙ vadd_zero a) la
  span_less P {a} {b} c la (inr lb) = span_add P la (span_smul P c lb)

  pub less_back : (a b : V) (c : K) → a ≡ (a ⊞ (⊖ c ⊡ b)) ⊞ (c ⊡ b)
  less_back a b c =
      sym (vadd_zero a) ∙ ap (λ x. a ⊞ x) (sym (zero_smul b) ∙ ap (λ x. x ⊡ b) (sym (F.add_neg c) ∙ F.add_comm c (⊖ c)) ∙ add_smul (⊖ c) c b) ∙ sym (vadd_assoc _ _ _)

  pub less_solve : (a b : V) (q : K) → q ≢ 𝟘 → b ≡ inv q ⊡ (a ⊞ (⊖ 𝟙 ⊡ (a ⊞ (⊖ q ⊡ b))))
  less_solve a b q nz =
      sym (one_smul b) ∙ ap (λ k. k ⊡ b) (sym (F.mul_comm (inv q) q ∙ F.mul_inv q nz)) ∙ mul_smul (inv q) q b ∙ ap (λ y. inv q ⊡ y) (sym rest)
    where
      x : V
      x = a ⊞ (⊖ q ⊡ b)

      rest : a ⊞ (⊖ 𝟙 ⊡ x) ≡ q ⊡ b
      rest = ap (λ y. y ⊞ (⊖ 𝟙 ⊡ x)) (less_back a b q ∙ vadd_comm _ _) ∙ vadd_assoc _ _ _ ∙ ap (λ y. (q ⊡ b) ⊞ y) (vadd_neg x) ∙ vadd_zero _

  pub comb_vanish : (n : ℕ) (γ : ℕ → K) (f : ℕ → V) → ((i : ℕ) → i < n → γ i ⊡ f i ≡ vzero) → comb n γ f ≡ vzero
  unfolding comb
  comb_vanish zero γ f h = refl
  comb_vanish (suc n) γ f h = ap₂ ◌⊞◌ (comb_vanish n γ f (λ i l. h i (omega arith))) (h n (omega arith)) ∙ vadd_zero vzero

  -- a combination of combinations
  pub comb_comb : (n m : ℕ) (γ : ℕ → K) (A : ℕ → ℕ → K) (v : ℕ → V) (S : ℕ → ℕ → K)
      → ((i : ℕ) → S 0 i ≡ 𝟘) → ((n i : ℕ) → S (suc n) i ≡ S n i ⊕ (γ n ⊗ A n i))
      → comb n γ (λ j. comb m (A j) v) ≡ comb m (S n) v
  unfolding comb
  comb_comb zero m γ A v S z s = sym (comb_zero m (S 0) v (λ i l. z i))
  comb_comb (suc n) m γ A v S z s =
      ap₂ ◌⊞◌ (comb_comb n m γ A v S z s) (sym (comb_smul m (γ n) (A n) v)) ∙ sym (comb_add m (S n) (λ i. γ n ⊗ A n i) v)
      ∙ comb_cong_l m _ _ v (λ i l. sym (s n i))
