-- One answer more of a script.
use Rattle.std.proofs.Common.{◌≡◌, ℕ, zero, suc, ◌+◌, ◌<◌, ◌≤◌, ◌≢◌, List, [], ◌++◌, length, get_or, set, sym, refl, ap, ◌∙◌, subst, ap₂, add-one, arith, get_or-set_other, get_or-set_same, below_more}
use Rattle.rings.specs.Arithmetic.{Arithmetic}
use Rattle.runs.specs.declared.script.Call.{Call}
use Rattle.runs.specs.declared.script.Answer.{Answer}
use Rattle.runs.specs.declared.script.Answer.TheVariants.{Done}
use Rattle.runs.specs.Promise.{Promise}
use Rattle.runs.specs.Scripts.{accepted, accepted_by, answer_to, no_call}

module _ (script : List Call) (answers : List Answer) (i : ℕ) (x : Answer) where
  -- what was accepted before does not hang on a later answer
  accepted_earlier : (k : ℕ) → k ≤ i → accepted script (set answers i x) k ≡ accepted script answers k
  unfolding accepted
  accepted_earlier zero h = refl
  accepted_earlier (suc k) h =
      ap₂ (λ (xs : List ℕ) (y : Answer). xs ++ accepted_by (get_or script k no_call) y) (accepted_earlier k (omega arith))
      (get_or-set_other answers i k x Done (let ne : k ≢ i = omega arith in ne))

  pub accepted_more : i < length answers → accepted script (set answers i x) (i + 1) ≡ accepted script answers i ++ accepted_by (get_or script i no_call) x
  unfolding accepted
  accepted_more h =
      ap (λ (n : ℕ). accepted script (set answers i x) n) (add-one i)
      ∙ ap₂ (λ (xs : List ℕ) (y : Answer). xs ++ accepted_by (get_or script i no_call) y) (accepted_earlier i (omega arith)) (get_or-set_same answers i x Done h)

  module _ (a : Arithmetic) (N bound : ℕ) where
    pub answered_more : i < length answers
        → ((k : ℕ) → k < i → get_or answers k Done ≡ answer_to a N bound (accepted script answers k) (get_or script k no_call))
        → x ≡ answer_to a N bound (accepted script answers i) (get_or script i no_call)
        → (k : ℕ) → k < i + 1 → get_or (set answers i x) k Done ≡ answer_to a N bound (accepted script (set answers i x) k) (get_or script k no_call)
    answered_more h before here =
        below_more (λ k. get_or (set answers i x) k Done ≡ answer_to a N bound (accepted script (set answers i x) k) (get_or script k no_call)) i
        (λ k ki. get_or-set_other answers i k x Done (let ne : k ≢ i = omega arith in ne) ∙ before k ki
        ∙ ap (λ (t : List ℕ). answer_to a N bound t (get_or script k no_call)) (sym (accepted_earlier k (omega arith))))
        (get_or-set_same answers i x Done h ∙ here ∙ ap (λ (t : List ℕ). answer_to a N bound t (get_or script i no_call)) (sym (accepted_earlier i (omega arith))))

    pub promised_more : ((k : ℕ) → k ≤ i → Promise a N bound (accepted script answers k)) → Promise a N bound (accepted script (set answers i x) (i + 1))
        → (k : ℕ) → k ≤ i + 1 → Promise a N bound (accepted script (set answers i x) k)
    promised_more before here k h =
        below_more (λ k. Promise a N bound (accepted script (set answers i x) k)) (i + 1)
        (λ k ki. subst (Promise a N bound) (sym (accepted_earlier k (omega arith))) (before k (omega arith))) here k (omega arith)

pub accepted_none : (script : List Call) (answers : List Answer) → accepted script answers 0 ≡ []
unfolding accepted
accepted_none script answers = refl

-- the same arithmetic, size, bound and list
pub promise_same : {F : Type 0} (reads : F → Arithmetic) (f f' : F) (N N' b b' : ℕ) (t t' : List ℕ) → f ≡ f' → N ≡ N' → b ≡ b' → t ≡ t' → Promise (reads f) N b t → Promise (reads f') N' b' t'
promise_same reads f f' N N' b b' t t' p s e l h =
    subst (λ x. Promise (reads x) N' b' t') p (subst (λ x. Promise (reads f) x b' t') s (subst (λ x. Promise (reads f) N x t') e (subst (Promise (reads f) N b) l h)))

pub answer_same : {F : Type 0} (reads : F → Arithmetic) (f f' : F) (N N' b b' : ℕ) (t t' : List ℕ) (call : Call) → f ≡ f' → N ≡ N' → b ≡ b' → t ≡ t' → answer_to (reads f) N b t call ≡ answer_to (reads f') N' b' t' call
answer_same reads f f' N N' b b' t t' call p s e l = λ i. answer_to (reads (p i)) (s i) (e i) (l i) call
