-- Where the faults of fields stand.
use Rattle.std.proofs.Common.{◌≡◌, ℕ, ◌+◌, ◌-◌, ◌<◌, min, Bool, true, false, cond, eqb, List, [], ◌∷◌, map, length, take, Ok, Err, decimal, Result, sym, refl, ap, ◌∙◌, subst, inl, inr, add-zero, arith}
use Rattle.std.specs.List.{AllByRecursion}
use Rattle.recurrences.specs.declared.refusal.Refusal.{Refusal}
use Rattle.lists.specs.Checks.{then}
use Rattle.lists.specs.Faults.{found, line_refused}
use Rattle.lists.specs.FirstFault.{Faultless, FirstOf, FirstFault}
use Rattle.lists.specs.LineChecks.{counted, number_at, run_at, code_at, codes_from}
use Rattle.lists.specs.Numeral.{numeral}
use Rattle.recurrences.specs.Ranges.{checked_code}
use Rattle.lists.specs.declared.fault.FileFault.{FileFault}
use Rattle.lists.specs.declared.fault.FileFault.TheVariants.{Whole, InLine, InNumber, InRun}
use Rattle.lists.specs.declared.fault.LineFault.{LineFault}
use Rattle.lists.specs.declared.fault.LineFault.TheVariants.{Letter, Count, Ring, EndCount}
use Rattle.lists.proofs.Fields.{number_field, code_ok}
use Rattle.lists.proofs.Steps.{ok_err, then_err, carried_err}

-- a fault of a field, other than one of the count
abbrev pub OfField : LineFault → Type 0
OfField Letter = Unit {0}
OfField Count = ⊥
OfField Ring = Unit {0}
OfField EndCount = Unit {0}

abbrev pub Placed : FileFault → ℕ → ℕ → Type 0
Placed (Whole e) line field = ⊥
Placed (InLine f) line field = OfField f.fault × (f.line ≡ line) × (f.field ≡ field)
Placed (InNumber f) line field = (f.line ≡ line) × (f.field ≡ field)
Placed (InRun f) line field = (f.line ≡ line) × (f.field ≡ field)

module _ (ls : List (List ℕ)) where
  moved : (a b c d : ℕ) → a ≡ b → c ≡ d → Faultless ls (b - 1) (d - 1) → Faultless ls (a - 1) (c - 1)
  moved a b c d p q f = subst (λ (x : ℕ). Faultless ls (x - 1) (c - 1)) (sym p) (subst (λ (y : ℕ). Faultless ls (b - 1) (y - 1)) (sym q) f)

  of_field : (e : LineFault) (a b : ℕ) → OfField e → Faultless ls a b → FirstOf e ls a b
  of_field Letter a b p f = f
  of_field Count a b p f = absurd p
  of_field Ring a b p f = f
  of_field EndCount a b p f = f

  -- the fault of a field is the first where all before it is faultless
  pub first_placed : (e : FileFault) (line field : ℕ) → Placed e line field → Faultless ls (line - 1) (field - 1) → FirstFault ls e
  first_placed (Whole e) line field p f = absurd p
  first_placed (InLine x) line field p f = of_field x.fault (x.line - 1) (x.field - 1) p.0 (moved x.line line x.field field p.1 p.2 f)
  first_placed (InNumber x) line field p f = moved x.line line x.field field p.0 p.1 f
  first_placed (InRun x) line field p f = moved x.line line x.field field p.0 p.1 f

-- ---- numbers and what the runs say of them
number_placed : (line k : ℕ) (f : List ℕ) (e : FileFault) → number_at line k f ≡ Err e → Placed e line k
number_placed line k f e h =
    let a = carried_err (λ x. InNumber (found line k x)) (numeral f) e h in
    subst (λ (x : FileFault). Placed x line k) a.1 (refl, refl)

run_placed : (line k : ℕ) (r : Result ℕ Refusal) (e : FileFault) → run_at line k r ≡ Err e → Placed e line k
run_placed line k r e h =
    let a = carried_err (λ x. InRun (found line k x)) r e h in
    subst (λ (x : FileFault). Placed x line k) a.1 (refl, refl)

pub value_placed : (line k : ℕ) (f : List ℕ) (g : ℕ → Result ℕ Refusal) (e : FileFault) → then (number_at line k f) (λ v. run_at line k (g v)) ≡ Err e → Placed e line k
value_placed line k f g e h =
    elim (then_err (number_at line k f) (λ v. run_at line k (g v)) e h) [ inl a ↦ number_placed line k f e a | inr b ↦ run_placed line k (g b.0) e b.2 ]

pub end_placed : (n line : ℕ) (f : List ℕ) (e : FileFault) → then (number_at line 2 f) (λ v. cond (eqb v n) (Ok tt) (line_refused {X = Unit {0}} EndCount line 2)) ≡ Err e → Placed e line 2
end_placed n line f e h =
    elim (then_err (number_at line 2 f) _ e h) [ inl a ↦ number_placed line 2 f e a | inr b ↦ by (eqb b.0 n) b.2 ]
  where
    by : (t : Bool) → cond t (Ok tt) (line_refused {X = Unit {0}} EndCount line 2) ≡ Err e → Placed e line 2
    by true h = absurd (ok_err h)
    by false h = let same : InLine (found line 2 EndCount) ≡ e = cc in subst (λ (x : FileFault). Placed x line 2) same (tt, refl, refl)

-- ---- codes up to the first that is none
pub record CodeFault (q line k : ℕ) (fs : List (List ℕ)) (e : FileFault) : Type 0 where
  pub values : List ℕ
  pub codes : AllByRecursion (λ c. c < q) values
  pub before : take (length values) fs ≡ map decimal values
  pub few : length values < length fs
  pub placed : Placed e line (k + length values)

pub codes_first : (q line k : ℕ) (fs : List (List ℕ)) (e : FileFault) → codes_from q line k fs ≡ Err e → CodeFault q line k fs e
codes_first q line k [] e h = absurd (ok_err h)
codes_first q line k (f ∷ fs) e h =
    elim (then_err (code_at q line k f) (λ _. codes_from q line (k + 1) fs) e h) [
      | inl a ↦ record { values = []; codes = tt; before = refl; few = omega arith; placed = subst (Placed e line) (sym (add-zero k)) (value_placed line k f (checked_code q) e a) }
      | inr b ↦
          let r = codes_first q line (k + 1) fs e b.2 in
          let c = code_ok q line k f b.0 b.1 in
          let on : k + 1 + length r.values ≡ k + length (b.0 ∷ r.values) = omega arith in
          record {
            values = b.0 ∷ r.values;
            codes = (c.1, r.codes);
            before = ap (λ (x : List ℕ). x ∷ take (length r.values) fs) (number_field f b.0 c.0) ∙ ap (λ (xs : List (List ℕ)). decimal b.0 ∷ xs) r.before;
            few = omega (arith, r.few);
            placed = subst (Placed e line) on r.placed;
          }
    ]

-- ---- a wrong count
pub counted_err : (due line : ℕ) (fs : List (List ℕ)) (e : FileFault) → counted due line fs ≡ Err e → InLine (found line (min (length fs) due + 1) Count) ≡ e
counted_err due line fs e h = by (eqb (length fs) due) h
  where
    by : (t : Bool) → cond t (Ok tt) (line_refused {X = Unit {0}} Count line (min (length fs) due + 1)) ≡ Err e → InLine (found line (min (length fs) due + 1) Count) ≡ e
    by true h = absurd (ok_err h)
    by false h = cc
