-- What is written answers the list that the file holds.
use Rattle.std.proofs.Common.{◌≡◌, ℕ, true, false, List, length, take, Some, None, Ok, Option, Result, sym, refl, ap, ◌∙◌, subst, true≢false}
use Rattle.rings.specs.Arithmetic.{Arithmetic}
use Rattle.lists.specs.Contents.{Contents, reading}
use Rattle.lists.specs.declared.fault.FileFault.{FileFault}
use Rattle.lists.specs.declared.letter.RingLetter.{RingLetter}
use Rattle.lists.specs.declared.letter.RingLetter.TheVariants.{B, P, Y, W}
use Rattle.lists.proofs.Writing.{take_written}
use Rattle.analysis.specs.Analyse.{answer_length, answer_over, answer_place, names_words}
use Rattle.analysis.specs.Answer.{answer_text}
use Rattle.analysis.specs.Fields.{arithmetic_of}
use Rattle.analysis.specs.Laws.{Entitled, LawfulAnswer}

some_none : {a : Arithmetic} → Some a ≡ None → ⊥
some_none h = true≢false (ap (λ (o : Option Arithmetic). elim o [ Some _ ↦ true | None ↦ false ]) h)

module _ (b : List ℕ) (c : Contents) (e : reading b ≡ Ok c) (place exit : List ℕ) (r : Result ℕ FileFault) where
  over_field : (a : Arithmetic) → arithmetic_of c.listing.header.letter ≡ Some a
      → r ≡ answer_length (answer_over (Some a) c.listing.header c.codes) → exit ≡ answer_place (answer_over (Some a) c.listing.header c.codes) place
      → Entitled (Some a) c.listing.header c.codes → LawfulAnswer b exit r
  over_field a named answer put entitles =
      let t = answer_text a c.listing.header.size c.listing.header.bound c.codes in
      subst (LawfulAnswer b exit) (sym answer)
      (entitles.0, c, e, record { field = a; field_of_letter = named; lines = ap (take (length t)) put ∙ take_written (length t) t place refl; entitles = entitles.1 })

  by_field : (l : RingLetter) → c.listing.header.letter ≡ l → names_words (Some l) ≡ false → (o : Option Arithmetic) → arithmetic_of l ≡ o
      → r ≡ answer_length (answer_over o c.listing.header c.codes) → exit ≡ answer_place (answer_over o c.listing.header c.codes) place
      → Entitled o c.listing.header c.codes → LawfulAnswer b exit r
  by_field l named field (Some a) is answer put entitles = over_field a (ap arithmetic_of named ∙ is) answer put entitles
  by_field B named field None is answer put entitles = absurd (some_none is)
  by_field P named field None is answer put entitles = absurd (some_none is)
  by_field Y named field None is answer put entitles = absurd (some_none is)
  by_field W named field None is answer put entitles = absurd (true≢false field)

  pub answered : names_words (Some c.listing.header.letter) ≡ false
      → r ≡ answer_length (answer_over (arithmetic_of c.listing.header.letter) c.listing.header c.codes)
      → exit ≡ answer_place (answer_over (arithmetic_of c.listing.header.letter) c.listing.header c.codes) place
      → Entitled (arithmetic_of c.listing.header.letter) c.listing.header c.codes → LawfulAnswer b exit r
  answered field = by_field c.listing.header.letter refl field (arithmetic_of c.listing.header.letter) refl
