use Rattle.std.proofs.Common.{◌≡◌, ℕ, List, length, Ok, Err, Result, sym, ap, ◌∙◌, rules, arith}
use Rattle.std.proofs.lemmas.List.{length-take-le}
use Rattle.lists.specs.Contents.{reading}
use Rattle.lists.specs.Laws.{LawfulRead}
use Rattle.lists.specs.Read.{read_answer}
use Rattle.lists.specs.declared.fault.FileFault.{FileFault}
use Rattle.analysis.specs.Analyse.{answer_length, answer_place}
use Rattle.analysis.proofs.ReadLists.{answer_lawful, answer_of_codes, answer_to_other, codes_room, read_err, refused_to}
use Rattle.analysis.proofs.analysing.answer_list.Goals as goal

pub returns-in_err-listing-clause-answer : goal.returns-in_err-listing-clause-answer
returns-in_err-listing-clause-answer c =
    let b = c.args.file.now in
    let e = c.in_err-listing.field-0.0 in
    let answer : c.from_residual.result ≡ Err e = search rules in
    let refused : reading b ≡ Err e = read_err (reading b) e (search rules) in
    answer ∙ ap answer_length (sym (refused_to b e refused) ∙ answer_to_other b c.requires.other)

pub returns-in_err-listing-clause-place : goal.returns-in_err-listing-clause-place
returns-in_err-listing-clause-place c =
    let b = c.args.file.now in
    let e = c.in_err-listing.field-0.0 in
    let refused : reading b ≡ Err e = read_err (reading b) e (search rules) in
    ap (λ (r : Result (List ℕ) FileFault). answer_place r c.args.answer.now) (sym (refused_to b e refused) ∙ answer_to_other b c.requires.other)

pub slice_bounds-place-end : goal.slice_bounds-place-end
slice_bounds-place-end c =
    let b = c.args.file.now in
    let listing = c.in_ok-listing.listing in
    let place = c.read.new.place in
    let answer : Ok listing ≡ read_answer (reading b) = search rules in
    let law : LawfulRead b place (Ok listing) = search rules in
    let n = c.cells.result in
    let long : length place ≡ 16384 = search rules in
    omega (arith, codes_room b listing place answer law n c.cells.ensures.product, long)

pub slice_bounds-codes-end : goal.slice_bounds-codes-end
slice_bounds-codes-end c =
    let b = c.args.file.now in
    let listing = c.in_ok-listing.listing in
    let place = c.read.new.place in
    let answer : Ok listing ≡ read_answer (reading b) = search rules in
    let law : LawfulRead b place (Ok listing) = search rules in
    let n = c.cells.result in
    let long : length place ≡ 16384 = search rules in
    sym (length-take-le _ place (omega (arith, codes_room b listing place answer law n c.cells.ensures.product, long)))

pub returns-clause-answer : goal.returns-clause-answer
returns-clause-answer c =
    let b = c.args.file.now in
    let listing = c.in_ok-listing.listing in
    let place = c.read.new.place in
    let answer : Ok listing ≡ read_answer (reading b) = search rules in
    let law : LawfulRead b place (Ok listing) = search rules in
    let n = c.cells.result in
    c.answer_by_letter.ensures.answer ∙ ap answer_length (answer_of_codes b listing place answer law n c.cells.ensures.product ∙ answer_to_other b c.requires.other)

pub returns-clause-place : goal.returns-clause-place
returns-clause-place c =
    let b = c.args.file.now in
    let listing = c.in_ok-listing.listing in
    let place = c.read.new.place in
    let answer : Ok listing ≡ read_answer (reading b) = search rules in
    let law : LawfulRead b place (Ok listing) = search rules in
    let n = c.cells.result in
    c.answer_by_letter.ensures.place ∙ ap (λ (r : Result (List ℕ) FileFault). answer_place r c.args.answer.now) (answer_of_codes b listing place answer law n c.cells.ensures.product ∙ answer_to_other b c.requires.other)

pub returns-clause-law : goal.returns-clause-law
returns-clause-law c =
    let b = c.args.file.now in
    let listing = c.in_ok-listing.listing in
    let place = c.read.new.place in
    let answer : Ok listing ≡ read_answer (reading b) = search rules in
    let law : LawfulRead b place (Ok listing) = search rules in
    let n = c.cells.result in
    answer_lawful b listing place answer law n c.cells.ensures.product c.requires.other c.args.answer.now c.answer_by_letter.new.place c.answer_by_letter.result
    c.answer_by_letter.ensures.answer c.answer_by_letter.ensures.place c.answer_by_letter.ensures.entitles
