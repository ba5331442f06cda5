use Rattle.std.proofs.Common.{◌≡◌, ℕ, List, length, Ok, Result, sym, ap, ◌∙◌, arith, rules}
use Rattle.lists.specs.Bytes.{line_end}
use Rattle.lists.specs.Contents.{flat, matrices_in, reading}
use Rattle.lists.specs.Cursor.{left}
use Rattle.lists.specs.FileChecks.{lines_of, lines_handed, checked_lines}
use Rattle.lists.specs.Read.{read_answer, read_place}
use Rattle.lists.specs.declared.fault.WholeFault.{WholeFault}
use Rattle.lists.proofs.ReadLaw.{read_lawful}
use Rattle.lists.proofs.Room.{accepted_room}
use Rattle.lists.proofs.reader.read_list.Goals as goal

pub put_codes-requires : goal.put_codes-requires
put_codes-requires c =
    let b = c.args.file.now in let o = sym c.in_ok-check_opened.ensures in
    let lines : left line_end c.new-lines.result.parts.rest ≡ lines_of b = c.new-lines.ensures.all ∙ ap (λ (r : Result (Unit {0}) WholeFault). lines_handed r b) o in
    let e = ap checked_lines (sym lines) ∙ sym c.in_ok-listing.ensures in
    omega (arith, c.requires, accepted_room b c.in_ok-check_opened.field-0 c.in_ok-listing.listing o e, ap (λ (x : List (List ℕ)). length (flat (matrices_in x))) lines)

pub returns : goal.returns
returns c =
    let b = c.args.file.now in let p = c.args.place.now in
    let a : Ok c.in_ok-listing.listing ≡ read_answer (reading b) = search rules in
    let q : c.put_codes.new.place ≡ read_place (reading b) p = search rules in
    record { answer = a; place = q; law = read_lawful b p c.put_codes.new.place (Ok c.in_ok-listing.listing) a q }

pub returns-in_err-check_opened : goal.returns-in_err-check_opened
returns-in_err-check_opened c =
    let b = c.args.file.now in let p = c.args.place.now in
    let a : c.from_residual.result ≡ read_answer (reading b) = search rules in
    let q : p ≡ read_place (reading b) p = search rules in
    record { answer = a; place = q; law = read_lawful b p p c.from_residual.result a q }

pub returns-in_err-listing : goal.returns-in_err-listing
returns-in_err-listing c =
    let b = c.args.file.now in let p = c.args.place.now in
    let a : c.from_residual-in_err-listing.result ≡ read_answer (reading b) = search rules in
    let q : p ≡ read_place (reading b) p = search rules in
    record { answer = a; place = q; law = read_lawful b p p c.from_residual-in_err-listing.result a q }
