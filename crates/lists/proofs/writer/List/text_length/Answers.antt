use Rattle.std.proofs.Common.{ℕ, [], ◌∷◌, length, ap, ◌∙◌, arith}
use Rattle.lists.specs.LineText.{commaed}
use Rattle.lists.specs.Text.{text}
use Rattle.lists.proofs.Listable.{text_too_long, text_fits}
use Rattle.lists.proofs.Streamed.{text_length, codes_short}
use Rattle.lists.proofs.writer.List.text_length.Goals as goal

pub returns-then-self-gt-GREATEST_LENGTH : goal.returns-then-self-gt-GREATEST_LENGTH
returns-then-self-gt-GREATEST_LENGTH c =
    let h = c.args.self.now.header in let cs = c.args.self.now.codes.now in
    text_too_long (text h cs) (omega (arith, codes_short h cs c.requires, c.if-self-gt-GREATEST_LENGTH.true))

pub returns-then-length-gt-GREATEST_LENGTH : goal.returns-then-length-gt-GREATEST_LENGTH
returns-then-length-gt-GREATEST_LENGTH c =
    let h = c.args.self.now.header in let cs = c.args.self.now.codes.now in
    let end = c.fields_length-end.ensures.value ∙ ap (λ (n : ℕ). length (commaed (n ∷ []))) c.count-count.ensures in
    let start = c.fields_length-start.ensures.value ∙ ap (λ (ns : _). length (commaed ns)) c.numbers.ensures in
    text_too_long (text h cs) (omega (arith, text_length h cs c.requires, start, c.fields_length.ensures.value, end, c.count-count.ensures, c.if-length-gt-GREATEST_LENGTH.true))

pub returns-else-length-gt-GREATEST_LENGTH : goal.returns-else-length-gt-GREATEST_LENGTH
returns-else-length-gt-GREATEST_LENGTH c =
    let h = c.args.self.now.header in let cs = c.args.self.now.codes.now in
    let end = c.fields_length-end.ensures.value ∙ ap (λ (n : ℕ). length (commaed (n ∷ []))) c.count-count.ensures in
    let start = c.fields_length-start.ensures.value ∙ ap (λ (ns : _). length (commaed ns)) c.numbers.ensures in
    text_fits (text h cs) _ (omega (arith, text_length h cs c.requires, start, c.fields_length.ensures.value, end, c.count-count.ensures)) c.if-length-gt-GREATEST_LENGTH.false
