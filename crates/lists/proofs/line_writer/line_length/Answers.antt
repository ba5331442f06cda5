use Rattle.std.proofs.Common.{arith}
use Rattle.lists.specs.LineText.{line_text}
use Rattle.lists.proofs.Listable.{text_too_long, text_fits}
use Rattle.lists.proofs.Streamed.{commaed_long, line_length}
use Rattle.lists.proofs.line_writer.line_length.Goals as goal

pub returns-then-start-gt-GREATEST_LENGTH : goal.returns-then-start-gt-GREATEST_LENGTH
returns-then-start-gt-GREATEST_LENGTH c =
    text_too_long (line_text c.args.start.now c.args.numbers.now) (omega (arith, line_length c.args.start.now c.args.numbers.now, c.if-start-gt-GREATEST_LENGTH.true))

pub returns-then-numbers-gt-GREATEST_LENGTH : goal.returns-then-numbers-gt-GREATEST_LENGTH
returns-then-numbers-gt-GREATEST_LENGTH c =
    text_too_long (line_text c.args.start.now c.args.numbers.now) (omega (arith, line_length c.args.start.now c.args.numbers.now, commaed_long c.args.numbers.now, c.if-numbers-gt-GREATEST_LENGTH.true))

pub returns-then-length-gt-GREATEST_LENGTH : goal.returns-then-length-gt-GREATEST_LENGTH
returns-then-length-gt-GREATEST_LENGTH c =
    text_too_long (line_text c.args.start.now c.args.numbers.now) (omega (arith, line_length c.args.start.now c.args.numbers.now, c.fields_length.ensures.value, c.if-length-gt-GREATEST_LENGTH.true))

pub returns-else-length-gt-GREATEST_LENGTH : goal.returns-else-length-gt-GREATEST_LENGTH
returns-else-length-gt-GREATEST_LENGTH c =
    text_fits (line_text c.args.start.now c.args.numbers.now) _ (omega (arith, line_length c.args.start.now c.args.numbers.now, c.fields_length.ensures.value)) c.if-length-gt-GREATEST_LENGTH.false
