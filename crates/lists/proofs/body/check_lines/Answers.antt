use Rattle.std.proofs.Common.{◌≡◌, ◌∷◌, sym, ap, ◌∙◌, arith}
use Rattle.std.proofs.lemmas.Grind.{common_steps}
use Rattle.lists.specs.Bytes.{line_end}
use Rattle.lists.specs.Cursor.{left}
use Rattle.lists.specs.FileChecks.{checked_lines}
use Rattle.lists.proofs.body.check_lines.Goals as goal

pub returns-in_err-count : goal.returns-in_err-count
returns-in_err-count c =
    let ls = left line_end c.next.new.self.parts.rest in
    let refused : c.from_residual-in_err-count.result ≡ checked_lines (c.in-Some.line.bytes.now ∷ ls) = grind (arith, common_steps) in
    refused ∙ ap checked_lines (sym c.in-Some.ensures.steps.0)
