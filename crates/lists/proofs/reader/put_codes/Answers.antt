use Rattle.std.proofs.Common.{ℕ, List, length, ap, ◌∙◌, arith, length-append}
use Rattle.lists.specs.Bytes.{line_end}
use Rattle.lists.specs.Contents.{matrices_in, flat, line_codes}
use Rattle.lists.specs.Cursor.{left}
use Rattle.lists.proofs.Codes.{line_codes_first}
use Rattle.lists.proofs.Writing.{put_more}
use Rattle.lists.proofs.reader.put_codes.Goals as goal

pub loop-line-preserved : goal.loop-line-preserved
loop-line-preserved c =
    let l = c.in-Some.line.bytes.now in let ls = left line_end c.next.new.self.parts.rest in let i = c.loop-line.invariant in
    let e = ap (λ (x : List (List ℕ)). flat (matrices_in x)) c.in-Some.ensures.steps.0 ∙ line_codes_first l ls in
    let n = length-append (line_codes l) (flat (matrices_in ls)) in (
      omega (arith, i.0, ap length e, n, c.put_line-at.ensures.next),
      put_more c.loop-line.place _ c.loop-line.at c.put_line-at.result (line_codes l) _ (flat (matrices_in ls)) _ e (omega (arith, i.0, c.requires, ap length e, n, c.loop-line.auto.place)) c.put_line-at.ensures.next c.put_line-at.ensures.place i.1,
    )
