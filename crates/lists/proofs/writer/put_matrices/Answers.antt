use Rattle.std.proofs.Common.{◌/◌, [], ◌∷◌, length, ap, ◌∙◌, arith, length-append}
use Rattle.std.specs.Slice.Iter.{chunks_exact_rest}
use Rattle.lists.specs.Bytes.{matrix_letter}
use Rattle.lists.specs.LineText.{line_text, matrix_texts}
use Rattle.lists.proofs.Streamed.{texts_more, no_texts_left}
use Rattle.lists.proofs.Writing.{put_more, all_put}
use Rattle.lists.proofs.writer.put_matrices.Goals as goal

pub put_line-next-requires : goal.put_line-next-requires
put_line-next-requires c =
    let k = c.args.k in let m = c.in-Some.matrix.now in let i = c.loop-matrix.invariant in
    let cs = chunks_exact_rest c.loop-matrix.matrix-iterator in let rest = chunks_exact_rest c.next.new.self in
    let s = c.in-Some.ensures.steps in
    let e = texts_more k c.requires.some cs m rest s.1.0 (s.1.1 ∙ i.0) in
    omega (arith, ap length e, length-append (line_text (matrix_letter ∷ []) m) (matrix_texts k (length rest / k) rest), i.1, c.requires.room, c.loop-matrix.auto.place)

pub loop-matrix-preserved : goal.loop-matrix-preserved
loop-matrix-preserved c =
    let k = c.args.k in let m = c.in-Some.matrix.now in let i = c.loop-matrix.invariant in
    let cs = chunks_exact_rest c.loop-matrix.matrix-iterator in let rest = chunks_exact_rest c.next.new.self in
    let s = c.in-Some.ensures.steps in
    let line = line_text (matrix_letter ∷ []) m in let left = matrix_texts k (length rest / k) rest in
    let e = texts_more k c.requires.some cs m rest s.1.0 (s.1.1 ∙ i.0) in
    let l = length-append line left in (
      s.0 ∙ i.0,
      omega (arith, ap length e, l, i.1, c.put_line-next.ensures.next),
      put_more c.loop-matrix.place _ c.loop-matrix.next c.put_line-next.result line _ left _ e (omega (arith, ap length e, l, i.1, c.requires.room, c.loop-matrix.auto.place)) c.put_line-next.ensures.next c.put_line-next.ensures.place i.2,
    )

pub returns : goal.returns
returns c =
    let i = c.loop-matrix.invariant in let cs = chunks_exact_rest c.loop-matrix.matrix-iterator in
    let e = no_texts_left c.args.k cs (omega (arith, c.in-None.ensures.steps.1.0, i.0)) in
    record { next = omega (arith, ap length e, i.1); place = all_put c.loop-matrix.place c.loop-matrix.next _ _ e i.2 }
