use Rattle.std.proofs.Common.{ℕ, ◌++◌, drop, replicate, ap, ◌∙◌, arith}
use Rattle.std.proofs.lemmas.List.{length-take-le}
use Rattle.runs.specs.Views.{no_vector, zero_vector, vector_of}
use Rattle.runs.proofs.Cut.{cut_to}
use Rattle.runs.proofs.Part.{part_more, part_start}
use Rattle.runs.proofs.Vectors.{zero_vectors}
use Rattle.runs.proofs.Squares.{line_is, codes_of_row, rows_are}
use Rattle.runs.proofs.square.square.Goals as goal

pub loop-i-init : goal.loop-i-init
loop-i-init c = part_start no_vector (vector_of c.args.size) _ _ c.args.size (replicate 4 zero_vector) (λ x. zero_vectors c.args.size 4 x)

pub loop-i-preserved : goal.loop-i-preserved
loop-i-preserved c =
    part_more no_vector (vector_of c.args.size) _ _ (drop c.args.size (replicate 4 zero_vector)) c.loop-i.row-items c.loop-i.i c.line.result (omega arith) c.loop-i.invariant
    (line_is c.args.size c.loop-i.i c.args.codes.now c.line.result (λ x. c.line.ensures x ∙ codes_of_row c.args.size c.loop-i.i x c.args.codes.now))

pub returns : goal.returns
returns c = λ i e.
    let zeros = replicate 4 zero_vector in
    ap (λ (f : ℕ → ℕ). f e)
    (cut_to no_vector (vector_of c.args.size) _ _ (c.loop-i.row-items ++ drop c.args.size zeros) c.loop-i.i c.args.size (omega (arith, length-take-le c.args.size zeros)) c.loop-i.invariant i)
    ∙ rows_are c.args.size i e c.args.codes.now
