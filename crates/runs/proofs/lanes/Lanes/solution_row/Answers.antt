use Rattle.std.proofs.Common.{ℕ, List, ◌++◌, drop, replicate, arith}
use Rattle.std.proofs.lemmas.List.{length-take-le}
use Rattle.runs.proofs.Cut.{cut_to}
use Rattle.runs.proofs.Part.{part_more}
use Rattle.runs.proofs.lanes.Lanes.solution_row.Goals as goal

pub loop-c-preserved : goal.loop-c-preserved
loop-c-preserved g c =
    part_more 0 (λ (x : ℕ). x) _ _ (drop c.args.self.size (replicate 4 0)) c.loop-c.entry-items c.loop-c.c c.quotient.result (omega arith) c.loop-c.invariant c.quotient.ensures

pub returns : goal.returns
returns g c =
    let zeros : List ℕ = replicate 4 0 in
    cut_to 0 (λ (x : ℕ). x) _ _ (c.loop-c.entry-items ++ drop c.args.self.size zeros) c.loop-c.c c.args.self.size (omega (arith, length-take-le c.args.self.size zeros)) c.loop-c.invariant
