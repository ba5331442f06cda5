use Rattle.std.proofs.Common.{ℕ, List, ◌++◌, drop, replicate, ap, ◌∙◌, arith}
use Rattle.std.proofs.lemmas.List.{length-take-le}
use Rattle.rings.specs.Arithmetic.{reading}
use Rattle.runs.proofs.Cut.{cut_to}
use Rattle.runs.proofs.Part.{part_more}
use Rattle.runs.proofs.run.ahead.Ahead.values.Goals as goal

pub loop-r-preserved : goal.loop-r-preserved
loop-r-preserved g c =
    let me = c.args.self.now in
    let a = reading g.F.Ring.size (g.F.Ring.means me.run.now.field) (g.F.Field.inverse me.run.now.field) in
    part_more 0 (λ (x : ℕ). x) _ _ (drop me.run.now.state.size (replicate 4 0)) c.loop-r.entry-items c.loop-r.r c.opposite.result (omega arith) c.loop-r.invariant (c.opposite.ensures ∙ ap a.opposite c.entry_behind.ensures)

pub returns : goal.returns
returns g c =
    let zeros : List ℕ = replicate 4 0 in
    let N = c.args.self.now.run.now.state.size in
    let small = c.args.self.now.run.now.sound.small in
    cut_to 0 (λ (x : ℕ). x) _ _ (c.loop-r.entry-items ++ drop N zeros) c.loop-r.r N (omega (arith, length-take-le N zeros)) c.loop-r.invariant
