use Rattle.std.proofs.Common.{ltb, ◌++◌, drop, ◌∙◌, arith}
use mathlib.Core.Path.{fun_ext}
use Rattle.std.proofs.lemmas.Bool.{cond-true, lt-ltb}
use Rattle.std.proofs.lemmas.List.{length-take-le}
use Rattle.runs.specs.Equations.{no_equation, equation_of}
use Rattle.runs.proofs.Cut.{cut_to}
use Rattle.runs.proofs.Part.{part_more}
use Rattle.runs.proofs.NextEquations.{no_equations_yet}
use Rattle.runs.proofs.run.ahead.Ahead.equations.Goals as goal

pub loop-j-preserved : goal.loop-j-preserved
loop-j-preserved g c =
    part_more no_equation equation_of _ _ (drop c.args.self.now.run.now.state.size no_equations_yet) c.loop-j.equation-items c.loop-j.j c.equation.result (omega arith) c.loop-j.invariant (fun_ext (λ x. fun_ext (λ e. c.equation.ensures x e)))

pub returns : goal.returns
returns g c = λ j lt.
    let N = c.args.self.now.run.now.state.size in
    let small = c.args.self.now.run.now.sound.small in
    cut_to no_equation equation_of _ _ (c.loop-j.equation-items ++ drop N no_equations_yet) c.loop-j.j N (omega (arith, length-take-le N no_equations_yet)) c.loop-j.invariant j
    ∙ cond-true (ltb j N) _ _ (lt-ltb j N lt)
