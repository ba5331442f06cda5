use Rattle.std.proofs.Common.{ℕ, ◌++◌, drop, ap, ◌∙◌, arith}
use mathlib.Core.Path.{fun_ext}
use Rattle.std.proofs.lemmas.List.{length-take-le}
use Rattle.rings.specs.Arithmetic.{reading}
use Rattle.runs.specs.Equations.{Side, no_equation, equation_of}
use Rattle.runs.specs.Clearing.{cleared}
use Rattle.runs.proofs.Cut.{cut_to}
use Rattle.runs.proofs.Part.{part_here, part_more}
use Rattle.runs.proofs.lanes.Lanes.clear_others.Goals as goal

pub loop-j-preserved : goal.loop-j-preserved
loop-j-preserved g c =
    let a = reading g.F.Ring.size (g.F.Ring.means c.args.self.field) (g.F.Field.inverse c.args.self.field) in
    let rest = drop c.args.self.size c.args.equations.now in
    part_more no_equation equation_of _ _ rest c.loop-j.equation-items c.loop-j.j c.clear_one.new.own (omega arith) c.loop-j.invariant
    (fun_ext (λ s. fun_ext (λ e. c.clear_one.ensures s e))
    ∙ ap (λ (f : Side → ℕ → ℕ). cleared a c.args.self.size c.args.c c.loop-j.j c.args.inverse (equation_of c.args.pivot.now) f)
    (part_here no_equation equation_of _ _ rest c.loop-j.equation-items c.loop-j.j (omega arith) c.loop-j.invariant))

pub returns : goal.returns
returns g c =
    cut_to no_equation equation_of _ _ (c.loop-j.equation-items ++ drop c.args.self.size c.args.equations.now) c.loop-j.j c.args.self.size
    (omega (arith, length-take-le c.args.self.size c.args.equations.now)) c.loop-j.invariant
