use Rattle.std.proofs.Common.{◌≡◌, ℕ, ◌∙◌, subst, arith}
use Rattle.rings.specs.Arithmetic.{reading}
use Rattle.runs.specs.Operations.{operations_of}
use Rattle.runs.specs.Clearing.{solved}
use Rattle.runs.specs.Equations.{equations_of, matrix_of}
use Rattle.runs.proofs.CodedEquations.{Turned, turned_none, turned_more, turned_all}
use Rattle.runs.proofs.Framed.{framed_inside, framed_outside}
use Rattle.runs.proofs.lanes.Lanes.solve.Goals as goal

pub loop-c-init : goal.loop-c-init
loop-c-init g c =
    turned_none g.F.Ring.size (g.F.Ring.means c.args.self.field) (g.F.Field.inverse c.args.self.field) (g.met.F.Ring.lawful c.args.self.field) (g.met.F.Field.inverts c.args.self.field)
    c.args.self.size (equations_of c.args.equations)

pub loop-c-preserved : goal.loop-c-preserved
loop-c-preserved g c =
    turned_more g.F.Ring.size (g.F.Ring.means c.args.self.field) (g.F.Field.inverse c.args.self.field) (g.met.F.Ring.lawful c.args.self.field) (g.met.F.Field.inverts c.args.self.field)
    c.args.self.size c.loop-c.c (equations_of c.args.equations) (equations_of c.loop-c.equations) (equations_of c.clear.new.equations)
    c.loop-c-test.true c.loop-c.invariant c.clear.ensures

pub returns : goal.returns
returns g c =
    let q = g.F.Ring.size in
    let m = g.F.Ring.means c.args.self.field in
    let inverse = g.F.Field.inverse c.args.self.field in
    let laws = g.met.F.Ring.lawful c.args.self.field in
    let inverts = g.met.F.Field.inverts c.args.self.field in
    let N = c.args.self.size in
    let given = equations_of c.args.equations in
    let left_over = equations_of c.loop-c.equations in
    let x = matrix_of c.solution.result in
    let values = solved (operations_of (reading q m inverse)) left_over in
    let all : c.loop-c.c ≡ N = omega arith in
    record {
      solution = λ h s X hX solves r i rN iN. framed_inside N x values c.solution.ensures r i rN iN
          ∙ turned_all q m inverse laws inverts N given left_over (subst (λ (n : ℕ). Turned q m inverse laws inverts N n given left_over) all c.loop-c.invariant) h s X hX solves r i rN iN;
      outside = framed_outside N x values c.solution.ensures;
    }
