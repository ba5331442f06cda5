use Rattle.std.proofs.Common.{ℕ, get_or, arith}
use Rattle.rings.specs.Arithmetic.{reading}
use Rattle.runs.proofs.FirstEntries.{no_terms, term_more, all_terms}
use Rattle.runs.proofs.lanes.Lanes.dot.Goals as goal

pub returns-then-self-eq1 : goal.returns-then-self-eq1
returns-then-self-eq1 g c =
    let a = reading g.F.Ring.size (g.F.Ring.means c.args.self.field) (g.F.Field.inverse c.args.self.field) in
    let f = λ (e : ℕ). a.product (get_or c.args.a.now.entries e 0) (get_or c.args.b.now.entries e 0) in
    let x = c.with_product-first.result in
    all_terms a f 1 c.args.self.size x c.if-self-eq1.true (term_more a f 0 0 x (no_terms a f) c.with_product-first.ensures)

pub returns-then-self-eq2 : goal.returns-then-self-eq2
returns-then-self-eq2 g c =
    let a = reading g.F.Ring.size (g.F.Ring.means c.args.self.field) (g.F.Field.inverse c.args.self.field) in
    let f = λ (e : ℕ). a.product (get_or c.args.a.now.entries e 0) (get_or c.args.b.now.entries e 0) in
    let x = c.with_product-first.result in
    let y = c.with_product-second.result in
    let one = term_more a f 0 0 x (no_terms a f) c.with_product-first.ensures in
    all_terms a f 2 c.args.self.size y c.if-self-eq2.true (term_more a f 1 x y one c.with_product-second.ensures)

pub returns-then-self-eq3 : goal.returns-then-self-eq3
returns-then-self-eq3 g c =
    let a = reading g.F.Ring.size (g.F.Ring.means c.args.self.field) (g.F.Field.inverse c.args.self.field) in
    let f = λ (e : ℕ). a.product (get_or c.args.a.now.entries e 0) (get_or c.args.b.now.entries e 0) in
    let x = c.with_product-first.result in
    let y = c.with_product-second.result in
    let z = c.with_product-third.result in
    let one = term_more a f 0 0 x (no_terms a f) c.with_product-first.ensures in
    let two = term_more a f 1 x y one c.with_product-second.ensures in
    all_terms a f 3 c.args.self.size z c.if-self-eq3.true (term_more a f 2 y z two c.with_product-third.ensures)

pub returns : goal.returns
returns g c =
    let a = reading g.F.Ring.size (g.F.Ring.means c.args.self.field) (g.F.Field.inverse c.args.self.field) in
    let f = λ (e : ℕ). a.product (get_or c.args.a.now.entries e 0) (get_or c.args.b.now.entries e 0) in
    let x = c.with_product-first.result in
    let y = c.with_product-second.result in
    let z = c.with_product-third.result in
    let w = c.with_product.result in
    let one = term_more a f 0 0 x (no_terms a f) c.with_product-first.ensures in
    let two = term_more a f 1 x y one c.with_product-second.ensures in
    let three = term_more a f 2 y z two c.with_product-third.ensures in
    all_terms a f 4 c.args.self.size w (omega arith) (term_more a f 3 z w three c.with_product.ensures)
