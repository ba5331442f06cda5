use Rattle.std.proofs.Common.{arith}
use Rattle.rings.specs.Arithmetic.{reading}
use Rattle.runs.proofs.FirstEntries.{none_added, added_more, all_added}
use Rattle.runs.proofs.lanes.Lanes.add_multiple.Goals as goal

pub returns-then-self-eq2 : goal.returns-then-self-eq2
returns-then-self-eq2 g c =
    let a = reading g.F.Ring.size (g.F.Ring.means c.args.self.field) (g.F.Field.inverse c.args.self.field) in
    let own = c.args.own.now.entries in
    let other = c.args.other.now.entries in
    let xs = c.add_at.new.own.entries in
    let ys = c.add_at-2.new.own.entries in
    let one = added_more a c.args.c own other 0 own xs (omega arith) (none_added a c.args.c own other c.add_at.ensures.length) c.add_at.ensures.entries in
    let two = added_more a c.args.c own other 1 xs ys (omega arith) one c.add_at-2.ensures.entries in
    all_added a c.args.c own other 2 c.args.self.size ys c.if-self-eq2.true two

pub returns-then-self-eq3 : goal.returns-then-self-eq3
returns-then-self-eq3 g c =
    let a = reading g.F.Ring.size (g.F.Ring.means c.args.self.field) (g.F.Field.inverse c.args.self.field) in
    let own = c.args.own.now.entries in
    let other = c.args.other.now.entries in
    let xs = c.add_at.new.own.entries in
    let ys = c.add_at-2.new.own.entries in
    let zs = c.add_at-3.new.own.entries in
    let one = added_more a c.args.c own other 0 own xs (omega arith) (none_added a c.args.c own other c.add_at.ensures.length) c.add_at.ensures.entries in
    let two = added_more a c.args.c own other 1 xs ys (omega arith) one c.add_at-2.ensures.entries in
    let three = added_more a c.args.c own other 2 ys zs (omega arith) two c.add_at-3.ensures.entries in
    all_added a c.args.c own other 3 c.args.self.size zs c.if-self-eq3.true three

pub returns : goal.returns
returns g c =
    let a = reading g.F.Ring.size (g.F.Ring.means c.args.self.field) (g.F.Field.inverse c.args.self.field) in
    let own = c.args.own.now.entries in
    let other = c.args.other.now.entries in
    let xs = c.add_at.new.own.entries in
    let ys = c.add_at-2.new.own.entries in
    let zs = c.add_at-3.new.own.entries in
    let ws = c.add_at-4.new.own.entries in
    let one = added_more a c.args.c own other 0 own xs (omega arith) (none_added a c.args.c own other c.add_at.ensures.length) c.add_at.ensures.entries in
    let two = added_more a c.args.c own other 1 xs ys (omega arith) one c.add_at-2.ensures.entries in
    let three = added_more a c.args.c own other 2 ys zs (omega arith) two c.add_at-3.ensures.entries in
    let four = added_more a c.args.c own other 3 zs ws (omega arith) three c.add_at-4.ensures.entries in
    all_added a c.args.c own other 4 c.args.self.size ws (omega arith) four
