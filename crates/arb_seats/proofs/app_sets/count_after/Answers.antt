use Rattle.std.proofs.Common.{◌≡◌, true, false, not, arith}
use Rattle.arb_seats.specs.Bits.{has_bit}
use Rattle.arb_seats.proofs.PositionSetsLaws.{marked_anew, set-one_more}
use Rattle.arb_seats.proofs.app_sets.count_after.Goals as goal

pub returns-then-on : goal.returns-then-on
returns-then-on c =
    let anew : has_bit c.args.before c.args.place ≡ not c.args.on =
    marked_anew c.args.before c.args.after c.args.place c.args.on (omega arith) (omega arith) c.if-after-before.false c.requires.marked in
    let off : has_bit c.args.before c.args.place ≡ false = grind (arith, anew) in
    omega (arith, c.requires.counted, set-one_more c.args.before c.args.after c.args.place (omega arith) (omega arith) c.requires.within off (grind arith) (grind arith))

pub returns-else-on : goal.returns-else-on
returns-else-on c =
    let anew : has_bit c.args.before c.args.place ≡ not c.args.on =
    marked_anew c.args.before c.args.after c.args.place c.args.on (omega arith) (omega arith) c.if-after-before.false c.requires.marked in
    let on : has_bit c.args.before c.args.place ≡ true = grind (arith, anew) in
    omega (arith, c.requires.counted, set-one_more c.args.after c.args.before c.args.place (omega arith) (omega arith) c.requires.within (grind arith) on (grind arith))

pub overflow_sub-result : goal.overflow_sub-result
overflow_sub-result c =
    let anew : has_bit c.args.before c.args.place ≡ not c.args.on =
    marked_anew c.args.before c.args.after c.args.place c.args.on (omega arith) (omega arith) c.if-after-before.false c.requires.marked in
    let on : has_bit c.args.before c.args.place ≡ true = grind (arith, anew) in
    omega (arith, c.requires.counted, set-one_more c.args.after c.args.before c.args.place (omega arith) (omega arith) c.requires.within (grind arith) on (grind arith))
