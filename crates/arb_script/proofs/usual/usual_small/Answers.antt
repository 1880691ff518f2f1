use Rattle.std.proofs.Common.{arith, refl}
use Rattle.arb_script.proofs.UsualLaws.{begins_one, begins_two}
use Rattle.arb_script.proofs.usual.usual_small.Goals as goal

pub returns-then-second-behind : goal.returns-then-second-behind
returns-then-second-behind c =
    begins_one c.args.text.now _ _ c.args.behind c.in-len3-up.len_at_least (omega (arith, c.type_inv.text 0)) ((c.if-not-is_small.ensures {u = tt}).0 refl) refl c.if-second-behind.true refl

pub returns-else-second-behind : goal.returns-else-second-behind
returns-else-second-behind c =
    begins_two c.args.text.now _ _ c.args.behind c.in-len3-up.len_at_least (omega (arith, c.type_inv.text 0)) ((c.if-not-is_small.ensures {u = tt}).0 refl) refl c.if-second-behind.false refl
