use Rattle.std.proofs.Common.{arith, tests, get_or}
use Rattle.arb_script.proofs.UsualLaws.{IsDigit, entry_two, entry_three}
use Rattle.arb_script.proofs.usual.usual_entry.Goals as goal

pub returns-in-len3-up-clause-number : goal.returns-in-len3-up-clause-number
returns-in-len3-up-clause-number c =
    entry_two c.args.text.now c.in-len3-up.len_at_least (grind (arith, tests, c.if-contains.ensures, c.contains.ensures)) (grind (arith, tests, c.if-is_ascii_digit-2.ensures))

pub returns-else-value-gt-MAX_ENTRY-clause-number : goal.returns-else-value-gt-MAX_ENTRY-clause-number
returns-else-value-gt-MAX_ENTRY-clause-number c =
    let tens : IsDigit (get_or c.args.text.now 1 0) = grind (arith, tests, c.if-contains-2.ensures) in
    let ones : IsDigit (get_or c.args.text.now 2 0) = grind (arith, tests, c.if-is_ascii_digit-3.ensures) in
    entry_three c.args.text.now c.in-49.len_at_least (grind arith) tens ones c.if-value-gt-MAX_ENTRY.false
