use Rattle.std.proofs.Common.{rules}
use Rattle.arb_script.proofs.PrintLaws.{ask_text}
use Rattle.arb_script.proofs.text_line.TextLine.push_order.Goals as goal

pub returns-in-Ask-clause-text : goal.returns-in-Ask-clause-text
returns-in-Ask-clause-text c =
    ask_text c.args.self.now _ _ _ c.args.order.now c.push_entries.ensures.text c.push-in-Ask.ensures.text (search rules)
