use Rattle.std.proofs.Common.{append_assoc}
use Rattle.arb_script.proofs.text_line.TextLine.push_counts.Goals as goal

pub returns-clause-text : goal.returns-clause-text
returns-clause-text c =
    rw (c.push_small-4.ensures.text, c.push-4.ensures.text, c.push_small-3.ensures.text, c.push-3.ensures.text, c.push_small-2.ensures.text, c.push-2.ensures.text, c.push_small.ensures.text, c.push.ensures.text)
    (simp append_assoc)
