use Rattle.std.proofs.Common.{sym}
use Rattle.arb_share.proofs.TextLaws.{lines_split, drop_one-short, take-drop_one}
use Rattle.arb_share.proofs.text.split_line.Goals as goal

pub returns-in-empty-clause-lines : goal.returns-in-empty-clause-lines
returns-in-empty-clause-lines c =
    lines_split c.args.text.now _ _ c.split_at.result.1.now _ c.requires c.len_before.ensures.index c.split_at.ensures.front c.split_at.ensures.back (sym (drop_one-short _ c.in-empty.len_below))

pub returns-in-len1-up-clause-lines : goal.returns-in-len1-up-clause-lines
returns-in-len1-up-clause-lines c =
    lines_split c.args.text.now _ _ _ _ c.requires c.len_before.ensures.index c.split_at.ensures.front c.split_at.ensures.back (take-drop_one c.split_at.result.1.now)
