use Rattle.arb_share.proofs.RowsLaws.{ReadsEntries-next, ReadsEntries-end}
use Rattle.arb_share.proofs.rows.read_entries.Goals as goal

pub loop-word-preserved : goal.loop-word-preserved
loop-word-preserved c =
    let entry = c.in_ok-entries.ensures in
    ReadsEntries-next _ _ _ _ c.in-Some.word.now _ _ c.loop-word.invariant c.in-Some.ensures.words c.requires entry.0 entry.1 entry.2

pub returns : goal.returns
returns c =
    let end = ReadsEntries-end _ _ _ _ c.loop-word.invariant (c.in_default.ensures {u = tt}).words c.requires in
    (end.0, end.1, c.loop-word.invariant.small)
