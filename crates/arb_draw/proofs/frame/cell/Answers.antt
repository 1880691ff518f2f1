use Rattle.std.proofs.Common.{◌∙◌, ap, sym}
use Rattle.arb_model.specs.Standing.{holder_at}
use Rattle.arb_script.proofs.TableLaws.{free_at, made_of, owner_shown}
use Rattle.arb_draw.specs.Frames.{cell_of}
use Rattle.arb_draw.proofs.FrameLaws.{cell_is}
use Rattle.arb_draw.proofs.frame.cell.Goals as goal

pub returns-in_default : goal.returns-in_default
returns-in_default c =
    let a = c.args.core.now in
    let (within, is) = made_of a.machine _ c.args.position c.core_at.result c.requires.made c.requires.within c.core_at.ensures.core in
    ap cell_of (sym (free_at a c.args.position c.core_at.result within is (c.in_default.ensures {u = tt})))

pub returns : goal.returns
returns c =
    let a = c.args.core.now in
    let owner = c.in-Some.owner in
    let asked = c.is_asked_back.result in
    let (held, same) = owner_shown a _ c.args.position c.core_at.result owner c.place.result asked c.requires.made c.requires.within c.core_at.ensures.core c.requires.arbiter c.in-Some.ensures c.place.ensures.thread c.is_asked_back.ensures in
    cell_is (holder_at a.standing.seats.cores c.args.position) held.holder c.index.result asked held.at (held.is ∙ sym c.index.ensures.value) same
