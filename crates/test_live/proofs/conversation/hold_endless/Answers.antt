use Rattle.std.proofs.Common.{◌≡◌, ◌++◌, ap, sym, subst, ◌∙◌}
use Rattle.arb_model.specs.Renewal.{endless}
use Rattle.arb_live.specs.Live.{NothingOwed}
use Rattle.test_live.proofs.conversation.hold_endless.Goals as goal

pub returns : goal.returns
returns c =
    let talked = c.live_endless.ensures.talked in
    let all = talked.1.told ∙ ap (λ l. l ++ talked.0) c.requires in
    subst (λ l. NothingOwed (endless c.args.topology.now) l) (sym all) talked.2
