use Rattle.std.proofs.Common.{◌≡◌, ◌++◌, ap, sym, subst, ◌∙◌}
use Rattle.arb_live.specs.Live.{NothingOwed}
use Rattle.test_live.proofs.conversation.hold.Goals as goal

pub returns : goal.returns
returns c =
    let talked = c.live.ensures.talked in
    let all = talked.1.told ∙ ap (λ l. l ++ talked.0) c.requires in
    subst (λ l. NothingOwed c.args.topology.now l) (sym all) talked.2
