use Rattle.std.proofs.Common.{◌≡◌, ◌+◌, None, List, rules, subst, sym, ap}
use Rattle.arb_model.specs.declared.orders.Order.{Order}
use Rattle.arb_model.specs.declared.orders.Reply.{Reply}
use Rattle.arb_client.specs.Sides.{Side}
use Rattle.arb_play.specs.Walking.{Sound}
use Rattle.arb_play.proofs.ScriptLaws.{sound_answered}
use Rattle.arb_play.proofs.walking.ask.Goals as goal

pub returns-in-Ok-clause-sound : goal.returns-in-Ok-clause-sound
returns-in-Ok-clause-sound g c = λ script at own sound.
    let none : c.args.account.now.full_from ≡ None = search rules in
    let id = c.args.client.now.id in
    subst (λ (m : List (Order × Reply)). Sound script (c.args.index + 1) id m c.args.account.now) (sym (ap (λ (s : Side). s.mine) c.in-Ok.ensures.reply.rest))
    (sound_answered script c.args.index id c.args.client.now.mine c.args.account.now c.args.given c.in-Ok.field-0 none at own sound)

pub returns-in-Err-clause-full : goal.returns-in-Err-clause-full
returns-in-Err-clause-full g c = search rules
