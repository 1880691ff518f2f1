use Rattle.std.proofs.Common.{◌++◌, ◌∙◌, ap, sym}
use Rattle.std.specs.Prelude.{codes}
use Rattle.arb_model.specs.Standing.{holder_at}
use Rattle.arb_model.specs.Texts.{client_word}
use Rattle.arb_model.specs.Texts.{asked_text}
use Rattle.arb_script.specs.Table.{owner_text}
use Rattle.arb_script.proofs.TableLaws.{appended_in_turn, free_at, made_of, owner_shown, owner_text-is}
use Rattle.arb_script.proofs.text_line.TextLine.push_owner.Goals as goal

pub returns-in_default-clause-text : goal.returns-in_default-clause-text
returns-in_default-clause-text c =
    let a = c.args.core.now in
    let (within, is) = made_of a.machine _ c.args.position c.core_at.result c.requires.made c.requires.within c.core_at.ensures.core in
    let free = free_at a c.args.position c.core_at.result within is (c.in_default.ensures {u = tt}) in
    c.push.ensures.text ∙ ap (λ o. c.args.self.now ++ owner_text o) (sym free)

pub returns-clause-text : goal.returns-clause-text
returns-clause-text c =
    let a = c.args.core.now in
    let owner = c.in-Some.owner in
    let asked = c.is_asked_back.result in
    let (held, same) = owner_shown a _ c.args.position c.core_at.result owner c.place.result asked c.requires.made c.requires.within c.core_at.ensures.core c.requires.arbiter c.in-Some.ensures c.place.ensures.thread c.is_asked_back.ensures in
    c.push_asked.ensures.text
    ∙ ap (λ text. text ++ asked_text asked) (c.push_client.ensures.text ∙ ap (λ text. text ++ client_word owner) c.push-2.ensures.text)
    ∙ appended_in_turn c.args.self.now (codes "owner ") (client_word owner) (asked_text asked) (owner_text (holder_at a.standing.seats.cores c.args.position)) (sym (owner_text-is a c.args.position owner asked held same))
