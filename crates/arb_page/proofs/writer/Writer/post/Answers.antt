use Rattle.std.proofs.Common.{refl, sym, ap, ◌∙◌}
use Rattle.arb_model.specs.History.{History}
use Rattle.arb_model.specs.Reading.{reading}
use Rattle.arb_page.proofs.CountLaws.{is_post}
use Rattle.arb_page.proofs.writer.Writer.post.Goals as goal

pub append-requires-clause-word : goal.append-requires-clause-word
append-requires-clause-word g c = ((is_post _ _ _ _ _ c.self.view_is c.self.invariant.2 c.self.invariant.0.legal c.requires).word, refl)

pub append-requires-clause-value : goal.append-requires-clause-value
append-requires-clause-value g c = (is_post _ _ _ _ _ c.self.view_is c.self.invariant.2 c.self.invariant.0.legal c.requires).reads

pub invariant_of-self : goal.invariant_of-self
invariant_of-self g c =
    let i = c.self.invariant in
    let count = (is_post _ _ _ _ _ c.self.view_is i.2 i.0.legal c.requires).count in
    (c.append.ensures.seat, i.1 ∙ sym count ∙ ap (λ (h : History). reading h 0) (sym c.append.ensures.seen), i.2)
