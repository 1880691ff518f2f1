use Rattle.std.proofs.Common.{sym, ap, ◌∙◌, subst, []}
use Rattle.arb_config.specs.Machine.{IsMachine}
use Rattle.arb_model.specs.History.{History, IsLegal}
use Rattle.arb_model.specs.Reading.{reading}
use Rattle.arb_model.proofs.LegalLaws.{legal_empty}
use Rattle.arb_model.proofs.ReadingLaws.{reading_empty}
use Rattle.arb_page.specs.Seen.{Observer}
use Rattle.arb_page.specs.Views.{observer_of, writer_view}
use Rattle.arb_page.proofs.blank.Blank.name.Goals as goal

pub invariant_of-writer : goal.invariant_of-writer
invariant_of-writer g c =
    let blank = c.self.invariant in
    let seen = ap (λ me. me.0.seen) blank.3 in
    let observer = ap (λ me. observer_of me.0) blank.3 in
    let name = c.self.view_is in (
      record {
        table = blank.2 ∙ ap (λ b. b.table) name ∙ c.requires.0;
        view = blank.3 ∙ ap (λ (o : Observer). (writer_view o.seen o.steps, [])) (sym observer);
        legal = subst (IsLegal g.K.Set.machine) (sym seen) (legal_empty g.K.Set.machine);
      },
      sym (ap (λ (h : History). reading h 0) seen ∙ reading_empty 0),
      subst IsMachine (ap (λ b. b.machine) name ∙ c.requires.1) blank.1,
    )
