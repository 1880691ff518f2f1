use Rattle.std.proofs.Common.{◌≡◌, ◌∙◌, false, not, sym, subst}
use Rattle.std.specs.Prelude.{List}
use Rattle.std.specs.List.{list_any}
use Rattle.std.proofs.lemmas.Bool.{or_from}
use Rattle.arb_desk.specs.declared.past.Past.{Past}
use Rattle.arb_house.specs.Auditing.{Agree}
use Rattle.arb_house.proofs.OutcomeLaws.{Agree-from_none}
use Rattle.arb_house.proofs.auditing.compare.Goals as goal

pub returns-clause-agrees : goal.returns-clause-agrees
returns-clause-agrees c =
    let early = c.args.early in
    let house = c.args.clients.now in
    let journal = c.args.journal.now in
    let pasts = c.of-survey.result.pasts.now in
    let whole : list_any (λ (past : Past). not past.whole) pasts ≡ false = sym c.of-survey.result.cut_if ∙ c.if-survey.false in
    let full = or_from early (list_any (λ (past : Past). not past.whole) pasts) c.if-early.false whole in
    let agree = Agree-from_none early house journal pasts full (c.in_default.ensures {u = tt}).none (c.in_default-first_twice.ensures {u = tt}).none (c.in_default-first_differing.ensures {u = tt}).none in
    subst (λ (ps : List Past). Agree early house journal ps) c.of-survey.ensures.pasts agree
