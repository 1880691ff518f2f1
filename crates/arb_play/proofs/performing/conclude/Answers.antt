use Rattle.std.proofs.Common.{◌≡◌, ◌<◌, ℕ, List, None, ap, refl, rules, subst, sym}
use Rattle.std.specs.Prelude.{slice_index}
use Rattle.arb_model.specs.declared.orders.Entry.{Entry}
use Rattle.arb_model.specs.Limits.{clients}
use Rattle.arb_house.specs.Pasts.{entries_of_client, recalled}
use Rattle.arb_house.proofs.OutcomeLaws.{lists_from_agree}
use Rattle.arb_play.specs.declared.outcome.Outcome.{Outcome}
use Rattle.arb_play.specs.Joining.{full_from_of}
use Rattle.arb_play.proofs.OutcomeLaws.{outcome_of}
use Rattle.arb_play.proofs.performing.conclude.Goals as goal

pub returns-clause-outcome : goal.returns-clause-outcome
returns-clause-outcome g c =
    let script = c.args.script.now in
    let ended = c.check_pasts.new.ended in
    let pasts = c.args.joined.pasts.items in
    let o : Outcome = record { journal = ended.journal; core = ended.core; full_from = c.full_from_table-full_from.result } in
    let given : c.args.joined.gave_up ≡ None = search rules in
    let agree = subst (λ (es : List Entry). (k : ℕ) → k < clients → entries_of_client k es ≡ recalled k pasts) (ap (λ journal. journal.items) (sym c.check_pasts.ensures.same.0)) (lists_from_agree _ _ _ _ c.in_ok-check_pasts.ensures.agrees) in
    let table = subst (λ (ls : List (ℕ × ℕ)). (k : ℕ) → k < clients → slice_index c.full_from_table-full_from.result k ≡ full_from_of k ls) c.as_slice.ensures.value c.full_from_table-full_from.ensures in
    outcome_of g.K.Set.machine script o ended.served.seen pasts c.args.joined.full_from.items ended.legal ended.entries ended.state ended.settled c.may_be_full.ensures.arbiter (c.requires.answered given c.if-lost.false) agree table (c.if-not-may_be_full.ensures.limit refl)

-- (so a list that got room is refused at once)
pub returns-then-not-may_be_full-clause-capacity : goal.returns-then-not-may_be_full-clause-capacity
returns-then-not-may_be_full-clause-capacity g c = c.check_pasts.ensures.capacity

pub returns-clause-capacity : goal.returns-clause-capacity
returns-clause-capacity g c = c.check_pasts.ensures.capacity
