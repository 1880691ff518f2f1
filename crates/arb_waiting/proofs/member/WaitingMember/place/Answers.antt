use Rattle.std.proofs.Common.{◌≡◌, ◌∙◌, ap, sym}
use Rattle.arb_config.specs.Machine.{Machine}
use Rattle.arb_model.specs.Reading.{reading}
use Rattle.arb_common.specs.Limits.{with_limit}
use Rattle.arb_common.specs.Sides.{Stance}
use Rattle.arb_waiting.specs.declared.sleepers.Sleepers.{Sleepers}
use Rattle.arb_waiting.proofs.PlaceLaws.{read_place, was_place}
use Rattle.arb_waiting.proofs.member.WaitingMember.place.Goals as goal

pub returns-clause-was : goal.returns-clause-was
returns-clause-was c = was_place _ _ _ c.read-word.ensures.legal c.requires

pub returns-clause-value : goal.returns-clause-value
returns-clause-value c =
    let m : Machine = c.read-word.new.self.side.machine in
    let t : Machine = c.deref.result.now.topology in
    let on : m ≡ c.self.inside.member.side.machine = ap (λ (s : Stance). s.side.machine) c.read-word.ensures.one_load in
    let top = ap (λ (x : Sleepers). x.topology) c.deref.ensures in
    let same : with_limit t m.orders ≡ m = (λ i. with_limit (top i) (on i).orders) ∙ c.self.invariant.1 ∙ sym on in
    read_place c.words_are_read_as_written.ensures.places m t c.read-word.new.self.side.seen c.args.thread c.read-word.result c.place_in_word.result c.unwrap_or.result same c.managed-managed.ensures.machine c.read-word.ensures.legal c.requires
    (c.read-word.ensures.value ∙ ap (reading c.read-word.new.self.side.seen) c.place_index.ensures.value) c.place_in_word.ensures c.unwrap_or.ensures
