use Rattle.std.proofs.Common.{◌≡◌, List, rules, [], ◌∷◌, ◌++◌, ◌+◌, replicate, sym, subst, ap, ◌∙◌}
use Rattle.atomic_table.specs.Table.{opening}
use Rattle.arb_config.specs.Machine.{Machine}
use Rattle.arb_model.specs.Arbiter.{Arbiter, IsArbiter}
use Rattle.arb_model.specs.Layout.{word_count}
use Rattle.std.specs.Arc.{arc_value}
use Rattle.arb_common.specs.Limits.{with_limit}
use Rattle.arb_common.specs.Rule.{SharesOneHistory}
use Rattle.arb_common.specs.Views.{free_seat, free_view, newcomer}
use Rattle.arb_common.proofs.KeepLaws.{opens}
use Rattle.arb_common.proofs.StandLaws.{opened}
use Rattle.arb_common.proofs.member.Member.open.Goals as goal

pub new-requires-2 : goal.new-requires-2
new-requires-2 c =
    let t = c.args.topology.now in
    let m = with_limit t c.args.limit in
    subst (λ (k : Machine). SharesOneHistory k (opening (replicate (word_count + 1) 0) c.push_reserved.new.self.items (free_view k [] newcomer))) (sym c.of-key.ensures)
    (subst (λ (l : List Arbiter). SharesOneHistory m (opening (replicate (word_count + 1) 0) l (free_view m [] newcomer)))
    (sym (c.push_reserved.ensures.items ∙ ap (λ (l : List Arbiter). l ++ c.new.result ∷ []) c.in_ok-slots.ensures.items ∙ ap (λ (a : Arbiter). a ∷ []) c.new.ensures.opening)) (opens t c.args.limit (subst IsArbiter c.new.ensures.opening c.new.ensures.arbiter)))

pub invariant_of-result : goal.invariant_of-result
invariant_of-result c =
    let m = with_limit c.args.topology.now c.args.limit in
    let view : c.in-Ok.seat.me ≡ free_seat m [] newcomer = search rules in
    let key : (arc_value c.in-Ok-new.common).table.shared.key ≡ m = search rules in
    let at : c.in-Ok.seat.table_id ≡ (arc_value c.in-Ok-new.common).table.shared.table_id = search rules in
    let o = opened _ _ _ view key in
    (at, o.0, o.1, o.2)
