use Rattle.std.proofs.Common.{◌∷◌, sym, ap, ◌∙◌}
use Rattle.atomic_table.specs.Table.{Me, rest}
use Rattle.arb_model.specs.Arbiter.{Arbiter}
use Rattle.arb_common.specs.declared.table.SeatView.{SeatView}
use Rattle.arb_common.proofs.StandLaws.{held, is_settled, posts_one}
use Rattle.arb_common.proofs.giving.post_core.Goals as goal

pub slot_mut-core-requires : goal.slot_mut-core-requires
slot_mut-core-requires c =
    let is = ap (λ (me : Me Arbiter SeatView). me.1) c.requires.lock.seat in
    let a : Arbiter = c.requires.lock.arbiter in
    (c.requires.table, (a, is ∙ ap (λ l. (0, a) ∷ rest l) (sym is)))

pub returns-in-Some-clause-posts : goal.returns-in-Some-clause-posts
returns-in-Some-clause-posts c =
    let r = c.requires in
    let at = held _ _ _ _ r.lock c.slot_mut-core.ensures.value in
    posts_one _ _ _ _ _ _ _ r.legal r.lock at (sym c.next_stale.ensures.next ∙ c.in-Some.is) c.word-value.ensures c.post.ensures.posted c.post.ensures.arbiter

pub returns-in-None-clause-settled : goal.returns-in-None-clause-settled
returns-in-None-clause-settled c =
    let r = c.requires in
    let at = held _ _ _ _ r.lock c.slot_mut-core.ensures.value in
    (ap (λ l. (c.args.seat.now.me.0, l)) (sym c.slot_mut-core.ensures.value), is_settled _ _ _ r.legal at (sym c.next_stale.ensures.next ∙ c.in-None.is))
