use Rattle.std.proofs.Common.{◌≡◌, List, sym, subst}
use Rattle.std.specs.Prelude.{MatchOption}
use Rattle.arb_model.specs.declared.orders.Order.{Order}
use Rattle.arb_model.specs.declared.orders.Reply.{Reply}
use Rattle.arb_desk.specs.Passes.{IsPassAt, QueueId}
use Rattle.arb_play.specs.Walking.{Answered}
use Rattle.arb_play.proofs.ScriptLaws.{sound_end}
use Rattle.arb_play.proofs.walking.walk_script.Goals as goal

pub returns-clause-walked : goal.returns-clause-walked
returns-clause-walked g c =
    let taken = c.take_orders-account in
    let script = c.args.script.now in
    let client = taken.new.client in
    let past = c.close-2.result in
    let mine : past.mine.items ≡ client.mine = c.close-2.ensures.mine taken.ensures.out in
    let from = subst (λ n. MatchOption taken.result.full_from (c.full_from_in.result ≡ n) (λ l. c.full_from_in.result ≡ l)) c.len.ensures c.full_from_in.ensures in
    record {
      given_up = taken.ensures.given_up;
      let_through = λ going. taken.ensures.let_through;
      answered = λ given kept.
          subst (λ i. Answered script i past.mine.items c.full_from_in.result) (sym c.close-2.ensures.client)
          (subst (λ (l : List (Order × Reply)). Answered script client.id l c.full_from_in.result) (sym mine)
          (sound_end script client.id client.mine taken.result c.full_from_in.result taken.ensures.sound from given kept));
    }

pub returns-clause-own : goal.returns-clause-own
returns-clause-own g c = record {
  pass = subst (λ (q : QueueId). IsPassAt q c.close-2.result.pass) c.take_orders-account.ensures.queue c.close-2.ensures.queue;
  point = c.close-2.ensures.table;
  complete = c.close-2.ensures.complete;
}
