-- What was checked after the joins makes an outcome a true one.
use Rattle.std.proofs.Common.{◌≡◌, ◌≢◌, ◌<◌, ◌≤◌, ℕ, List, [], subst}
use Rattle.std.specs.Prelude.{slice_index, sum}
use Rattle.arb_config.specs.Machine.{Machine}
use Rattle.arb_model.specs.declared.orders.Entry.{Entry}
use Rattle.arb_model.specs.Arbiter.{Arbiter, IsArbiter, arbiter_in}
use Rattle.arb_model.specs.History.{History, IsLegal, IsSettled, entries_of, state_after}
use Rattle.arb_model.specs.Limits.{clients}
use Rattle.arb_desk.specs.declared.past.Past.{Past}
use Rattle.arb_house.specs.Pasts.{entries_of_client, recalled}
use Rattle.arb_house.proofs.AdmissionLaws.{full_at}
use Rattle.arb_script.specs.declared.given.ClientOrder.{ClientOrder}
use Rattle.arb_play.specs.declared.outcome.Outcome.{Outcome}
use Rattle.arb_play.specs.Joining.{AllAnswered, full_from_of}
use Rattle.arb_play.specs.Outcomes.{IsOutcome, full_orders}
use Rattle.arb_play.specs.Scripts.{Splits}
use Rattle.arb_play.proofs.ScriptLaws.{splits_shares, table_splits}

pub outcome_of : (m : Machine) (script : List ClientOrder) (o : Outcome) (h : History) (pasts : List Past) (full_from : List (ℕ × ℕ))
    → IsLegal m h → o.journal.items ≡ entries_of h → o.core ≡ arbiter_in m (state_after m h) → IsSettled m h → IsArbiter o.core
    → AllAnswered script pasts full_from → ((c : ℕ) → c < clients → entries_of_client c o.journal.items ≡ recalled c pasts) → ((c : ℕ) → c < clients → slice_index o.full_from c ≡ full_from_of c full_from)
    → (full_orders o.full_from script ≢ [] → o.core.machine.orders ≤ sum o.core.standing.counts) → IsOutcome m script o
outcome_of m script o h pasts full_from legal journal core settled arbiter answered agree table full =
    let splits : Splits script (entries_of h) (full_orders o.full_from script) =
    subst (λ (j : List Entry). Splits script j (full_orders o.full_from script)) journal (table_splits script o.journal.items pasts full_from (slice_index o.full_from) answered agree table) in
    let machine = subst (λ (a : Arbiter). IsArbiter a) core arbiter in
    record {
      history = h;
      journal = journal;
      core = core;
      comes = record {
        legal = legal;
        settled = settled;
        shares = splits_shares script (entries_of h) (full_orders o.full_from script) splits;
        splits = splits;
        limit = λ some. full_at m h o.core machine.machine (record { legal = legal; state = core }) (full some);
      };
    }
