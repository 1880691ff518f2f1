-- Orders of a conversation, with a limit on them and without.
use Rattle.std.proofs.Common.{◌≡◌, ℕ, ◌+◌, ◌<◌, ◌≤◌, ◌^◌, List, [], ◌∷◌, ◌++◌, length, Bool, true, false, cond, Result, Ok, Err, refl, sym, ap, ◌∙◌, subst, arith, append-nil}
use Rattle.std.specs.Prelude.{OnOk, nat_lt, sum}
use Rattle.std.proofs.lemmas.Bool.{lt-ltb}
use Rattle.std.proofs.lemmas.List.Folds.{sum_by-replicate}
use Rattle.arb_config.specs.Machine.{Machine}
use Rattle.arb_model.specs.Arbiter.{Arbiter}
use Rattle.arb_model.specs.Renewal.{endless}
use Rattle.arb_model.specs.Standing.{Standing}
use Rattle.arb_model.specs.Step.{step_of}
use Rattle.arb_model.proofs.RenewalLaws.{renewed_is_endless}
use Rattle.arb_core.proofs.CoreLaws.{one_more}
use Rattle.arb_script.specs.declared.given.ClientOrder.{ClientOrder}
use Rattle.arb_script.specs.Printed.{entry_text}
use Rattle.arb_script.specs.Report.{order_line, standing_next}
use Rattle.arb_live.specs.declared.answerer.Answerer.{Answerer}
use Rattle.arb_live.specs.declared.heard.Heard.{Heard}
use Rattle.arb_live.specs.declared.heard.Heard.TheVariants.{Skipped, Order, Owners, Wrong, NotText}
use Rattle.arb_live.specs.declared.orders.Orders.{Orders}
use Rattle.arb_live.specs.declared.orders.Orders.TheVariants.{Limited, Endless}
use Rattle.arb_live.specs.Events.{Told}
use Rattle.arb_live.specs.Heard.{heard}
use Rattle.arb_live.specs.Laws.{EndlessIsNeverFull}
use Rattle.arb_live.specs.Live.{Talk, answer_of, answers, opening_talk, standing_by, talk_after, talk_next}
use Rattle.arb_live.specs.Pieces.{Answered, HasRoom, IsAt, IsReady, Stands, reported}
use Rattle.arb_live.specs.Sent.{Counts, Writes}

-- an order that is entered
entered_line : (m : Machine) (s : Standing) (given : ClientOrder) → sum s.counts < m.orders → order_line m s given ≡ entry_text given.client given.order (step_of m s given.client given.order).reply
entered_line m s given room = rw (lt-ltb (sum s.counts) m.orders room) refl

entered_standing : (m : Machine) (s : Standing) (given : ClientOrder) → sum s.counts < m.orders → standing_next m s given ≡ (step_of m s given.client given.order).standing
entered_standing m s given room = rw (lt-ltb (sum s.counts) m.orders room) refl

-- an order's line is that of the talk
pub line_reported : (orders : Orders) (a : Arbiter) (talk : Standing) (given : ClientOrder) → HasRoom orders a → Stands orders a.standing talk → sum talk.counts < 2 ^ 64
    → order_line a.machine a.standing given ≡ order_line (reported orders a.machine) talk given
line_reported Limited a talk given room same few = ap (λ s. order_line a.machine s given) same
line_reported Endless a talk given room same few =
    entered_line a.machine a.standing given room
    ∙ ap (entry_text given.client given.order) (renewed_is_endless a.machine a.standing talk given.client given.order same).0
    ∙ sym (entered_line (endless a.machine) talk given few)

-- after it the arbiter stands where the talk does
pub standing_reported : (orders : Orders) (a : Arbiter) (talk : Standing) (given : ClientOrder) → HasRoom orders a → Stands orders a.standing talk → sum talk.counts < 2 ^ 64
    → Stands orders (standing_next a.machine a.standing given) (standing_next (reported orders a.machine) talk given)
standing_reported Limited a talk given room same few = ap (λ s. standing_next a.machine s given) same
standing_reported Endless a talk given room same few =
    rw (entered_standing a.machine a.standing given room, entered_standing (endless a.machine) talk given few)
    (renewed_is_endless a.machine a.standing talk given.client given.order same).1

-- one order more at most is counted
few_next : (m : Machine) (s : Standing) (given : ClientOrder) → sum (standing_next m s given).counts ≤ sum s.counts + 1
few_next m s given = by_room (nat_lt (sum s.counts) m.orders)
  where
    by_room : (b : Bool) → sum (cond b (step_of m s given.client given.order).standing s).counts ≤ sum s.counts + 1
    by_room true = one_more m s given.client given.order
    by_room false = omega arith

-- what the arbiter and the talk have in common after an order
at_next : (m : Machine) (before after : Answerer) (line : List ℕ) (given : ClientOrder) (talk : Talk) → heard line ≡ Order given → after.lines ≡ before.lines + 1 → after.orders ≡ before.orders
    → Stands before.orders after.core.standing (standing_next (reported before.orders m) talk.standing given) → IsAt before talk → IsAt after (talk_after (reported before.orders m) talk (line ∷ []))
at_next m before after line given talk is counted orders stands at =
    let r = reported before.orders m in
    rw is (record {
      lines = omega (arith, counted, at.lines);
      standing = subst (λ o. Stands o after.core.standing (standing_next r talk.standing given)) (sym orders) stands;
      few = omega (arith, few_next r talk.standing given, at.few);
    })

module _ {S A E : Type 0} {told : S → Told} {reads writes : S → ℕ} {m : Machine} {a b : S} {before after : Answerer} where
  -- an order is answered
  pub answered_order : (result : Result A E) (line : List ℕ) (given : ClientOrder) (text : List ℕ) → heard line ≡ Order given → Writes told a b result text → Counts writes reads a b result
      → ((talk : Standing) → Stands before.orders before.core.standing talk → sum talk.counts < 2 ^ 64 → text ≡ order_line (reported before.orders m) talk given)
      → ((talk : Standing) → Stands before.orders before.core.standing talk → sum talk.counts < 2 ^ 64 → Stands before.orders after.core.standing (standing_next (reported before.orders m) talk given))
      → after.lines ≡ before.lines + 1 → before.lines + 1 < 2 ^ 64 → after.orders ≡ before.orders → IsReady m after → Answered told reads writes m a b before after result (line ∷ [])
  answered_order result line given text is wrote counts says stands counted room orders ready =
      let r = reported before.orders m in
      let few : (talk : Talk) → IsAt before talk → sum talk.standing.counts < 2 ^ 64 = λ talk at. omega (arith, room, at.few, at.lines) in
      let said : (talk : Talk) → IsAt before talk → text ≡ answers r talk (line ∷ []) =
      λ talk at. says talk.standing at.standing (few talk at) ∙ sym (append-nil (order_line r talk.standing given)) ∙ ap (λ h. answer_of r talk.standing (talk.lines + 1) h ++ []) (sym is) in
      record {
        sent = λ talk at. subst (Writes told a b result) (said talk at) wrote;
        talk = λ talk at. where_ok result (at_next m before after line given talk is counted orders (stands talk.standing at.standing (few talk at)) at);
        counts = counts;
        ready = ready;
        orders = orders;
      }
    where
      where_ok : {P : Type 0} (r : Result A E) → P → OnOk r P
      where_ok (Ok x) p = p
      where_ok (Err e) p = tt

-- a line counts as one order at most
few_by : (m : Machine) (s : Standing) (what : Heard) → sum (standing_by m s what).counts ≤ sum s.counts + 1
few_by m s Skipped = omega arith
few_by m s (Order given) = few_next m s given
few_by m s Owners = omega arith
few_by m s (Wrong kind) = omega arith
few_by m s NotText = omega arith

few_after : (m : Machine) (talk : Talk) (lines : List (List ℕ)) → sum (talk_after m talk lines).standing.counts ≤ sum talk.standing.counts + length lines
few_after m talk [] = omega arith
few_after m talk (line ∷ lines) = omega (arith, few_by m talk.standing (heard line), few_after m (talk_next m talk line) lines)

pub endless_is_never_full : EndlessIsNeverFull
endless_is_never_full m lines line short given is =
    let e : Machine = endless m in
    let talk : Talk = talk_after e (opening_talk e) lines in
    let few : sum talk.standing.counts < 2 ^ 64 = omega (arith, short, few_after e (opening_talk e) lines, sum_by-replicate (λ x. x) 513 0) in
    ap (answer_of e talk.standing (talk.lines + 1)) is ∙ entered_line e talk.standing given few
