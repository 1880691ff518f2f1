use Rattle.std.proofs.Common.{◌≡◌, false, ap, ◌∙◌}
use Rattle.std.specs.Prelude.{IfErr, IfOk, Result, Ok, Err}
use Rattle.arb_model.specs.declared.orders.Order.{Order}
use Rattle.arb_desk.specs.Messages.{is_closed}
use Rattle.arb_client.specs.declared.faults.PostFault.{PostFault}
use Rattle.arb_client.specs.Posting.{Posts}
use Rattle.arb_client.specs.Sides.{GainsRoom, Side}
use Rattle.arb_client.proofs.SideLaws.{unclosed-snoc}
use Rattle.test_journal.proofs.tests.reconciling.reconciles.Goals as goal

-- whatever comes of a post, the client's queue is the same
same_queue : (a b : Side) (order : Order) (r : Result (Unit {0}) PostFault) → IfOk r (λ _. Posts a b order) → IfErr r (λ _. GainsRoom a b) → b.queue ≡ a.queue
same_queue a b order (Ok x) posted unposted = ap (λ (s : Side). s.queue) posted.rest
same_queue a b order (Err fault) posted unposted = ap (λ (s : Side). s.queue) unposted.rest

-- and it has put no close mark
still_unclosed : (a b : Side) (order : Order) (r : Result (Unit {0}) PostFault) → IfOk r (λ _. Posts a b order) → IfErr r (λ _. GainsRoom a b) → is_closed a.put ≡ false → is_closed b.put ≡ false
still_unclosed a b order (Ok x) posted unposted unclosed = ap (λ (s : Side). is_closed s.put) posted.rest ∙ unclosed-snoc a.put a.id order unclosed
still_unclosed a b order (Err fault) posted unposted unclosed = ap (λ (s : Side). is_closed s.put) unposted.rest ∙ unclosed

pub serve_and_reconcile-ended-requires-clause-queue : goal.serve_and_reconcile-ended-requires-clause-queue
serve_and_reconcile-ended-requires-clause-queue g c κs within =
    same_queue _ _ _ _ c.post-2.ensures.posted c.post-2.ensures.unposted
    ∙ (same_queue _ _ _ _ c.post.ensures.posted c.post.ensures.unposted
    ∙ (ap (λ (s : Side). s.queue) c.tell-note.ensures.same.rest
    ∙ c.requires.queue))

pub serve_and_reconcile-ended-requires-clause-unclosed : goal.serve_and_reconcile-ended-requires-clause-unclosed
serve_and_reconcile-ended-requires-clause-unclosed g c κs within =
    still_unclosed _ _ _ _ c.post-2.ensures.posted c.post-2.ensures.unposted
    (still_unclosed _ _ _ _ c.post.ensures.posted c.post.ensures.unposted
    (ap (λ (s : Side). is_closed s.put) c.tell-note.ensures.same.rest
    ∙ c.requires.unclosed))
