-- Answers that are written one after another.
use Rattle.std.proofs.Common.{◌≡◌, ◌≢◌, ℕ, ◌+◌, ◌<◌, ◌≤◌, List, [], ◌∷◌, ◌++◌, Result, Ok, Err, refl, sym, ap, ◌∙◌, subst, arith, append_assoc, append-nil, length, length-append}
use Rattle.std.specs.Prelude.{IsErr, OnOk, OnErr}
use Rattle.arb_config.specs.Machine.{Machine}
use Rattle.arb_live.specs.declared.answerer.Answerer.{Answerer}
use Rattle.arb_live.specs.declared.session.Session.{Session}
use Rattle.arb_live.specs.declared.event.Event.TheVariants.{Flushed}
use Rattle.arb_live.specs.Events.{Told, Did, puts}
use Rattle.arb_live.specs.declared.orders.Orders.{Orders}
use Rattle.arb_live.specs.Live.{Talk, answers, talk_after}
use Rattle.arb_live.specs.Pieces.{Answered, IsAt, IsReady, Replied, after_line, begun_after, first_line, kept_lines, reported}
use Rattle.arb_live.specs.Sent.{Counts, WrotePrefix}
use Rattle.arb_live.proofs.EventLaws.{Did-none, Did-puts, Did-trans}
use Rattle.arb_live.proofs.LineLaws.{begun_after-append, first_parts, first_some, kept_lines-append}
use Rattle.arb_live.proofs.LiveLaws.{answers-append, talk_after-append}

-- two prefixes of two texts, and what follows
pub regrouped : (front part rest later : List ℕ) → front ++ ((part ++ rest) ++ later) ≡ (front ++ part) ++ (rest ++ later)
regrouped front part rest later = grind (arith, append_assoc)

-- the answers to more lines are written
pub sent_next : (m : Machine) (t : Talk) (a b c : Told) (xs ys zs : List (List ℕ)) → zs ≡ xs ++ ys → Did a b (puts (answers m t xs)) → Did b c (puts (answers m (talk_after m t xs) ys)) → Did a c (puts (answers m t zs))
sent_next m t a b c xs ys zs is p q =
    Did-puts a b c (answers m t xs) (answers m (talk_after m t xs) ys) (answers m t zs) (ap (answers m t) is ∙ answers-append m t xs ys) p q

-- a prefix of the answers to more lines is written, before others
pub sent_prefix : (m : Machine) (t : Talk) (a b c : Told) (xs ys zs ws : List (List ℕ)) → ws ≡ xs ++ (ys ++ zs) → Did a b (puts (answers m t xs)) → WrotePrefix b c (answers m (talk_after m t xs) ys) → WrotePrefix a c (answers m t ws)
sent_prefix m t a b c xs ys zs ws is p q =
    let u : Talk = talk_after m t xs in
    let later : List ℕ = answers m (talk_after m u ys) zs in (
      answers m t xs ++ q.0,
      Did-puts a b c (answers m t xs) q.0 (answers m t xs ++ q.0) refl p q.1,
      (
        q.2.0 ++ later,
        ap (answers m t) is ∙ answers-append m t xs (ys ++ zs)
            ∙ ap (λ l. answers m t xs ++ l) (answers-append m u ys zs ∙ ap (λ l. l ++ later) q.2.1)
            ∙ regrouped (answers m t xs) q.0 q.2.0 later,
      ),
    )

module _ {S A E B : Type 0} {told : S → Told} {reads writes : S → ℕ} {m : Machine} {a b c : S} {before after : Answerer} where
  -- answers are written, and then flushed
  pub flushed_reply : {x : B} {lines : List (List ℕ)} (result : Result A E) → Answered {A = B} {E = E} told reads writes m a b before after (Ok x) lines
      → OnOk result (Did (told b) (told c) (Flushed ∷ [])) → OnErr result (Did (told b) (told c) []) → Counts writes reads b c result → Replied told reads writes m a c before after result lines
  flushed_reply {lines = lines} (Ok y) p flushed none counts =
      record {
        written = λ talk at. Did-trans (told a) (told b) (told c) (puts (answers (reported before.orders m) talk lines)) (Flushed ∷ []) (p.sent talk at).written flushed;
        prefix = λ talk at. tt;
        talk = p.talk;
        counts = record { ok = counts.ok ∙ p.counts.ok; err = tt; kept = counts.kept ∙ p.counts.kept };
        ready = p.ready;
        orders = p.orders;
      }
  flushed_reply {lines = lines} (Err e) p flushed none counts =
      record {
        written = λ talk at. tt;
        prefix = λ talk at.
            let text : List ℕ = answers (reported before.orders m) talk lines in
            (text, Did-puts (told a) (told b) (told c) text [] text (sym (append-nil text)) (p.sent talk at).written none, ([], sym (append-nil text)));
        talk = λ talk at. tt;
        counts = record { ok = tt; err = λ same. counts.err (same ∙ sym p.counts.ok); kept = counts.kept ∙ p.counts.kept };
        ready = p.ready;
        orders = p.orders;
      }

-- what was answered, by how many orders are taken
module _ {S A E : Type 0} {told : S → Told} {reads writes : S → ℕ} {m : Machine} {a b : S} {before after : Answerer} {lines : List (List ℕ)} {orders : Orders} {talk : Talk} where
  pub replied_written : {x : A} → Replied {A = A} {E = E} told reads writes m a b before after (Ok x) lines → before.orders ≡ orders → IsAt before talk
      → Did (told a) (told b) (puts (answers (reported orders m) talk lines) ++ Flushed ∷ [])
  replied_written p is at = subst (λ o. Did (told a) (told b) (puts (answers (reported o m) talk lines) ++ Flushed ∷ [])) is (p.written talk at)

  pub replied_talk : {x : A} → Replied {A = A} {E = E} told reads writes m a b before after (Ok x) lines → before.orders ≡ orders → IsAt before talk
      → IsAt after (talk_after (reported orders m) talk lines)
  replied_talk p is at = subst (λ o. IsAt after (talk_after (reported o m) talk lines)) is (p.talk talk at)

  pub replied_prefix : {e : E} → Replied {A = A} {E = E} told reads writes m a b before after (Err e) lines → before.orders ≡ orders → IsAt before talk
      → WrotePrefix (told a) (told b) (answers (reported orders m) talk lines)
  replied_prefix p is at = subst (λ o. WrotePrefix (told a) (told b) (answers (reported o m) talk lines)) is (p.prefix talk at)

module _ {S A E : Type 0} {told : S → Told} {reads writes : S → ℕ} {m : Machine} {a b : S} {before after : Answerer} where
  -- a call failed after a prefix of the answers
  pub answered_failed : {lines : List (List ℕ)} (result : Result A E) → IsErr result
      → ((talk : Talk) → IsAt before talk → WrotePrefix (told a) (told b) (answers (reported before.orders m) talk lines))
      → writes b ≢ writes a → reads b ≡ reads a → IsReady m after → after.orders ≡ before.orders → Answered told reads writes m a b before after result lines
  answered_failed (Ok x) failed prefix differs kept ready orders = absurd (cc failed)
  answered_failed (Err e) failed prefix differs kept ready orders =
      record {
        sent = λ talk at. record { written = tt; prefix = prefix talk at };
        talk = λ talk at. tt;
        counts = record { ok = tt; err = differs; kept = kept };
        ready = ready;
        orders = orders;
      }

-- the lines that all bytes before the rest complete are answered, and no call failed
pub record AnsweredTo {S : Type 0} (told : S → Told) (reads writes : S → ℕ) (m : Machine) (old new : S) (before after : Session) (bytes rest : List ℕ) : Type 0 where
  pub done : List ℕ
  pub parts : bytes ≡ done ++ rest
  pub did : (talk : Talk) → IsAt before.answerer talk → Did (told old) (told new) (puts (answers (reported before.answerer.orders m) talk (kept_lines before.begun.items done)))
  pub written : writes new ≡ writes old
  pub read : reads new ≡ reads old
  pub talk : (talk : Talk) → IsAt before.answerer talk → IsAt after.answerer (talk_after (reported before.answerer.orders m) talk (kept_lines before.begun.items done))
  pub begun : after.begun.items ≡ begun_after before.begun.items done
  pub ready : IsReady m after.answerer
  pub orders : after.answerer.orders ≡ before.answerer.orders
  pub counted : after.answerer.lines ≤ before.answerer.lines + length done

-- nothing took place, and no line was to be answered
pub answered_none : {S A E : Type 0} (told : S → Told) (reads writes : S → ℕ) (m : Machine) (a : S) (before : Answerer) (x : A) {lines : List (List ℕ)} → lines ≡ [] → IsReady m before → Answered {A = A} {E = E} told reads writes m a a before before (Ok x) lines
answered_none told reads writes m a before x none ready =
    rw none (record {
      sent = λ talk at. record { written = Did-none (told a); prefix = tt };
      talk = λ talk at. at;
      counts = record { ok = refl; err = tt; kept = refl };
      ready = ready;
      orders = refl;
    })

module _ {S A B E : Type 0} {told : S → Told} {reads writes : S → ℕ} {m : Machine} {a b : S} {before after : Answerer} {lines others : List (List ℕ)} where
  -- the same lines were answered, with another result
  pub answered_ok : {x : A} (y : B) → Answered {A = A} {E = E} told reads writes m a b before after (Ok x) lines → others ≡ lines → Answered {A = B} {E = E} told reads writes m a b before after (Ok y) others
  answered_ok y p is =
      rw is (record {
        sent = λ talk at. record { written = (p.sent talk at).written; prefix = tt };
        talk = p.talk;
        counts = record { ok = p.counts.ok; err = tt; kept = p.counts.kept };
        ready = p.ready;
        orders = p.orders;
      })

  -- a call failed in their answers
  pub answered_err : {e : E} (result : Result B E) → IsErr result → Answered {A = A} {E = E} told reads writes m a b before after (Err e) lines → others ≡ lines → Answered {A = B} {E = E} told reads writes m a b before after result others
  answered_err result failed p is = rw is (answered_failed result failed (λ talk at. (p.sent talk at).prefix) p.counts.err p.counts.kept p.ready p.orders)

module _ {S : Type 0} {told : S → Told} {reads writes : S → ℕ} {m : Machine} {a b : S} {before now : Session} {bytes rest : List ℕ} (to : AnsweredTo told reads writes m a b before now bytes rest) where
  -- up to the next line's end
  to_next : kept_lines before.begun.items (to.done ++ first_line rest) ≡ kept_lines before.begun.items to.done ++ kept_lines now.begun.items (first_line rest)
  to_next =
      kept_lines-append before.begun.items to.done (first_line rest)
      ∙ ap (λ l. kept_lines before.begun.items to.done ++ kept_lines l (first_line rest)) (sym to.begun)

  -- and on to the end
  to_end : kept_lines before.begun.items bytes ≡ kept_lines before.begun.items to.done ++ (kept_lines now.begun.items (first_line rest) ++ kept_lines (begun_after now.begun.items (first_line rest)) (after_line rest))
  to_end =
      let whole : first_line rest ++ after_line rest ≡ rest = sym (first_parts rest) in
      ap (kept_lines before.begun.items) to.parts
      ∙ kept_lines-append before.begun.items to.done rest
      ∙ ap (λ l. kept_lines before.begun.items to.done ++ kept_lines l rest) (sym to.begun)
      ∙ ap (λ l. kept_lines before.begun.items to.done ++ kept_lines now.begun.items l) (sym whole)
      ∙ ap (λ l. kept_lines before.begun.items to.done ++ l) (kept_lines-append now.begun.items (first_line rest) (after_line rest))

  -- the next line is answered too
  pub AnsweredTo-next : {A E : Type 0} {c : S} {after : Session} {x : A} (left : List ℕ) → Answered {A = A} {E = E} told reads writes m b c now.answerer after.answerer (Ok x) (kept_lines now.begun.items (first_line rest)) → after.begun.items ≡ begun_after now.begun.items (first_line rest)
      → left ≡ after_line rest → 0 < length rest → after.answerer.lines ≤ now.answerer.lines + 1 → AnsweredTo told reads writes m a c before after bytes left
  AnsweredTo-next {c = c} {after = after} left p kept is some more =
      let r = reported before.answerer.orders m in
      let done = kept_lines before.begun.items to.done in
      let line = kept_lines now.begun.items (first_line rest) in
      record {
        done = to.done ++ first_line rest;
        parts = to.parts ∙ ap (λ l. to.done ++ l) (first_parts rest ∙ ap (λ l. first_line rest ++ l) (sym is)) ∙ sym (append_assoc to.done (first_line rest) left);
        did = λ talk at. sent_next r talk (told a) (told b) (told c) done line (kept_lines before.begun.items (to.done ++ first_line rest)) to_next (to.did talk at)
            (subst (λ o. Did (told b) (told c) (puts (answers (reported o m) (talk_after r talk done) line))) to.orders (p.sent (talk_after r talk done) (to.talk talk at)).written);
        written = p.counts.ok ∙ to.written;
        read = p.counts.kept ∙ to.read;
        talk = λ talk at.
            subst (IsAt after.answerer) (sym (talk_after-append r talk done line) ∙ ap (talk_after r talk) (sym to_next))
            (subst (λ o. IsAt after.answerer (talk_after (reported o m) (talk_after r talk done) line)) to.orders (p.talk (talk_after r talk done) (to.talk talk at)));
        begun = kept ∙ ap (λ l. begun_after l (first_line rest)) to.begun ∙ sym (begun_after-append before.begun.items to.done (first_line rest));
        ready = p.ready;
        orders = p.orders ∙ to.orders;
        counted = omega (arith, more, to.counted, first_some rest some, length-append to.done (first_line rest));
      }

  -- a call failed in the answer to the next line
  pub AnsweredTo-failed : {A B E : Type 0} {c : S} {after : Answerer} {e : E} (result : Result B E) → IsErr result → Answered {A = A} {E = E} told reads writes m b c now.answerer after (Err e) (kept_lines now.begun.items (first_line rest))
      → Answered told reads writes m a c before.answerer after result (kept_lines before.begun.items bytes)
  AnsweredTo-failed {c = c} result failed p =
      let r = reported before.answerer.orders m in
      let done = kept_lines before.begun.items to.done in
      let line = kept_lines now.begun.items (first_line rest) in
      answered_failed result failed
      (λ talk at. sent_prefix r talk (told a) (told b) (told c) done line (kept_lines (begun_after now.begun.items (first_line rest)) (after_line rest)) (kept_lines before.begun.items bytes) to_end (to.did talk at)
      (subst (λ o. WrotePrefix (told b) (told c) (answers (reported o m) (talk_after r talk done) line)) to.orders (p.sent (talk_after r talk done) (to.talk talk at)).prefix))
      (λ same. p.counts.err (same ∙ sym to.written))
      (p.counts.kept ∙ to.read)
      p.ready
      (p.orders ∙ to.orders)
