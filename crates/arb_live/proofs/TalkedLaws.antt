-- A conversation so far, turn by turn, and its ends.
use Rattle.std.proofs.Common.{◌≡◌, ◌⊎◌, ℕ, ◌+◌, ◌*◌, ◌≤◌, List, [], ◌∷◌, ◌++◌, Option, Some, None, inl, inr, length, take, refl, sym, ap, ◌∙◌, subst, arith, append_assoc, append-nil}
use Rattle.std.specs.Prelude.{IfSome}
use Rattle.std.specs.Io.KnownBytes.{Appends, Consumes, IsAtEnd}
use Rattle.arb_share.specs.Text.{lines_of}
use Rattle.arb_config.specs.Machine.{Machine}
use Rattle.arb_live.specs.declared.event.Event.{Event}
use Rattle.arb_live.specs.declared.event.Event.TheVariants.{Asked, Flushed}
use Rattle.arb_live.specs.declared.session.Session.{Session}
use Rattle.arb_live.specs.Events.{Told, Did, asked, gets, got_in, put_in, puts, reads_in, waiting_after, waiting_in}
use Rattle.arb_live.specs.Live.{BeginsWith, IsSettled, NothingOwed, Talk, answers, complete_lines, live_report, opening_talk, talk_after}
use Rattle.arb_live.specs.Pieces.{IsAt, begun_after, kept_lines, last_line}
use Rattle.arb_live.specs.Sent.{WrotePrefix}
use Rattle.arb_live.proofs.AnsweredLaws.{regrouped}
use Rattle.arb_live.proofs.EventLaws.{Did-none, Did-trans, got_in-append, got_in-gets, got_in-puts, put_in-append, put_in-gets, put_in-puts, waiting_after-append}
use Rattle.arb_live.proofs.LineLaws.{begun_after-append, kept_lines-append}
use Rattle.arb_live.proofs.LiveLaws.{answers-append, report_all, report_complete, talk_after-append}
use Rattle.arb_live.proofs.OwedLaws.{owed_asked, reads_in-append, reads_in-gets, reads_in-puts}

-- where the talk is, once these bytes came
abbrev pub talk_at : Machine → (got : List ℕ) → Talk
talk_at m got = talk_after m (opening_talk m) (kept_lines [] got)

-- what answers lines is there, and this is kept of the next line
pub record HasHeard (m : Machine) (session : Session) (got : List ℕ) : Type 0 where
  pub talk : IsAt session.answerer (talk_at m got)
  pub begun : session.begun.items ≡ begun_after [] got

-- a conversation so far: after so many reads all complete lines are answered
pub record Talked (m : Machine) (a b : Told) (session : Session) (turn : ℕ) : Type 0 where
  pub events : List Event
  pub did : Did a b events
  pub owed : NothingOwed m events
  pub settled : IsSettled m events
  pub at : HasHeard m session (got_in events)
  pub reads : reads_in events ≡ turn
  pub lines : session.answerer.lines ≤ 4096 * turn

-- input was asked for, and no byte came
pub asked_none : (b c : Told) (n : ℕ) (buffer : List ℕ) → n ≡ 0 → Did b c (asked (take n buffer)) → Did b c (asked [])
asked_none b c n buffer none did = subst (λ (k : ℕ). Did b c (asked (take k buffer))) none did

-- nobody asked yet
pub nothing_owed : (m : Machine) → NothingOwed m []
nothing_owed m [] after is = absurd (grind arith)
nothing_owed m (e ∷ before) after is = absurd (grind arith)

-- before the first read
pub talked_opening : (m : Machine) (a : Told) (session : Session) → IsAt session.answerer (opening_talk m) → session.begun.items ≡ [] → Talked m a a session 0
talked_opening m a session talk begun =
    record {
      events = [];
      did = Did-none a;
      owed = nothing_owed m;
      settled = record { answered = refl; flushed = refl };
      at = record { talk = talk; begun = begun };
      reads = refl;
      lines = omega (arith, talk.lines);
    }

-- one turn: more input is asked for, bytes come, a text is written, and other things take place that are no reading
abbrev turn_of : (bytes text : List ℕ) → (rest : List Event) → List Event
turn_of bytes text rest = Asked ∷ (gets bytes ++ (puts text ++ rest))

got_in-turn : (events : List Event) (bytes text : List ℕ) (rest : List Event) → got_in rest ≡ [] → got_in (events ++ turn_of bytes text rest) ≡ got_in events ++ bytes
got_in-turn events bytes text rest none =
    got_in-append events (turn_of bytes text rest)
    ∙ ap (λ l. got_in events ++ l) (got_in-append (gets bytes) (puts text ++ rest)
    ∙ ap (λ l. l ++ got_in (puts text ++ rest)) (got_in-gets bytes)
    ∙ ap (λ l. bytes ++ l) (got_in-append (puts text) rest ∙ ap (λ l. l ++ got_in rest) (got_in-puts text) ∙ none)
    ∙ append-nil bytes)

put_in-turn : (events : List Event) (bytes text : List ℕ) (rest : List Event) → put_in rest ≡ [] → put_in (events ++ turn_of bytes text rest) ≡ put_in events ++ text
put_in-turn events bytes text rest none =
    put_in-append events (turn_of bytes text rest)
    ∙ ap (λ l. put_in events ++ l) (put_in-append (gets bytes) (puts text ++ rest)
    ∙ ap (λ l. l ++ put_in (puts text ++ rest)) (put_in-gets bytes)
    ∙ put_in-append (puts text) rest
    ∙ ap (λ l. l ++ put_in rest) (put_in-puts text)
    ∙ ap (λ l. text ++ l) none
    ∙ append-nil text)

reads_in-rest : (bytes text : List ℕ) (rest : List Event) → reads_in rest ≡ 0 → reads_in (gets bytes ++ (puts text ++ rest)) ≡ 0
reads_in-rest bytes text rest none =
    omega (arith, none, reads_in-append (gets bytes) (puts text ++ rest), reads_in-append (puts text) rest, reads_in-gets bytes, reads_in-puts text)

-- after a flush nothing waits
waiting_flushed : (events : List Event) (bytes text : List ℕ) → waiting_in (events ++ turn_of bytes text (Flushed ∷ [])) ≡ []
waiting_flushed events bytes text =
    waiting_after-append [] events (turn_of bytes text (Flushed ∷ []))
    ∙ waiting_after-append (waiting_after [] events) (gets bytes) (puts text ++ Flushed ∷ [])
    ∙ waiting_after-append (waiting_after (waiting_after [] events) (gets bytes)) (puts text) (Flushed ∷ [])

-- what took place in a turn
did_turn : (a b c d : Told) (events : List Event) (bytes text : List ℕ) (rest : List Event) → Did a b events → Did b c (asked bytes) → Did c d (puts text ++ rest) → Did a d (events ++ turn_of bytes text rest)
did_turn a b c d events bytes text rest p q r =
    Did-trans a b d events (turn_of bytes text rest) p (Did-trans b c d (asked bytes) (puts text ++ rest) q r)

module _ {m : Machine} {a b : Told} {session : Session} {turn : ℕ} (t : Talked m a b session turn) where
  -- the answers to the lines that more bytes complete follow what was written
  report_more : (bytes : List ℕ) → live_report m (complete_lines (got_in t.events ++ bytes)) ≡ put_in t.events ++ answers m (talk_at m (got_in t.events)) (kept_lines session.begun.items bytes)
  report_more bytes =
      let got : List ℕ = got_in t.events in
      let opening : Talk = opening_talk m in
      report_complete m (got ++ bytes)
      ∙ ap (answers m opening) (kept_lines-append [] got bytes)
      ∙ answers-append m opening (kept_lines [] got) (kept_lines (begun_after [] got) bytes)
      ∙ ap (λ l. l ++ answers m (talk_at m got) (kept_lines (begun_after [] got) bytes)) (sym (t.settled.answered ∙ report_complete m got))
      ∙ ap (λ l. put_in t.events ++ answers m (talk_at m got) (kept_lines l bytes)) (sym t.at.begun)

  -- all lines, where no byte more comes
  report_last : live_report m (lines_of (got_in t.events)) ≡ put_in t.events ++ answers m (talk_at m (got_in t.events)) (last_line session.begun.items)
  report_last =
      let got : List ℕ = got_in t.events in
      report_all m got
      ∙ ap (λ l. l ++ answers m (talk_at m got) (last_line (begun_after [] got))) (sym (t.settled.answered ∙ report_complete m got))
      ∙ ap (λ l. put_in t.events ++ answers m (talk_at m got) (last_line l)) (sym t.at.begun)

  -- the report of all lines begins with that of the complete ones
  report_prefix : (bytes : List ℕ) → BeginsWith (live_report m (lines_of (got_in t.events ++ bytes))) (put_in t.events ++ answers m (talk_at m (got_in t.events)) (kept_lines session.begun.items bytes))
  report_prefix bytes =
      let text : List ℕ = got_in t.events ++ bytes in
      let later : List ℕ = answers m (talk_at m text) (last_line (begun_after [] text)) in
      (later, report_all m text ∙ ap (λ l. l ++ later) (sym (report_complete m text) ∙ report_more bytes))

  -- a turn more
  pub talked_next : (c d : Told) (later : Session) (bytes : List ℕ) → Did b c (asked bytes)
      → Did c d (puts (answers m (talk_at m (got_in t.events)) (kept_lines session.begun.items bytes)) ++ Flushed ∷ [])
      → IsAt later.answerer (talk_after m (talk_at m (got_in t.events)) (kept_lines session.begun.items bytes)) → later.begun.items ≡ begun_after session.begun.items bytes
      → later.answerer.lines ≤ session.answerer.lines + length bytes → length bytes ≤ 4096 → Talked m a d later (turn + 1)
  talked_next c d later bytes read replied talk begun counted short =
      let got : List ℕ = got_in t.events in
      let text : List ℕ = answers m (talk_at m (got_in t.events)) (kept_lines session.begun.items bytes) in
      let rest : List Event = Flushed ∷ [] in
      let events : List Event = t.events ++ turn_of bytes text rest in
      let came : got_in events ≡ got ++ bytes = got_in-turn t.events bytes text rest refl in
      let opening : Talk = opening_talk m in
      record {
        events = events;
        did = did_turn a b c d t.events bytes text rest t.did read replied;
        owed = owed_asked m t.events (gets bytes ++ (puts text ++ rest)) t.owed t.settled (reads_in-rest bytes text rest refl);
        settled = record {
          answered = put_in-turn t.events bytes text rest refl ∙ sym (report_more bytes) ∙ ap (λ l. live_report m (complete_lines l)) (sym came);
          flushed = waiting_flushed t.events bytes text;
        };
        at = record {
          talk =
              subst (IsAt later.answerer)
              (ap (λ l. talk_after m (talk_at m got) (kept_lines l bytes)) t.at.begun
              ∙ sym (talk_after-append m opening (kept_lines [] got) (kept_lines (begun_after [] got) bytes))
              ∙ ap (talk_after m opening) (sym (kept_lines-append [] got bytes))
              ∙ ap (talk_at m) (sym came))
              talk;
          begun = begun ∙ ap (λ l. begun_after l bytes) t.at.begun ∙ sym (begun_after-append [] got bytes) ∙ ap (begun_after []) (sym came);
        };
        reads = omega (arith, t.reads, reads_in-append t.events (turn_of bytes text rest), reads_in-rest bytes text rest refl);
        lines = omega (arith, t.lines);
      }

  -- a turn that breaks off after a prefix of what was to be written
  broken_off : (c d : Told) (bytes text : List ℕ) → Did b c (asked bytes) → WrotePrefix c d text → BeginsWith (live_report m (lines_of (got_in t.events ++ bytes))) (put_in t.events ++ text)
      → (events : List Event) × Did a d events × NothingOwed m events × BeginsWith (live_report m (lines_of (got_in events))) (put_in events)
  broken_off c d bytes text read wrote whole =
      let prefix : List ℕ = wrote.0 in
      let events : List Event = t.events ++ turn_of bytes prefix [] in
      let came : got_in events ≡ got_in t.events ++ bytes = got_in-turn t.events bytes prefix [] refl in
      let put : put_in events ≡ put_in t.events ++ prefix = put_in-turn t.events bytes prefix [] refl in
      let rest : List ℕ = wrote.2.0 ++ whole.0 in
      let is : live_report m (lines_of (got_in t.events ++ bytes)) ≡ (put_in t.events ++ prefix) ++ rest =
      whole.1 ∙ append_assoc (put_in t.events) text whole.0 ∙ ap (λ l. put_in t.events ++ (l ++ whole.0)) wrote.2.1 ∙ regrouped (put_in t.events) prefix wrote.2.0 whole.0 in (
        events,
        did_turn a b c d t.events bytes prefix [] t.did read (subst (λ (l : List Event). Did c d l) (sym (append-nil (puts prefix))) wrote.1),
        owed_asked m t.events (gets bytes ++ (puts prefix ++ [])) t.owed t.settled (reads_in-rest bytes prefix [] refl),
        (rest, ap (λ l. live_report m (lines_of l)) came ∙ is ∙ ap (λ l. l ++ rest) (sym put)),
      )

  -- a write fails in the middle
  pub ended_write : (c d : Told) (bytes : List ℕ) → Did b c (asked bytes) → WrotePrefix c d (answers m (talk_at m (got_in t.events)) (kept_lines session.begun.items bytes))
      → (events : List Event) × Did a d events × NothingOwed m events × BeginsWith (live_report m (lines_of (got_in events))) (put_in events)
  ended_write c d bytes read wrote = broken_off c d bytes (answers m (talk_at m (got_in t.events)) (kept_lines session.begun.items bytes)) read wrote (report_prefix bytes)

  -- all that came is all that comes
  report_end : live_report m (lines_of (got_in t.events ++ [])) ≡ put_in t.events ++ answers m (talk_at m (got_in t.events)) (last_line session.begun.items)
  report_end = ap (λ l. live_report m (lines_of l)) (append-nil (got_in t.events)) ∙ report_last

  -- a write fails at the end
  pub ended_last_write : (c d : Told) → Did b c (asked []) → WrotePrefix c d (answers m (talk_at m (got_in t.events)) (last_line session.begun.items))
      → (events : List Event) × Did a d events × NothingOwed m events × BeginsWith (live_report m (lines_of (got_in events))) (put_in events)
  ended_last_write c d read wrote =
      let text : List ℕ = answers m (talk_at m (got_in t.events)) (last_line session.begun.items) in
      broken_off c d [] text read wrote ([], report_end ∙ sym (append-nil (put_in t.events ++ text)))

  -- a read fails
  pub ended_read : (c : Told) → Did b c (asked []) ⊎ Did b c [] → (events : List Event) × Did a c events × NothingOwed m events × IsSettled m events
  ended_read c (inl read) =
      let none : got_in (t.events ++ Asked ∷ []) ≡ got_in t.events = got_in-append t.events (Asked ∷ []) ∙ append-nil (got_in t.events) in (
        t.events ++ Asked ∷ [],
        Did-trans a b c t.events (Asked ∷ []) t.did read,
        owed_asked m t.events [] t.owed t.settled refl,
        record {
          answered = put_in-append t.events (Asked ∷ []) ∙ append-nil (put_in t.events) ∙ t.settled.answered ∙ ap (λ l. live_report m (complete_lines l)) (sym none);
          flushed = waiting_after-append [] t.events (Asked ∷ []) ∙ t.settled.flushed;
        },
      )
  ended_read c (inr read) =
      (t.events, subst (λ (l : List Event). Did a c l) (append-nil t.events) (Did-trans a b c t.events [] t.did read), t.owed, t.settled)

  -- the end of the input
  pub ended : (c d : Told) → Did b c (asked []) → Did c d (puts (answers m (talk_at m (got_in t.events)) (last_line session.begun.items)) ++ Flushed ∷ [])
      → (events : List Event) × Did a d events × NothingOwed m events × ((put_in events ≡ live_report m (lines_of (got_in events))) × (waiting_in events ≡ []))
  ended c d read replied =
      let text : List ℕ = answers m (talk_at m (got_in t.events)) (last_line session.begun.items) in
      let rest : List Event = Flushed ∷ [] in (
        t.events ++ turn_of [] text rest,
        did_turn a b c d t.events [] text rest t.did read replied,
        owed_asked m t.events (gets [] ++ (puts text ++ rest)) t.owed t.settled (reads_in-rest [] text rest refl),
        (
          put_in-turn t.events [] text rest refl ∙ sym report_end ∙ ap (λ l. live_report m (lines_of l)) (sym (got_in-turn t.events [] text rest refl)),
          waiting_flushed t.events [] text,
        ),
      )

-- at the end nothing is left, where that is known
all_came : (x y : Option (List ℕ)) (got : List ℕ) → Consumes x y got → IsAtEnd y → IfSome x (λ input. got ≡ input)
all_came None y got p end = tt
all_came (Some input) None got p end = absurd p
all_came (Some input) (Some rest) got p end = sym (p ∙ ap (λ l. got ++ l) end ∙ append-nil got)

report_of : (m : Machine) (x p q : Option (List ℕ)) (got put : List ℕ) → IfSome x (λ input. got ≡ input) → put ≡ live_report m (lines_of got) → Appends p q put → IfSome x (λ input. Appends p q (live_report m (lines_of input)))
report_of m None p q got put same is wrote = tt
report_of m (Some input) p q got put same is wrote = subst (λ (l : List ℕ). Appends p q l) (is ∙ ap (λ l. live_report m (lines_of l)) same) wrote

still_at_end : (x y z : Option (List ℕ)) (got : List ℕ) → Consumes x y got → IsAtEnd y → Consumes y z [] → IfSome x (λ _. IsAtEnd z)
still_at_end None y z got p end q = tt
still_at_end (Some input) None z got p end q = absurd p
still_at_end (Some input) (Some rest) None got p end q = absurd q
still_at_end (Some input) (Some rest) (Some more) got p end q = sym q ∙ end

-- nothing came while a text was written and flushed
nothing_came : (text : List ℕ) → got_in (puts text ++ Flushed ∷ []) ≡ []
nothing_came text = got_in-append (puts text) (Flushed ∷ []) ∙ ap (λ l. l ++ []) (got_in-puts text)

module _ {m : Machine} {a b : Told} {session : Session} {turn : ℕ} (t : Talked m a b session turn) where
  -- nothing is left at the end
  pub ended_end : (c d : Told) (text : List ℕ) → Did b c (asked []) → IsAtEnd c.remaining → Did c d (puts text ++ Flushed ∷ []) → IfSome a.remaining (λ _. IsAtEnd d.remaining)
  ended_end c d text read end replied =
      let first = Did-trans a b c t.events (asked []) t.did read in
      still_at_end a.remaining c.remaining d.remaining (got_in (t.events ++ asked [])) first.came end (subst (λ (l : List ℕ). Consumes c.remaining d.remaining l) (nothing_came text) replied.came)

  -- what is written at the end is the live report of the lines that were to come
  pub ended_written : (c d : Told) → Did b c (asked []) → IsAtEnd c.remaining → Did c d (puts (answers m (talk_at m (got_in t.events)) (last_line session.begun.items)) ++ Flushed ∷ [])
      → IfSome a.remaining (λ input. Appends a.contents d.contents (live_report m (lines_of input)))
  ended_written c d read end replied =
      let text : List ℕ = answers m (talk_at m (got_in t.events)) (last_line session.begun.items) in
      let first = Did-trans a b c t.events (asked []) t.did read in
      let came : got_in (t.events ++ asked []) ≡ got_in t.events ++ [] = got_in-append t.events (asked []) in
      let all = did_turn a b c d t.events [] text (Flushed ∷ []) t.did read replied in
      report_of m a.remaining a.contents d.contents (got_in (t.events ++ asked [])) (put_in (t.events ++ turn_of [] text (Flushed ∷ [])))
      (all_came a.remaining c.remaining (got_in (t.events ++ asked [])) first.came end)
      (put_in-turn t.events [] text (Flushed ∷ []) refl ∙ sym (report_end t) ∙ ap (λ l. live_report m (lines_of l)) (sym came))
      all.written
