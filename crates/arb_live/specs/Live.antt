-- The live report, and that nothing is owed at a read.
use Rattle.std.specs.Prelude.{◌≡◌, ℕ, ◌+◌, ◌*◌, ◌^◌, ◌≤◌, List, [], ◌∷◌, ◌++◌, Result, Ok, Err, ⊤, codes, decimal, if◌then◌else◌, ◌==◌}
use Rattle.arb_share.specs.Text.{line_feed, lines_of}
use Rattle.arb_config.specs.Machine.{Machine}
use Rattle.arb_model.specs.Standing.{Standing, opening}
use Rattle.arb_script.specs.FaultText.{kind_text}
use Rattle.arb_script.specs.Table.{table_text}
use Rattle.arb_script.specs.Report.{order_line, standing_next}
use Rattle.arb_live.specs.declared.event.Event.{Event}
use Rattle.arb_live.specs.declared.event.Event.TheVariants.{Asked}
use Rattle.arb_live.specs.declared.fault.LiveFault.{LiveFault}
use Rattle.arb_live.specs.declared.fault.LiveFault.TheVariants.{Read, Write, TooManyReads}
use Rattle.arb_live.specs.declared.heard.Heard.{Heard}
use Rattle.arb_live.specs.declared.heard.Heard.TheVariants.{Skipped, Order, Owners, Wrong, NotText}
use Rattle.arb_live.specs.Events.{got_in, put_in, reads_in, waiting_in}
use Rattle.arb_live.specs.Heard.{heard}

-- the answer to a line that is no order: its number, and what is wrong with it
abbrev pub error_line : (number : ℕ) → (what : List ℕ) → List ℕ
error_line number what = codes "error: line " ++ decimal number ++ codes ": " ++ what ++ line_feed ∷ []

-- the owner table, and a line that ends it
abbrev pub owners_answer : Machine → Standing → List ℕ
owners_answer m s = table_text m s.seats ++ codes "end" ++ line_feed ∷ []

-- the answer to the line of a number, by what it is
abbrev pub answer_of : Machine → Standing → (number : ℕ) → Heard → List ℕ
answer_of m s number Skipped = []
answer_of m s number (Order given) = order_line m s given
answer_of m s number Owners = owners_answer m s
answer_of m s number (Wrong kind) = error_line number (kind_text kind)
answer_of m s number NotText = error_line number (codes "not text")

-- the standing after a line: only an order changes it
abbrev pub standing_by : Machine → Standing → Heard → Standing
standing_by m s Skipped = s
standing_by m s (Order given) = standing_next m s given
standing_by m s Owners = s
standing_by m s (Wrong kind) = s
standing_by m s NotText = s

-- where a live arbiter is between two lines: how many lines came, and the standing
pub record Talk : Type 0 where
  pub lines : ℕ
  pub standing : Standing

-- before all lines
abbrev pub opening_talk : Machine → Talk
opening_talk m = record { lines = 0; standing = opening m }

-- the answer to the next line
abbrev pub answer_to : Machine → Talk → (line : List ℕ) → List ℕ
answer_to m talk line = answer_of m talk.standing (talk.lines + 1) (heard line)

-- where it is after the next line
abbrev pub talk_next : Machine → Talk → (line : List ℕ) → Talk
talk_next m talk line = record { lines = talk.lines + 1; standing = standing_by m talk.standing (heard line) }

-- the answers to lines, one after another
abbrev pub answers : Machine → Talk → (lines : List (List ℕ)) → List ℕ
answers m talk [] = []
answers m talk (line ∷ lines) = answer_to m talk line ++ answers m (talk_next m talk line) lines

-- where it is after lines
abbrev pub talk_after : Machine → Talk → (lines : List (List ℕ)) → Talk
talk_after m talk [] = talk
talk_after m talk (line ∷ lines) = talk_after m (talk_next m talk line) lines

-- the live report of lines: the answers to all of them, from the opening on
abbrev pub live_report : Machine → (lines : List (List ℕ)) → List ℕ
live_report m lines = answers m (opening_talk m) lines

-- the lines that a text completes, where this much of a line stands before it
abbrev pub completed : (begun : List ℕ) → (text : List ℕ) → List (List ℕ)
completed begun [] = []
completed begun (byte ∷ text) = if byte == line_feed then begun ∷ completed [] text else completed (begun ++ byte ∷ []) text

-- the complete lines of a text: each has its LF
abbrev pub complete_lines : (text : List ℕ) → List (List ℕ)
complete_lines text = completed [] text

-- all complete lines that came are answered: what was written is their report, and all of it was flushed
pub record IsSettled (m : Machine) (events : List Event) : Type 0 where
  pub answered : put_in events ≡ live_report m (complete_lines (got_in events))
  pub flushed : waiting_in events ≡ []

-- nothing is owed at a read: wherever more input was asked for, all complete lines that came before were answered
abbrev pub NothingOwed : Machine → List Event → Type 0
NothingOwed m events = (before after : List Event) → events ≡ before ++ Asked ∷ after → IsSettled m before

-- a text begins with another
abbrev pub BeginsWith : (text prefix : List ℕ) → Type 0
BeginsWith text prefix = (rest : List ℕ) × (text ≡ prefix ++ rest)

-- how often a live arbiter asks for input at most
abbrev pub max_reads : ℕ
max_reads = 2 ^ 51

-- what took place, by how it ended. At the end of the input all lines are answered, a last one without LF too. A fault of
-- reading leaves the complete lines answered, and one of writing leaves a prefix of the report.
abbrev pub EndsWith : Machine → Result ⊤ LiveFault → List Event → Type 0
EndsWith m (Ok done) events = (put_in events ≡ live_report m (lines_of (got_in events))) × (waiting_in events ≡ [])
EndsWith m (Err Read) events = IsSettled m events
EndsWith m (Err Write) events = BeginsWith (live_report m (lines_of (got_in events))) (put_in events)
EndsWith m (Err TooManyReads) events = IsSettled m events × (max_reads ≤ reads_in events)
