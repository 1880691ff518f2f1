-- When a journal and the pasts agree, and which fault is the first.
use Rattle.std.specs.Prelude.{◌≡◌, ℕ, ◌<◌, ◌≤◌, List, [], ◌∷◌, Bool, true, false, not, ◌||◌, Result, MatchResult, length}
use Rattle.std.specs.List.{Contains, list_any}
use Rattle.arb_share.specs.Division.{ExactlyOne}
use Rattle.arb_model.specs.Limits.{clients}
use Rattle.arb_model.specs.declared.orders.Entry.{Entry}
use Rattle.arb_desk.specs.declared.past.Past.{Past}
use Rattle.arb_house.specs.declared.auditing.AuditFault.{AuditFault}
use Rattle.arb_house.specs.declared.auditing.AuditFault.TheVariants.{Early, Missing, Twice, Differs as differs}
use Rattle.arb_house.specs.FirstClient.{IsFirst, NoClient}
use Rattle.arb_house.specs.Pasts.{Differs, IsMissing, IsTwice, entries_of_client, pasts_of}

-- whether the server or a client ended early
abbrev pub ended_early : (early : Bool) → List Past → Bool
ended_early early pasts = early || list_any (λ past. not past.whole) pasts

-- the journal and the pasts agree
pub record Agree (early : Bool) (house : List ℕ) (journal : List Entry) (pasts : List Past) : Type 0 where
  -- neither the server nor a client ended early
  pub in_full : ended_early early pasts ≡ false
  -- each client of the house left one past
  pub one_each : (c : ℕ) → c < clients → Contains house c → length (pasts_of c pasts) ≡ 1
  -- no client left two
  pub no_two : (c : ℕ) → c < clients → length (pasts_of c pasts) ≤ 1
  -- a client's entries are its past's list, in order
  pub same : (c : ℕ) → c < clients → (past : Past) → pasts_of c pasts ≡ past ∷ [] → entries_of_client c journal ≡ past.mine.items
  -- no other client has entries
  pub no_other : (c : ℕ) → c < clients → pasts_of c pasts ≡ [] → entries_of_client c journal ≡ []

-- a fault is there, and none comes before it: those of an earlier kind, and those of the same kind with a smaller client
abbrev pub IsFirstFault : (early : Bool) → (house : List ℕ) → List Entry → List Past → AuditFault → Type 0
IsFirstFault early house journal pasts Early = ended_early early pasts ≡ true
IsFirstFault early house journal pasts (Missing c) = (ended_early early pasts ≡ false) × IsFirst (IsMissing house pasts) c
IsFirstFault early house journal pasts (Twice c) =
    (ended_early early pasts ≡ false) × NoClient (IsMissing house pasts) × IsFirst (IsTwice pasts) c
IsFirstFault early house journal pasts (differs c) =
    (ended_early early pasts ≡ false) × NoClient (IsMissing house pasts) × NoClient (IsTwice pasts) × IsFirst (Differs journal pasts) c

-- what an audit comes to: all agree, or there is a first fault
abbrev pub Audits : (early : Bool) → (house : List ℕ) → List Entry → List Past → Result (Unit {0}) AuditFault → Type 0
Audits early house journal pasts outcome = MatchResult outcome (λ _. Agree early house journal pasts) (IsFirstFault early house journal pasts)

-- the law of audits: whatever is audited comes to exactly one outcome
abbrev pub HasOneOutcome : Type 0
HasOneOutcome = (early : Bool) (house : List ℕ) (journal : List Entry) (pasts : List Past) → ExactlyOne (Audits early house journal pasts)

-- why an audit of a house's own pasts fails: never since one differs
abbrev pub IsOwnFault : (early : Bool) → (house : List ℕ) → List Past → AuditFault → Type 0
IsOwnFault early house pasts Early = ended_early early pasts ≡ true
IsOwnFault early house pasts (Missing c) = (ended_early early pasts ≡ false) × IsFirst (IsMissing house pasts) c
IsOwnFault early house pasts (Twice c) =
    (ended_early early pasts ≡ false) × NoClient (IsMissing house pasts) × IsFirst (IsTwice pasts) c
IsOwnFault early house pasts (differs c) = ⊥

-- each client of a house left one past, no client left two, and neither the server nor a client ended early
pub record LeftOneEach (early : Bool) (house : List ℕ) (pasts : List Past) : Type 0 where
  pub in_full : ended_early early pasts ≡ false
  pub one_each : (c : ℕ) → c < clients → Contains house c → length (pasts_of c pasts) ≡ 1
  pub no_two : (c : ℕ) → c < clients → length (pasts_of c pasts) ≤ 1
