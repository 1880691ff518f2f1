-- The request rows of a text: each line is skipped, is the row of an application, or is faulty.
use Rattle.std.specs.Prelude.{◌≡◌, ℕ, ◌+◌, ◌-◌, ◌<◌, List, [], ◌∷◌, ◌++◌, Option, Some, None, Bool, false, ◌==◌, ◌&&◌, nat_lt, nat_le, if◌then◌else◌, length, take, slice_index_or, map, replicate, unwrap_or, Result, MatchResult}
use Rattle.std.specs.List.{list_any}
use Rattle.arb_share.specs.declared.rows.RowKind.{RowKind}
use Rattle.arb_share.specs.declared.rows.RowKind.TheVariants.{BadApp, EntryCount, BadNumber, Above, AppTwice}
use Rattle.arb_share.specs.declared.rows.RowFault.{RowFault}
use Rattle.arb_share.specs.Limits.{applications, levels, max_entry, max_entry_word}
use Rattle.arb_share.specs.Division.{ExactlyOne}
use Rattle.arb_share.specs.FirstFault.{IsFirst}
use Rattle.arb_share.specs.Text.{lines_of, words_of, is_skipped, number_of}

-- what a line says by itself
pub data Said : Type 0 where
  -- it is skipped
  nothing : Said
  -- it is the row of an application, with an entry for each level
  row : (app : ℕ) → (entries : List ℕ) → Said
  -- it is neither
  wrong : RowKind → Said

-- the fault of a word as the entry at a level: it is no number, or the number is above the limit
abbrev pub entry_fault : (level : ℕ) → (word : List ℕ) → Option RowKind
entry_fault level word = fault (number_of max_entry_word word)
  where
    fault : Option ℕ → Option RowKind
    fault None = Some BadNumber
    fault (Some value) = if nat_lt max_entry value then Some (Above level value) else None

-- the first of two faults
abbrev pub first_fault : Option RowKind → Option RowKind → Option RowKind
first_fault (Some kind) other = Some kind
first_fault None other = other

-- the first fault of words as entries, the first of them at this level
abbrev pub entries_fault : (level : ℕ) → (words : List (List ℕ)) → Option RowKind
entries_fault level [] = None
entries_fault level (word ∷ words) = first_fault (entry_fault level word) (entries_fault (level + 1) words)

-- the entries that words write; missing ones are 0
abbrev pub entries_written : (words : List (List ℕ)) → List ℕ
entries_written words = map (λ word. unwrap_or (number_of max_entry_word word) 0) words ++ replicate (levels - length words) 0

-- a row is the number of an application, and entries: one at least, one for each level at most; the first fault counts
abbrev pub said_of_row : (app : Option ℕ) → (entries : List (List ℕ)) → Said
said_of_row None entries = wrong BadApp
said_of_row (Some app) entries =
    if nat_le 1 (length entries) && nat_le (length entries) levels
    then checked (entries_fault 0 entries)
    else wrong EntryCount
  where
    checked : Option RowKind → Said
    checked (Some kind) = wrong kind
    checked None = row app (entries_written entries)

-- what a line says, by its words
abbrev pub said_of : (words : List (List ℕ)) → Said
said_of [] = nothing
said_of (first ∷ rest) = if is_skipped (first ∷ rest) then nothing else said_of_row (number_of (applications - 1) first) rest

-- what each line of a text says
abbrev pub said_in : (text : List ℕ) → List Said
said_in text = map (λ line. said_of (words_of line)) (lines_of text)

-- whether a line is the row of an application
abbrev pub is_row_of : (app : ℕ) → Said → Bool
is_row_of app (row other entries) = other == app
is_row_of app nothing = false
is_row_of app (wrong kind) = false

-- the fault of a line that comes after others: its own, or that its application stands in an earlier line
abbrev pub fault_after : (earlier : List Said) → Said → Option RowKind
fault_after earlier nothing = None
fault_after earlier (wrong kind) = Some kind
fault_after earlier (row app entries) = if list_any (is_row_of app) earlier then Some AppTwice else None

-- the fault of the line at an index, the first line being at 0
abbrev pub fault_at : List Said → (index : ℕ) → Option RowKind
fault_at lines index = fault_after (take index lines) (slice_index_or lines index nothing)

-- the request of an application: the entries of its row, none where no line is its row
abbrev pub request_in : List Said → (app : ℕ) → Option (List ℕ)
request_in [] app = None
request_in (row other entries ∷ lines) app = if other == app then Some entries else request_in lines app
request_in (nothing ∷ lines) app = request_in lines app
request_in (wrong kind ∷ lines) app = request_in lines app

-- no line is faulty, and these are the requests of the applications
pub record AreRows (lines : List Said) (rows : List (Option (List ℕ))) : Type 0 where
  pub one_each : length rows ≡ applications
  pub faultless : (index : ℕ) → index < length lines → fault_at lines index ≡ None
  pub requests : (app : ℕ) → app < applications → slice_index_or rows app None ≡ request_in lines app

-- the fault's line has this fault, and no earlier line is faulty
abbrev pub IsFirstFault : List Said → RowFault → Type 0
IsFirstFault lines fault = IsFirst (fault_at lines) (length lines) fault.line fault.kind

-- what the lines of a text come to: the requests of the applications, or the first fault
abbrev pub Reads : List Said → Result (List (Option (List ℕ))) RowFault → Type 0
Reads lines outcome = MatchResult outcome (AreRows lines) (IsFirstFault lines)

-- the law of request rows: the lines of each text come to exactly one outcome
abbrev pub HasOneReading : Type 0
HasOneReading = (lines : List Said) → ExactlyOne (Reads lines)
