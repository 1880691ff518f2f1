-- The script of a text: each line is skipped, gives an order of a client, or is faulty.
use Rattle.std.specs.Prelude.{◌≡◌, ℕ, ◌+◌, ◌-◌, ◌*◌, ◌<◌, ◌≤◌, List, [], ◌∷◌, Option, Some, None, ◌==◌, ◌&&◌, nat_lt, nat_le, if◌then◌else◌, is_none, length, slice_index_or, map, codes, Result, Ok, Err, MatchResult}
use Rattle.std.specs.List.{slice_split}
use Rattle.std.specs.Option.{ok_or}
use Rattle.std.specs.Str.{bytes_eq}
use Rattle.arb_share.specs.Limits.{applications, levels}
use Rattle.arb_share.specs.Division.{ExactlyOne}
use Rattle.arb_share.specs.FirstFault.{IsFirst}
use Rattle.arb_share.specs.Text.{lines_of, words_of, is_skipped, number_of}
use Rattle.arb_share.specs.Rows.{entries_fault, entries_written}
use Rattle.arb_model.specs.declared.orders.Order.{Order}
use Rattle.arb_model.specs.declared.orders.Order.TheVariants.{Join, Ask, Cap, Block, Retire, Leave, Status, Tick}
use Rattle.arb_model.specs.Limits.{threads}
use Rattle.arb_model.specs.Standing.{the_clock}
use Rattle.arb_script.specs.declared.fault.ScriptKind.{ScriptKind}
use Rattle.arb_script.specs.declared.fault.ScriptKind.TheVariants.{BadClient, UnknownOrder, BadNumber, WordCount, LongLine}
use Rattle.arb_script.specs.declared.fault.ScriptFault.{ScriptFault}
use Rattle.arb_script.specs.declared.given.ClientOrder.{ClientOrder}
use Rattle.arb_script.specs.Limits.{max_line, max_cap_word, max_moment}
use Rattle.arb_model.specs.Texts.{clock_word, dot}

-- what a line says by itself
pub data Said : Type 0 where
  -- it is skipped
  nothing : Said
  -- it gives an order of a client
  gives : ClientOrder → Said
  -- it is faulty
  wrong : ScriptKind → Said

-- the thread of an application's number and its number there, where there are both
abbrev pub thread_of : (app thread : Option ℕ) → Option ℕ
thread_of (Some app) (Some thread) = Some (threads * app + thread)
thread_of (Some app) None = None
thread_of None thread = None

-- the thread that a word names by its parts at each dot: they are two, an application's number and a thread's
abbrev pub thread_in : (parts : List (List ℕ)) → Option ℕ
thread_in [] = None
thread_in (app ∷ []) = None
thread_in (app ∷ thread ∷ []) = thread_of (number_of (applications - 1) app) (number_of (threads - 1) thread)
thread_in (app ∷ thread ∷ part ∷ parts) = None

-- the client that a word names: the clock, or a thread
abbrev pub client_of : (word : List ℕ) → Option ℕ
client_of word = if bytes_eq word clock_word then Some the_clock else thread_in (slice_split (λ byte. byte == dot) word)

-- no word, where an order takes none
abbrev pub none_of : {X : Type 0} → X → (words : List (List ℕ)) → Result X ScriptKind
none_of x [] = Ok x
none_of x (word ∷ words) = Err WordCount

-- the number that words write, which is one word and at most `most`
abbrev pub number_in : (most : ℕ) → (words : List (List ℕ)) → Result ℕ ScriptKind
number_in most [] = Err WordCount
number_in most (word ∷ []) = ok_or (number_of most word) BadNumber
number_in most (word ∷ other ∷ words) = Err WordCount

-- the entries that words write: one for each level at most, and one at least; missing ones are 0
abbrev pub entries_in : (words : List (List ℕ)) → Result (List ℕ) ScriptKind
entries_in words =
    if nat_le 1 (length words) && nat_le (length words) levels
    then (if is_none (entries_fault 0 words) then Ok (entries_written words) else Err BadNumber)
    else Err WordCount

-- the order of what it takes, where that is there
abbrev pub order_with : {X : Type 0} → (X → Order) → Result X ScriptKind → Result Order ScriptKind
order_with order (Ok x) = Ok (order x)
order_with order (Err kind) = Err kind

-- the order that a word names, with the words after it
abbrev pub order_of : (word : List ℕ) → (words : List (List ℕ)) → Result Order ScriptKind
order_of word words =
    if bytes_eq word (codes "join") then none_of Join words
    else (if bytes_eq word (codes "ask") then order_with Ask (entries_in words)
    else (if bytes_eq word (codes "cap") then order_with Cap (number_in max_cap_word words)
    else (if bytes_eq word (codes "block") then none_of Block words
    else (if bytes_eq word (codes "retire") then none_of Retire words
    else (if bytes_eq word (codes "leave") then none_of Leave words
    else (if bytes_eq word (codes "status") then none_of Status words
    else (if bytes_eq word (codes "tick") then order_with Tick (number_in max_moment words)
    else Err UnknownOrder)))))))

-- an order that was found is given by the client
abbrev pub given_by : (client : ℕ) → Result Order ScriptKind → Said
given_by client (Ok order) = gives (record { client = client; order = order })
given_by client (Err kind) = wrong kind

-- what the words say after the client's
abbrev pub said_after : (client : Option ℕ) → (words : List (List ℕ)) → Said
said_after None words = wrong BadClient
said_after (Some client) [] = wrong WordCount
said_after (Some client) (word ∷ words) = given_by client (order_of word words)

-- what words say that aren't skipped: a client, an order, and what the order takes
abbrev pub said_by : (words : List (List ℕ)) → Said
said_by [] = nothing
said_by (first ∷ words) = said_after (client_of first) words

-- what a line says: too long before all else
abbrev pub said_of : (line : List ℕ) → Said
said_of line = if nat_lt max_line (length line) then wrong LongLine else (if is_skipped (words_of line) then nothing else said_by (words_of line))

-- what each line of a text says
abbrev pub said_in : (text : List ℕ) → List Said
said_in text = map said_of (lines_of text)

-- the fault of what a line says, if any
abbrev pub fault_of : Said → Option ScriptKind
fault_of nothing = None
fault_of (gives given) = None
fault_of (wrong kind) = Some kind

-- the fault of the line at an index, the first line being at 0
abbrev pub fault_at : List Said → (index : ℕ) → Option ScriptKind
fault_at lines index = fault_of (slice_index_or lines index nothing)

-- the orders that lines give, in line order
abbrev pub orders_in : List Said → List ClientOrder
orders_in [] = []
orders_in (nothing ∷ lines) = orders_in lines
orders_in (gives given ∷ lines) = given ∷ orders_in lines
orders_in (wrong kind ∷ lines) = orders_in lines

-- no line is faulty, and these are the orders that they give
pub record IsScript (lines : List Said) (script : List ClientOrder) : Type 0 where
  pub faultless : (index : ℕ) → index < length lines → fault_at lines index ≡ None
  pub orders : script ≡ orders_in lines

-- the fault's line has this fault, and no earlier line is faulty
abbrev pub IsFirstFault : List Said → ScriptFault → Type 0
IsFirstFault lines fault = IsFirst (fault_at lines) (length lines) fault.line fault.kind

-- reading was given up at a line, counted from 1: it gives an order, which found no room, and no earlier line is faulty
pub record StopsAt (lines : List Said) (line : ℕ) : Type 0 where
  pub counted : 1 ≤ line
  pub inside : line ≤ length lines
  pub given : ClientOrder
  pub is : slice_index_or lines (line - 1) nothing ≡ gives given
  pub first : (index : ℕ) → index + 1 < line → fault_at lines index ≡ None

-- what the lines of a text come to: the script, or the first fault
abbrev pub Reads : List Said → Result (List ClientOrder) ScriptFault → Type 0
Reads lines outcome = MatchResult outcome (IsScript lines) (IsFirstFault lines)

-- the law of scripts: the lines of each text come to exactly one outcome
abbrev pub HasOneScript : Type 0
HasOneScript = (lines : List Said) → ExactlyOne (Reads lines)
