-- What a line is to a live arbiter.
use Rattle.std.specs.Prelude.{ℕ, List, [], ◌∷◌, Bool, false, not, nat_lt, if◌then◌else◌, length, codes}
use Rattle.std.specs.Str.{bytes_eq, is_utf8}
use Rattle.arb_share.specs.Text.{words_of}
use Rattle.arb_script.specs.declared.fault.ScriptKind.TheVariants.{LongLine}
use Rattle.arb_script.specs.Limits.{max_line}
use Rattle.arb_script.specs.Script.{Said, nothing, gives, wrong, said_of}
use Rattle.arb_live.specs.declared.heard.Heard.{Heard}
use Rattle.arb_live.specs.declared.heard.Heard.TheVariants.{Skipped, Order, Owners, Wrong, NotText}

-- whether the only word is `cores`, which asks for the owner table
abbrev pub asks_owners : (words : List (List ℕ)) → Bool
asks_owners [] = false
asks_owners (word ∷ []) = bytes_eq word (codes "cores")
asks_owners (word ∷ other ∷ words) = false

-- a line that a script may have, or that is faulty there
abbrev pub heard_of : Said → Heard
heard_of nothing = Skipped
heard_of (gives given) = Order given
heard_of (wrong kind) = Wrong kind

-- what a line is: too long before all else, then no text, then what asks for the owner table, then what it says in a script
abbrev pub heard : (line : List ℕ) → Heard
heard line =
    if nat_lt max_line (length line) then Wrong LongLine
    else (if not (is_utf8 line) then NotText
    else (if asks_owners (words_of line) then Owners
    else heard_of (said_of line)))
