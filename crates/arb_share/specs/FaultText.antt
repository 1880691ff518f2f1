-- The texts of faults.
use Rattle.std.specs.Prelude.{ℕ, List, ◌++◌, codes, decimal}
use Rattle.arb_share.specs.declared.request.TooMany.{TooMany}
use Rattle.arb_share.specs.declared.rows.RowKind.{RowKind}
use Rattle.arb_share.specs.declared.rows.RowKind.TheVariants.{BadApp, EntryCount, BadNumber, Above, AppTwice}
use Rattle.arb_share.specs.declared.rows.RowFault.{RowFault}
use Rattle.arb_share.specs.declared.due_input.DueFault.{DueFault}
use Rattle.arb_share.specs.declared.due_input.DueFault.TheVariants.{Row, Read, TooLong, Write}
use Rattle.arb_share.specs.Limits.{max_entry}

-- the entry at a level is a value above the limit
abbrev pub above_text : (level value : ℕ) → List ℕ
above_text level value = codes "entry " ++ decimal level ++ codes " is " ++ decimal value ++ codes ", above " ++ decimal max_entry

-- an entry of a request is above the limit
abbrev pub too_many_text : TooMany → List ℕ
too_many_text fault = above_text fault.level fault.value

-- what is wrong with a line
abbrev pub kind_text : RowKind → List ℕ
kind_text BadApp = codes "Q1 bad application"
kind_text EntryCount = codes "Q2 one to eight entries"
kind_text BadNumber = codes "Q3 bad number"
kind_text (Above level value) = codes "Q4 " ++ above_text level value
kind_text AppTwice = codes "Q5 application twice"

-- the line, and what is wrong with it
abbrev pub fault_text : RowFault → List ℕ
fault_text fault = codes "line " ++ decimal fault.line ++ codes ": " ++ kind_text fault.kind

-- why there was no answer
abbrev pub due_fault_text : DueFault → List ℕ
due_fault_text (Row fault) = fault_text fault
due_fault_text Read = codes "read fault"
due_fault_text TooLong = codes "input too long"
due_fault_text Write = codes "write fault"

-- a call of a reader or writer failed
abbrev pub failed_text : List ℕ
failed_text = codes "a call failed"
