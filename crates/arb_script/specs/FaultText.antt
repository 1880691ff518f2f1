-- The texts of faults.
use Rattle.std.specs.Prelude.{ℕ, List, ◌++◌, codes, decimal}
use Rattle.arb_script.specs.declared.fault.ScriptKind.{ScriptKind}
use Rattle.arb_script.specs.declared.fault.ScriptKind.TheVariants.{BadClient, UnknownOrder, BadNumber, WordCount, LongLine, Memory}
use Rattle.arb_script.specs.declared.fault.ScriptFault.{ScriptFault}
use Rattle.arb_script.specs.declared.input.ReadFault.{ReadFault}
use Rattle.arb_script.specs.declared.input.ReadFault.TheVariants.{Read as read_failed, TooLong, NotText, Memory as no_memory}
use Rattle.arb_script.specs.declared.runner.RunFault.{RunFault}
use Rattle.arb_script.specs.declared.runner.RunFault.TheVariants.{Read, Script, Write}

-- what is wrong with a line
abbrev pub kind_text : ScriptKind → List ℕ
kind_text BadClient = codes "S1 bad client"
kind_text UnknownOrder = codes "S2 unknown order"
kind_text BadNumber = codes "S3 bad number"
kind_text WordCount = codes "S4 wrong number of words"
kind_text LongLine = codes "S5 line too long"
kind_text Memory = codes "out of memory"

-- the line at a number, and what is wrong with it; a failed allocation is no fault of a line, and names none
abbrev pub fault_line_text : (line : ℕ) → ScriptKind → List ℕ
fault_line_text line Memory = codes "out of memory"
fault_line_text line kind = codes "line " ++ decimal line ++ codes ": " ++ kind_text kind

-- why there is no script
abbrev pub fault_text : ScriptFault → List ℕ
fault_text fault = fault_line_text fault.line fault.kind

-- a call of a writer failed
abbrev pub write_fault_text : List ℕ
write_fault_text = codes "write fault"

-- why no text was read from an input
abbrev pub read_fault_text : ReadFault → List ℕ
read_fault_text read_failed = codes "read fault"
read_fault_text TooLong = codes "input too long"
read_fault_text NotText = codes "input is not UTF-8"
read_fault_text no_memory = codes "out of memory"

-- why a run ended
abbrev pub run_fault_text : RunFault → List ℕ
run_fault_text (Read fault) = read_fault_text fault
run_fault_text (Script fault) = fault_text fault
run_fault_text Write = write_fault_text
