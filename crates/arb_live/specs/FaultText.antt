-- The texts of faults.
use Rattle.std.specs.Prelude.{ℕ, List, codes}
use Rattle.arb_live.specs.declared.fault.LiveFault.{LiveFault}
use Rattle.arb_live.specs.declared.fault.LiveFault.TheVariants.{Read, Write, TooManyReads}

-- why a live arbiter ended
abbrev pub live_fault_text : LiveFault → List ℕ
live_fault_text Read = codes "read fault"
live_fault_text Write = codes "write fault"
live_fault_text TooManyReads = codes "too many reads"
