use Rattle.std.proofs.Common.{◌≡◌, take}
use Rattle.arb_script.proofs.usual.skip.Given as goal

-- the bytes before this one are those of the word
abbrev pub invariant-loop-index : goal.invariant-loop-index
invariant-loop-index l = take l.index l.text ≡ take l.index l.word
