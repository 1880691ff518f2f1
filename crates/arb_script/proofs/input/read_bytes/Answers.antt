use Rattle.std.proofs.Common.{arith, inl, refl, rules}
use Rattle.std.proofs.lemmas.Grind.{common_steps}
use Rattle.arb_script.proofs.InputLaws.{taken_more}
use Rattle.arb_script.proofs.input.read_bytes.Goals as goal

pub returns-in_default-clause-taken : goal.returns-in_default-clause-taken
returns-in_default-clause-taken g c = taken_more _ _ _ _ _ c.min-most.result c.args.limit (search rules) (search rules) c.loop-chunk.invariant.all c.fill.ensures.taken

pub returns-then-is_err-clause-taken : goal.returns-then-is_err-clause-taken
returns-then-is_err-clause-taken g c = taken_more _ _ _ _ _ c.min-most.result c.args.limit (search rules) (search rules) c.loop-chunk.invariant.all c.fill.ensures.taken

pub returns-then-length-most-clause-taken : goal.returns-then-length-most-clause-taken
returns-then-length-most-clause-taken g c = taken_more _ _ _ _ _ c.min-most.result c.args.limit (search rules) (search rules) c.loop-chunk.invariant.all c.fill.ensures.taken

pub returns-then-is_err-clause-read : goal.returns-then-is_err-clause-read
returns-then-is_err-clause-read g c = search rules

pub returns-then-length-most-clause-all : goal.returns-then-length-most-clause-all
returns-then-length-most-clause-all g c = grind (arith, common_steps)

pub loop-chunk-preserved : goal.loop-chunk-preserved
loop-chunk-preserved g c = grind (arith, common_steps)

pub returns-in_default-clause-all : goal.returns-in_default-clause-all
returns-in_default-clause-all g c = tt

pub returns-in_default-clause-kept : goal.returns-in_default-clause-kept
returns-in_default-clause-kept g c = inl refl
