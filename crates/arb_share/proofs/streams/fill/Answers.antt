use Rattle.std.proofs.Common.{◌-◌, rules, subst, length}
use Rattle.std.specs.Io.KnownBytes.{Consumes}
use Rattle.arb_share.proofs.StreamLaws.{ConsumesUpTo-filled, Consumes-trans, Consumes-none, Consumes-kept, take-put_mid_filled}
use Rattle.arb_share.proofs.streams.fill.Goals as goal

pub returns-then-taken-eq0-clause-taken : goal.returns-then-taken-eq0-clause-taken
returns-then-taken-eq0-clause-taken g c =
    let i = c.loop-filled.invariant in
    ConsumesUpTo-filled _ _ _ _ _ i.within i.long (Consumes-none _ _ _ _ c.read.new.buffer c.in-Ok.taken i.bytes c.in-Ok.ensures.bytes.0 c.if-taken-eq0.true)

pub returns-in_default-clause-taken : goal.returns-in_default-clause-taken
returns-in_default-clause-taken g c =
    let i = c.loop-filled.invariant in
    ConsumesUpTo-filled _ _ _ _ _ i.within i.long (Consumes-kept _ _ _ _ i.bytes (c.in_default.ensures {u = tt}).bytes)

pub loop-filled-preserved : goal.loop-filled-preserved
loop-filled-preserved g c =
    let room = length c.loop-filled.buffer - c.loop-filled.filled in
    let read = c.in-Ok.ensures in
    let joined = take-put_mid_filled c.loop-filled.filled room c.in-Ok.taken c.loop-filled.buffer c.read.new.buffer c.loop-filled.invariant.within read.bound.0 in
    record {
      long = search rules;
      within = search rules;
      bytes = subst (Consumes _ _) joined (Consumes-trans _ _ _ _ _ c.loop-filled.invariant.bytes read.bytes.0);
      kept = search rules;
    }
