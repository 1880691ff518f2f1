use Rattle.std.proofs.Common.{◌++◌, rules, subst, sym, take, length, ◌∙◌}
use Rattle.std.specs.Io.KnownBytes.{Appends}
use Rattle.arb_share.proofs.StreamLaws.{Writes-failed, Appends-trans, Appends-kept, moves_front, front_of}
use Rattle.arb_share.proofs.streams.write_all.Goals as goal

pub returns-in_default : goal.returns-in_default
returns-in_default g c =
    let i = c.loop-rest.invariant in
    let failed = c.in_default.ensures {u = tt} in
    Writes-failed _ (search rules) (length i.done, subst (Appends _ _) (sym (front_of _ i.done c.loop-rest.rest.now i.split)) (Appends-kept _ _ _ _ i.appended failed.bytes)) (λ same. failed.err (same ∙ sym i.kept))

pub loop-rest-preserved : goal.loop-rest-preserved
loop-rest-preserved g c =
    let i = c.loop-rest.invariant in
    let rest = c.loop-rest.rest.now in
    let wrote = c.in-Ok.ensures in
    record {
      done = i.done ++ take c.in-Ok.taken rest;
      split = moves_front _ i.done rest c.in-Ok.taken i.split;
      appended = Appends-trans _ _ _ _ _ i.appended wrote.bytes;
      kept = search rules;
    }
