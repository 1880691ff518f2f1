use Rattle.std.proofs.Common.{[], refl}
use Rattle.arb_script.proofs.OutputLaws.{Moves-none, Moves-prefix, Sends-failed}
use Rattle.arb_script.proofs.output.Output.put.Goals as goal

pub returns-in_err-make_room : goal.returns-in_err-make_room
returns-in_err-make_room g c =
    let failed = (c.in_err-make_room.ensures {u = tt}).sent in
    Sends-failed c.from_residual.result c.from_residual.ensures.0 (Moves-prefix _ _ _ [] [] c.args.self.now c.args.line.now _ refl (Moves-none _ []) failed.prefix) failed.err
