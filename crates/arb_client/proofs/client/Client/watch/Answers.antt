use Rattle.std.proofs.Common.{◌≡◌, ℕ, Ok, Err}
use Rattle.std.specs.Prelude.{Result, IfOk}
use Rattle.arb_config.specs.Machine.{Machine}
use Rattle.arb_client.specs.declared.faults.WaitFault.{WaitFault}
use Rattle.arb_client.specs.Sides.{LooksOn, SeesOn, Side}
use Rattle.arb_client.specs.Waiting.{ReadsCore}
use Rattle.arb_client.proofs.SideLaws.{looks_on_trans}
use Rattle.arb_client.proofs.client.Client.watch.Goals as goal

pub loop-preserved : goal.loop-preserved
loop-preserved g c =
    (tt, tt, looks_on_trans c.args.self.now c.loop.self c.look_for_end.new.self c.look.new.self c.loop.invariant.2 c.look_for_end.ensures (c.in_default.ensures {u = tt}).goes_on.sees)

found_on : (m : Machine) (a b c d : Side) (found : Result ℕ WaitFault) → LooksOn a b → c ≡ record b { ended = c.ended } → IfOk found (λ core. ReadsCore m d core × SeesOn c d) → IfOk found (λ _. LooksOn a d)
found_on m a b c d (Ok core) p looked q = looks_on_trans a b c d p looked q.1
found_on m a b c d (Err fault) p looked q = tt

pub returns-in-Some-look-clause-sees : goal.returns-in-Some-look-clause-sees
returns-in-Some-look-clause-sees g c =
    found_on g.K.Set.machine c.args.self.now c.loop.self c.look_for_end.new.self c.look.new.self c.in-Some-look.found c.loop.invariant.2 c.look_for_end.ensures (c.in-Some-look.ensures {u = tt}).core
