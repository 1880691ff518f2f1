use Rattle.std.proofs.Common.{◌≤◌, arith, sym, subst, length}
use Rattle.std.proofs.lemmas.Bool.{ltb-false}
use Rattle.arb_config.specs.Limits.{core_numbers}
use Rattle.arb_config.specs.Machine.{IsMachine, cores_of}
use Rattle.arb_config.proofs.RoleLaws.{role_of-absent}
use Rattle.arb_config.proofs.topology.Topology.role.Goals as goal

pub returns-in-None-clause-role : goal.returns-in-None-clause-role
returns-in-None-clause-role c =
    let m = c.args.self.now in
    let facts : IsMachine m = subst IsMachine c.self.view_is c.self.invariant.machine in
    let past : length c.self.inside.roles ≤ c.args.core = ltb-false _ _ (sym c.in-None.ensures.lookup.0) in
    sym (role_of-absent (cores_of m) m.unmanaged c.args.core core_numbers facts.managed_low facts.unmanaged_low (omega (arith, past)))
