use Rattle.std.proofs.Common.{◌≡◌, sym, ◌∙◌}
use Rattle.arb_config.specs.declared.roles.Role.TheVariants.{Managed}
use Rattle.arb_config.specs.Machine.{cores_of}
use Rattle.arb_config.proofs.RoleLaws.{role_of-index, role_of-managed}
use Rattle.arb_config.proofs.topology.Topology.position_of.Goals as goal

pub returns-in-Managed-clause-found : goal.returns-in-Managed-clause-found
returns-in-Managed-clause-found c =
    (role_of-index (cores_of c.args.self.now) c.args.self.now.unmanaged c.args.core c.in-Managed.position (sym c.in-Managed.ensures.role)).0

pub returns-in-Managed-clause-back : goal.returns-in-Managed-clause-back
returns-in-Managed-clause-back c =
    (role_of-index (cores_of c.args.self.now) c.args.self.now.unmanaged c.args.core c.in-Managed.position (sym c.in-Managed.ensures.role)).1

pub returns-in-Managed-clause-forth : goal.returns-in-Managed-clause-forth
returns-in-Managed-clause-forth c index within here =
    let is = role_of-managed (cores_of c.args.self.now) c.args.self.now.unmanaged c.args.core index c.in-Managed.ensures.machine.different within here in
    let same : Managed c.in-Managed.position ≡ Managed index = c.in-Managed.ensures.role ∙ is in
    cc

pub returns-in_default-clause-forth : goal.returns-in_default-clause-forth
returns-in_default-clause-forth c index within here =
    absurd (c.in_default.not-Managed index (c.role.ensures.role ∙ role_of-managed (cores_of c.args.self.now) c.args.self.now.unmanaged c.args.core index c.role.ensures.machine.different within here))
