use Rattle.std.proofs.Common.{◌∙◌, sym, refl}
use Rattle.std.proofs.lemmas.Bool.{false≢true}
use Rattle.arb_config.specs.Machine.{cores_of}
use Rattle.arb_config.proofs.RoleLaws.{role_of-listed, role_of-unmanaged}
use Rattle.arb_config.proofs.topology.Topology.is_unmanaged.Goals as goal

pub returns-in-Unmanaged-clause-listed : goal.returns-in-Unmanaged-clause-listed
returns-in-Unmanaged-clause-listed c =
    let m = c.args.self.now in
    (λ _. role_of-listed (cores_of m) m.unmanaged c.args.core (sym c.in-Unmanaged.ensures.role), λ _. refl)

pub returns-in_default-clause-listed : goal.returns-in_default-clause-listed
returns-in_default-clause-listed c =
    let m = c.args.self.now in
    (λ yes. absurd (false≢true yes), λ listed. absurd (c.in_default.not-Unmanaged (c.role.ensures.role ∙ role_of-unmanaged (cores_of m) m.unmanaged c.args.core c.role.ensures.machine.different listed)))
