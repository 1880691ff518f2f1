use Rattle.std.proofs.Common.{◌∙◌, ◌<◌, length, get_or, take, arith}
use Rattle.std.proofs.lemmas.List.{get_or-replicate, length-replicate, length-set, take_more}
use Rattle.arb_config.specs.Limits.{core_numbers}
use Rattle.arb_config.specs.declared.roles.Role.TheVariants.{Absent, Unmanaged}
use Rattle.arb_config.proofs.RoleLaws.{HasRoles-listed}
use Rattle.arb_config.proofs.roles.unmanaged_roles.Goals as goal

pub loop-core-init : goal.loop-core-init
loop-core-init c = (length-replicate core_numbers Absent, λ core d low. get_or-replicate core_numbers core Absent d low)

pub loop-core-preserved : goal.loop-core-preserved
loop-core-preserved c =
    let i = c.loop-core.core-index in
    let cores = c.args.unmanaged.now in
    let within : i < length cores = omega arith in
    let size = length-set c.loop-core.roles (get_or cores i 0) Unmanaged in
    rw (take_more cores i 0 within)
    (size ∙ c.loop-core.invariant.0, HasRoles-listed c.loop-core.roles (take i cores) (get_or cores i 0) (omega (arith, c.requires i 0 within)) c.loop-core.invariant.1)
