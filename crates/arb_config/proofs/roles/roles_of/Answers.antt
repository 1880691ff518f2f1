use Rattle.std.proofs.Common.{◌≢◌, ◌<◌, ◌∙◌, length, get_or, take, sym, arith}
use Rattle.std.specs.List.{All}
use Rattle.std.proofs.lemmas.List.{get_or_default, get_or-take, length-set, length-take-le, take_more}
use Rattle.arb_config.specs.declared.roles.Role.TheVariants.{Managed}
use Rattle.arb_config.proofs.RoleLaws.{HasRoles-placed, same_place}
use Rattle.arb_config.proofs.roles.roles_of.Goals as goal

pub loop-position-preserved : goal.loop-position-preserved
loop-position-preserved c =
    let i = c.loop-position.position in
    let cores = c.args.cores.now in
    let within : i < length cores = omega arith in
    let size = length-take-le i cores (omega arith) in
    let none : All (λ other. other ≢ get_or cores i 0) (take i cores) =
    λ k d low same. same_place cores c.args.unmanaged.now k i 0 c.requires.different (omega arith) within (get_or_default cores k 0 d (omega arith) ∙ (sym (get_or-take i cores k d (omega arith)) ∙ same)) in
    rw (take_more cores i 0 within) (
      length-set c.loop-position.roles (get_or cores i 0) (Managed i) ∙ c.loop-position.invariant.0,
      HasRoles-placed c.loop-position.roles (take i cores) c.args.unmanaged.now (get_or cores i 0) i (omega (arith, c.requires.managed_low i 0 within)) size none c.loop-position.invariant.1,
    )
