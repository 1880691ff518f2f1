use Rattle.std.proofs.Common.{◌≡◌, length, take}
use Rattle.arb_config.specs.Tables.{HasRoles}
use Rattle.arb_config.proofs.roles.roles_of.Given as goal
use Rattle.arb_config.specs.Limits.{core_numbers}

abbrev pub invariant-loop-position : goal.invariant-loop-position
invariant-loop-position l = (length l.roles ≡ core_numbers) × HasRoles (take l.position l.cores) l.unmanaged l.roles
