use Rattle.std.proofs.Common.{◌≡◌, [], length, take}
use Rattle.arb_config.specs.Tables.{HasRoles}
use Rattle.arb_config.proofs.roles.unmanaged_roles.Given as goal
use Rattle.arb_config.specs.Limits.{core_numbers}

abbrev pub invariant-loop-core : goal.invariant-loop-core
invariant-loop-core l = (length l.roles ≡ core_numbers) × HasRoles [] (take l.core-index l.unmanaged) l.roles
