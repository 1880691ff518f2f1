-- The arbiter that was taken out is the handle's.
use Rattle.std.proofs.Common.{◌≡◌, ◌∙◌, Some, ap, subst}
use Rattle.std.specs.Prelude.{◌↔◌, option_map}
use Rattle.arb_c.specs.Codes.{no_owner}
use Rattle.arb_c.specs.Calls.{HasNoOwner}
use Rattle.arb_c.proofs.readers.voldazpe_lib_owner.Goals as goal

pub returns-clause-free : goal.returns-clause-free
returns-clause-free c =
    subst (λ held. (c.owner_in-code.result ≡ no_owner) ↔ HasNoOwner (option_map (λ holding. holding.arbiter) held) c.args.core) (ap Some c.deref.ensures ∙ c.in-Some.ensures.taken) c.owner_in-code.ensures.free
