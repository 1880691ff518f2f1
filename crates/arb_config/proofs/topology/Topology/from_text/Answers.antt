use Rattle.std.proofs.Common.{◌≡◌, ◌∙◌, None, Some, sym, ap}
use Rattle.toml.specs.View.{table_view}
use Rattle.arb_config.specs.declared.fault.ConfigFault.TheVariants.{NotToml}
use Rattle.arb_config.specs.Config.{first_fault}
use Rattle.arb_config.proofs.Machines.{first_fault-is_tree}
use Rattle.arb_config.proofs.WrittenLaws.{IsWritten-machine_of}
use Rattle.arb_config.proofs.topology.Topology.from_text.Goals as goal

pub returns-in-Some-clause-not_toml : goal.returns-in-Some-clause-not_toml
returns-in-Some-clause-not_toml c =
    let tree = table_view c.in-Ok.table in
    let applies : first_fault tree ≡ Some c.in-Some.fault = sym c.in_ok-fault.ensures ∙ c.in-Some.is in (
      λ no_toml. let same : c.in-Some.fault ≡ NotToml = cc in absurd (first_fault-is_tree tree (applies ∙ ap Some same)),
      λ h. let read = c.in-Ok.ensures.ok in let none = h.0 in cc,
    )

pub returns-clause-written : goal.returns-clause-written
returns-clause-written c =
    let tree = table_view c.in-Ok.table in
    let none : first_fault tree ≡ None = sym c.in_ok-fault.ensures ∙ c.in-None.is in
    rw (c.in-Ok.ensures.ok, c.in_ok-build-in-None.ensures) (IsWritten-machine_of tree none)
