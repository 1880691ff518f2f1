use Rattle.std.proofs.Common.{◌∙◌, codes, length, map, sym, ap, arith, lit<}
use Rattle.std.specs.List.{concat}
use Rattle.toml.specs.View.{table_view}
use Rattle.arb_config.specs.Machine.{socket_numbers_from}
use Rattle.arb_config.proofs.Parts.{length-part-le}
use Rattle.arb_config.proofs.Machines.{FitsMachine-from_tree, few_lists, IsMachine-machine_of, cores_under-low, cores_of-machine_of}
use Rattle.arb_config.proofs.topology.Topology.build.Goals as goal

pub socket_numbers-requires : goal.socket_numbers-requires
socket_numbers-requires c = rw c.as_slice.ensures.value (few_lists _ _ (table_view c.args.table.now) c.requires c.in_ok-sockets.ensures)

pub roles_of-roles-requires-clause-managed_low : goal.roles_of-roles-requires-clause-managed_low
roles_of-roles-requires-clause-managed_low c =
    rw (c.as_slice-2.ensures.value, c.in_ok-cores.ensures) (cores_under-low (codes "managed") (table_view c.args.table.now))

pub roles_of-roles-requires-clause-unmanaged_low : goal.roles_of-roles-requires-clause-unmanaged_low
roles_of-roles-requires-clause-unmanaged_low c =
    rw (c.as_slice-3.ensures.value, c.in_ok-unmanaged.ensures) (cores_under-low (codes "unmanaged") (table_view c.args.table.now))

pub roles_of-roles-requires-clause-different : goal.roles_of-roles-requires-clause-different
roles_of-roles-requires-clause-different c =
    let facts = IsMachine-machine_of (table_view c.args.table.now) c.requires in
    rw (c.as_slice-2.ensures.value, c.in_ok-cores.ensures, c.as_slice-3.ensures.value, c.in_ok-unmanaged.ensures) (rw (cores_of-machine_of (table_view c.args.table.now)) at facts.different)

pub fixed_lists-requires-clause-few : goal.fixed_lists-requires-clause-few
fixed_lists-requires-clause-few c = rw c.as_slice-4.ensures.value (few_lists _ _ (table_view c.args.table.now) c.requires c.in_ok-sockets.ensures)

pub fixed_lists-requires-clause-short : goal.fixed_lists-requires-clause-short
fixed_lists-requires-clause-short c =
    let facts = IsMachine-machine_of (table_view c.args.table.now) c.requires in
    rw c.as_slice-4.ensures.value (λ k d h. omega (
      arith,
      facts.few_managed,
      length-part-le (λ cores. cores.items) c.in_ok-sockets.sockets.items k d h,
      ap (λ lists. length (concat lists)) c.in_ok-sockets.ensures,
    ))

pub fixed-requires : goal.fixed-requires
fixed-requires c =
    let facts = IsMachine-machine_of (table_view c.args.table.now) c.requires in
    (lit< tt, omega (arith, facts.few_unmanaged, ap length c.as_slice-5.ensures.value, ap length c.in_ok-unmanaged.ensures))

pub fixed-requires-3 : goal.fixed-requires-3
fixed-requires-3 c =
    let facts = IsMachine-machine_of (table_view c.args.table.now) c.requires in
    let numbers = c.in_ok-socket_by_position.ensures ∙ ap (λ lists. socket_numbers_from 0 (map (λ cores. cores.items) lists)) c.as_slice.ensures.value ∙ ap (socket_numbers_from 0) c.in_ok-sockets.ensures in
    (lit< tt, omega (arith, facts.socket_each, facts.few_managed, ap length c.as_slice-7.ensures.value, ap length numbers))

pub invariant_of-result : goal.invariant_of-result
invariant_of-result c =
    let tree = table_view c.args.table.now in
    let lists = c.fixed_lists.ensures ∙ ap (map (λ cores. cores.items)) c.as_slice-4.ensures.value in
    let others = c.fixed.ensures ∙ c.as_slice-5.ensures.value in
    let cores = c.fixed-2.ensures ∙ c.as_slice-6.ensures.value in
    let numbers = c.fixed-3.ensures ∙ c.as_slice-7.ensures.value in
    FitsMachine-from_tree tree _ _ _ _ _ _ _ c.requires (lists ∙ c.in_ok-sockets.ensures) (others ∙ c.in_ok-unmanaged.ensures) c.number_or.ensures (rw (c.from.ensures, c.from-2.ensures) at c.number_or-2.ensures) (cores ∙ c.in_ok-cores.ensures)
    (numbers ∙ c.in_ok-socket_by_position.ensures ∙ ap (socket_numbers_from 0) (ap (map (λ cores. cores.items)) c.as_slice.ensures.value ∙ sym lists))
    (rw (cores, ← c.as_slice-2.ensures.value, others, ← c.as_slice-3.ensures.value) c.roles_of-roles.ensures)
