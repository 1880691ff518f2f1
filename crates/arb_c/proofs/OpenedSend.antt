-- An arbiter with its machine may go to another thread.
use denote.Param.Send.{IsSend, sendable}
use Rattle.arb_core.proofs.arbiter.Core.TheSendSync.{the_send as core_send}
use Rattle.arb_config.proofs.topology.Topology.TheSendSync.{the_send as topology_send}
use Rattle.arrayvec.proofs.array_vec.ArrayVec.TheSendSync.{the_send as list_send}
use Rattle.arb_c.specs.contracts.opened.Opened.{the_row}
use Rattle.arb_c.specs.contracts.wire.WireCore as listed

listed_send : IsSend listed.the_row
listed_send = search sendable depth 12

pub opened_send : IsSend the_row
opened_send = search (sendable, core_send, topology_send, list_send, listed_send) depth 12
