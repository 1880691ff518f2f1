use Rattle.std.proofs.Common.{◌+◌, ◌*◌}
use Rattle.arb_config.specs.Limits.{max_sockets}
use Rattle.arb_share.specs.Limits.{applications}
use Rattle.arb_model.proofs.ListLaws.{get_or-same}
use Rattle.arb_seats.proofs.socket_counts.SocketCounts.new.Goals as goal

pub returns : goal.returns
returns c = λ app socket. get_or-same (applications * max_sockets) (app * max_sockets + socket) 0
