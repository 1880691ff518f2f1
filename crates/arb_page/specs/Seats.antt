-- What holds of the seats of writers, readers and notes.
use Rattle.std.specs.Prelude.{◌≡◌, []}
use Rattle.atomic_table.specs.Seated.{TableId}
use Rattle.atomic_table.specs.Table.{Me}
use Rattle.arb_config.specs.Machine.{Machine}
use Rattle.arb_model.specs.History.{IsLegal}
use Rattle.arb_page.specs.declared.table.SeatView.{SeatView}
use Rattle.arb_page.specs.Seen.{Observer}
use Rattle.arb_page.specs.Views.{reader_view, writer_view}

-- the seat of a reader or a note: it is at a table, and has a reader's view of what was seen, which is legal
pub record IsReaderSeat {S : Type 0} (named : TableId) (m : Machine) (o : Observer) (at : TableId) (me : Me S SeatView) : Type 0 where
  pub table : at ≡ named
  pub view : me ≡ (reader_view o.seen o.steps, [])
  pub legal : IsLegal m o.seen

-- the seat of the writer: the same with a writer's view
pub record IsWriterSeat {S : Type 0} (named : TableId) (m : Machine) (o : Observer) (at : TableId) (me : Me S SeatView) : Type 0 where
  pub table : at ≡ named
  pub view : me ≡ (writer_view o.seen o.steps, [])
  pub legal : IsLegal m o.seen
