-- Events as the definition has them.
use Rattle.h265_model.specs.Wave as specified
use Rattle.h265_model.specs.Wave.{Event}
use Rattle.row_core.specs.declared.event.RowEvent.{RowEvent}
use Rattle.row_core.specs.declared.event.RowEvent.TheVariants.{Claim, Sync, Code, Publish, Finish, Lose}

abbrev pub event_of : RowEvent → Event
event_of (Claim row) = specified.Claim row
event_of (Sync row) = specified.Sync row
event_of (Code row) = specified.Code row
event_of (Publish row) = specified.Publish row
event_of (Finish row) = specified.Finish row
event_of (Lose row) = specified.Lose row
