-- The exit status of the program for each status.
use Rattle.std.specs.Prelude.{ℕ}
use Rattle.screenrec.specs.declared.outcome.Status.{Status}
use Rattle.screenrec.specs.declared.outcome.Status.TheVariants as status

abbrev pub status_number : Status → ℕ
status_number status.Ok = 0
status_number status.Usage = 1
status_number (status.BadPaint file line cause) = 2
status_number (status.Limit which) = 3
status_number (status.InputFault file) = 4
status_number status.SinkFault = 5
status_number status.ReportFault = 6
status_number status.NoMemory = 7
status_number (status.TooLarge file) = 8
status_number (status.BadStream at) = 9
