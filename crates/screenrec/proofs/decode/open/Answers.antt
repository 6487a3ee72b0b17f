use Rattle.std.proofs.Common.{sym}
use Rattle.screenrec.proofs.DecodeLaws.{opened, not_refused}
use Rattle.screenrec.proofs.decode.open.Goals as goal

pub unreachable-requires : goal.unreachable-requires
unreachable-requires c =
    not_refused c.args.bytes.now c.in-Err-BadStream.field-0-0 c.requires.servable (rw c.in-Err-BadStream.field-0-is at c.in-Err-BadStream.ensures)

pub returns-in-Ok : goal.returns-in-Ok
returns-in-Ok c = opened c.args.bytes.now c.in-Ok.reader c.requires.servable c.in-Ok.ensures
