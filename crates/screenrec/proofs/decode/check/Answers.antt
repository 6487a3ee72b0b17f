use Rattle.screenrec.proofs.DecodeLaws.{checked, unopened}
use Rattle.screenrec.proofs.decode.check.Goals as goal

pub returns-in-Ok : goal.returns-in-Ok
returns-in-Ok c = checked c.args.bytes.now c.in-Ok.reader c.walk.result c.in-Ok.ensures c.walk.ensures

pub returns-in-Err : goal.returns-in-Err
returns-in-Err c = unopened c.args.bytes.now c.in-Err.error c.in-Err.ensures
