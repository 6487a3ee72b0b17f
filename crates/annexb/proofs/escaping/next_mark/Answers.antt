use Rattle.annexb.proofs.Escapes.{escape-found}
use Rattle.annexb.proofs.escaping.next_mark.Goals as goal

pub returns-clause-parts : goal.returns-clause-parts
returns-clause-parts c =
    let found = c.find_mark.ensures in
    escape-found c.args.bytes.now c.find_mark.result found.within found.plain found.mark
