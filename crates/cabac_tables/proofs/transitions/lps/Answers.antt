use Rattle.cabac_tables.proofs.Entries.{share}
use Rattle.cabac_tables.proofs.transitions.lps.Goals as goal

pub returns-clause-value : goal.returns-clause-value
returns-clause-value c = (share c.args.state c.args.quarter c.requires.state c.requires.quarter).is

pub returns-clause-from : goal.returns-clause-from
returns-clause-from c = (share c.args.state c.args.quarter c.requires.state c.requires.quarter).from

pub returns-clause-to : goal.returns-clause-to
returns-clause-to c = (share c.args.state c.args.quarter c.requires.state c.requires.quarter).to
