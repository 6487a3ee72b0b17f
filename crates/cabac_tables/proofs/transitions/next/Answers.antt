use Rattle.cabac_tables.proofs.Entries.{after}
use Rattle.cabac_tables.proofs.transitions.next.Goals as goal

pub returns-clause-value : goal.returns-clause-value
returns-clause-value c = (after c.args.state c.args.bin c.requires).is

pub returns-clause-below : goal.returns-clause-below
returns-clause-below c = (after c.args.state c.args.bin c.requires).below
