use Rattle.cabac_tables.proofs.Entries.{are_contexts}
use Rattle.cabac_tables.proofs.contexts.Contexts.as_slice.Goals as goal

pub returns-clause-contexts : goal.returns-clause-contexts
returns-clause-contexts c = rw (← c.self.view_is) (are_contexts _ c.self.invariant)
