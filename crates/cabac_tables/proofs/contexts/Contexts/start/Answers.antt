use Rattle.std.proofs.Common.{◌∙◌, sym, ap}
use Rattle.h265_model.specs.Contexts.{start}
use Rattle.cabac_tables.proofs.Entries.{states_I, states_P, start_I, start_P}
use Rattle.cabac_tables.proofs.contexts.Contexts.start.Goals as goal

pub invariant_of-t-2 : goal.invariant_of-t-2
invariant_of-t-2 c = states_I

pub invariant_of-result : goal.invariant_of-result
invariant_of-result c = states_P

pub returns-in-I : goal.returns-in-I
returns-in-I c = start_I ∙ ap start (sym c.in-I.is)

pub returns-in-P : goal.returns-in-P
returns-in-P c = start_P ∙ ap start (sym c.in-P.is)
