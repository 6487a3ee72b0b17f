-- A row hands on contexts.
use Rattle.std.specs.Prelude.{ℕ, List, Option, Some, None, IfSome}
use Rattle.h265_model.specs.Plain.{ctus}
use Rattle.h265_model.specs.Contexts.{AreContexts}
use Rattle.h265_model.proofs.ContextLaws.{start_is}
use Rattle.h265_laws.proofs.ContextsLaw.{after_is, row_start_is}
use Rattle.row_core.specs.Plan.{HandsOn}
use Rattle.row_coder.specs.Rows.{Row, first_contexts, plan_of}

first_are : (r : Row) (inherited : Option (List ℕ)) → IfSome inherited AreContexts → AreContexts (first_contexts r.kind (ctus r.planes.size.w) r.number inherited)
first_are r None are = start_is r.kind
first_are r (Some contexts) are = row_start_is r.kind (ctus r.planes.size.w) r.number contexts are

pub hands_on_contexts : (r : Row) → HandsOn (plan_of r)
unfolding plan_of
hands_on_contexts r inherited are = after_is _ (first_contexts r.kind (ctus r.planes.size.w) r.number inherited) (first_are r inherited are)
