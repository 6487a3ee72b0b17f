use Rattle.std.proofs.Common.{◌≡◌, map}
use Rattle.h265_model.specs.Plain.{below}
use Rattle.screen_gen.specs.Generated.{client_script}
use Rattle.screen_gen.proofs.scripts.generate.Given as goal

-- the scripts of the clients so far
abbrev pub invariant-loop-client : goal.invariant-loop-client
invariant-loop-client l = l.scripts ≡ map (client_script l.fn.number) (below l.client)
