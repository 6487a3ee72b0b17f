use Rattle.std.proofs.Common.{◌≡◌}
use Rattle.screen_gen.specs.Generated.{colours, state_after}
use Rattle.screen_gen.proofs.draw.draw_pixels.Given as goal

-- the colours of as many words as turns
abbrev pub invariant-loop : goal.invariant-loop
invariant-loop l = (l.pixels.items ≡ colours l.initial.random l.counter) × (l.random ≡ state_after l.initial.random l.counter)
