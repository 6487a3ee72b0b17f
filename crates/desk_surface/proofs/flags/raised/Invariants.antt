use Rattle.std.proofs.Common.{◌≡◌}
use Rattle.desk_surface.specs.Damage.{raised}
use Rattle.desk_surface.proofs.flags.raised.Given as goal

abbrev pub invariant-loop-tile : goal.invariant-loop-tile
invariant-loop-tile l = l.tiles.items ≡ raised l.flags l.tile
