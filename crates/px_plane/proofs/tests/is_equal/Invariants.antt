use Rattle.px_plane.proofs.tests.is_equal.Given as goal

abbrev pub ghosts-is_block_equal : goal.ghosts-is_block_equal
ghosts-is_block_equal a = record { name = a.blank.name; parts = a.blank.parts }
