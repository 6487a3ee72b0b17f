use Rattle.picture_encoder.proofs.planning.plan_row_alone.Given as goal

abbrev pub ghosts-plan_row_in : goal.ghosts-plan_row_in
ghosts-plan_row_in a = record { name = a.blank.name; parts = a.blank.parts }
