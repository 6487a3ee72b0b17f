use Rattle.picture_encoder.proofs.planning.plan_picture.Given as goal

abbrev pub ghosts-plan_in : goal.ghosts-plan_in
ghosts-plan_in a = record { name = a.blank.name; parts = a.blank.parts }
