use Rattle.row_coder.proofs.tests.planned.Given as goal

abbrev pub ghosts-plan_row : goal.ghosts-plan_row
ghosts-plan_row a = record { name = a.blank.name; parts = a.blank.parts }
