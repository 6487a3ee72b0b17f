use Rattle.benchmark.proofs.blocks.PlanningWork.round.Given as goal

abbrev pub ghosts-planned_in : goal.ghosts-planned_in
ghosts-planned_in a = record { name = a.blank.name; parts = a.blank.parts }
