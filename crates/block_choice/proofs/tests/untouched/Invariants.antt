use Rattle.block_choice.proofs.tests.untouched.Given as goal

abbrev pub ghosts-plan_untouched : goal.ghosts-plan_untouched
ghosts-plan_untouched a = record { name = a.blank.name; parts = a.blank.parts }
