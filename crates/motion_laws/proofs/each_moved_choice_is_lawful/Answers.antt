use Rattle.motion_laws.proofs.each_moved_choice_is_lawful.Goals as goal
use Rattle.motion_laws.proofs.MovedChoice.{choices_are_lawful}

pub returns : goal.returns
returns c = choices_are_lawful
