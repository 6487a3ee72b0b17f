use Rattle.h265_laws.proofs.each_choice_is_lawful.Goals as goal
use Rattle.h265_laws.proofs.ChoiceLaw.{choice_is_lawful}

pub returns : goal.returns
returns c = choice_is_lawful
