use Rattle.h265_laws.proofs.each_escape_is_undone.Goals as goal
use Rattle.h265_model.proofs.SyntaxLaws.{escape_is_undone}

pub returns : goal.returns
returns c = escape_is_undone
