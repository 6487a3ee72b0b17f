use Rattle.screenrec.proofs.StoredLaws.{spellable_at}
use Rattle.screenrec.proofs.stream_file.line_at.Goals as goal

pub returns-clause-spellable : goal.returns-clause-spellable
returns-clause-spellable c = spellable_at c.args.script.now.lines c.args.index c.in-Some.line.now c.requires.spellable c.in-Some.ensures
