use Rattle.screenrec.proofs.AloneLaws.{reported_whole, reported_in_part}
use Rattle.screenrec.proofs.alone.report_script.Goals as goal

pub returns-in-Ok-clause-text : goal.returns-in-Ok-clause-text
returns-in-Ok-clause-text g c =
    reported_whole (g.K.Sink.text c.args.report.now) (g.K.Sink.text c.write_report.new.report) c.args.script.now.lines c.args.written
    (rw (← c.cuts-cuts.ensures, ← c.lines.ensures.value) c.in-Ok.ensures.text)

pub returns-in-Err-Failed-clause-text : goal.returns-in-Err-Failed-clause-text
returns-in-Err-Failed-clause-text g c =
    reported_in_part (g.K.Sink.text c.args.report.now) (g.K.Sink.text c.write_report.new.report) c.args.script.now.lines c.args.written
    (rw (← c.cuts-cuts.ensures, ← c.lines.ensures.value) (rw c.in-Err-Failed.field-0-is at c.in-Err-Failed.ensures.text))
