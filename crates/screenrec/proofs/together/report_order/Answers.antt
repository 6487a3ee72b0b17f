use Rattle.std.proofs.Common.{arith}
use Rattle.screenrec.proofs.TogetherLaws.{takes_twice, order_told, order_told_in_part}
use Rattle.screenrec.proofs.together.report_order.Goals as goal

pub overflow_mul-paints : goal.overflow_mul-paints
overflow_mul-paints g c =
    omega (arith, c.count_takes-pictures.ensures, takes_twice c.requires.short.scripts c.args.order.now c.requires.short.played, c.requires.short.short)

pub overflow_sub-paints : goal.overflow_sub-paints
overflow_sub-paints g c =
    omega (arith, c.count_takes-pictures.ensures, takes_twice c.requires.short.scripts c.args.order.now c.requires.short.played)

pub returns-in-Ok-clause-text : goal.returns-in-Ok-clause-text
returns-in-Ok-clause-text g c = λ scripts is.
    order_told (g.K.Sink.text c.args.report.now) (g.K.Sink.text c.write_report.new.report) scripts c.args.order.now c.args.written is
    (rw (← c.count_takes-pictures.ensures) c.in-Ok.ensures.text)

pub returns-in-Err-Failed-clause-text : goal.returns-in-Err-Failed-clause-text
returns-in-Err-Failed-clause-text g c = λ scripts is.
    order_told_in_part (g.K.Sink.text c.args.report.now) (g.K.Sink.text c.write_report.new.report) scripts c.args.order.now c.args.written is
    (rw (← c.count_takes-pictures.ensures) (rw c.in-Err-Failed.field-0-is at c.in-Err-Failed.ensures.text))
