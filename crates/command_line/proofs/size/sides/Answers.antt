use Rattle.std.proofs.Common.{lit<, Some, None}
use Rattle.std.proofs.lemmas.Str.Pattern.{split_once_first}
use Rattle.command_line.proofs.Sides.{no_x, one_x, two_x}
use Rattle.command_line.proofs.size.sides.Goals as goal

pub returns-in_err-w : goal.returns-in_err-w
returns-in_err-w c =
    rw c.from_residual.ensures (no_x c.args.word.now (split_once_first 120 c.args.word.now None c.in_err-w.ensures.cases (lit< tt)))

pub returns-in-Some : goal.returns-in-Some
returns-in-Some c =
    two_x c.args.word.now c.in_ok-w.w.now c.in_ok-w.h.now c.in-Some.field-0.0.now c.in-Some.field-0.1.now
    (split_once_first 120 c.args.word.now (Some (c.in_ok-w.w, c.in_ok-w.h)) c.in_ok-w.ensures.cases (lit< tt))
    (split_once_first 120 c.in_ok-w.h.now (Some c.in-Some.field-0) c.in-Some.ensures.cases (lit< tt))

pub returns-in-None : goal.returns-in-None
returns-in-None c =
    one_x c.args.word.now c.in_ok-w.w.now c.in_ok-w.h.now
    (split_once_first 120 c.args.word.now (Some (c.in_ok-w.w, c.in_ok-w.h)) c.in_ok-w.ensures.cases (lit< tt))
    (split_once_first 120 c.in_ok-w.h.now None c.in-None.ensures.cases (lit< tt))
