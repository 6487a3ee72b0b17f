use Rattle.std.proofs.Common.{sym, ◌∙◌}
use Rattle.command_line.proofs.Rows.{no_words, of_record, of_serial, of_demo, of_decode, of_hash, of_segments, of_moves, of_none}
use Rattle.command_line.proofs.read.read_words.Goals as goal

pub returns-in_err-command-clause-row : goal.returns-in_err-command-clause-row
returns-in_err-command-clause-row c = rw c.from_residual.ensures (no_words c.args.words.now c.in_err-command.ensures.cases)

pub returns-then-eq-clause-row : goal.returns-then-eq-clause-row
returns-then-eq-clause-row c =
    of_record c.args.words.now c.in_ok-command.words.now c.in_ok-command.command.now c.in_ok-command.ensures.cases.0 _
    (sym c.eq.ensures ∙ c.if-eq.true) c.record_words.ensures.row

pub returns-then-eq-2-clause-row : goal.returns-then-eq-2-clause-row
returns-then-eq-2-clause-row c =
    of_serial c.args.words.now c.in_ok-command.words.now c.in_ok-command.command.now c.in_ok-command.ensures.cases.0 _
    (sym c.eq.ensures ∙ c.if-eq.false) (sym c.eq-else-eq.ensures ∙ c.if-eq-2.true) c.serial_words.ensures.row

pub returns-then-eq-3-clause-row : goal.returns-then-eq-3-clause-row
returns-then-eq-3-clause-row c =
    of_demo c.args.words.now c.in_ok-command.words.now c.in_ok-command.command.now c.in_ok-command.ensures.cases.0 _
    (sym c.eq.ensures ∙ c.if-eq.false) (sym c.eq-else-eq.ensures ∙ c.if-eq-2.false) (sym c.eq-else-eq-2.ensures ∙ c.if-eq-3.true) c.demo_words.ensures.row

pub returns-then-eq-4-clause-row : goal.returns-then-eq-4-clause-row
returns-then-eq-4-clause-row c =
    of_decode c.args.words.now c.in_ok-command.words.now c.in_ok-command.command.now c.in_ok-command.ensures.cases.0 _
    (sym c.eq.ensures ∙ c.if-eq.false) (sym c.eq-else-eq.ensures ∙ c.if-eq-2.false) (sym c.eq-else-eq-2.ensures ∙ c.if-eq-3.false)
    (sym c.eq-else-eq-3.ensures ∙ c.if-eq-4.true) c.decode_words.ensures.row

pub returns-then-eq-5-clause-row : goal.returns-then-eq-5-clause-row
returns-then-eq-5-clause-row c =
    of_hash c.args.words.now c.in_ok-command.words.now c.in_ok-command.command.now c.in_ok-command.ensures.cases.0 _
    (sym c.eq.ensures ∙ c.if-eq.false) (sym c.eq-else-eq.ensures ∙ c.if-eq-2.false) (sym c.eq-else-eq-2.ensures ∙ c.if-eq-3.false)
    (sym c.eq-else-eq-3.ensures ∙ c.if-eq-4.false) (sym c.eq-else-eq-4.ensures ∙ c.if-eq-5.true) c.hash_words.ensures.row

pub returns-then-eq-6-clause-row : goal.returns-then-eq-6-clause-row
returns-then-eq-6-clause-row c =
    of_segments c.args.words.now c.in_ok-command.words.now c.in_ok-command.command.now c.in_ok-command.ensures.cases.0 _
    (sym c.eq.ensures ∙ c.if-eq.false) (sym c.eq-else-eq.ensures ∙ c.if-eq-2.false) (sym c.eq-else-eq-2.ensures ∙ c.if-eq-3.false)
    (sym c.eq-else-eq-3.ensures ∙ c.if-eq-4.false) (sym c.eq-else-eq-4.ensures ∙ c.if-eq-5.false) (sym c.eq-else-eq-5.ensures ∙ c.if-eq-6.true) c.segments_words.ensures.row

pub returns-then-eq-7-clause-row : goal.returns-then-eq-7-clause-row
returns-then-eq-7-clause-row c =
    of_moves c.args.words.now c.in_ok-command.words.now c.in_ok-command.command.now c.in_ok-command.ensures.cases.0 _
    (sym c.eq.ensures ∙ c.if-eq.false) (sym c.eq-else-eq.ensures ∙ c.if-eq-2.false) (sym c.eq-else-eq-2.ensures ∙ c.if-eq-3.false)
    (sym c.eq-else-eq-3.ensures ∙ c.if-eq-4.false) (sym c.eq-else-eq-4.ensures ∙ c.if-eq-5.false) (sym c.eq-else-eq-5.ensures ∙ c.if-eq-6.false)
    (sym c.eq-else-eq-6.ensures ∙ c.if-eq-7.true) c.moves_words.ensures.row

pub returns-else-eq-7-clause-row : goal.returns-else-eq-7-clause-row
returns-else-eq-7-clause-row c =
    of_none c.args.words.now c.in_ok-command.words.now c.in_ok-command.command.now c.in_ok-command.ensures.cases.0
    (sym c.eq.ensures ∙ c.if-eq.false) (sym c.eq-else-eq.ensures ∙ c.if-eq-2.false) (sym c.eq-else-eq-2.ensures ∙ c.if-eq-3.false)
    (sym c.eq-else-eq-3.ensures ∙ c.if-eq-4.false) (sym c.eq-else-eq-4.ensures ∙ c.if-eq-5.false) (sym c.eq-else-eq-5.ensures ∙ c.if-eq-6.false)
    (sym c.eq-else-eq-6.ensures ∙ c.if-eq-7.false)
