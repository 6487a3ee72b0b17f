use Rattle.std.proofs.Common.{◌∙◌, sym}
use Rattle.h265_model.specs.Plain.{ctu_x, ctu_y}
use Rattle.unit_read.specs.Units.{AreTaken}
use Rattle.tree_read.proofs.FlaggedReads.{flagged_none, flag_none, flag_other, flag_same}
use Rattle.tree_read.proofs.flagged.read_flagged.Goals as goal

pub returns-in_err-read_ctu-clause-read : goal.returns-in_err-read_ctu-clause-read
returns-in_err-read_ctu-clause-read g c = λ before are. rw c.from_residual.ensures (flagged_none c.args.kind c.args.size before c.args.ctu c.args.ends c.args.decoder.now (c.in_err-read_ctu.ensures.read before are))

pub returns-in_err-flag-clause-read : goal.returns-in_err-flag-clause-read
returns-in_err-flag-clause-read g c = λ before are. rw c.from_residual-in_err-flag.ensures (flag_none c.args.kind c.args.size before c.args.ctu c.args.ends c.args.decoder.now c.read_ctu.new.decoder
    (AreTaken (g.S.LeafSink.stands_for c.args.sink.now) (g.S.LeafSink.stands_for c.read_ctu.new.sink) c.args.size (ctu_x c.args.size c.args.ctu) (ctu_y c.args.size c.args.ctu) c.read_ctu.new.grid c.read_ctu.new.motion before) (c.in_ok-read_ctu.ensures.read before are) c.in_err-flag.ensures.value)

pub returns-then-not-is_same-clause-read : goal.returns-then-not-is_same-clause-read
returns-then-not-is_same-clause-read g c = λ before are. flag_other c.args.kind c.args.size before c.args.ctu c.args.ends c.in_ok-flag.flag c.args.decoder.now c.read_ctu.new.decoder c.bin.new.self
    (AreTaken (g.S.LeafSink.stands_for c.args.sink.now) (g.S.LeafSink.stands_for c.read_ctu.new.sink) c.args.size (ctu_x c.args.size c.args.ctu) (ctu_y c.args.size c.args.ctu) c.read_ctu.new.grid c.read_ctu.new.motion before) (c.in_ok-read_ctu.ensures.read before are) c.in_ok-flag.ensures.value (sym c.is_same.ensures ∙ c.if-not-is_same.true)

pub returns-clause-read : goal.returns-clause-read
returns-clause-read g c = λ before are. flag_same c.args.kind c.args.size before c.args.ctu c.args.ends c.in_ok-flag.flag c.contexts-contexts.result c.args.decoder.now c.read_ctu.new.decoder c.bin.new.self
    (AreTaken (g.S.LeafSink.stands_for c.args.sink.now) (g.S.LeafSink.stands_for c.read_ctu.new.sink) c.args.size (ctu_x c.args.size c.args.ctu) (ctu_y c.args.size c.args.ctu) c.read_ctu.new.grid c.read_ctu.new.motion before) (c.in_ok-read_ctu.ensures.read before are) c.in_ok-flag.ensures.value (sym c.is_same.ensures ∙ c.if-not-is_same.false) c.contexts-contexts.ensures
