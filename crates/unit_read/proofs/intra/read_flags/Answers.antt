use Rattle.std.proofs.Common.{◌∙◌, ap, Some}
use Rattle.unit_read.proofs.IntraReads.{chroma_none, chroma_other, cb_none, cr_none, luma_none, flags_all}
use Rattle.unit_read.proofs.intra.read_flags.Goals as goal

pub returns-in_err-bin-clause-value : goal.returns-in_err-bin-clause-value
returns-in_err-bin-clause-value c = rw c.from_residual.ensures (chroma_none c.args.decoder.now c.in_err-bin.ensures.value)

pub returns-then-branch-clause-value : goal.returns-then-branch-clause-value
returns-then-branch-clause-value c = chroma_other c.args.decoder.now c.bin.new.self (c.in_ok-bin.ensures.value ∙ ap (λ b. Some (b, c.bin.new.self)) c.if-branch.true)

pub returns-in_err-cb-clause-value : goal.returns-in_err-cb-clause-value
returns-in_err-cb-clause-value c = rw c.from_residual-in_err-cb.ensures (cb_none c.args.decoder.now c.bin.new.self (c.in_ok-bin.ensures.value ∙ ap (λ b. Some (b, c.bin.new.self)) c.if-branch.false) c.in_err-cb.ensures.value)

pub returns-in_err-cr-clause-value : goal.returns-in_err-cr-clause-value
returns-in_err-cr-clause-value c = rw c.from_residual-in_err-cr.ensures (cr_none c.args.decoder.now c.bin.new.self c.bin-2.new.self c.in_ok-cb.cb (c.in_ok-bin.ensures.value ∙ ap (λ b. Some (b, c.bin.new.self)) c.if-branch.false) c.in_ok-cb.ensures.value c.in_err-cr.ensures.value)

pub returns-in_err-luma-clause-value : goal.returns-in_err-luma-clause-value
returns-in_err-luma-clause-value c = rw c.from_residual-in_err-luma.ensures (luma_none c.args.decoder.now c.bin.new.self c.bin-2.new.self c.bin-3.new.self c.in_ok-cb.cb c.in_ok-cr.cr (c.in_ok-bin.ensures.value ∙ ap (λ b. Some (b, c.bin.new.self)) c.if-branch.false) c.in_ok-cb.ensures.value c.in_ok-cr.ensures.value c.in_err-luma.ensures.value)

pub returns-clause-value : goal.returns-clause-value
returns-clause-value c = flags_all c.args.decoder.now c.bin.new.self c.bin-2.new.self c.bin-3.new.self c.bin-4.new.self c.in_ok-cb.cb c.in_ok-cr.cr c.in_ok-luma.luma (c.in_ok-bin.ensures.value ∙ ap (λ b. Some (b, c.bin.new.self)) c.if-branch.false) c.in_ok-cb.ensures.value c.in_ok-cr.ensures.value c.in_ok-luma.ensures.value
