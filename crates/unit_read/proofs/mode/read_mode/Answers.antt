use Rattle.std.proofs.Common.{◌∙◌, ap, Some, List, ℕ, get_or}
use Rattle.h265_model.specs.Modes.{mode_with}
use Rattle.unit_read.proofs.ModeReads.{mode_none, listed_none, listed_some, other_none, other_some, three_is}
use Rattle.unit_read.proofs.mode.read_mode.Goals as goal

pub returns-in_err-bin-clause-value : goal.returns-in_err-bin-clause-value
returns-in_err-bin-clause-value c = rw c.from_residual.ensures (mode_none c.args.candidates.now.items c.args.decoder.now c.in_err-bin.ensures.value)

pub returns-in_err-index-clause-value : goal.returns-in_err-index-clause-value
returns-in_err-index-clause-value c = rw c.from_residual-in_err-index.ensures (listed_none c.args.candidates.now.items c.args.decoder.now c.bin.new.self
    (c.in_ok-bin.ensures.value ∙ ap (λ b. Some (b, c.bin.new.self)) c.if-branch.true) c.in_err-index.ensures.value)

pub returns-then-branch-clause-value : goal.returns-then-branch-clause-value
returns-then-branch-clause-value c = listed_some c.args.candidates.now.items c.in_ok-index.index _ c.args.decoder.now c.bin.new.self c.read_index.new.decoder
    (c.in_ok-bin.ensures.value ∙ ap (λ b. Some (b, c.bin.new.self)) c.if-branch.true) c.in_ok-index.ensures.value (ap (λ (l : List ℕ). get_or l c.in_ok-index.index 0) c.deref.ensures.0)

pub returns-in_err-remainder-clause-value : goal.returns-in_err-remainder-clause-value
returns-in_err-remainder-clause-value c = rw c.from_residual-in_err-remainder.ensures (other_none c.args.candidates.now.items c.args.decoder.now c.bin.new.self
    (c.in_ok-bin.ensures.value ∙ ap (λ b. Some (b, c.bin.new.self)) c.if-branch.false) c.in_err-remainder.ensures.value)

pub returns-clause-value : goal.returns-clause-value
returns-clause-value c = other_some c.args.candidates.now.items c.in_ok-remainder.remainder c.mode_of.result c.args.decoder.now c.bin.new.self c.bypass.new.self
    (c.in_ok-bin.ensures.value ∙ ap (λ b. Some (b, c.bin.new.self)) c.if-branch.false) c.in_ok-remainder.ensures.value
    (c.mode_of.ensures.value ∙ ap (mode_with c.in_ok-remainder.remainder) (three_is c.args.candidates.now.items (get_or c.deref-2.result.now 0 0) (get_or c.deref-3.result.now 1 0) (get_or c.deref-4.result.now 2 0) c.requires.candidates
    (ap (λ (l : List ℕ). get_or l 0 0) c.deref-2.ensures.0) (ap (λ (l : List ℕ). get_or l 1 0) c.deref-3.ensures.0) (ap (λ (l : List ℕ). get_or l 2 0) c.deref-4.ensures.0)))
