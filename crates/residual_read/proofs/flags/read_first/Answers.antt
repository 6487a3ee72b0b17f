use Rattle.std.proofs.Common.{◌≡◌, ◌∙◌, ap, ◌*◌, ◌+◌, arith}
use Rattle.residual_read.specs.Parts.{shape_of, sub_of, mask_read}
use Rattle.residual_read.proofs.Steps.{mask_more, mask_none, mask_full}
use Rattle.residual_read.proofs.flags.read_first.Goals as goal

pub returns-then-left-eq0-clause-value : goal.returns-then-left-eq0-clause-value
returns-then-left-eq0-clause-value c = mask_full (shape_of c.args.shape) (sub_of c.args.sub) c.args.inner c.args.flags c.args.left c.args.decoder.now (omega arith)

pub returns-in_err-flag-clause-value : goal.returns-in_err-flag-clause-value
returns-in_err-flag-clause-value c =
    let one : c.args.left ≡ 1 = omega arith in
    rw c.from_residual.ensures (ap (λ k. mask_read (shape_of c.args.shape) (sub_of c.args.sub) c.args.inner c.args.flags k c.args.decoder.now) one
    ∙ mask_none (shape_of c.args.shape) (sub_of c.args.sub) c.args.inner c.args.flags 1 c.args.decoder.now (omega arith) c.in_err-flag.ensures.value)

pub returns-clause-value : goal.returns-clause-value
returns-clause-value c =
    let one : c.args.left ≡ 1 = omega arith in
    ap (λ k. mask_read (shape_of c.args.shape) (sub_of c.args.sub) c.args.inner c.args.flags k c.args.decoder.now) one
    ∙ mask_more (shape_of c.args.shape) (sub_of c.args.sub) c.args.inner c.args.flags 1 c.from.result c.in_ok-flag.flag c.args.decoder.now c.next_flag.new.decoder (omega arith) c.from.ensures c.in_ok-flag.ensures.value
    ∙ mask_full (shape_of c.args.shape) (sub_of c.args.sub) c.args.inner (2 * c.args.flags + c.from.result) 0 c.next_flag.new.decoder (omega arith)
