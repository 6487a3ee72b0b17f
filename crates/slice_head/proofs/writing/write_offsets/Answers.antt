use Rattle.std.proofs.Common.{◌-◌, ◌++◌, take, get_or, sym, ◌∙◌, ap, append_assoc}
use Rattle.std.proofs.lemmas.List.{append-nil}
use Rattle.h265_model.specs.Bits.{u}
use Rattle.h265_model.specs.Fields.{fields_bits}
use Rattle.slice_head.proofs.HeadLaws.{offset_fields, offsets_more}
use Rattle.slice_head.proofs.writing.write_offsets.Goals as goal

pub loop-offset-init : goal.loop-offset-init
unfolding fields_bits
loop-offset-init c = sym (append-nil c.args.out.now)

pub loop-offset-preserved : goal.loop-offset-preserved
loop-offset-preserved c =
    let offsets = c.args.offsets.now in
    let i = c.loop-offset.offset-index in
    let old = c.args.out.now in
    let front = fields_bits (offset_fields (take i offsets)) in
    let one = u 32 (get_or offsets i 0 - 1) in
    c.in_ok-put.ensures.ok ∙ ap (λ l. l ++ one) c.loop-offset.invariant ∙ append_assoc old front one ∙ ap (λ l. old ++ l) (sym (offsets_more offsets i c.loop-offset-test.true))
