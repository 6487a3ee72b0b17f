use Rattle.std.proofs.Common.{◌≡◌, ◌++◌, length, sym, ◌∙◌, ap, append_assoc}
use Rattle.std.proofs.lemmas.Result.{on_ok_weaker}
use Rattle.h265_model.specs.Bits.{ue}
use Rattle.h265_model.specs.Fields.{fields_bits}
use Rattle.slice_head.proofs.HeadLaws.{offset_fields, no_entries, some_entries}
use Rattle.slice_head.proofs.writing.write_entry_points.Goals as goal

pub returns-then-is_empty : goal.returns-then-is_empty
returns-then-is_empty c =
    let old = c.args.out.now in
    c.in_ok-ue.ensures.ok ∙ ap (λ l. old ++ l) (no_entries c.args.offsets.now (sym c.is_empty.ensures ∙ c.if-is_empty.true))

pub returns : goal.returns
returns c =
    let old = c.args.out.now in
    let offsets = c.args.offsets.now in
    let count = ue (length offsets) in
    let last = fields_bits (offset_fields offsets) in
    let written = λ (is : c.write_offsets.new.out ≡ c.ue-2.new.self ++ last).
    is ∙ ap (λ l. l ++ last) (c.in_ok-ue-2.ensures.ok ∙ ap (λ l. l ++ ue 31) c.in_ok-ue.ensures.ok ∙ append_assoc old count (ue 31))
    ∙ append_assoc old (count ++ ue 31) last
    ∙ ap (λ l. old ++ l) (append_assoc count (ue 31) last ∙ some_entries offsets (sym c.is_empty.ensures ∙ c.if-is_empty.false)) in
    on_ok_weaker c.write_offsets.result written c.write_offsets.ensures
