use Rattle.std.proofs.Common.{◌≡◌, List, Bool, ◌++◌, ◌∙◌, ap, subst}
use Rattle.std.specs.Prelude.{IfOk}
use Rattle.h265_model.specs.Bits.{bytes}
use Rattle.h265_model.specs.Fields.{fields_bits, aligned_bits}
use Rattle.bit_string.specs.Tables.{fields_of}
use Rattle.bit_string.proofs.TableLaws.{tables-two}
use Rattle.slice_head.specs.Answers.{dependent_front, address_fields}
use Rattle.slice_head.proofs.SegmentLaws.{first_bits, later_bits}
use Rattle.slice_head.proofs.segment.write_segment_head.Goals as goal

pub returns-then-address-eq0 : goal.returns-then-address-eq0
returns-then-address-eq0 c =
    let P : List Bool → Type 0 = λ l. IfOk c.write_head.result (λ head. head.items ≡ bytes l) in
    subst P (first_bits c.args.idr c.args.poc c.args.address c.args.ctus c.from_vec-offsets.result c.if-address-eq0.true (c.from_vec-offsets.ensures ∙ c.new.ensures.items)) c.write_head.ensures

pub returns : goal.returns
returns c =
    let front = dependent_front c.args.idr in
    let last = address_fields c.args.address c.args.ctus in
    let one : c.write_fields.new.out ≡ fields_bits front =
    c.in_ok-write_fields.ensures ∙ ap (λ l. l ++ fields_bits (fields_of c.dependent_front.result.now)) c.new-out.ensures ∙ ap fields_bits c.dependent_front.ensures.fields in
    let two = tables-two front last c.write_fields.new.out c.write_address.new.out one c.in_ok-write_address.ensures in
    c.into_bytes.ensures ∙ ap bytes c.in_ok-align_one.ensures.ok ∙ ap (λ bits. bytes (aligned_bits bits)) two ∙ ap bytes (later_bits c.args.idr c.args.poc c.args.address c.args.ctus c.if-address-eq0.false)
