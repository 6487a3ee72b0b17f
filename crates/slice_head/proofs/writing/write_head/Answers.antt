use Rattle.std.proofs.Common.{◌≡◌, ◌++◌, ◌∙◌, ap}
use Rattle.h265_model.specs.Bits.{bytes}
use Rattle.h265_model.specs.Fields.{fields_bits, aligned_bits}
use Rattle.h265_model.specs.SliceHead.{Head, head_front, poc_fields, head_middle, entry_points, head_bits}
use Rattle.bit_string.specs.Tables.{fields_of}
use Rattle.bit_string.proofs.TableLaws.{tables-two}
use Rattle.slice_head.proofs.writing.write_head.Goals as goal

pub returns : goal.returns
unfolding head_bits
returns c =
    let h = c.head.inside in
    let a = head_front h.idr in
    let b = poc_fields h.idr h.poc in
    let d = head_middle h.idr in
    let e = entry_points h.offsets in
    let one : c.write_fields.new.out ≡ fields_bits a =
    c.in_ok-write_fields.ensures ∙ ap (λ l. l ++ fields_bits (fields_of c.front.result.now)) c.new-out.ensures ∙ ap fields_bits c.front.ensures.fields in
    let two = tables-two a b c.write_fields.new.out c.write_poc.new.out one c.in_ok-write_poc.ensures in
    let three = tables-two (a ++ b) d c.write_poc.new.out c.write_fields-2.new.out two
    (c.in_ok-write_fields-2.ensures ∙ ap (λ fs. c.write_poc.new.out ++ fields_bits fs) c.middle.ensures.fields) in
    let four = tables-two (a ++ b ++ d) e c.write_fields-2.new.out c.write_entry_points.new.out three
    (c.in_ok-write_entry_points.ensures ∙ ap (λ l. c.write_fields-2.new.out ++ fields_bits (entry_points l)) c.as_slice.ensures) in
    c.into_bytes.ensures ∙ ap bytes c.in_ok-align_one.ensures.ok ∙ ap (λ bits. bytes (aligned_bits bits)) four ∙ ap (λ (h : Head). bytes (head_bits h)) c.head.view_is
