use Rattle.std.proofs.Common.{◌≡◌, ◌++◌, ◌∙◌, ap}
use Rattle.h265_model.specs.Bits.{bytes}
use Rattle.h265_model.specs.Fields.{fields_bits, aligned_bits}
use Rattle.h265_model.specs.ParamSets.{sps_front, profile_tier_level, sps_formats, size_fields, sps_back}
use Rattle.bit_string.proofs.TableLaws.{tables-two}
use Rattle.param_sets.proofs.writing.sps.Goals as goal

pub returns : goal.returns
unfolding sps_front profile_tier_level sps_formats sps_back
returns c =
    let size = size_fields c.args.size in
    let front : c.write_fields.new.out ≡ fields_bits sps_front = c.in_ok-write_fields.ensures ∙ ap (λ l. l ++ fields_bits sps_front) c.new-out.ensures in
    let middle = tables-two sps_front size c.write_fields.new.out c.write_size.new.out front c.in_ok-write_size.ensures in
    let fields = tables-two (sps_front ++ size) sps_back c.write_size.new.out c.write_fields-2.new.out middle c.in_ok-write_fields-2.ensures in
    c.into_bytes.ensures ∙ ap bytes c.in_ok-align_one.ensures.ok ∙ ap (λ bits. bytes (aligned_bits bits)) fields
