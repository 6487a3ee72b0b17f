use Rattle.std.proofs.Common.{◌≡◌, ◌++◌, ◌∷◌, [], List, ◌∙◌, ap}
use Rattle.h265_model.specs.Bits.{bytes}
use Rattle.h265_model.specs.Fields.{Field, fixed, fields_bits, aligned_bits}
use Rattle.h265_model.specs.ParamSets.{pps_front, pps_back, pps_fields, flag}
use Rattle.bit_string.proofs.TableLaws.{tables-two}
use Rattle.param_sets.proofs.writing.pps.Goals as goal

pub returns : goal.returns
unfolding pps_fields
returns c =
    let one : List Field = fixed 3 1 (flag c.args.segments) ∷ [] in
    let front : c.write_fields.new.out ≡ fields_bits pps_front = c.in_ok-write_fields.ensures ∙ ap (λ l. l ++ fields_bits pps_front) c.new-out.ensures in
    let middle = tables-two pps_front one c.write_fields.new.out c.write_flag.new.out front c.in_ok-write_flag.ensures in
    let fields = tables-two (pps_front ++ one) pps_back c.write_flag.new.out c.write_fields-2.new.out middle c.in_ok-write_fields-2.ensures in
    c.into_bytes.ensures ∙ ap bytes c.in_ok-align_one.ensures.ok ∙ ap (λ bits. bytes (aligned_bits bits)) fields
