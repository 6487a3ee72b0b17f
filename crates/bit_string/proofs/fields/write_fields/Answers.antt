use Rattle.std.proofs.Common.{◌++◌, take, get_or, sym, ◌∙◌, ap, append_assoc}
use Rattle.std.proofs.lemmas.List.{append-nil}
use Rattle.h265_model.specs.Fields.{fields_bits, element_bits}
use Rattle.bit_string.specs.declared.fields.Descriptor.TheVariants.{U}
use Rattle.bit_string.specs.declared.fields.Field.{Field}
use Rattle.bit_string.specs.Tables.{field_of, fields_of}
use Rattle.bit_string.proofs.TableLaws.{writable_at, bits_more}
use Rattle.bit_string.proofs.fields.write_fields.Goals as goal

abbrev none : Field
none = record { number = 0; coding = U 0; value = 0 }

pub loop-field-init : goal.loop-field-init
unfolding fields_bits
loop-field-init c = sym (append-nil c.args.out.now)

pub write_field-requires : goal.write_field-requires
write_field-requires c = writable_at c.args.fields.now c.loop-field.field-index none c.loop-field-test.true c.requires

pub loop-field-preserved : goal.loop-field-preserved
loop-field-preserved c =
    let fields = c.args.fields.now in
    let i = c.loop-field.field-index in
    let more = bits_more fields i none c.loop-field-test.true in
    let f = field_of (get_or fields i none) in
    let bits = element_bits f.coding f.value in
    let written = fields_bits (fields_of (take i fields)) in
    c.in_ok-write_field.ensures
    ∙ ap (λ l. l ++ bits) c.loop-field.invariant
    ∙ append_assoc c.args.out.now written bits
    ∙ ap (λ l. c.args.out.now ++ l) (sym more)
