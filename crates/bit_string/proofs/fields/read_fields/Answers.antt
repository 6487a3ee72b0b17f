use Rattle.std.proofs.Common.{◌+◌, Ok, Err, refl}
use Rattle.std.proofs.lemmas.Result.{err_from_is_err_and}
use Rattle.h265_model.specs.Fields.{read_fields}
use Rattle.bit_string.specs.declared.fields.Descriptor.TheVariants.{U}
use Rattle.bit_string.specs.declared.fields.Field.{Field}
use Rattle.bit_string.proofs.ReadLaws.{wide_at, fields_more, fields_fail}
use Rattle.bit_string.proofs.fields.read_fields.Goals as goal

abbrev none : Field
none = record { number = 0; coding = U 0; value = 0 }

pub loop-field-init : goal.loop-field-init
unfolding read_fields
loop-field-init c = refl

pub read_field-requires : goal.read_field-requires
read_field-requires c = wide_at c.args.fields.now c.loop-field.field-index none c.loop-field-test.true c.requires

pub returns-in_err-read_field : goal.returns-in_err-read_field
returns-in_err-read_field c =
    let p = err_from_is_err_and c.from_residual.result c.from_residual.ensures.1 in
    let fields = c.args.fields.now in
    let i = c.loop-field.field-index in
    let left = c.args.from.now.left in
    let n = c.in_err-read_field.field-0.0 in
    let front = fields_more fields i none left c.loop-field.from.left (Err n) c.loop-field-test.true c.loop-field.invariant c.in_err-read_field.ensures in
    rw (p.1, p.2) (fields_fail fields (i + 1) n left front)

pub loop-field-preserved : goal.loop-field-preserved
loop-field-preserved c =
    fields_more c.args.fields.now c.loop-field.field-index none c.args.from.now.left c.loop-field.from.left (Ok c.read_field.new.from.left) c.loop-field-test.true c.loop-field.invariant c.in_ok-read_field.ensures
