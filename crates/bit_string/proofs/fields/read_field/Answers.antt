use Rattle.std.proofs.Common.{◌∙◌}
use Rattle.bit_string.specs.Tables.{field_of}
use Rattle.bit_string.proofs.ReadLaws.{one_read, one_differs, one_ends}
use Rattle.bit_string.proofs.fields.read_field.Goals as goal

pub returns-in-Some : goal.returns-in-Some
returns-in-Some c =
    one_read (field_of c.args.field) c.in-Some.value c.args.from.now.left c.read_element.new.from.left c.in-Some.ensures (c.if-value-from.true ∙ c.from.ensures)

pub returns-in_default : goal.returns-in_default
returns-in_default c =
    one_differs (field_of c.args.field) c.in-Some.value c.args.from.now.left c.read_element.new.from.left c.in-Some.ensures (rw c.from.ensures at c.if-value-from.false)

pub returns-in_default-2 : goal.returns-in_default-2
returns-in_default-2 c = one_ends (field_of c.args.field) c.args.from.now.left c.in_default.ensures
