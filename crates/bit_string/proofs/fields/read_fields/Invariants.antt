use Rattle.std.proofs.Common.{◌≡◌, take, Ok}
use Rattle.h265_model.specs.Fields.{read_fields}
use Rattle.bit_string.specs.Tables.{fields_of}
use Rattle.bit_string.proofs.fields.read_fields.Given as goal

abbrev pub invariant-loop-field : goal.invariant-loop-field
invariant-loop-field l = read_fields (fields_of (take l.field-index l.fields)) l.initial.from.left ≡ Ok l.from.left
