use Rattle.std.proofs.Common.{◌≡◌, ◌++◌, take}
use Rattle.h265_model.specs.Fields.{fields_bits}
use Rattle.bit_string.specs.Tables.{fields_of}
use Rattle.bit_string.proofs.fields.write_fields.Given as goal

abbrev pub invariant-loop-field : goal.invariant-loop-field
invariant-loop-field l = l.out ≡ l.initial.out ++ fields_bits (fields_of (take l.field-index l.fields))
