-- The tables of the code as those of the definitions.
use Rattle.std.specs.Prelude.{ℕ, ◌^◌, Bool, true, ◌&&◌, List, map, nat_lt, nat_le}
use Rattle.std.specs.List.{list_all}
use Rattle.h265_model.specs.Fields as model
use Rattle.bit_string.specs.declared.fields.Descriptor.{Descriptor}
use Rattle.bit_string.specs.declared.fields.Descriptor.TheVariants.{U, Ue}
use Rattle.bit_string.specs.declared.fields.Field.{Field}

abbrev pub descriptor_of : Descriptor → model.Descriptor
descriptor_of (U n) = model.U n
descriptor_of Ue = model.Ue

abbrev pub field_of : Field → model.Field
field_of f = record { number = f.number; coding = descriptor_of f.coding; value = f.value }

abbrev pub fields_of : List Field → List model.Field
fields_of fields = map field_of fields

-- a width of at least one bit, and a value that its descriptor can spell
abbrev pub can_spell : model.Descriptor → ℕ → Bool
can_spell (model.U n) v = nat_lt 0 n && nat_le n 64 && nat_lt v (2 ^ n)
can_spell model.Ue v = nat_lt v 4294967295

abbrev pub is_writable : model.Field → Bool
is_writable f = can_spell f.coding f.value

abbrev pub all_writable : List model.Field → Bool
all_writable fields = list_all is_writable fields

-- widths that a reader takes
abbrev pub is_wide : model.Descriptor → Bool
is_wide (model.U n) = nat_le n 64
is_wide model.Ue = true

abbrev pub all_wide : List model.Field → Bool
all_wide fields = list_all (λ f. is_wide f.coding) fields
