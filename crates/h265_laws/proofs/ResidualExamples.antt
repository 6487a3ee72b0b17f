-- Small residuals, computed.
use Rattle.std.proofs.Common.{◌≡◌, refl, ℕ, zero, suc, List, [], ◌∷◌, ◌++◌, true, false, replicate}
use Rattle.std.specs.Prelude.{Option, Some, ℤ, pos, negsuc}
use Rattle.h265_model.specs.declared.Item.{Item}
use Rattle.h265_model.specs.declared.leaf.SliceKind.TheVariants.{I}
use Rattle.h265_model.specs.Plain.{context_bin, bypass_bin, terminate_bin}
use Rattle.h265_model.specs.Contexts.{start, lps_range, next}
use Rattle.h265_model.specs.declared.Place.TheVariants.{Terminate}
use Rattle.h265_model.specs.Engine as Engine
use Rattle.h265_model.specs.Engine.{doublings, renormalised, bin, context_read, bypass_read, terminate_read}
use Rattle.h265_model.specs.Code.{code, closing, put_bin}
use Rattle.h265_model.specs.Residual.{Shape, scan, residual_items, residual_read, cbf, in_coding_order, in_rows, last_context, sig_context, sub_block_context, greater1_context, greater2_context}
use Rattle.h265_model.specs.Bits.{bits as bits_of, ◌>>=◌ as and_then, u, digits_up_to, value_after, read_u, read_alignment}

abbrev c : ℕ → ℕ → Item
c zero n = context_bin false n
c (suc b) n = context_bin true n

abbrev b : ℕ → Item
b zero = bypass_bin false
b (suc n) = bypass_bin true

abbrev at_3_4 : List ℤ
at_3_4 = replicate 35 (pos 0) ++ negsuc 0 ∷ replicate 28 (pos 0)

abbrev shape_1 : Shape
shape_1 = record { component = 0; log2 = 3; scan = 1 }

abbrev row_of_flags : List Item
row_of_flags = c 0 68 ∷ c 0 68 ∷ c 0 69 ∷ c 0 70 ∷ []

abbrev at_3_4_items : List Item
at_3_4_items =
    (c 1 16 ∷ c 1 16 ∷ c 1 17 ∷ c 0 17 ∷ [])
    ++ (c 1 34 ∷ c 1 34 ∷ c 1 35 ∷ c 1 35 ∷ c 0 36 ∷ [])
    ++ (b 0 ∷ [])
    ++ (c 0 72 ∷ c 0 72 ∷ c 0 73 ∷ [])
    ++ (c 0 104 ∷ b 1 ∷ [])
    ++ (c 0 49 ∷ [])
    ++ row_of_flags ++ row_of_flags ++ row_of_flags
    ++ (c 0 68 ∷ c 0 68 ∷ c 0 69 ∷ c 0 53 ∷ [])

pub one_level : residual_items shape_1 at_3_4 ≡ at_3_4_items
unfolding residual_items scan cbf in_coding_order last_context sig_context sub_block_context greater1_context greater2_context u digits_up_to value_after read_u read_alignment
one_level = refl

abbrev shape_0 : Shape
shape_0 = record { component = 0; log2 = 3; scan = 0 }

abbrev at_0_0 : List ℤ
at_0_0 = negsuc 254 ∷ replicate 63 (pos 0)

abbrev at_0_0_items : List Item
at_0_0_items =
    (c 0 16 ∷ c 0 34 ∷ c 1 96 ∷ c 1 119 ∷ b 1 ∷ [])
    ++ (b 1 ∷ b 1 ∷ b 1 ∷ b 1 ∷ [])
    ++ (b 1 ∷ b 1 ∷ b 1 ∷ b 1 ∷ b 1 ∷ b 1 ∷ b 0 ∷ [])
    ++ (b 1 ∷ b 1 ∷ b 1 ∷ b 1 ∷ b 0 ∷ b 1 ∷ b 0 ∷ [])

pub great_level : residual_items shape_0 at_0_0 ≡ at_0_0_items
unfolding residual_items scan cbf in_coding_order last_context sig_context sub_block_context greater1_context greater2_context u digits_up_to value_after read_u read_alignment
great_level = refl

-- what is read after the code of some items
abbrev read_coded : {A : Type 0} → Engine.Reader A → List Item → Option A
read_coded read list =
    and_then (Engine.start (start I) (bits_of (code (list ++ terminate_bin true ∷ []) (start I)))) (λ e.
    and_then (read e) (λ found.
    and_then (bin Terminate found.1) (λ ended. Some found.0)))

pub one_level_read : read_coded (residual_read shape_1) at_3_4_items ≡ Some at_3_4
unfolding start Engine.start code closing put_bin lps_range doublings next renormalised context_read bypass_read terminate_read residual_read scan cbf in_rows last_context sig_context sub_block_context greater1_context greater2_context u digits_up_to value_after read_u read_alignment
one_level_read = refl

pub great_level_read : read_coded (residual_read shape_0) at_0_0_items ≡ Some at_0_0
unfolding start Engine.start code closing put_bin lps_range doublings next renormalised context_read bypass_read terminate_read residual_read scan cbf in_rows last_context sig_context sub_block_context greater1_context greater2_context u digits_up_to value_after read_u read_alignment
great_level_read = refl
