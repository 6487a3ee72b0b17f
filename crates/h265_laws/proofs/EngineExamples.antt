-- Small codes, computed.
use Rattle.std.proofs.Common.{◌≡◌, refl, List, [], ◌∷◌, ◌++◌, true, false, replicate, take}
use Rattle.h265_model.specs.declared.Item.{Item}
use Rattle.h265_model.specs.declared.leaf.SliceKind.TheVariants.{I}
use Rattle.h265_model.specs.Plain.{context_bin, bypass_bin, terminate_bin}
use Rattle.h265_model.specs.Contexts.{start, lps_range, next}
use Rattle.h265_model.specs.Engine.{doublings}
use Rattle.h265_model.specs.Code.{code, contexts_after, closing, put_bin}
use Rattle.h265_model.specs.Bits.{u, digits_up_to, value_after, read_u, read_alignment}

pub start_I : take 14 (start I) ≡ 1 ∷ 0 ∷ 31 ∷ 49 ∷ 1 ∷ 1 ∷ 1 ∷ 1 ∷ 1 ∷ 1 ∷ 16 ∷ 31 ∷ 0 ∷ 15 ∷ []
unfolding start u digits_up_to value_after read_u read_alignment
start_I = refl

pub pcm_flag : code (context_bin false 1 ∷ context_bin true 0 ∷ terminate_bin true ∷ []) (start I) ≡ 0x46 ∷ 0xC0 ∷ []
unfolding code start put_bin lps_range doublings closing next u digits_up_to value_after read_u read_alignment
pcm_flag = refl

pub ones : code (replicate 15 (bypass_bin true) ++ terminate_bin true ∷ []) [] ≡ 0xFE ∷ 0xFF ∷ 0xFF ∷ []
unfolding code put_bin doublings closing u digits_up_to value_after read_u read_alignment
ones = refl

abbrev seven_zeros : List Item
seven_zeros = replicate 7 (bypass_bin false)

pub carry : code ((bypass_bin true ∷ seven_zeros) ++ (bypass_bin true ∷ seven_zeros) ++ bypass_bin true ∷ terminate_bin true ∷ []) []
    ≡ 0x80 ∷ 0x00 ∷ 0x7E ∷ 0xC0 ∷ []
unfolding code put_bin doublings closing u digits_up_to value_after read_u read_alignment
carry = refl

-- two rows of two coding tree units of samples alone: what stands between the samples
abbrev flags : List Item
flags = context_bin false 1 ∷ context_bin true 0 ∷ []

pub second_unit : code (terminate_bin false ∷ flags ++ terminate_bin true ∷ []) (contexts_after flags (start I)) ≡ 0x4C ∷ 0x40 ∷ []
unfolding code contexts_after start put_bin lps_range doublings closing next u digits_up_to value_after read_u read_alignment
second_unit = refl

pub second_row : code (flags ++ terminate_bin true ∷ []) (contexts_after (flags ++ flags) (start I)) ≡ 0x52 ∷ 0xC0 ∷ []
unfolding code contexts_after start put_bin lps_range doublings closing next u digits_up_to value_after read_u read_alignment
second_row = refl

pub second_row_too_early : code (flags ++ terminate_bin true ∷ []) (contexts_after flags (start I)) ≡ 0x4D ∷ 0x40 ∷ []
unfolding code contexts_after start put_bin lps_range doublings closing next u digits_up_to value_after read_u read_alignment
second_row_too_early = refl

pub row_end : code (terminate_bin false ∷ terminate_bin true ∷ []) [] ≡ 0xFD ∷ 0x80 ∷ []
unfolding code put_bin doublings closing u digits_up_to value_after read_u read_alignment
row_end = refl

pub picture_end : code (terminate_bin true ∷ []) [] ≡ 0xFE ∷ 0x80 ∷ []
unfolding code put_bin doublings closing u digits_up_to value_after read_u read_alignment
picture_end = refl
