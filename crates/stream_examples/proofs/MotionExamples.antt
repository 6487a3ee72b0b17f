-- Merge vectors, predictors and vector differences, computed.
use Rattle.std.specs.Prelude.{◌≡◌, ℕ, zero, suc, true, false, List, [], ◌∷◌, ◌++◌, Some, None, pos, negsuc, Option, refl}
use Rattle.h265_model.specs.declared.Item.{Item}
use Rattle.h265_model.specs.declared.leaf.SliceKind.TheVariants.{P}
use Rattle.h265_model.specs.declared.moves.Vector.{Vector}
use Rattle.h265_model.specs.declared.moves.MoveLeaf.{MoveLeaf}
use Rattle.h265_model.specs.declared.moves.MoveKind.{MoveKind}
use Rattle.h265_model.specs.declared.moves.MoveKind.TheVariants as moves
use Rattle.h265_model.specs.Plain.{block_at, Size, context_bin, bypass_bin, terminate_bin}
use Rattle.h265_model.specs.Bits.{bits as bits_of, ◌>>=◌ as and_then, u, digits_up_to, value_after, read_u, read_alignment}
use Rattle.h265_model.specs.Code.{code, closing, put_bin}
use Rattle.h265_model.specs.Contexts.{start, lps_range, next}
use Rattle.h265_model.specs.Engine as Engine
use Rattle.h265_model.specs.Engine.{doublings, renormalised, context_read, bypass_read, terminate_read}
use Rattle.h265_model.specs.Motion.{Moving, vector, coded_after, vector_before, merge, predictors, has_source, difference_items, second_is_nearer, move_items, difference_read, whole_part, vector_read}

abbrev c : ℕ → ℕ → Item
c zero n = context_bin false n
c (suc b) n = context_bin true n

abbrev b : ℕ → Item
b zero = bypass_bin false
b (suc n) = bypass_bin true

abbrev unit : ℕ → ℕ → ℕ → MoveKind → MoveLeaf
unit x y log2 kind = record { block = block_at x y log2; kind = kind }

abbrev size_of : ℕ → ℕ → Size
size_of w h = record { w = w; h = h }

abbrev coded : List MoveLeaf → List Moving
coded units = coded_after [] units

-- what is read of these items, followed by a terminating bin 1
abbrev read_from : Vector × Vector → List Item → Option Vector
read_from both list =
    and_then (Engine.start (start P) (bits_of (code (list ++ terminate_bin true ∷ []) (start P)))) (λ e.
    and_then (vector_read both e) (λ found. Some found.0))

-- the unit on the right of a skip, copied from its place
copied_from_the_left : move_items (vector (negsuc 31) (pos 0)) (predictors (coded (unit 0 0 5 moves.Skip ∷ [])) (block_at 32 0 5)) ≡ c 0 125 ∷ c 1 127 ∷ c 0 127 ∷ c 1 128 ∷ b 1 ∷ b 1 ∷ b 1 ∷ b 1 ∷ b 1 ∷ b 1 ∷ b 0 ∷ b 0 ∷ b 0 ∷ b 0 ∷ b 0 ∷ b 0 ∷ b 0 ∷ b 0 ∷ b 1 ∷ c 0 126 ∷ c 0 129 ∷ []
unfolding vector_before merge predictors has_source difference_items second_is_nearer move_items u digits_up_to value_after
copied_from_the_left = refl

-- a picture of 40x40
abbrev some_units : List MoveLeaf
some_units =
    unit 0 0 3 moves.Pcm ∷
    unit 8 0 3 (moves.Intra 16) ∷
    unit 0 8 3 (moves.Move (vector (negsuc 15) (pos 0))) ∷
    unit 8 8 3 (moves.Move (vector (negsuc 7) (negsuc 7))) ∷
    unit 16 0 3 (moves.Intra 6) ∷
    unit 24 0 3 moves.Skip ∷
    unit 16 8 3 (moves.Move (vector (pos 8) (pos 0))) ∷
    unit 24 8 3 moves.Skip ∷
    unit 0 16 3 (moves.Intra 21) ∷
    unit 8 16 3 (moves.Move (vector (negsuc 15) (pos 8))) ∷
    unit 0 24 3 (moves.Move (vector (pos 8) (pos 0))) ∷
    unit 8 24 3 moves.Skip ∷
    unit 16 16 3 moves.Skip ∷
    unit 24 16 3 moves.Skip ∷
    unit 16 24 3 moves.Skip ∷
    unit 24 24 3 (moves.Move (vector (pos 0) (pos 0))) ∷
    unit 32 0 3 (moves.Move (vector (negsuc 7) (pos 8))) ∷
    unit 32 8 3 moves.Skip ∷
    unit 32 16 3 moves.Skip ∷
    unit 32 24 3 (moves.Move (vector (negsuc 7) (pos 8))) ∷
    unit 0 32 3 moves.Skip ∷
    unit 8 32 3 moves.Skip ∷
    unit 16 32 3 (moves.Move (vector (pos 0) (pos 0))) ∷
    unit 24 32 3 moves.Skip ∷
    unit 32 32 3 (moves.Move (vector (pos 8) (negsuc 7))) ∷ []

-- the merge vector and the predictors of each of these, each after those before it
abbrev merges_from : List Moving → List MoveLeaf → List Vector
merges_from before [] = []
merges_from before (u ∷ us) = merge before u.block ∷ merges_from (coded_after before (u ∷ [])) us

abbrev predictors_from : List Moving → List MoveLeaf → List (Vector × Vector)
predictors_from before [] = []
predictors_from before (u ∷ us) = predictors before u.block ∷ predictors_from (coded_after before (u ∷ [])) us

some_merges : merges_from [] some_units ≡ vector (pos 0) (pos 0) ∷ vector (pos 0) (pos 0) ∷ vector (pos 0) (pos 0) ∷ vector (negsuc 15) (pos 0) ∷ vector (negsuc 7) (negsuc 7) ∷ vector (pos 0) (pos 0) ∷ vector (negsuc 7) (negsuc 7) ∷ vector (pos 8) (pos 0) ∷ vector (negsuc 15) (pos 0) ∷ vector (negsuc 7) (negsuc 7) ∷ vector (negsuc 15) (pos 8) ∷ vector (pos 8) (pos 0) ∷ vector (negsuc 15) (pos 8) ∷ vector (negsuc 15) (pos 8) ∷ vector (pos 8) (pos 0) ∷ vector (pos 8) (pos 0) ∷ vector (pos 0) (pos 0) ∷ vector (pos 8) (pos 0) ∷ vector (negsuc 15) (pos 8) ∷ vector (pos 0) (pos 0) ∷ vector (pos 8) (pos 0) ∷ vector (pos 8) (pos 0) ∷ vector (pos 8) (pos 0) ∷ vector (pos 0) (pos 0) ∷ vector (pos 0) (pos 0) ∷ []
unfolding vector_before merge predictors has_source difference_items second_is_nearer move_items u digits_up_to value_after
some_merges = refl

some_predictors : predictors_from [] some_units ≡ (vector (pos 0) (pos 0), vector (pos 0) (pos 0)) ∷ (vector (pos 0) (pos 0), vector (pos 0) (pos 0)) ∷ (vector (pos 0) (pos 0), vector (pos 0) (pos 0)) ∷ (vector (negsuc 15) (pos 0), vector (pos 0) (pos 0)) ∷ (vector (negsuc 7) (negsuc 7), vector (pos 0) (pos 0)) ∷ (vector (pos 0) (pos 0), vector (pos 0) (pos 0)) ∷ (vector (negsuc 7) (negsuc 7), vector (pos 0) (pos 0)) ∷ (vector (pos 8) (pos 0), vector (pos 0) (pos 0)) ∷ (vector (negsuc 7) (negsuc 7), vector (pos 0) (pos 0)) ∷ (vector (pos 8) (pos 0), vector (pos 0) (pos 0)) ∷ (vector (negsuc 15) (pos 8), vector (pos 0) (pos 0)) ∷ (vector (pos 8) (pos 0), vector (negsuc 15) (pos 8)) ∷ (vector (pos 8) (pos 0), vector (pos 0) (pos 0)) ∷ (vector (negsuc 15) (pos 8), vector (pos 8) (pos 0)) ∷ (vector (pos 8) (pos 0), vector (negsuc 15) (pos 8)) ∷ (vector (pos 8) (pos 0), vector (negsuc 15) (pos 8)) ∷ (vector (pos 8) (pos 0), vector (pos 0) (pos 0)) ∷ (vector (negsuc 15) (pos 8), vector (negsuc 7) (pos 8)) ∷ (vector (pos 0) (pos 0), vector (pos 8) (pos 0)) ∷ (vector (pos 0) (pos 0), vector (negsuc 15) (pos 8)) ∷ (vector (pos 8) (pos 0), vector (pos 0) (pos 0)) ∷ (vector (pos 8) (pos 0), vector (pos 0) (pos 0)) ∷ (vector (pos 8) (pos 0), vector (pos 0) (pos 0)) ∷ (vector (pos 0) (pos 0), vector (negsuc 7) (pos 8)) ∷ (vector (pos 0) (pos 0), vector (negsuc 7) (pos 8)) ∷ []
unfolding vector_before merge predictors has_source difference_items second_is_nearer move_items u digits_up_to value_after
some_predictors = refl

items_0 : move_items (vector (pos 0) (pos 0)) (vector (pos 0) (pos 0), vector (pos 0) (pos 0)) ≡ c 0 125 ∷ c 0 127 ∷ c 0 127 ∷ c 0 126 ∷ c 0 129 ∷ []
unfolding vector_before merge predictors has_source difference_items second_is_nearer move_items u digits_up_to value_after
items_0 = refl

read_0 : read_from (vector (pos 0) (pos 0), vector (pos 0) (pos 0)) (c 0 127 ∷ c 0 127 ∷ c 0 126 ∷ []) ≡ Some (vector (pos 0) (pos 0))
unfolding difference_items second_is_nearer move_items difference_read whole_part vector_read code closing put_bin start Engine.start lps_range next doublings renormalised context_read bypass_read terminate_read u digits_up_to value_after read_u read_alignment
read_0 = refl

items_1 : move_items (vector (pos 1) (negsuc 0)) (vector (pos 0) (pos 0), vector (pos 0) (pos 0)) ≡ c 0 125 ∷ c 1 127 ∷ c 1 127 ∷ c 1 128 ∷ c 1 128 ∷ b 1 ∷ b 0 ∷ b 0 ∷ b 0 ∷ b 0 ∷ b 1 ∷ b 0 ∷ b 0 ∷ b 0 ∷ b 1 ∷ c 0 126 ∷ c 0 129 ∷ []
unfolding vector_before merge predictors has_source difference_items second_is_nearer move_items u digits_up_to value_after
items_1 = refl

read_1 : read_from (vector (pos 0) (pos 0), vector (pos 0) (pos 0)) (c 1 127 ∷ c 1 127 ∷ c 1 128 ∷ c 1 128 ∷ b 1 ∷ b 0 ∷ b 0 ∷ b 0 ∷ b 0 ∷ b 1 ∷ b 0 ∷ b 0 ∷ b 0 ∷ b 1 ∷ c 0 126 ∷ []) ≡ Some (vector (pos 1) (negsuc 0))
unfolding difference_items second_is_nearer move_items difference_read whole_part vector_read code closing put_bin start Engine.start lps_range next doublings renormalised context_read bypass_read terminate_read u digits_up_to value_after read_u read_alignment
read_1 = refl

items_2 : move_items (vector (negsuc 2) (pos 2)) (vector (pos 5) (pos 0), vector (negsuc 2) (pos 1)) ≡ c 0 125 ∷ c 0 127 ∷ c 1 127 ∷ c 1 128 ∷ b 1 ∷ b 0 ∷ b 0 ∷ b 0 ∷ b 0 ∷ c 1 126 ∷ c 0 129 ∷ []
unfolding vector_before merge predictors has_source difference_items second_is_nearer move_items u digits_up_to value_after
items_2 = refl

read_2 : read_from (vector (pos 5) (pos 0), vector (negsuc 2) (pos 1)) (c 0 127 ∷ c 1 127 ∷ c 1 128 ∷ b 1 ∷ b 0 ∷ b 0 ∷ b 0 ∷ b 0 ∷ c 1 126 ∷ []) ≡ Some (vector (negsuc 2) (pos 2))
unfolding difference_items second_is_nearer move_items difference_read whole_part vector_read code closing put_bin start Engine.start lps_range next doublings renormalised context_read bypass_read terminate_read u digits_up_to value_after read_u read_alignment
read_2 = refl

items_3 : move_items (vector (pos 4095) (negsuc 4094)) (vector (negsuc 4094) (pos 4095), vector (pos 0) (pos 0)) ≡ c 0 125 ∷ c 1 127 ∷ c 1 127 ∷ c 1 128 ∷ c 1 128 ∷ b 1 ∷ b 1 ∷ b 1 ∷ b 1 ∷ b 1 ∷ b 1 ∷ b 1 ∷ b 1 ∷ b 1 ∷ b 1 ∷ b 1 ∷ b 1 ∷ b 0 ∷ b 1 ∷ b 1 ∷ b 1 ∷ b 1 ∷ b 1 ∷ b 1 ∷ b 1 ∷ b 1 ∷ b 1 ∷ b 1 ∷ b 1 ∷ b 0 ∷ b 0 ∷ b 0 ∷ b 1 ∷ b 1 ∷ b 1 ∷ b 1 ∷ b 1 ∷ b 1 ∷ b 1 ∷ b 1 ∷ b 1 ∷ b 1 ∷ b 1 ∷ b 1 ∷ b 0 ∷ b 1 ∷ b 1 ∷ b 1 ∷ b 1 ∷ b 1 ∷ b 1 ∷ b 1 ∷ b 1 ∷ b 1 ∷ b 1 ∷ b 1 ∷ b 0 ∷ b 0 ∷ b 1 ∷ c 1 126 ∷ c 0 129 ∷ []
unfolding vector_before merge predictors has_source difference_items second_is_nearer move_items u digits_up_to value_after
items_3 = refl

read_3 : read_from (vector (negsuc 4094) (pos 4095), vector (pos 0) (pos 0)) (c 1 127 ∷ c 1 127 ∷ c 1 128 ∷ c 1 128 ∷ b 1 ∷ b 1 ∷ b 1 ∷ b 1 ∷ b 1 ∷ b 1 ∷ b 1 ∷ b 1 ∷ b 1 ∷ b 1 ∷ b 1 ∷ b 1 ∷ b 0 ∷ b 1 ∷ b 1 ∷ b 1 ∷ b 1 ∷ b 1 ∷ b 1 ∷ b 1 ∷ b 1 ∷ b 1 ∷ b 1 ∷ b 1 ∷ b 0 ∷ b 0 ∷ b 0 ∷ b 1 ∷ b 1 ∷ b 1 ∷ b 1 ∷ b 1 ∷ b 1 ∷ b 1 ∷ b 1 ∷ b 1 ∷ b 1 ∷ b 1 ∷ b 1 ∷ b 0 ∷ b 1 ∷ b 1 ∷ b 1 ∷ b 1 ∷ b 1 ∷ b 1 ∷ b 1 ∷ b 1 ∷ b 1 ∷ b 1 ∷ b 1 ∷ b 0 ∷ b 0 ∷ b 1 ∷ c 1 126 ∷ []) ≡ Some (vector (pos 4095) (negsuc 4094))
unfolding difference_items second_is_nearer move_items difference_read whole_part vector_read code closing put_bin start Engine.start lps_range next doublings renormalised context_read bypass_read terminate_read u digits_up_to value_after read_u read_alignment
read_3 = refl

items_4 : move_items (vector (negsuc 4094) (pos 4095)) (vector (pos 4095) (negsuc 4094), vector (pos 4095) (negsuc 4094)) ≡ c 0 125 ∷ c 1 127 ∷ c 1 127 ∷ c 1 128 ∷ c 1 128 ∷ b 1 ∷ b 1 ∷ b 1 ∷ b 1 ∷ b 1 ∷ b 1 ∷ b 1 ∷ b 1 ∷ b 1 ∷ b 1 ∷ b 1 ∷ b 1 ∷ b 1 ∷ b 0 ∷ b 1 ∷ b 1 ∷ b 1 ∷ b 1 ∷ b 1 ∷ b 1 ∷ b 1 ∷ b 1 ∷ b 1 ∷ b 1 ∷ b 1 ∷ b 0 ∷ b 0 ∷ b 0 ∷ b 1 ∷ b 1 ∷ b 1 ∷ b 1 ∷ b 1 ∷ b 1 ∷ b 1 ∷ b 1 ∷ b 1 ∷ b 1 ∷ b 1 ∷ b 1 ∷ b 1 ∷ b 1 ∷ b 0 ∷ b 1 ∷ b 1 ∷ b 1 ∷ b 1 ∷ b 1 ∷ b 1 ∷ b 1 ∷ b 1 ∷ b 1 ∷ b 1 ∷ b 1 ∷ b 0 ∷ b 0 ∷ b 0 ∷ b 0 ∷ c 0 126 ∷ c 0 129 ∷ []
unfolding vector_before merge predictors has_source difference_items second_is_nearer move_items u digits_up_to value_after
items_4 = refl

read_4 : read_from (vector (pos 4095) (negsuc 4094), vector (pos 4095) (negsuc 4094)) (c 1 127 ∷ c 1 127 ∷ c 1 128 ∷ c 1 128 ∷ b 1 ∷ b 1 ∷ b 1 ∷ b 1 ∷ b 1 ∷ b 1 ∷ b 1 ∷ b 1 ∷ b 1 ∷ b 1 ∷ b 1 ∷ b 1 ∷ b 1 ∷ b 0 ∷ b 1 ∷ b 1 ∷ b 1 ∷ b 1 ∷ b 1 ∷ b 1 ∷ b 1 ∷ b 1 ∷ b 1 ∷ b 1 ∷ b 1 ∷ b 0 ∷ b 0 ∷ b 0 ∷ b 1 ∷ b 1 ∷ b 1 ∷ b 1 ∷ b 1 ∷ b 1 ∷ b 1 ∷ b 1 ∷ b 1 ∷ b 1 ∷ b 1 ∷ b 1 ∷ b 1 ∷ b 1 ∷ b 0 ∷ b 1 ∷ b 1 ∷ b 1 ∷ b 1 ∷ b 1 ∷ b 1 ∷ b 1 ∷ b 1 ∷ b 1 ∷ b 1 ∷ b 1 ∷ b 0 ∷ b 0 ∷ b 0 ∷ b 0 ∷ c 0 126 ∷ []) ≡ Some (vector (negsuc 4094) (pos 4095))
unfolding difference_items second_is_nearer move_items difference_read whole_part vector_read code closing put_bin start Engine.start lps_range next doublings renormalised context_read bypass_read terminate_read u digits_up_to value_after read_u read_alignment
read_4 = refl

items_5 : move_items (vector (pos 7) (pos 7)) (vector (pos 7) (pos 7), vector (pos 6) (pos 7)) ≡ c 0 125 ∷ c 0 127 ∷ c 0 127 ∷ c 0 126 ∷ c 0 129 ∷ []
unfolding vector_before merge predictors has_source difference_items second_is_nearer move_items u digits_up_to value_after
items_5 = refl

read_5 : read_from (vector (pos 7) (pos 7), vector (pos 6) (pos 7)) (c 0 127 ∷ c 0 127 ∷ c 0 126 ∷ []) ≡ Some (vector (pos 7) (pos 7))
unfolding difference_items second_is_nearer move_items difference_read whole_part vector_read code closing put_bin start Engine.start lps_range next doublings renormalised context_read bypass_read terminate_read u digits_up_to value_after read_u read_alignment
read_5 = refl

items_6 : move_items (vector (pos 0) (pos 1)) (vector (pos 1) (pos 1), vector (pos 1) (pos 1)) ≡ c 0 125 ∷ c 1 127 ∷ c 0 127 ∷ c 1 128 ∷ b 1 ∷ b 0 ∷ b 0 ∷ b 0 ∷ b 1 ∷ c 0 126 ∷ c 0 129 ∷ []
unfolding vector_before merge predictors has_source difference_items second_is_nearer move_items u digits_up_to value_after
items_6 = refl

read_6 : read_from (vector (pos 1) (pos 1), vector (pos 1) (pos 1)) (c 1 127 ∷ c 0 127 ∷ c 1 128 ∷ b 1 ∷ b 0 ∷ b 0 ∷ b 0 ∷ b 1 ∷ c 0 126 ∷ []) ≡ Some (vector (pos 0) (pos 1))
unfolding difference_items second_is_nearer move_items difference_read whole_part vector_read code closing put_bin start Engine.start lps_range next doublings renormalised context_read bypass_read terminate_read u digits_up_to value_after read_u read_alignment
read_6 = refl

-- equal sums name the first predictor
items_7 : move_items (vector (pos 2) (pos 0)) (vector (pos 0) (pos 0), vector (pos 4) (pos 0)) ≡ c 0 125 ∷ c 1 127 ∷ c 0 127 ∷ c 1 128 ∷ b 1 ∷ b 1 ∷ b 0 ∷ b 0 ∷ b 0 ∷ b 0 ∷ b 0 ∷ c 0 126 ∷ c 0 129 ∷ []
unfolding vector_before merge predictors has_source difference_items second_is_nearer move_items u digits_up_to value_after
items_7 = refl

read_7 : read_from (vector (pos 0) (pos 0), vector (pos 4) (pos 0)) (c 1 127 ∷ c 0 127 ∷ c 1 128 ∷ b 1 ∷ b 1 ∷ b 0 ∷ b 0 ∷ b 0 ∷ b 0 ∷ b 0 ∷ c 0 126 ∷ []) ≡ Some (vector (pos 2) (pos 0))
unfolding difference_items second_is_nearer move_items difference_read whole_part vector_read code closing put_bin start Engine.start lps_range next doublings renormalised context_read bypass_read terminate_read u digits_up_to value_after read_u read_alignment
read_7 = refl

-- sums are taken modulo 2 ^ 16
around : read_from (vector (pos 1) (pos 0), vector (pos 0) (pos 0)) (c 1 127 ∷ c 0 127 ∷ c 1 128 ∷ b 1 ∷ b 1 ∷ b 1 ∷ b 1 ∷ b 1 ∷ b 1 ∷ b 1 ∷ b 1 ∷ b 1 ∷ b 1 ∷ b 1 ∷ b 1 ∷ b 1 ∷ b 1 ∷ b 0 ∷ b 1 ∷ b 1 ∷ b 1 ∷ b 1 ∷ b 1 ∷ b 1 ∷ b 1 ∷ b 1 ∷ b 1 ∷ b 1 ∷ b 1 ∷ b 1 ∷ b 1 ∷ b 0 ∷ b 0 ∷ b 0 ∷ c 0 126 ∷ []) ≡ Some (vector (pos 0) (pos 0))
unfolding difference_items second_is_nearer move_items difference_read whole_part vector_read code closing put_bin start Engine.start lps_range next doublings renormalised context_read bypass_read terminate_read u digits_up_to value_after read_u read_alignment
around = refl

-- the lowest value of 16 bits
lowest : read_from (vector (pos 0) (pos 0), vector (pos 0) (pos 0)) (c 1 127 ∷ c 0 127 ∷ c 1 128 ∷ b 1 ∷ b 1 ∷ b 1 ∷ b 1 ∷ b 1 ∷ b 1 ∷ b 1 ∷ b 1 ∷ b 1 ∷ b 1 ∷ b 1 ∷ b 1 ∷ b 1 ∷ b 1 ∷ b 0 ∷ b 0 ∷ b 0 ∷ b 0 ∷ b 0 ∷ b 0 ∷ b 0 ∷ b 0 ∷ b 0 ∷ b 0 ∷ b 0 ∷ b 0 ∷ b 0 ∷ b 0 ∷ b 0 ∷ b 0 ∷ b 1 ∷ c 0 126 ∷ []) ≡ Some (vector (negsuc 8191) (pos 0))
unfolding difference_items second_is_nearer move_items difference_read whole_part vector_read code closing put_bin start Engine.start lps_range next doublings renormalised context_read bypass_read terminate_read u digits_up_to value_after read_u read_alignment
lowest = refl

-- half a sample upwards
no_whole : read_from (vector (pos 0) (pos 0), vector (pos 0) (pos 0)) (c 0 127 ∷ c 1 127 ∷ c 1 128 ∷ b 0 ∷ b 0 ∷ b 1 ∷ c 0 126 ∷ []) ≡ None
unfolding difference_items second_is_nearer move_items difference_read whole_part vector_read code closing put_bin start Engine.start lps_range next doublings renormalised context_read bypass_read terminate_read u digits_up_to value_after read_u read_alignment
no_whole = refl

-- three quarters of a sample
no_whole_x : read_from (vector (pos 0) (pos 0), vector (pos 0) (pos 0)) (c 1 127 ∷ c 1 127 ∷ c 1 128 ∷ c 1 128 ∷ b 0 ∷ b 1 ∷ b 0 ∷ b 1 ∷ b 0 ∷ b 0 ∷ b 0 ∷ b 0 ∷ c 1 126 ∷ []) ≡ None
unfolding difference_items second_is_nearer move_items difference_read whole_part vector_read code closing put_bin start Engine.start lps_range next doublings renormalised context_read bypass_read terminate_read u digits_up_to value_after read_u read_alignment
no_whole_x = refl

inside : has_source (size_of 16 8) (block_at 0 0 3) (vector (pos 8) (pos 0)) ≡ true
unfolding has_source
inside = refl

past_right : has_source (size_of 16 8) (block_at 8 0 3) (vector (pos 1) (pos 0)) ≡ false
unfolding has_source
past_right = refl

past_left : has_source (size_of 16 8) (block_at 8 0 3) (vector (negsuc 8) (pos 0)) ≡ false
unfolding has_source
past_left = refl

at_left : has_source (size_of 16 8) (block_at 8 0 3) (vector (negsuc 7) (pos 0)) ≡ true
unfolding has_source
at_left = refl

in_padding : has_source (size_of 9 8) (block_at 0 0 3) (vector (pos 8) (pos 0)) ≡ true
unfolding has_source
in_padding = refl

past_bottom : has_source (size_of 64 40) (block_at 0 8 5) (vector (pos 0) (pos 1)) ≡ false
unfolding has_source
past_bottom = refl

past_top : has_source (size_of 64 40) (block_at 0 8 5) (vector (pos 32) (negsuc 8)) ≡ false
unfolding has_source
past_top = refl
