-- Motion in whole samples: the vectors of neighbours, the merge vector and the predictors, and the vector difference,
-- as items and read (7.3.8.6, 7.3.8.9, 7.4.9.9, 8.5.3.2).
use Rattle.std.specs.Prelude.{ℕ, zero, suc, ◌+◌, ◌/◌, ◌-◌, ◌%◌, ◌^◌, Bool, true, false, ◌&&◌, List, [], ◌∷◌, ◌++◌, map, ◌==◌, nat_le, nat_lt, if◌then◌else◌, Option, Some, None, ℤ, pos, negsuc, ◌+ℤ◌, ◌-ℤ◌, ◌*ℤ◌, neg_ℤ, nat_abs}
use Rattle.std.specs.List.{find}
use Rattle.h265_model.specs.declared.Place.TheVariants.{Context, Bypass}
use Rattle.h265_model.specs.declared.Item.{Item}
use Rattle.h265_model.specs.declared.moves.Vector.{Vector}
use Rattle.h265_model.specs.declared.moves.MoveKind.{MoveKind}
use Rattle.h265_model.specs.declared.moves.MoveKind.TheVariants as moves
use Rattle.h265_model.specs.declared.moves.MoveLeaf.{MoveLeaf}
use Rattle.h265_model.specs.declared.leaf.Kind.{Kind}
use Rattle.h265_model.specs.declared.leaf.Kind.TheVariants.{Skip, Pcm, Intra}
use Rattle.h265_model.specs.declared.leaf.Leaf.{Leaf}
use Rattle.h265_model.specs.declared.block.CodingBlock.{CodingBlock}
use Rattle.h265_model.specs.Plain.{Size, coded, side, leaf_with, covers, context_bin, bypass_bin}
use Rattle.h265_model.specs.SyntaxElements.{merge_flag, mvp_l0_flag, abs_mvd_greater0_flag, abs_mvd_greater1_flag, rqt_root_cbf}
use Rattle.h265_model.specs.Engine.{Reader, ◌>>=◌, give, refuse, bin}
use Rattle.h265_model.specs.Residual.{is_negative, signed}
use Rattle.h265_model.specs.Binarise.{eg, bypass_bins, eg_read}

-- ---- units that are coded already, with their vectors

-- a motion vector in whole samples: a quarter of mvL0 (8.5.3.2.1)
abbrev pub vector : ℤ → ℤ → Vector
vector x y = record { x = x; y = y }

-- the motion vector (0, 0) (8.5.3.2.5)
abbrev pub no_motion : Vector
no_motion = vector (pos 0) (pos 0)

-- a coding unit that is coded, and the vector by which it was copied, if it was (its MvL0 and PredFlagL0,
-- 8.5.3.2.1). A moved unit stands as PCM: so it counts for splits, skips and candidates (9.3.4.2.2, 8.4.2)
pub record Moving : Type 0 where
  pub leaf : Leaf
  pub vector : Option Vector

-- coding units without their vectors, as contexts and candidates look at them (9.3.4.2.2, 8.4.2)
abbrev pub leaves : List Moving → List Leaf
leaves units = map (λ (unit : Moving). unit.leaf) units

-- the vector of a unit, where there is one and it was copied (6.4.2)
abbrev pub vector_in : Option Moving → Option Vector
vector_in None = None
vector_in (Some unit) = unit.vector

-- the vector at the place before (x, y) in both directions, where it is available and of a unit that was copied
-- (6.4.2)
unfoldable pub vector_before : List Moving → ℕ → ℕ → Option Vector
vector_before units zero y = None
vector_before units (suc x) zero = None
vector_before units (suc x) (suc y) = vector_in (find (λ (unit : Moving). covers x y unit.leaf) units)

-- the vector at A0, (x - 1, y + n), of a block of side n at (x, y) (8.5.3.2.3, 8.5.3.2.7)
abbrev pub a0 : List Moving → CodingBlock → Option Vector
a0 units block = vector_before units block.x (block.y + side block + 1)

-- the vector at A1, (x - 1, y + n - 1), of a block of side n at (x, y) (8.5.3.2.3, 8.5.3.2.7)
abbrev pub a1 : List Moving → CodingBlock → Option Vector
a1 units block = vector_before units block.x (block.y + side block)

-- the vector at B0, (x + n, y - 1), of a block of side n at (x, y) (8.5.3.2.3, 8.5.3.2.7)
abbrev pub b0 : List Moving → CodingBlock → Option Vector
b0 units block = vector_before units (block.x + side block + 1) block.y

-- the vector at B1, (x + n - 1, y - 1), of a block of side n at (x, y) (8.5.3.2.3, 8.5.3.2.7)
abbrev pub b1 : List Moving → CodingBlock → Option Vector
b1 units block = vector_before units (block.x + side block) block.y

-- the vector at B2, (x - 1, y - 1), of a block at (x, y) (8.5.3.2.3, 8.5.3.2.7)
abbrev pub b2 : List Moving → CodingBlock → Option Vector
b2 units block = vector_before units block.x block.y

-- the first vector of these: the first one available (8.5.3.2.2, 8.5.3.2.7)
abbrev pub first_vector : List (Option Vector) → Option Vector
first_vector [] = None
first_vector (None ∷ vectors) = first_vector vectors
first_vector (Some v ∷ vectors) = Some v

-- a vector, or else no motion, as a zero merging candidate has (8.5.3.2.5)
abbrev pub or_none : Option Vector → Vector
or_none None = no_motion
or_none (Some v) = v

-- the merge vector: that of the one merging candidate, as MaxNumMergeCand is 1 (8.5.3.2.2, 8.5.3.2.3 and 8.5.3.2.5)
unfoldable pub merge : List Moving → CodingBlock → Vector
merge units block =
    or_none (first_vector (a1 units block ∷ b1 units block ∷ b0 units block ∷ a0 units block ∷ b2 units block ∷ []))

-- ---- predictors

-- two whole numbers are the same (plain)
abbrev pub int_eq : ℤ → ℤ → Bool
int_eq (pos m) (pos n) = m == n
int_eq (pos m) (negsuc n) = false
int_eq (negsuc m) (pos n) = false
int_eq (negsuc m) (negsuc n) = m == n

-- two vectors are the same (plain)
abbrev pub is_vector : Vector → Vector → Bool
is_vector v w = int_eq v.x w.x && int_eq v.y w.y

-- mvpListLX: a second candidate that is like the first one is left out, and no motion fills the list of two
-- (8.5.3.2.6)
abbrev pub two_of : Option Vector → Option Vector → Vector × Vector
two_of None b = (or_none b, no_motion)
two_of (Some a) None = (a, no_motion)
two_of (Some a) (Some b) = if is_vector a b then (a, no_motion) else (a, b)

-- mvpListLX, the two motion vector predictors (8.5.3.2.6 and 8.5.3.2.7)
unfoldable pub predictors : List Moving → CodingBlock → Vector × Vector
predictors units block =
    two_of (first_vector (a0 units block ∷ a1 units block ∷ [])) (first_vector (b0 units block ∷ b1 units block ∷ b2 units block ∷ []))

-- mvpLX, the predictor that mvp_l0_flag names (8.5.3.2.6)
abbrev pub predictor : Bool → Vector × Vector → Vector
predictor false both = both.0
predictor true both = both.1

-- ---- where a block is copied from

-- xInt or yInt of a coordinate under a vector in whole samples, where that isn't below 0 (8.5.3.3.3.1)
abbrev pub moved : ℕ → ℤ → ℕ
moved x (pos n) = x + n
moved x (negsuc n) = x - suc n

-- a rule of this project's own: along one axis, n places from x on are in a picture of this side after they were
-- moved
abbrev pub reaches : ℕ → ℕ → ℕ → ℤ → Bool
reaches limit n x (pos v) = nat_le (x + v + n) limit
reaches limit n x (negsuc v) = nat_le (suc v) x && nat_le (x - suc v + n) limit

-- a rule of this project's own: the block that the vector names lies wholly in the coded picture, so that nothing is
-- padded (8.5.3.3.3.1)
unfoldable pub has_source : Size → CodingBlock → Vector → Bool
has_source size block v = reaches (coded size.w) (side block) block.x v.x && reaches (coded size.h) (side block) block.y v.y

-- ---- the vector difference (7.3.8.9)

-- the vector difference mvd_l0 in quarters of a sample: four times the vector less four times its predictor
-- (7.4.9.9, 8.5.3.2.1)
abbrev pub difference : Vector → Vector → Vector
difference v p = vector (pos 4 *ℤ v.x -ℤ pos 4 *ℤ p.x) (pos 4 *ℤ v.y -ℤ pos 4 *ℤ p.y)

-- abs_mvd_greater1_flag, coded where the part isn't 0 (7.3.8.9)
abbrev pub greater1_of : ℕ → List Item
greater1_of zero = []
greater1_of (suc n) = context_bin (nat_lt 0 n) abs_mvd_greater1_flag ∷ []

-- abs_mvd_minus2, where the size is above 1 (EG1, 9.3.3.3), and mvd_sign_flag, where it is above 0 (7.3.8.9)
abbrev pub size_items : ℕ → Bool → List Item
size_items zero negative = []
size_items (suc zero) negative = bypass_bin negative ∷ []
size_items (suc (suc n)) negative = bypass_bins (eg 1 n) ++ bypass_bin negative ∷ []

-- abs_mvd_minus2 and mvd_sign_flag of a part of the difference (7.3.8.9)
abbrev pub part_items : ℤ → List Item
part_items v = size_items (nat_abs v) (is_negative v)

-- mvd_coding: abs_mvd_greater0_flag of both parts, abs_mvd_greater1_flag of both, and the rest of each (7.3.8.9)
unfoldable pub difference_items : Vector → List Item
difference_items d =
    (context_bin (nat_lt 0 (nat_abs d.x)) abs_mvd_greater0_flag ∷ context_bin (nat_lt 0 (nat_abs d.y)) abs_mvd_greater0_flag ∷ [])
    ++ (greater1_of (nat_abs d.x) ++ (greater1_of (nat_abs d.y) ++ (part_items d.x ++ part_items d.y)))

-- ---- which predictor is named: the one with the lesser sum of sizes. This rule is a choice of this project's own.

-- a rule of this project's own: the sum of the sizes of a difference's parts
abbrev pub size_of : Vector → ℕ
size_of d = nat_abs d.x + nat_abs d.y

-- a rule of this project's own: mvp_l0_flag names the predictor whose difference is the lesser (7.4.9.6)
unfoldable pub second_is_nearer : Vector → Vector × Vector → Bool
second_is_nearer v both = nat_lt (size_of (difference v both.1)) (size_of (difference v both.0))

-- merge_flag, the difference and mvp_l0_flag (7.3.8.6), and rqt_root_cbf (7.3.8.5), each part by one context but the
-- difference
unfoldable pub move_items : Vector → Vector × Vector → List Item
move_items v both =
    let second : Bool = second_is_nearer v both in
    context_bin false merge_flag ∷ (difference_items (difference v (predictor second both)) ++ (context_bin second mvp_l0_flag ∷ context_bin false rqt_root_cbf ∷ []))

-- ---- the same read

-- the parsing of abs_mvd_greater1_flag, which is 0 where it isn't coded (7.3.8.9, 7.4.9.9)
abbrev pub greater1_if : Bool → Reader Bool
greater1_if false = give false
greater1_if true = bin (Context abs_mvd_greater1_flag)

-- the parsing of abs_mvd_minus2, where the size is above 1 (7.3.8.9, 9.3.3.3)
abbrev pub size_read : Bool → Reader ℕ
size_read false = give 1
size_read true = eg_read 1 >>= λ rest. give (rest + 2)

-- the parsing of abs_mvd_minus2 and mvd_sign_flag: a part of the difference by its two flags (7.3.8.9, 7.4.9.9)
abbrev pub part_read : Bool → Bool → Reader ℤ
part_read false greater1 = give (pos 0)
part_read true greater1 = do
  size ← size_read greater1
  sign ← bin Bypass
  give (signed sign size)

-- the parsing of mvd_coding: the difference lMvd (7.3.8.9, 7.4.9.9)
unfoldable pub difference_read : Reader Vector
difference_read = do
  x_greater0 ← bin (Context abs_mvd_greater0_flag)
  y_greater0 ← bin (Context abs_mvd_greater0_flag)
  x_greater1 ← greater1_if x_greater0
  y_greater1 ← greater1_if y_greater0
  x ← part_read x_greater0 x_greater1
  y ← part_read y_greater0 y_greater1
  give (vector x y)

-- uLX: a sum modulo 2 ^ 16 (8.5.3.2.1)
abbrev pub low_16 : ℤ → ℕ
low_16 (pos n) = n % 2 ^ 16
low_16 (negsuc n) = 2 ^ 16 - 1 - n % 2 ^ 16

-- mvLX: a number below 2 ^ 16 as a signed one (8.5.3.2.1)
abbrev pub signed_16 : ℕ → ℤ
signed_16 n = if nat_lt n (2 ^ 15) then pos n else neg_ℤ (pos (2 ^ 16 - n))

-- a quarter of a number that is a multiple of 4, none else (plain)
abbrev pub quarter : ℤ → Option ℤ
quarter v = if nat_abs v % 4 == 0 then Some (signed (is_negative v) (nat_abs v / 4)) else None

-- mvLX of this predictor and this difference (8.5.3.2.1), where it is in whole samples, as all are by a rule of this
-- project's own
unfoldable pub whole_part : ℤ → ℤ → Option ℤ
whole_part p d = quarter (signed_16 (low_16 (pos 4 *ℤ p +ℤ d)))

-- the parsing that gives a value where there is one, and else refuses (plain)
abbrev pub or_refuse : {A : Type 0} → Option A → Reader A
or_refuse None = refuse
or_refuse (Some x) = give x

-- the vector of this predictor and this difference (8.5.3.2.1), where it is in whole samples, as all are by a rule
-- of this project's own
abbrev pub whole_vector : Vector → Vector → Reader Vector
whole_vector p d = do
  x ← or_refuse (whole_part p.x d.x)
  y ← or_refuse (whole_part p.y d.y)
  give (vector x y)

-- the parsing of the difference and mvp_l0_flag, and the vector that they give (7.3.8.6, 8.5.3.2.1)
unfoldable pub vector_read : Vector × Vector → Reader Vector
vector_read both = do
  d ← difference_read
  second ← bin (Context mvp_l0_flag)
  whole_vector (predictor second both) d

-- ---- units to be coded

-- what a unit is for splits, skips and candidates: a moved unit counts as PCM (9.3.4.2.2, 8.4.2)
abbrev pub kind_as_coded : MoveKind → Kind
kind_as_coded moves.Skip = Skip
kind_as_coded (moves.Move v) = Pcm
kind_as_coded moves.Pcm = Pcm
kind_as_coded (moves.Intra mode) = Intra mode

-- a unit as splits, skips and candidates look at it (9.3.4.2.2, 8.4.2)
abbrev pub leaf_as_coded : MoveLeaf → Leaf
leaf_as_coded unit = leaf_with unit.block (kind_as_coded unit.kind)

-- the vector by which a unit of this kind is copied, if it is: the merge vector of a skip (8.5.3.2.1)
abbrev pub kind_vector : Vector → MoveKind → Option Vector
kind_vector merged moves.Skip = Some merged
kind_vector merged (moves.Move v) = Some v
kind_vector merged moves.Pcm = None
kind_vector merged (moves.Intra mode) = None

-- what a unit is once it is coded after these: a skip has the merge vector (8.5.3.2.1)
abbrev pub as_coded : List Moving → MoveLeaf → Moving
as_coded before unit = record {
  leaf = leaf_as_coded unit;
  vector = kind_vector (merge before unit.block) unit.kind;
}

-- these units, and then those, each coded after the ones before it (8.5.3.2.1)
abbrev pub coded_after : List Moving → List MoveLeaf → List Moving
coded_after before [] = before
coded_after before (unit ∷ units) = coded_after (before ++ as_coded before unit ∷ []) units

-- the kind of a unit of a stream without moves (7.3.8.5)
abbrev pub still_kind : Kind → MoveKind
still_kind Skip = moves.Skip
still_kind Pcm = moves.Pcm
still_kind (Intra mode) = moves.Intra mode

-- a unit of a stream without moves (7.3.8.5)
abbrev pub still : Leaf → MoveLeaf
still leaf = record { block = leaf.block; kind = still_kind leaf.kind }
