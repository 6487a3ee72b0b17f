-- The residual of one block and component: its items, and their reading (6.5.3 to 6.5.5, 7.3.8.11, 9.3.4.2.3 to
-- 9.3.4.2.7).
use Rattle.std.specs.Prelude.{ℕ, zero, suc, ◌+◌, ◌*◌, ◌/◌, ◌-◌, ◌%◌, ◌^◌, min, Bool, true, false, not, ◌&&◌, ◌||◌, List, [], ◌∷◌, ◌++◌, length, map, reverse, get_or, replicate, ◌==◌, nat_le, nat_lt, if◌then◌else◌, ℤ, pos, negsuc, neg_ℤ, nat_abs, ◌≤◌}
use Rattle.std.specs.List.{flat_map, filter, list_any, list_all}
use Rattle.h265_model.specs.declared.Place.TheVariants.{Context, Bypass}
use Rattle.h265_model.specs.declared.Item.{Item}
use Rattle.h265_model.specs.Plain.{below, context_bin, bypass_bin, place_values}
use Rattle.h265_model.specs.SyntaxElements.{last_sig_coeff_x_prefix, last_sig_coeff_y_prefix, coded_sub_block_flag, sig_coeff_flag, coeff_abs_level_greater1_flag, coeff_abs_level_greater2_flag}
use Rattle.h265_model.specs.Engine.{Reader, ◌>>=◌, give, refuse, bin}
use Rattle.h265_model.specs.Binarise.{tr, fl, remaining, bypass_bins, context_bins, tr_read, fl_read, remaining_read}
use Rattle.h265_model.specs.Bits.{digit}

-- ---- scans

-- the up-right diagonal scan: the places of a square, each diagonal from the bottom left to the top right (6.5.3)
abbrev pub diagonal : ℕ → List (ℕ × ℕ)
diagonal n = flat_map (λ s. filter (λ p. nat_lt p.0 n && nat_lt p.1 n) (map (λ x. (x, s - x)) (below (s + 1)))) (below (2 * n - 1))

-- the horizontal scan: row by row (6.5.4)
abbrev pub horizontal : ℕ → List (ℕ × ℕ)
horizontal n = place_values n n (λ x y. (x, y))

-- the vertical scan: column by column (6.5.5)
abbrev pub vertical : ℕ → List (ℕ × ℕ)
vertical n = flat_map (λ x. map (λ y. (x, y)) (below n)) (below n)

-- ScanOrder of scanIdx 0, 1 and 2, over a square of this base-2 logarithm (6.5.3 to 6.5.5)
unfoldable pub scan : ℕ → ℕ → List (ℕ × ℕ)
scan zero log2 = diagonal (2 ^ log2)
scan (suc zero) log2 = horizontal (2 ^ log2)
scan (suc (suc kind)) log2 = vertical (2 ^ log2)

-- scanIdx of a block under an intra mode (7.4.9.11)
unfoldable pub scan_kind : ℕ → ℕ → ℕ
scan_kind mode log2 =
    if log2 == 3 && nat_le 6 mode && nat_le mode 14 then 2
    else if log2 == 3 && nat_le 22 mode && nat_le mode 30 then 1
    else 0

-- the place with this number in a scan (plain)
abbrev pub place_at : List (ℕ × ℕ) → ℕ → ℕ × ℕ
place_at places i = get_or places i (0, 0)

-- the number of a place in a scan, which is the list's length where it isn't there (plain)
abbrev pub number_of : ℕ → ℕ → List (ℕ × ℕ) → ℕ
number_of x y [] = 0
number_of x y (p ∷ places) =
    let later : ℕ = suc (number_of x y places) in
    if p.0 == x && p.1 == y then 0 else later

-- ---- contexts

-- cIdx, log2TrafoSize and scanIdx of a transform block (7.3.8.11)
pub record Shape : Type 0 where
  pub component : ℕ
  pub log2 : ℕ
  pub scan : ℕ

-- the side of a transform block (7.3.8.11)
abbrev pub side : Shape → ℕ
side s = 2 ^ s.log2

-- a number in the components 1 and 2 alone (plain)
abbrev pub in_chroma : Shape → ℕ → ℕ
in_chroma s n = if s.component == 0 then 0 else n

-- the context of bin i of last_sig_coeff_x_prefix, or of y (9.3.4.2.3)
unfoldable pub last_context : ℕ → ℕ → Bool → ℕ → ℕ
last_context component log2 vertical i =
    (if vertical then last_sig_coeff_y_prefix else last_sig_coeff_x_prefix)
    + (if component == 0 then 3 * (log2 - 2) + (log2 - 1) / 4 + i / 2 ^ ((log2 + 1) / 4) else 15 + i / 2 ^ (log2 - 2))

-- the context of coded_sub_block_flag, by csbfCtx of the flags on the right and below (9.3.4.2.4)
unfoldable pub sub_block_context : ℕ → Bool → Bool → ℕ
sub_block_context component right below = coded_sub_block_flag + min 1 (digit right + digit below) + (if component == 0 then 0 else 2)

-- sigCtx of a place by one coordinate (9.3.4.2.5)
abbrev pub by_distance : ℕ → ℕ
by_distance zero = 2
by_distance (suc zero) = 1
by_distance (suc (suc n)) = 0

-- sigCtx within a sub-block, by prevCsbf (9.3.4.2.5)
abbrev pub sig_within : Bool → Bool → ℕ → ℕ → ℕ
sig_within false false x y = if x + y == 0 then 2 else if nat_lt (x + y) 3 then 1 else 0
sig_within true false x y = by_distance y
sig_within false true x y = by_distance x
sig_within true true x y = 2

-- what sigCtx is more by component, sub-block and side (9.3.4.2.5)
abbrev pub sig_added : ℕ → ℕ → ℕ → Bool → ℕ
sig_added zero log2 scan first = (if first then 0 else 3) + (if log2 == 3 then (if scan == 0 then 9 else 15) else 21)
sig_added (suc c) log2 scan first = if log2 == 3 then 9 else 12

-- the context of sig_coeff_flag at a place of a sub-block (9.3.4.2.5)
unfoldable pub sig_context : ℕ → ℕ → ℕ → ℕ → ℕ → ℕ → ℕ → Bool → Bool → ℕ
sig_context component log2 scan sub_x sub_y x y right below =
    (if component == 0 then sig_coeff_flag else sig_coeff_flag + 27)
    + (if sub_x + sub_y + x + y == 0 then 0
    else sig_within right below x y + sig_added component log2 scan (sub_x + sub_y == 0))

-- the context of coeff_abs_level_greater1_flag, by ctxSet and greater1Ctx (9.3.4.2.6)
unfoldable pub greater1_context : ℕ → ℕ → ℕ → ℕ
greater1_context component set counter = coeff_abs_level_greater1_flag + 4 * set + min 3 counter + (if component == 0 then 0 else 16)

-- the context of coeff_abs_level_greater2_flag, by ctxSet (9.3.4.2.7)
unfoldable pub greater2_context : ℕ → ℕ → ℕ
greater2_context component set = coeff_abs_level_greater2_flag + set + (if component == 0 then 0 else 4)

-- ---- levels in the order of coding: sub-blocks from the last of the scan to the first, and so in each

-- a level is 0 (plain)
abbrev pub is_zero : ℤ → Bool
is_zero (pos zero) = true
is_zero (pos (suc n)) = false
is_zero (negsuc n) = false

-- a level is below 0: its coeff_sign_flag (7.4.9.11)
abbrev pub is_negative : ℤ → Bool
is_negative (pos n) = false
is_negative (negsuc n) = true

-- cbf_luma, cbf_cb or cbf_cr: whether a level isn't 0 (7.4.9.8)
unfoldable pub cbf : List ℤ → Bool
cbf levels = list_any (λ v. not (is_zero v)) levels

-- the order of a block's sub-blocks (7.3.8.11)
abbrev pub sub_scan : Shape → List (ℕ × ℕ)
sub_scan s = scan s.scan (s.log2 - 2)

-- TransCoeffLevel of a block in rows, at a place of a sub-block (7.3.8.11)
abbrev pub level_at : Shape → List ℤ → ℕ × ℕ → ℕ × ℕ → ℤ
level_at s block sub place = get_or block ((4 * sub.1 + place.1) * side s + 4 * sub.0 + place.0) (pos 0)

-- levels in the order of coding: sub-blocks from the last of the scan to the first, and so in each (7.3.8.11)
unfoldable pub in_coding_order : Shape → List ℤ → List (List ℤ)
in_coding_order s block =
    let places : List (ℕ × ℕ) = reverse (scan s.scan 2) in
    map (λ sub. map (λ place. level_at s block sub place) places) (reverse (sub_scan s))

-- levels in rows, from those in the order of coding (7.3.8.11)
unfoldable pub in_rows : Shape → List (List ℤ) → List ℤ
in_rows s subs =
    let places : List (ℕ × ℕ) = reverse (scan s.scan 2) in
    let sub_places : List (ℕ × ℕ) = reverse (sub_scan s) in
    place_values (side s) (side s) (λ x y. get_or (get_or subs (number_of (x / 4) (y / 4) sub_places) []) (number_of (x % 4) (y % 4) places) (pos 0))

-- ---- the levels other than 0 of one sub-block

-- greater1Ctx after a flag (9.3.4.2.6)
abbrev pub counted : ℕ → Bool → ℕ
counted counter true = 0
counted zero false = 0
counted (suc counter) false = suc (suc counter)

-- greater1Ctx after these flags (9.3.4.2.6)
abbrev pub counted_all : ℕ → List Bool → ℕ
counted_all counter [] = counter
counted_all counter (flag ∷ flags) = counted_all (counted counter flag) flags

-- coeff_abs_level_greater1_flag of the first n sizes (7.4.9.11)
abbrev pub greater1_flags : ℕ → List ℕ → List Bool
greater1_flags zero sizes = []
greater1_flags (suc n) [] = []
greater1_flags (suc n) (size ∷ sizes) = nat_lt 1 size ∷ greater1_flags n sizes

-- whether greater1Ctx ended at 0 in the latest sub-block with levels, of those so far and this one (9.3.4.2.6)
abbrev pub ended_at_zero : Bool → List ℤ → Bool
ended_at_zero before [] = before
ended_at_zero before (v ∷ values) = counted_all 1 (greater1_flags 8 (map nat_abs (v ∷ values))) == 0

-- what the flags say of each level: its least size (baseLevel), and whether coeff_abs_level_remaining is coded
-- (7.3.8.11)
pub record Known : Type 0 where
  pub base : ℕ
  pub has_remaining : Bool

-- baseLevel after the level with coeff_abs_level_greater2_flag, of those with a coeff_abs_level_greater1_flag
-- (7.3.8.11)
abbrev pub known_later : List Bool → List Known
known_later [] = []
known_later (flag ∷ flags) = record { base = 1 + digit flag; has_remaining = flag } ∷ known_later flags

-- baseLevel of the levels with a coeff_abs_level_greater1_flag (7.3.8.11)
abbrev pub known : Bool → List Bool → List Known
known greater2 [] = []
known greater2 (false ∷ flags) = record { base = 1; has_remaining = false } ∷ known greater2 flags
known greater2 (true ∷ flags) = record { base = 2 + digit greater2; has_remaining = greater2 } ∷ known_later flags

-- baseLevel of all levels of a sub-block; from the ninth on it is 1 (7.3.8.11)
abbrev pub known_of : ℕ → List Bool → Bool → List Known
known_of many flags greater2 = known greater2 flags ++ replicate (many - 8) (record { base = 1; has_remaining = true })

-- cRiceParam after a level of this size (9.3.3.11)
abbrev pub rice_after : ℕ → ℕ → ℕ
rice_after r size = if nat_lt (3 * 2 ^ r) size then min 4 (r + 1) else r

-- coeff_abs_level_greater1_flag of a sub-block's levels (7.3.8.11)
abbrev pub greater1_items : ℕ → ℕ → ℕ → List Bool → List Item
greater1_items component set counter [] = []
greater1_items component set counter (flag ∷ flags) =
    context_bin flag (greater1_context component set counter) ∷ greater1_items component set (counted counter flag) flags

-- coeff_abs_level_greater2_flag: whether the first of the first n sizes above 1 is above 2 (7.4.9.11)
abbrev pub greater2_of : ℕ → List ℕ → Bool
greater2_of zero sizes = false
greater2_of (suc n) [] = false
greater2_of (suc n) (size ∷ sizes) = if nat_lt 1 size then nat_lt 2 size else greater2_of n sizes

-- a flag is 1 (plain)
abbrev pub has_flag : List Bool → Bool
has_flag flags = list_any (λ flag. flag) flags

-- coeff_abs_level_greater2_flag, where a coeff_abs_level_greater1_flag is 1 (7.3.8.11)
abbrev pub greater2_items : ℕ → ℕ → List Bool → Bool → List Item
greater2_items component set flags greater2 =
    if has_flag flags then context_bin greater2 (greater2_context component set) ∷ [] else []

-- coeff_abs_level_remaining of a sub-block's levels (7.3.8.11)
abbrev pub rest_items : ℕ → List Known → List ℕ → List Item
rest_items r [] sizes = []
rest_items r (k ∷ ks) [] = []
rest_items r (k ∷ ks) (size ∷ sizes) =
    let written : List Item = bypass_bins (remaining r (size - k.base)) ++ rest_items (rice_after r size) ks sizes in
    let not_written : List Item = rest_items r ks sizes in
    if k.has_remaining then written else not_written

-- the flags of sizes, coeff_sign_flag and coeff_abs_level_remaining of a sub-block's levels other than 0 (7.3.8.11)
abbrev pub value_items : ℕ → ℕ → List ℤ → List Item
value_items component set values =
    let sizes : List ℕ = map nat_abs values in
    let flags : List Bool = greater1_flags 8 sizes in
    let greater2 : Bool = greater2_of 8 sizes in
    greater1_items component set 1 flags
    ++ (greater2_items component set flags greater2
    ++ (map (λ v. bypass_bin (is_negative v)) values
    ++ rest_items 0 (known_of (length values) flags greater2) sizes))

-- ---- one sub-block

-- what is known of a sub-block before its flags: its number, and coded_sub_block_flag of its neighbours (9.3.4.2.4)
pub record Sub : Type 0 where
  pub number : ℕ
  pub right : Bool
  pub below : Bool

-- a sub-block, by coded_sub_block_flag of those with greater numbers, the next one first (9.3.4.2.4)
abbrev pub sub_at : Shape → ℕ → List Bool → Sub
sub_at s number flags =
    let p : ℕ × ℕ = place_at (sub_scan s) number in
    record {
      number = number;
      right = get_or flags (number_of (p.0 + 1) p.1 (sub_scan s) - number - 1) false;
      below = get_or flags (number_of p.0 (p.1 + 1) (sub_scan s) - number - 1) false;
    }

-- the context of a sub-block's coded_sub_block_flag (9.3.4.2.4)
abbrev pub flag_context : Shape → Sub → ℕ
flag_context s sub = sub_block_context s.component sub.right sub.below

-- the context of sig_coeff_flag at place k of a sub-block (9.3.4.2.5)
abbrev pub sig_at : Shape → Sub → ℕ → ℕ
sig_at s sub k =
    let at : ℕ × ℕ = place_at (sub_scan s) sub.number in
    let p : ℕ × ℕ = place_at (scan s.scan 2) k in
    sig_context s.component s.log2 s.scan at.0 at.1 p.0 p.1 sub.right sub.below

-- inferSbDcSigCoeffFlag: sig_coeff_flag isn't coded where it must be 1: at the last place, in a sub-block with a
-- coded flag of 1 and no level so far (7.3.8.11)
abbrev pub is_implied : Bool → Bool → ℕ → Bool
is_implied inner found k = inner && not found && k == 0

-- sig_coeff_flag of a sub-block's levels (7.3.8.11)
abbrev pub sig_items : Shape → Sub → Bool → Bool → List ℤ → List Item
sig_items s sub inner found [] = []
sig_items s sub inner found (v ∷ levels) =
    (if is_implied inner found (length levels) then [] else context_bin (not (is_zero v)) (sig_at s sub (length levels)) ∷ [])
    ++ sig_items s sub inner (found || not (is_zero v)) levels

-- the levels other than 0 (plain)
abbrev pub nonzero : List ℤ → List ℤ
nonzero levels = filter (λ v. not (is_zero v)) levels

-- ctxSet (9.3.4.2.6)
abbrev pub set_of : Shape → ℕ → Bool → ℕ
set_of s number ended = (if s.component == 0 && not (number == 0) then 2 else 0) + digit ended

-- ---- the whole block

-- each sub-block but the last of the scan with a level, which is done (7.3.8.11)
abbrev pub sub_items : Shape → List Bool → Bool → List (List ℤ) → List Item
sub_items s flags ended [] = []
sub_items s flags ended (levels ∷ subs) =
    let number : ℕ = length subs in
    let sub : Sub = sub_at s number flags in
    let inner : Bool = not (number == 0) in
    let coded : Bool = not inner || cbf levels in
    (if inner then context_bin coded (flag_context s sub) ∷ [] else [])
    ++ ((if coded then sig_items s sub inner false levels ++ value_items s.component (set_of s number ended) (nonzero levels) else [])
    ++ sub_items s (coded ∷ flags) (ended_at_zero ended (nonzero levels)) subs)

-- last_sig_coeff_x_prefix of a coordinate of the last level, or y (7.4.9.11)
abbrev pub prefix_of : ℕ → ℕ
prefix_of value =
    if nat_lt value 4 then value
    else if nat_lt value 8 then 4 + (value - 4) / 2
    else if nat_lt value 16 then 6 + (value - 8) / 4
    else 8 + (value - 16) / 8

-- how many bits last_sig_coeff_x_suffix has, or y (7.4.9.11, 9.3.3.1)
abbrev pub suffix_bits : ℕ → ℕ
suffix_bits prefix = prefix / 2 - 1

-- LastSignificantCoeffX of a prefix, or Y, before the suffix is added (7.4.9.11)
abbrev pub suffix_base : ℕ → ℕ
suffix_base prefix = if nat_lt prefix 4 then prefix else 2 ^ suffix_bits prefix * (2 + prefix % 2)

-- the two coordinates, swapped under scanIdx 2 (7.4.9.11)
abbrev pub swapped : ℕ → ℕ × ℕ → ℕ × ℕ
swapped kind p = if kind == 2 then (p.1, p.0) else p

-- the prefixes and the suffixes of the last level's place (7.3.8.11)
abbrev pub last_items : Shape → ℕ × ℕ → List Item
last_items s place =
    let p : ℕ × ℕ = swapped s.scan place in
    let x : ℕ = prefix_of p.0 in
    let y : ℕ = prefix_of p.1 in
    context_bins (last_context s.component s.log2 false) 0 (tr (2 * s.log2 - 1) x)
    ++ (context_bins (last_context s.component s.log2 true) 0 (tr (2 * s.log2 - 1) y)
    ++ (bypass_bins (fl (suffix_bits x) (p.0 - suffix_base x))
    ++ bypass_bins (fl (suffix_bits y) (p.1 - suffix_base y))))

-- the place with number k in sub-block number n (7.3.8.11)
abbrev pub place_of : Shape → ℕ → ℕ → ℕ × ℕ
place_of s n k =
    let sub : ℕ × ℕ = place_at (sub_scan s) n in
    let p : ℕ × ℕ = place_at (scan s.scan 2) k in
    (4 * sub.0 + p.0, 4 * sub.1 + p.1)

-- the last sub-block with a level, from its last level on, and the others (7.3.8.11)
abbrev pub from_last : Shape → List ℤ → List (List ℤ) → List Item
from_last s [] subs = []
from_last s (v ∷ levels) subs =
    let number : ℕ = length subs in
    last_items s (place_of s number (length levels))
    ++ ((sig_items s (sub_at s number []) false true levels ++ value_items s.component (set_of s number false) (v ∷ nonzero levels))
    ++ sub_items s (true ∷ []) (ended_at_zero false (v ∷ nonzero levels)) subs)

-- these levels from the first one other than 0 on (plain)
abbrev pub without_leading_zeros : List ℤ → List ℤ
without_leading_zeros [] = []
without_leading_zeros (v ∷ levels) = if is_zero v then without_leading_zeros levels else v ∷ levels

-- the items of a block from its sub-blocks, of which those before one with a level have none (7.3.8.11)
abbrev pub from_subs : Shape → List (List ℤ) → List Item
from_subs s [] = []
from_subs s (levels ∷ subs) =
    let here : List Item = from_last s (without_leading_zeros levels) subs in
    let later : List Item = from_subs s subs in
    if cbf levels then here else later

-- residual_coding: the items of a block, in rows, with a level other than 0 (7.3.8.11)
unfoldable pub residual_items : Shape → List ℤ → List Item
residual_items s block = from_subs s (in_coding_order s block)

-- ---- the same read

-- the parsing of sig_coeff_flag at the k places that are left of a sub-block (7.3.8.11)
abbrev pub sig_read : Shape → Sub → Bool → Bool → ℕ → Reader (List Bool)
sig_read s sub inner found zero = give []
sig_read s sub inner found (suc k) = do
  flag ← if is_implied inner found k then give true else bin (Context (sig_at s sub k))
  flags ← sig_read s sub inner (found || flag) k
  give (flag ∷ flags)

-- the parsing of n coeff_abs_level_greater1_flag (7.3.8.11)
abbrev pub greater1_read : ℕ → ℕ → ℕ → ℕ → Reader (List Bool)
greater1_read component set counter zero = give []
greater1_read component set counter (suc n) = do
  flag ← bin (Context (greater1_context component set counter))
  flags ← greater1_read component set (counted counter flag) n
  give (flag ∷ flags)

-- the parsing of n coeff_sign_flag (7.3.8.11)
abbrev pub signs_read : ℕ → Reader (List Bool)
signs_read zero = give []
signs_read (suc n) = do
  sign ← bin Bypass
  signs ← signs_read n
  give (sign ∷ signs)

-- the parsing of coeff_abs_level_remaining, where it is coded: the sizes of these levels (7.3.8.11, 9.3.3.11)
abbrev pub rests_read : ℕ → List Known → Reader (List ℕ)
rests_read r [] = give []
rests_read r (k ∷ ks) = do
  rest ← if k.has_remaining then remaining_read r else give 0
  sizes ← rests_read (if k.has_remaining then rice_after r (k.base + rest) else r) ks
  give ((k.base + rest) ∷ sizes)

-- a level of this coeff_sign_flag and size (7.4.9.11)
abbrev pub signed : Bool → ℕ → ℤ
signed true size = neg_ℤ (pos size)
signed false size = pos size

-- levels of these signs and sizes (7.4.9.11)
abbrev pub signed_all : List Bool → List ℕ → List ℤ
signed_all [] sizes = []
signed_all (sign ∷ signs) [] = []
signed_all (sign ∷ signs) (size ∷ sizes) = signed sign size ∷ signed_all signs sizes

-- the parsing of coeff_abs_level_greater2_flag, which is 0 where it isn't coded (7.3.8.11, 7.4.9.11)
abbrev pub greater2_read : ℕ → ℕ → List Bool → Reader Bool
greater2_read component set flags = if has_flag flags then bin (Context (greater2_context component set)) else give false

-- the parsing of the levels other than 0 of a sub-block, as many as these (7.3.8.11); a size above 255 is refused, a
-- rule of this project's own: no difference of samples has it
abbrev pub values_read : ℕ → ℕ → ℕ → Reader (List ℤ)
values_read component set many = do
  flags ← greater1_read component set 1 (min 8 many)
  greater2 ← greater2_read component set flags
  signs ← signs_read many
  sizes ← rests_read 0 (known_of many flags greater2)
  if list_all (λ size. nat_le size 255) sizes then give (signed_all signs sizes) else refuse

-- values in the places with a flag, and 0 elsewhere (plain)
abbrev pub spread : List Bool → List ℤ → List ℤ
spread [] values = []
spread (false ∷ flags) values = pos 0 ∷ spread flags values
spread (true ∷ flags) [] = pos 0 ∷ spread flags []
spread (true ∷ flags) (v ∷ values) = v ∷ spread flags values

-- how many flags are 1 (plain)
abbrev pub many_of : List Bool → ℕ
many_of flags = length (filter (λ flag. flag) flags)

-- the parsing of the levels of a sub-block, of which those flags are known and k more come (7.3.8.11)
abbrev pub levels_read : Shape → Sub → Bool → Bool → List Bool → ℕ → Reader (List ℤ)
levels_read s sub inner ended known_flags k = do
  more ← sig_read s sub inner (not (many_of known_flags == 0)) k
  values ← values_read s.component (set_of s sub.number ended) (many_of (known_flags ++ more))
  give (spread (known_flags ++ more) values)

-- the levels of a sub-block without levels other than 0 (plain)
abbrev pub zeros : List ℤ
zeros = replicate 16 (pos 0)

-- the parsing of the sub-blocks before the last one that is coded, the greatest number first (7.3.8.11)
abbrev pub subs_read : Shape → List Bool → Bool → ℕ → Reader (List (List ℤ))
subs_read s flags ended zero = give []
subs_read s flags ended (suc number) =
    let sub : Sub = sub_at s number flags in
    let inner : Bool = not (number == 0) in do
      coded ← if inner then bin (Context (flag_context s sub)) else give true
      levels ← if coded then levels_read s sub inner ended [] 16 else give zeros
      subs ← subs_read s (coded ∷ flags) (ended_at_zero ended (nonzero levels)) number
      give (levels ∷ subs)

-- the parsing of last_sig_coeff_x_suffix: LastSignificantCoeffX of a prefix, or Y (7.3.8.11, 7.4.9.11)
abbrev pub coordinate_read : ℕ → Reader ℕ
coordinate_read prefix = do
  suffix ← fl_read (suffix_bits prefix)
  give (suffix_base prefix + suffix)

-- the parsing of the last level's place (7.3.8.11, 7.4.9.11)
abbrev pub last_read : Shape → Reader (ℕ × ℕ)
last_read s = do
  x_prefix ← tr_read (λ i. Context (last_context s.component s.log2 false i)) (2 * s.log2 - 1)
  y_prefix ← tr_read (λ i. Context (last_context s.component s.log2 true i)) (2 * s.log2 - 1)
  x ← coordinate_read x_prefix
  y ← coordinate_read y_prefix
  give (swapped s.scan (x, y))

-- the parsing of a block after the last level's place: its levels in rows (7.3.8.11)
abbrev pub residual_from : Shape → ℕ × ℕ → Reader (List ℤ)
residual_from s place =
    let number : ℕ = number_of (place.0 / 4) (place.1 / 4) (sub_scan s) in
    let k : ℕ = number_of (place.0 % 4) (place.1 % 4) (scan s.scan 2) in do
      levels ← levels_read s (sub_at s number []) false false (replicate (15 - k) false ++ true ∷ []) k
      subs ← subs_read s (true ∷ []) (ended_at_zero false (nonzero levels)) number
      give (in_rows s (replicate (length (sub_scan s) - number - 1) zeros ++ levels ∷ subs))

-- the parsing of residual_coding: the block of levels, in rows (7.3.8.11)
unfoldable pub residual_read : Shape → Reader (List ℤ)
residual_read s = last_read s >>= residual_from s

-- ---- blocks that are written

-- the sides of blocks, 8, 16 and 32, by their base-2 logarithms (7.4.3.2.1, 7.4.9.5)
pub data IsSide : ℕ → Type 0 where
  eight : IsSide 3
  sixteen : IsSide 4
  thirty_two : IsSide 5

-- levels that are differences of samples of 8 bits (plain)
abbrev pub AreLevels : List ℤ → Type 0
AreLevels [] = Unit {0}
AreLevels (v ∷ levels) = (nat_abs v ≤ 255) × AreLevels levels

-- a block of this component, base-2 logarithm and scanIdx (plain)
abbrev pub shape : ℕ → ℕ → ℕ → Shape
shape component log2 kind = record { component = component; log2 = log2; scan = kind }
