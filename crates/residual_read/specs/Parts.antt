-- What the parts of the code read, each as its loop goes, with numbers whose digits are the flags read so far.
use Rattle.std.specs.Prelude.{◌≡◌, ◌≤◌, ◌<◌, ℕ, zero, suc, ◌+◌, ◌*◌, ◌/◌, ◌-◌, ◌^◌, ◌%◌, Bool, true, false, not, List, [], ◌∷◌, ◌++◌, ◌==◌, nat_le, nat_lt, if◌then◌else◌, ℤ, pos, replicate, min, ◌&&◌, set, get_or, Option, Some, None}
use Rattle.h265_model.specs.declared.Place.TheVariants.{Context, Bypass}
use Rattle.h265_model.specs.Bits.{digit, u}
use Rattle.h265_model.specs.Engine.{Engine, Reader, ◌>>=◌, give, refuse, bin}
use Rattle.h265_model.specs.Binarise.{tr_from, fl_read, remaining_read}
use Rattle.h265_model.specs.Residual as residual
use Rattle.h265_model.specs.Residual.{place_at, scan, sub_scan, sub_at, flag_context, Sub, Known, sig_at, is_implied, greater1_context, greater2_context, counted, last_context, known, known_later, rice_after, signed}
use Rattle.std.specs.Int.RustNames.{count_ones}
use Rattle.bin_items.specs.Square.{place}
use Rattle.residual_read.specs.declared.shape.Shape.{Shape}
use Rattle.residual_read.specs.declared.shape.SubBlock.{SubBlock}

-- a shape as the definitions have it
abbrev pub shape_of : Shape → residual.Shape
shape_of s = residual.shape s.component s.log2 s.scan

-- a component, a side of 8, 16 or 32, and a scan
pub record IsShape (s : Shape) : Type 0 where
  pub component : s.component < 3
  pub low : 3 ≤ s.log2
  pub high : s.log2 ≤ 5
  pub scan : s.scan < 3

-- how many sub-blocks there are
abbrev pub sub_count : Shape → ℕ
sub_count s = 4 ^ (s.log2 - 2)

-- what is known of a sub-block as the definitions have it
abbrev pub sub_of : SubBlock → Sub
sub_of b = record { number = b.number; right = b.right; below = b.below }

-- the sub-block with its number stands there
pub record IsSubBlock (s : Shape) (b : SubBlock) : Type 0 where
  pub number : b.number < sub_count s
  pub x : b.x ≡ (place_at (sub_scan (shape_of s)) b.number).0
  pub y : b.y ≡ (place_at (sub_scan (shape_of s)) b.number).1

-- the prefix of a coordinate of the last level, behind so many ones
unfoldable pub prefix_from : residual.Shape → Bool → ℕ → ℕ → Reader ℕ
prefix_from s vertical i left = tr_from (λ i. Context (last_context s.component s.log2 vertical i)) i left

-- the flags of k more levels, as digits after those of a number
unfoldable pub mask_read : residual.Shape → Sub → Bool → ℕ → ℕ → Reader ℕ
mask_read s sub inner mask zero = give mask
mask_read s sub inner mask (suc k) = do
  flag ← if is_implied inner (not (mask == 0)) k then give true else bin (Context (sig_at s sub k))
  mask_read s sub inner (2 * mask + digit flag) k

-- n more greater1 flags, as digits after those of a number
unfoldable pub ones_read : ℕ → ℕ → ℕ → ℕ → ℕ → Reader ℕ
ones_read component set counter ones zero = give ones
ones_read component set counter ones (suc n) = do
  flag ← bin (Context (greater1_context component set counter))
  ones_read component set (counted counter flag) (2 * ones + digit flag) n

-- ones without contexts behind those, of so many at most, and the zero after fewer
unfoldable pub four_from : ℕ → ℕ → Reader ℕ
four_from i left = tr_from (λ _. Bypass) i left

-- an escape behind what its ones added so far
unfoldable pub escape_read : ℕ → ℕ → ℕ → Reader ℕ
escape_read sum zero k = do
  b ← bin Bypass
  if b then refuse else (fl_read k >>= λ low. give (sum + low))
escape_read sum (suc ones) k = do
  b ← bin Bypass
  if b then escape_read (sum + 2 ^ k) ones (suc k) else (fl_read k >>= λ low. give (sum + low))

-- the least rest whose prefix has so many ones, in units of 2 to the Rice parameter
abbrev pub least_rest : ℕ → ℕ
least_rest ones = if nat_lt ones 4 then ones else 2 + 2 ^ (ones - 3)

abbrev pub known_as : ℕ → Bool → Known
known_as base more = record { base = base; has_remaining = more }

-- a size of at most 255, where the flags say this much of it
abbrev pub size_read : ℕ → Known → Reader ℕ
size_read r k = do
  rest ← if k.has_remaining then remaining_read r else give 0
  if nat_le (k.base + rest) 255 then give (k.base + rest) else refuse

-- what greater1 flags tell of their levels, behind a flag of 1 or not
abbrev pub known_after : Bool → Bool → List Bool → List Known
known_after true greater2 flags = known_later flags
known_after false greater2 flags = known greater2 flags

abbrev pub unflagged : Known
unflagged = record { base = 1; has_remaining = true }

-- levels behind those that were read, of which these signs and this much are known
abbrev pub levels_from : ℕ → List Known → List Bool → List ℤ → Reader (List ℤ)
levels_from r [] signs values = give values
levels_from r (k ∷ ks) [] values = refuse
levels_from r (k ∷ ks) (sign ∷ signs) values = do
  size ← size_read r k
  levels_from (if k.has_remaining then rice_after r size else r) ks signs (values ++ signed sign size ∷ [])

-- what the flags say of the next level
abbrev pub known_one : Bool → Bool → Bool → Known
known_one seen greater2 false = record { base = 1; has_remaining = false }
known_one true greater2 true = record { base = 2; has_remaining = true }
known_one false greater2 true = record { base = 2 + digit greater2; has_remaining = greater2 }

abbrev pub next_known : Bool → Bool → ℕ → ℕ → Known
next_known seen greater2 left ones = if left == 0 then unflagged else known_one seen greater2 (ones / 2 ^ (left - 1) % 2 == 1)

-- n levels more, the first of them with the last `left` digits of `ones` as greater1 flags, and with the last digits of `signs` as signs
unfoldable pub levels_at : ℕ → Bool → Bool → ℕ → ℕ → ℕ → ℕ → List ℤ → Reader (List ℤ)
levels_at rice seen greater2 ones left n signs values =
    levels_from rice (known_after seen greater2 (u left ones) ++ replicate (n - left) unflagged) (u n signs) values

-- the greater2 flag, if a greater1 flag is 1
unfoldable pub second_read : ℕ → ℕ → ℕ → Reader Bool
second_read component set ones = if ones == 0 then give false else bin (Context (greater2_context component set))

-- the greater1 flags as digits, and the levels other than 0, of which there are so many
unfoldable pub values_with : ℕ → ℕ → ℕ → Reader (ℕ × List ℤ)
values_with component set many = do
  ones ← ones_read component set 1 0 (min many 8)
  greater2 ← second_read component set ones
  signs ← fl_read many
  values ← levels_at 0 false greater2 ones (min many 8) many signs []
  give (ones, values)

-- a number and what is written beside it
abbrev pub GivesWith : {A : Type 0} → Option ℕ → A → Option ((ℕ × A) × Engine) → Engine → Type 0
GivesWith None out read new = read ≡ None
GivesWith (Some number) out read new = read ≡ Some ((number, out), new)

-- what is written for a reader's value, or nothing just where nothing is read
abbrev pub Gives : {A : Type 0} → Option (Unit {0}) → A → Option (A × Engine) → Engine → Type 0
Gives None out read new = read ≡ None
Gives (Some _) out read new = read ≡ Some (out, new)

-- the levels with the values of a sub-block put in the places with a flag, of the first k of its scan, from the value with this number on
unfoldable pub laid : ℕ → ℕ → ℕ × ℕ → ℕ → List ℤ → ℕ → ℕ → List ℤ → List ℤ
laid kind log2 sub mask values j zero levels = levels
laid kind log2 sub mask values j (suc k) levels =
    if mask / 2 ^ k % 2 == 1
    then laid kind log2 sub mask values (j + 1) k (set levels (place log2 (4 * sub.0 + (place_at (scan kind 2) k).0) (4 * sub.1 + (place_at (scan kind 2) k).1)) (get_or values j (pos 0)))
    else laid kind log2 sub mask values j k levels

-- the set of contexts of a sub-block's greater1 flags
abbrev pub set_number : ℕ → ℕ → Bool → ℕ
set_number component number ended = (if component == 0 && not (number == 0) then 2 else 0) + digit ended

-- a block's levels with those of a sub-block, of which the flags of a number are known and k more come, and whether the counter of greater1 flags
-- ended at 0 in the latest sub-block with levels
unfoldable pub sub_with : residual.Shape → Sub → ℕ × ℕ → Bool → Bool → ℕ → ℕ → List ℤ → Reader (Bool × List ℤ)
sub_with s sub at inner ended known_flags k levels = do
  mask ← mask_read s sub inner known_flags k
  found ← values_with s.component (set_number s.component sub.number ended) (min (count_ones mask) 16)
  give (if mask == 0 then ended else not (found.0 == 0), laid s.scan s.log2 at mask found.1 0 16 levels)

abbrev pub GivesBoth : {A : Type 0} → Option Bool → A → Option ((Bool × A) × Engine) → Engine → Type 0
GivesBoth None out read new = read ≡ None
GivesBoth (Some flag) out read new = read ≡ Some ((flag, out), new)

-- the flag of a sub-block before the last one: that of the first one isn't coded
unfoldable pub coded_read : residual.Shape → Sub → Reader Bool
coded_read s sub = if sub.number == 0 then give true else bin (Context (flag_context s sub))

-- a block's levels with those of such a sub-block, if it is coded
unfoldable pub inner_with : residual.Shape → Sub → ℕ × ℕ → Bool → Bool → List ℤ → Reader (Bool × List ℤ)
inner_with s sub at false ended levels = give (ended, levels)
inner_with s sub at true ended levels = sub_with s sub at (not (sub.number == 0)) ended 0 16 levels

-- a block's levels with those of the sub-blocks before this number
unfoldable pub subs_with : residual.Shape → List Bool → Bool → ℕ → List ℤ → Reader (List ℤ)
subs_with s flags ended zero levels = give levels
subs_with s flags ended (suc number) levels = do
  coded ← coded_read s (sub_at s number flags)
  found ← inner_with s (sub_at s number flags) (place_at (sub_scan s) number) coded ended levels
  subs_with s (coded ∷ flags) found.0 number found.1
