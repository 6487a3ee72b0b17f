-- Blocks that are read by sub-blocks into their places are those of the definitions.
use Rattle.std.proofs.Common.{◌≡◌, refl, sym, ◌∙◌, ap, ℕ, zero, suc, ◌+◌, ◌-◌, ◌*◌, ◌/◌, ◌%◌, ◌<◌, ◌≤◌, Bool, true, false, not, Some, None, Option, List, [], ◌∷◌, ◌++◌, length, length-append, append_assoc, replicate, arith}
use Rattle.std.proofs.lemmas.List.{append-nil, length-replicate}
use Rattle.std.specs.Prelude.{◌==◌, if◌then◌else◌, ℤ, pos, min}
use Rattle.std.specs.Int.RustNames.{count_ones}
use Rattle.h265_model.specs.declared.Place.TheVariants.{Context}
use Rattle.h265_model.specs.Bits.{digit, value_after, ◌>>=◌ as and_then}
use Rattle.h265_model.specs.Engine.{Engine, bin, give}
use Rattle.h265_model.specs.Residual as residual
use Rattle.h265_model.specs.Residual.{Sub, place_at, number_of, scan, sub_scan, sub_at, flag_context, in_rows, spread, zeros, nonzero, many_of, sig_read, values_read, levels_read, subs_read, residual_from, set_of, ended_at_zero}
use Rattle.bin_items.specs.Square.{area}
use Rattle.residual_read.specs.Parts.{sub_with, values_with, set_number, coded_read, inner_with, subs_with, laid}
use Rattle.residual_read.proofs.FlagReads.{valued, mask_is}
use Rattle.residual_read.proofs.Counts.{mask_none, many_is, ended_is}
use Rattle.residual_read.proofs.Found.{AreFound, values_found}
use Rattle.residual_read.proofs.SameValues.{values_same, levels_alone}
use Rattle.residual_read.proofs.ValueReads.{sig_many}
use Rattle.residual_read.proofs.Laying.{sub_open, mask_then, values_then}
use Rattle.residual_read.proofs.SubSteps.{subs_suc, subs_zero, coded_then, inner_then}
use Rattle.residual_read.proofs.RowLaws.{IsWhole, many_subs, subs_long, laid_more, zeros_more, zero_rows}

digits_append : (n : ℕ) (a b : List Bool) → value_after n (a ++ b) ≡ value_after (value_after n a) b
unfolding value_after
digits_append n [] b = refl
digits_append n (flag ∷ a) b = digits_append (2 * n + digit flag) a b

-- a sub-block's levels, put behind those of the others
abbrev pub behind : residual.Shape → Bool → List (List ℤ) → List ℤ × Engine → Option ((Bool × List ℤ) × Engine)
behind s ended subs found = Some ((ended_at_zero ended (nonzero found.0), in_rows s (subs ++ found.0 ∷ [])), found.1)

abbrev spread_then : List Bool → List ℤ × Engine → Option (List ℤ × Engine)
spread_then flags found = Some (spread flags found.0, found.1)

abbrev flags_then : residual.Shape → Sub → Bool → List Bool → List Bool × Engine → Option (List ℤ × Engine)
flags_then s sub ended flags found = and_then (values_read s.component (set_of s sub.number ended) (many_of (flags ++ found.0)) found.1) (spread_then (flags ++ found.0))

-- the sub-block with this number is the next one
pub record IsNext (s : residual.Shape) (number : ℕ) (subs : List (List ℤ)) : Type 0 where
  pub whole : IsWhole s
  pub few : number < many_subs s
  pub long : length subs + number + 1 ≡ many_subs s

values_by : (s : residual.Shape) (number : ℕ) (ended : Bool) (flags : List Bool) (many : ℕ) (subs : List (List ℤ)) → IsNext s number subs → length flags ≡ 16 → many ≡ many_of flags
    → (component set : ℕ) (e : Engine) (o : Option ((ℕ × List ℤ) × Engine)) → values_with component set many e ≡ o
    → and_then o (values_then s (place_at (sub_scan s) number) ended (value_after 0 flags) (in_rows s subs)) ≡ and_then (and_then (and_then o levels_alone) (spread_then flags)) (behind s ended subs)
values_by s number ended flags many subs next long is component set e None h = refl
values_by s number ended flags many subs next long is component set e (Some ((ones, values), d)) h =
    let found : AreFound many ones values = values_found component set many ones values e d h in
    ap (λ (b : Bool). Some ((b, laid s.scan s.log2 (place_at (sub_scan s) number) (value_after 0 flags) values 0 16 (in_rows s subs)), d)) (ended_is flags values ones ended (found.long ∙ is) found.some found.greater)
    ∙ ap (λ (l : List ℤ). Some ((ended_at_zero ended (nonzero (spread flags values)), l), d)) (laid_more s number flags values subs next.whole next.few next.long long)

flags_by : (s : residual.Shape) (sub : Sub) (number : ℕ) (ended : Bool) (flags more : List Bool) (m : ℕ) (subs : List (List ℤ)) (d : Engine) → IsNext s number subs → m ≡ value_after 0 flags → length (flags ++ more) ≡ 16
    → mask_then s sub (place_at (sub_scan s) number) ended (in_rows s subs) (value_after m more, d) ≡ and_then (flags_then s sub ended flags (more, d)) (behind s ended subs)
flags_by s sub number ended flags more m subs d next is long =
    let all : value_after m more ≡ value_after 0 (flags ++ more) = ap (λ n. value_after n more) is ∙ sym (digits_append 0 flags more) in
    let many : min (count_ones (value_after 0 (flags ++ more))) 16 ≡ many_of (flags ++ more) = many_is (flags ++ more) (omega arith) in
    ap (λ n. mask_then s sub (place_at (sub_scan s) number) ended (in_rows s subs) (n, d)) all
    ∙ ap (λ n. and_then (values_with s.component (set_number s.component sub.number ended) n d) (values_then s (place_at (sub_scan s) number) ended (value_after 0 (flags ++ more)) (in_rows s subs))) many
    ∙ values_by s number ended (flags ++ more) (many_of (flags ++ more)) subs next long refl s.component (set_number s.component sub.number ended) d (values_with s.component (set_number s.component sub.number ended) (many_of (flags ++ more)) d) refl
    ∙ ap (λ (o : Option (List ℤ × Engine)). and_then (and_then o (spread_then (flags ++ more))) (behind s ended subs)) (values_same s.component (set_number s.component sub.number ended) (many_of (flags ++ more)) d)

sub_by : (s : residual.Shape) (sub : Sub) (number : ℕ) (inner found ended : Bool) (flags : List Bool) (m k : ℕ) (subs : List (List ℤ)) (e : Engine) → IsNext s number subs → m ≡ value_after 0 flags → length flags + k ≡ 16
    → (o : Option (List Bool × Engine)) → sig_read s sub inner found k e ≡ o
    → and_then (and_then o (valued m)) (mask_then s sub (place_at (sub_scan s) number) ended (in_rows s subs)) ≡ and_then (and_then o (flags_then s sub ended flags)) (behind s ended subs)
sub_by s sub number inner found ended flags m k subs e next is long None h = refl
sub_by s sub number inner found ended flags m k subs e next is long (Some (more, d)) h =
    let l : length more ≡ k = sig_many s sub inner found k more e d h in
    flags_by s sub number ended flags more m subs d next is (length-append flags more ∙ omega arith)

-- a sub-block read into its place is the sub-block that the definitions read
pub sub_is : (s : residual.Shape) (sub : Sub) (number : ℕ) (inner ended : Bool) (flags : List Bool) (m k : ℕ) (subs : List (List ℤ)) (e : Engine) → IsNext s number subs → m ≡ value_after 0 flags → length flags + k ≡ 16
    → sub_with s sub (place_at (sub_scan s) number) inner ended m k (in_rows s subs) e ≡ and_then (levels_read s sub inner ended flags k e) (behind s ended subs)
sub_is s sub number inner ended flags m k subs e next is long =
    sub_open s sub (place_at (sub_scan s) number) inner ended m k (in_rows s subs) e
    ∙ ap (λ (o : Option (ℕ × Engine)). and_then o (mask_then s sub (place_at (sub_scan s) number) ended (in_rows s subs))) (mask_is s sub inner m k e)
    ∙ ap (λ (b : Bool). and_then (and_then (sig_read s sub inner b k e) (valued m)) (mask_then s sub (place_at (sub_scan s) number) ended (in_rows s subs))) (ap (λ n. not (n == 0)) is ∙ ap not (mask_none flags))
    ∙ sub_by s sub number inner (not (many_of flags == 0)) ended flags m k subs e next is long (sig_read s sub inner (not (many_of flags == 0)) k e) refl

-- ---- the sub-blocks before a number

abbrev pub rows_then : residual.Shape → List (List ℤ) → List (List ℤ) × Engine → Option (List ℤ × Engine)
rows_then s subs found = Some (in_rows s (subs ++ found.0), found.1)

abbrev listed_then : List ℤ → List (List ℤ) × Engine → Option (List (List ℤ) × Engine)
listed_then levels found = Some (levels ∷ found.0, found.1)

coded_same : (s : residual.Shape) (sub : Sub) (e : Engine) → coded_read s sub e ≡ (if not (sub.number == 0) then bin (Context (flag_context s sub)) else give true) e
unfolding coded_read
coded_same s sub e = go (sub.number == 0)
  where
    go : (b : Bool) → (if b then give true else bin (Context (flag_context s sub))) e ≡ (if not b then bin (Context (flag_context s sub)) else give true) e
    go true = refl
    go false = refl

joined_rows : (s : residual.Shape) (subs : List (List ℤ)) (levels : List ℤ) (o : Option (List (List ℤ) × Engine)) → and_then o (rows_then s (subs ++ levels ∷ [])) ≡ and_then (and_then o (listed_then levels)) (rows_then s subs)
joined_rows s subs levels None = refl
joined_rows s subs levels (Some (more, d)) = ap (λ (l : List (List ℤ)). Some (in_rows s l, d)) (append_assoc subs (levels ∷ []) more)

abbrev levels_then : residual.Shape → List Bool → Bool → ℕ → Bool → List ℤ × Engine → Option (List (List ℤ) × Engine)
levels_then s flags ended number coded found = and_then (subs_read s (coded ∷ flags) (ended_at_zero ended (nonzero found.0)) number found.1) (listed_then found.0)

abbrev flag_then : residual.Shape → List Bool → Bool → ℕ → Bool × Engine → Option (List (List ℤ) × Engine)
flag_then s flags ended number found =
    and_then ((if found.0 then levels_read s (sub_at s number flags) (not (number == 0)) ended [] 16 else give zeros) found.1) (levels_then s flags ended number found.0)

subs_read_suc : (s : residual.Shape) (flags : List Bool) (ended : Bool) (number : ℕ) (e : Engine)
    → subs_read s flags ended (suc number) e ≡ and_then ((if not (number == 0) then bin (Context (flag_context s (sub_at s number flags))) else give true) e) (flag_then s flags ended number)
subs_read_suc s flags ended number e = refl

-- the sub-blocks before a number, read behind those
abbrev pub AreRows : residual.Shape → ℕ → Type 0
AreRows s number = (flags : List Bool) (ended : Bool) (subs : List (List ℤ)) (e : Engine) → length subs + number ≡ many_subs s
    → subs_with s flags ended number (in_rows s subs) e ≡ and_then (subs_read s flags ended number e) (rows_then s subs)

inner_open : (s : residual.Shape) (sub : Sub) (at : ℕ × ℕ) (ended : Bool) (levels : List ℤ) (e : Engine) → inner_with s sub at true ended levels e ≡ sub_with s sub at (not (sub.number == 0)) ended 0 16 levels e
unfolding inner_with
inner_open s sub at ended levels e = refl

inner_same : (s : residual.Shape) (sub : Sub) (at : ℕ × ℕ) (ended : Bool) (levels : List ℤ) (e : Engine) → inner_with s sub at false ended levels e ≡ Some ((ended, levels), e)
unfolding inner_with
inner_same s sub at ended levels e = refl

one_longer : (subs : List (List ℤ)) (levels : List ℤ) (number n : ℕ) → length subs + suc number ≡ n → length (subs ++ levels ∷ []) + number ≡ n
one_longer subs levels number n h = let l : length (subs ++ levels ∷ []) ≡ length subs + 1 = length-append subs (levels ∷ []) in omega arith

read_by : (s : residual.Shape) (flags : List Bool) (ended : Bool) (number : ℕ) (subs : List (List ℤ)) → AreRows s number → length subs + suc number ≡ many_subs s → (o : Option (List ℤ × Engine))
    → and_then (and_then o (behind s ended subs)) (inner_then s flags number true) ≡ and_then (and_then o (levels_then s flags ended number true)) (rows_then s subs)
read_by s flags ended number subs are long None = refl
read_by s flags ended number subs are long (Some (levels, d)) =
    are (true ∷ flags) (ended_at_zero ended (nonzero levels)) (subs ++ levels ∷ []) d (one_longer subs levels number (many_subs s) long)
    ∙ joined_rows s subs levels (subs_read s (true ∷ flags) (ended_at_zero ended (nonzero levels)) number d)

none_ended : (ended : Bool) → ended_at_zero ended (nonzero zeros) ≡ ended
none_ended ended = refl

digits_none : (n : ℕ) → n ≡ value_after n []
unfolding value_after
digits_none n = refl

flag_by : (s : residual.Shape) (flags : List Bool) (ended : Bool) (number : ℕ) (subs : List (List ℤ)) → IsWhole s → AreRows s number → length subs + suc number ≡ many_subs s → (o : Option (Bool × Engine))
    → and_then o (coded_then s flags ended number (in_rows s subs)) ≡ and_then (and_then o (flag_then s flags ended number)) (rows_then s subs)
flag_by s flags ended number subs is are long None = refl
flag_by s flags ended number subs is are long (Some (true, d)) =
    ap (λ (o : Option ((Bool × List ℤ) × Engine)). and_then o (inner_then s flags number true))
    (inner_open s (sub_at s number flags) (place_at (sub_scan s) number) ended (in_rows s subs) d
    ∙ sub_is s (sub_at s number flags) number (not (number == 0)) ended [] 0 16 subs d (record { whole = is; few = omega arith; long = omega arith }) (digits_none 0) (omega arith))
    ∙ read_by s flags ended number subs are long (levels_read s (sub_at s number flags) (not (number == 0)) ended [] 16 d)
flag_by s flags ended number subs is are long (Some (false, d)) =
    ap (λ (o : Option ((Bool × List ℤ) × Engine)). and_then o (inner_then s flags number false)) (inner_same s (sub_at s number flags) (place_at (sub_scan s) number) ended (in_rows s subs) d)
    ∙ ap (λ (l : List ℤ). subs_with s (false ∷ flags) ended number l d) (zeros_more s subs)
    ∙ are (false ∷ flags) ended (subs ++ zeros ∷ []) d (one_longer subs zeros number (many_subs s) long)
    ∙ joined_rows s subs zeros (subs_read s (false ∷ flags) ended number d)

-- the sub-blocks before a number, read into their places, are those that the definitions read
pub subs_are : (s : residual.Shape) (number : ℕ) → IsWhole s → AreRows s number
subs_are s zero is = λ flags ended subs e long.
    subs_zero s flags ended (in_rows s subs) e ∙ ap (λ (l : List (List ℤ)). Some (in_rows s l, e)) (sym (append-nil subs))
subs_are s (suc number) is = λ flags ended subs e long.
    subs_suc s flags ended number (in_rows s subs) e
    ∙ ap (λ (o : Option (Bool × Engine)). and_then o (coded_then s flags ended number (in_rows s subs))) (coded_same s (sub_at s number flags) e)
    ∙ flag_by s flags ended number subs is (subs_are s number is) long ((if not (number == 0) then bin (Context (flag_context s (sub_at s number flags))) else give true) e)
    ∙ ap (λ (o : Option (List (List ℤ) × Engine)). and_then o (rows_then s subs)) (sym (subs_read_suc s flags ended number e))

-- ---- a block, from the place of its last level on

-- the sub-blocks before the last one
abbrev pub later_then : residual.Shape → ℕ → (Bool × List ℤ) × Engine → Option (List ℤ × Engine)
later_then s number found = subs_with s (true ∷ []) found.0.0 number found.0.1 found.1

abbrev all_then : residual.Shape → ℕ → List ℤ → List (List ℤ) × Engine → Option (List ℤ × Engine)
all_then s number levels found = Some (in_rows s (replicate (length (sub_scan s) - number - 1) zeros ++ levels ∷ found.0), found.1)

abbrev last_then : residual.Shape → ℕ → List ℤ × Engine → Option (List ℤ × Engine)
last_then s number found = and_then (subs_read s (true ∷ []) (ended_at_zero false (nonzero found.0)) number found.1) (all_then s number found.0)

from_open : (s : residual.Shape) (place : ℕ × ℕ) (e : Engine)
    → residual_from s place e ≡ and_then (levels_read s (sub_at s (number_of (place.0 / 4) (place.1 / 4) (sub_scan s)) []) false false (replicate (15 - number_of (place.0 % 4) (place.1 % 4) (scan s.scan 2)) false ++ true ∷ []) (number_of (place.0 % 4) (place.1 % 4) (scan s.scan 2)) e)
    (last_then s (number_of (place.0 / 4) (place.1 / 4) (sub_scan s)))
from_open s place e = refl

last_rows : (s : residual.Shape) (number : ℕ) (levels : List ℤ) (o : Option (List (List ℤ) × Engine))
    → and_then o (rows_then s (replicate (length (sub_scan s) - number - 1) zeros ++ levels ∷ [])) ≡ and_then o (all_then s number levels)
last_rows s number levels None = refl
last_rows s number levels (Some (more, d)) = ap (λ (l : List (List ℤ)). Some (in_rows s l, d)) (append_assoc (replicate (length (sub_scan s) - number - 1) zeros) (levels ∷ []) more)

last_by : (s : residual.Shape) (number : ℕ) → IsWhole s → number < many_subs s → (o : Option (List ℤ × Engine))
    → and_then (and_then o (behind s false (replicate (length (sub_scan s) - number - 1) zeros))) (later_then s number) ≡ and_then o (last_then s number)
last_by s number is few None = refl
last_by s number is few (Some (levels, d)) =
    let n : length (sub_scan s) ≡ many_subs s = subs_long s is in
    let l : length (replicate (length (sub_scan s) - number - 1) zeros) ≡ length (sub_scan s) - number - 1 = length-replicate (length (sub_scan s) - number - 1) zeros in
    subs_are s number is (true ∷ []) (ended_at_zero false (nonzero levels)) (replicate (length (sub_scan s) - number - 1) zeros ++ levels ∷ []) d
    (one_longer (replicate (length (sub_scan s) - number - 1) zeros) levels number (many_subs s) (omega arith))
    ∙ last_rows s number levels (subs_read s (true ∷ []) (ended_at_zero false (nonzero levels)) number d)

one_flag : (n : ℕ) → value_after 0 (replicate n false ++ true ∷ []) ≡ 1
unfolding value_after
one_flag zero = refl
one_flag (suc n) = one_flag n

flags_long : (n k : ℕ) → n + k ≡ 15 → length (replicate n false ++ true ∷ []) + k ≡ 16
flags_long n k h =
    let a : length (replicate n false ++ true ∷ []) ≡ length (replicate n false) + 1 = length-append (replicate n false) (true ∷ []) in
    let b : length (replicate n false) ≡ n = length-replicate n false in
    omega arith

-- a block of zeros, filled from its last level on, is the block that the definitions read
pub from_is : (s : residual.Shape) (place : ℕ × ℕ) (number k : ℕ) (e : Engine) → IsWhole s → number ≡ number_of (place.0 / 4) (place.1 / 4) (sub_scan s) → number < many_subs s
    → k ≡ number_of (place.0 % 4) (place.1 % 4) (scan s.scan 2) → k ≤ 15
    → and_then (sub_with s (sub_at s number []) (place_at (sub_scan s) number) false false 1 k (replicate (area s.log2) (pos 0)) e) (later_then s number) ≡ residual_from s place e
from_is s place number k e is n few m low =
    let many : length (sub_scan s) ≡ many_subs s = subs_long s is in
    let l : length (replicate (length (sub_scan s) - number - 1) zeros) ≡ length (sub_scan s) - number - 1 = length-replicate (length (sub_scan s) - number - 1) zeros in
    ap (λ (levels : List ℤ). and_then (sub_with s (sub_at s number []) (place_at (sub_scan s) number) false false 1 k levels e) (later_then s number)) (zero_rows s (length (sub_scan s) - number - 1))
    ∙ ap (λ (o : Option ((Bool × List ℤ) × Engine)). and_then o (later_then s number))
    (sub_is s (sub_at s number []) number false false (replicate (15 - k) false ++ true ∷ []) 1 k (replicate (length (sub_scan s) - number - 1) zeros) e (record { whole = is; few = few; long = omega arith }) (sym (one_flag (15 - k))) (flags_long (15 - k) k (omega arith)))
    ∙ last_by s number is few (levels_read s (sub_at s number []) false false (replicate (15 - k) false ++ true ∷ []) k e)
    ∙ ap (λ i. and_then (levels_read s (sub_at s i []) false false (replicate (15 - k) false ++ true ∷ []) k e) (last_then s i)) n
    ∙ ap (λ i. and_then (levels_read s (sub_at s (number_of (place.0 / 4) (place.1 / 4) (sub_scan s)) []) false false (replicate (15 - i) false ++ true ∷ []) i e) (last_then s (number_of (place.0 / 4) (place.1 / 4) (sub_scan s)))) m
    ∙ sym (from_open s place e)
