-- Levels in their places.
use Rattle.std.proofs.Common.{◌≡◌, ◌≢◌, refl, sym, ◌∙◌, ap, ℕ, suc, ◌+◌, ◌-◌, ◌*◌, ◌/◌, ◌%◌, ◌^◌, ◌<◌, ◌≤◌, Bool, true, false, not, Some, None, Option, List, get_or, set, pow-suc, pow_mono, arith}
use Rattle.std.specs.Prelude.{◌==◌, if◌then◌else◌, ℤ, pos, min}
use Rattle.std.specs.Int.RustNames.{count_ones}
use Rattle.h265_model.specs.Bits.{◌>>=◌ as and_then}
use Rattle.h265_model.specs.Engine.{Engine, bin}
use Rattle.h265_model.specs.Residual as residual
use Rattle.h265_model.specs.Residual.{place_at, scan, Sub}
use Rattle.bin_items.specs.Square.{place}
use Rattle.residual_read.specs.Parts.{laid, sub_with, mask_read, values_with, set_number, coded_read, inner_with}
use Rattle.std.proofs.lemmas.Bool.Decides.{nat_tests}
use Rattle.h265_model.specs.declared.Place.TheVariants.{Context}
use Rattle.residual_read.proofs.Steps.{then_some, then_none}

-- a place of a sub-block is in the block
pub inside : (log2 a p : ℕ) → 3 ≤ log2 → a < 2 ^ (log2 - 2) → p < 4 → 4 * a + p < 2 ^ log2
inside log2 a p low h k =
    let n : log2 ≡ suc (suc (log2 - 2)) = omega arith in
    let s : 2 ^ log2 ≡ 2 ^ (log2 - 2) * 2 * 2 = ap (λ j. 2 ^ j) n ∙ pow-suc 2 (suc (log2 - 2)) ∙ ap (λ j. j * 2) (pow-suc 2 (log2 - 2)) in
    omega arith

abbrev laid_where : Bool → ℕ → ℕ → ℕ × ℕ → ℕ → List ℤ → ℕ → ℕ → List ℤ → List ℤ
laid_where flag kind log2 sub mask values j k levels =
    if flag
    then laid kind log2 sub mask values (j + 1) k (set levels (place log2 (4 * sub.0 + (place_at (scan kind 2) k).0) (4 * sub.1 + (place_at (scan kind 2) k).1)) (get_or values j (pos 0)))
    else laid kind log2 sub mask values j k levels

laid_open : (kind log2 : ℕ) (sub : ℕ × ℕ) (mask : ℕ) (values : List ℤ) (j k : ℕ) (levels : List ℤ)
    → laid kind log2 sub mask values j (k + 1) levels ≡ laid_where (mask / 2 ^ k % 2 == 1) kind log2 sub mask values j k levels
unfolding laid
laid_open kind log2 sub mask values j k levels = let n : k + 1 ≡ suc k = omega arith in ap (λ m. laid kind log2 sub mask values j m levels) n

pub laid_one : (kind log2 : ℕ) (sub : ℕ × ℕ) (mask : ℕ) (values : List ℤ) (j k : ℕ) (levels levels' : List ℤ) → (mask / 2 ^ k % 2 == 1) ≡ true
    → levels' ≡ set levels (place log2 (4 * sub.0 + (place_at (scan kind 2) k).0) (4 * sub.1 + (place_at (scan kind 2) k).1)) (get_or values j (pos 0))
    → laid kind log2 sub mask values j (k + 1) levels ≡ laid kind log2 sub mask values (j + 1) k levels'
laid_one kind log2 sub mask values j k levels levels' h e = laid_open kind log2 sub mask values j k levels ∙ rw (h, e) refl

pub laid_none : (kind log2 : ℕ) (sub : ℕ × ℕ) (mask : ℕ) (values : List ℤ) (j k : ℕ) (levels : List ℤ) → (mask / 2 ^ k % 2 == 1) ≡ false
    → laid kind log2 sub mask values j (k + 1) levels ≡ laid kind log2 sub mask values j k levels
laid_none kind log2 sub mask values j k levels h = laid_open kind log2 sub mask values j k levels ∙ rw h refl

pub laid_more : (kind log2 : ℕ) (sub : ℕ × ℕ) (mask : ℕ) (values : List ℤ) (j k : ℕ) (levels other : List ℤ) → 0 < k
    → laid kind log2 sub mask values j (k - 1 + 1) levels ≡ other → laid kind log2 sub mask values j k levels ≡ other
laid_more kind log2 sub mask values j k levels other h e = let n : k ≡ k - 1 + 1 = omega arith in ap (λ m. laid kind log2 sub mask values j m levels) n ∙ e

pub laid_full : (kind log2 : ℕ) (sub : ℕ × ℕ) (mask : ℕ) (values : List ℤ) (j k : ℕ) (levels : List ℤ) → k ≤ 0 → laid kind log2 sub mask values j k levels ≡ levels
unfolding laid
laid_full kind log2 sub mask values j k levels h = let n : k ≡ 0 = omega arith in ap (λ m. laid kind log2 sub mask values j m levels) n

pub laid_as : (kind log2 log2' : ℕ) (sub : ℕ × ℕ) (mask : ℕ) (values : List ℤ) (j k : ℕ) (levels before : List ℤ) → log2' ≡ log2
    → before ≡ laid kind log2 sub mask values j k levels → before ≡ laid kind log2' sub mask values j k levels
laid_as kind log2 log2' sub mask values j k levels before e h = h ∙ ap (λ n. laid kind n sub mask values j k levels) (sym e)

pub side_low : (log2 : ℕ) → log2 ≤ 5 → 2 ^ log2 ≤ 32
side_low log2 h = low (pow_mono {i = log2} {j = 5} h)
  where
    low : 2 ^ log2 ≤ 2 ^ 5 → 2 ^ log2 ≤ 32
    low h = h

-- ---- a sub-block

abbrev pub values_then : residual.Shape → ℕ × ℕ → Bool → ℕ → List ℤ → (ℕ × List ℤ) × Engine → Option ((Bool × List ℤ) × Engine)
values_then s at ended mask levels found = Some ((if mask == 0 then ended else not (found.0.0 == 0), laid s.scan s.log2 at mask found.0.1 0 16 levels), found.1)

abbrev pub mask_then : residual.Shape → Sub → ℕ × ℕ → Bool → List ℤ → ℕ × Engine → Option ((Bool × List ℤ) × Engine)
mask_then s sub at ended levels found = and_then (values_with s.component (set_number s.component sub.number ended) (min (count_ones found.0) 16) found.1) (values_then s at ended found.0 levels)

pub sub_open : (s : residual.Shape) (sub : Sub) (at : ℕ × ℕ) (inner ended : Bool) (flags k : ℕ) (levels : List ℤ) (e : Engine)
    → sub_with s sub at inner ended flags k levels e ≡ and_then (mask_read s sub inner flags k e) (mask_then s sub at ended levels)
unfolding sub_with
sub_open s sub at inner ended flags k levels e = refl

pub sub_none1 : (s : residual.Shape) (sub : Sub) (at : ℕ × ℕ) (inner ended : Bool) (flags k : ℕ) (levels : List ℤ) (e : Engine) → mask_read s sub inner flags k e ≡ None → sub_with s sub at inner ended flags k levels e ≡ None
sub_none1 s sub at inner ended flags k levels e h = sub_open s sub at inner ended flags k levels e ∙ then_none _ (mask_then s sub at ended levels) h

pub sub_none2 : (s : residual.Shape) (sub : Sub) (at : ℕ × ℕ) (inner ended : Bool) (flags k mask chosen many : ℕ) (levels : List ℤ) (e d : Engine) → mask_read s sub inner flags k e ≡ Some (mask, d)
    → chosen ≡ set_number s.component sub.number ended → many ≡ min (count_ones mask) 16 → values_with s.component chosen many d ≡ None → sub_with s sub at inner ended flags k levels e ≡ None
sub_none2 s sub at inner ended flags k mask chosen many levels e d h se ma i =
    sub_open s sub at inner ended flags k levels e ∙ then_some _ _ (mask_then s sub at ended levels) h ∙ then_none _ (values_then s at ended mask levels) (rw (← se, ← ma) i)

pub sub_all : (s : residual.Shape) (sub : Sub) (at : ℕ × ℕ) (inner ended ended' : Bool) (flags k mask chosen many ones : ℕ) (values levels levels' : List ℤ) (e d f : Engine) → mask_read s sub inner flags k e ≡ Some (mask, d)
    → chosen ≡ set_number s.component sub.number ended → many ≡ min (count_ones mask) 16 → values_with s.component chosen many d ≡ Some ((ones, values), f)
    → ended' ≡ (if mask == 0 then ended else not (ones == 0)) → levels' ≡ laid s.scan s.log2 at mask values 0 16 levels
    → sub_with s sub at inner ended flags k levels e ≡ Some ((ended', levels'), f)
sub_all s sub at inner ended ended' flags k mask chosen many ones values levels levels' e d f h se ma i en le =
    sub_open s sub at inner ended flags k levels e ∙ then_some _ _ (mask_then s sub at ended levels) h ∙ then_some (values_with s.component (set_number s.component sub.number ended) (min (count_ones mask) 16) d) ((ones, values), f) (values_then s at ended mask levels) (rw (← se, ← ma) i)
    ∙ is ended' levels' en le
  where
    is : (ended' : Bool) (levels' : List ℤ) → ended' ≡ (if mask == 0 then ended else not (ones == 0)) → levels' ≡ laid s.scan s.log2 at mask values 0 16 levels
        → values_then s at ended mask levels ((ones, values), f) ≡ Some ((ended', levels'), f)
    is ended' levels' en le = rw (en, le) refl

not_zero : (n : ℕ) → n ≢ 0 → (n == 0) ≡ false
not_zero n h = grind (arith, nat_tests)

pub coded_first : (s : residual.Shape) (sub : Sub) (e : Engine) → sub.number ≡ 0 → coded_read s sub e ≡ Some (true, e)
unfolding coded_read
coded_first s sub e h = rw h refl

pub coded_is : (s : residual.Shape) (sub : Sub) (context : ℕ) (e : Engine) → sub.number ≢ 0 → context ≡ residual.flag_context s sub → coded_read s sub e ≡ bin (Context context) e
unfolding coded_read
coded_is s sub context e h is = rw (is, not_zero sub.number h) refl

pub inner_none : (s : residual.Shape) (sub : Sub) (at : ℕ × ℕ) (coded ended : Bool) (levels : List ℤ) (e : Engine) → coded ≡ false → inner_with s sub at coded ended levels e ≡ Some ((ended, levels), e)
unfolding inner_with
inner_none s sub at coded ended levels e h = rw h refl

pub inner_is : (s : residual.Shape) (sub : Sub) (at : ℕ × ℕ) (coded ended inner : Bool) (levels : List ℤ) (e : Engine) → coded ≡ true → inner ≡ not (sub.number == 0) → inner_with s sub at coded ended levels e ≡ sub_with s sub at inner ended 0 16 levels e
unfolding inner_with
inner_is s sub at coded ended inner levels e h i = rw (h, i) refl
