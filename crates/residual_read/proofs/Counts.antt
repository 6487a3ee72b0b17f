-- How many flags are 1, and what is told of the counter of greater1 flags.
use Rattle.std.proofs.Common.{◌≡◌, refl, sym, ◌∙◌, ap, ℕ, suc, ◌+◌, ◌*◌, ◌^◌, ◌<◌, ◌≤◌, Bool, true, false, not, List, [], ◌∷◌, length, map, arith}
use Rattle.std.proofs.lemmas.Bool.Decides.{nat_tests}
use Rattle.std.proofs.lemmas.Nat.{ones_cat, ones-le}
use Rattle.std.specs.Prelude.{◌==◌, if◌then◌else◌, ℤ, nat_abs, min, cond}
use Rattle.std.specs.Int.RustNames.{count_ones}
use lib.Count.{ones-ones}
use Rattle.h265_model.specs.Bits.{digit, value_after}
use Rattle.h265_model.specs.Residual.{many_of, has_flag, counted_all, spread, nonzero, is_zero, ended_at_zero, greater1_flags}
use Rattle.residual_read.proofs.ValueReads.{flags_zero}

none_set : count_ones 0 ≡ 0
none_set = let h = ones-le 0 0 (omega arith) in omega (arith, h)

one_set : count_ones 1 ≡ 1
one_set = ones-ones 1

digit_set : (b : Bool) → count_ones (digit b) ≡ digit b
digit_set true = one_set
digit_set false = none_set

digit_low : (b : Bool) → digit b < 2 ^ 1
digit_low true = omega arith
digit_low false = omega arith

set_more : (n : ℕ) (b : Bool) → count_ones (2 * n + digit b) ≡ count_ones n + digit b
set_more n b =
    let e : 2 * n + digit b ≡ n * 2 ^ 1 + digit b = omega arith in
    ap count_ones e ∙ ones_cat 1 n (digit b) (digit_low b) ∙ ap (λ k. count_ones n + k) (digit_set b)

set_after : (n : ℕ) (flags : List Bool) → count_ones (value_after n flags) ≡ count_ones n + many_of flags
unfolding value_after
set_after n [] = omega arith
set_after n (true ∷ flags) = let h = set_after (2 * n + 1) flags in let s = set_more n true in omega arith
set_after n (false ∷ flags) = let h = set_after (2 * n + 0) flags in let s = set_more n false in omega arith

many_low : (flags : List Bool) → many_of flags ≤ length flags
many_low [] = omega arith
many_low (true ∷ flags) = let h = many_low flags in omega arith
many_low (false ∷ flags) = let h = many_low flags in omega arith

-- digits of 1 are flags of 1
pub many_is : (flags : List Bool) → length flags ≤ 16 → min (count_ones (value_after 0 flags)) 16 ≡ many_of flags
many_is flags h = let a = set_after 0 flags in let b = none_set in let l = many_low flags in omega arith

suc_some : (n : ℕ) → (suc n == 0) ≡ false
suc_some n = grind (arith, nat_tests)

-- no flag is 1
pub many_none : (flags : List Bool) → (many_of flags == 0) ≡ not (has_flag flags)
many_none [] = refl
many_none (true ∷ flags) = suc_some (many_of flags)
many_none (false ∷ flags) = many_none flags

pub mask_none : (flags : List Bool) → (value_after 0 flags == 0) ≡ (many_of flags == 0)
mask_none flags = flags_zero 0 flags ∙ sym (many_none flags)

-- ---- the counter of greater1 flags

counted_zero : (flags : List Bool) → counted_all 0 flags ≡ 0
counted_zero [] = refl
counted_zero (true ∷ flags) = counted_zero flags
counted_zero (false ∷ flags) = counted_zero flags

counted_some : (c : ℕ) (flags : List Bool) → (counted_all (suc c) flags == 0) ≡ has_flag flags
counted_some c [] = suc_some c
counted_some c (true ∷ flags) = ap (λ n. n == 0) (counted_zero flags)
counted_some c (false ∷ flags) = counted_some (suc c) flags

-- ---- levels other than 0

-- levels of which none is 0
abbrev pub AreSome : List ℤ → Type 0
AreSome [] = Unit {0}
AreSome (v ∷ values) = (is_zero v ≡ false) × AreSome values

some_kept : (b : Bool) (v : ℤ) (values : List ℤ) → b ≡ false → cond (not b) (v ∷ values) values ≡ v ∷ values
some_kept true v values h = absurd (clash h)
  where
    clash : true ≡ false → ⊥
    clash h = cc
some_kept false v values h = refl

-- the levels other than 0 of those spread out are those that were spread
pub nonzero_spread : (flags : List Bool) (values : List ℤ) → length values ≡ many_of flags → AreSome values → nonzero (spread flags values) ≡ values
nonzero_spread [] [] h some = refl
nonzero_spread [] (v ∷ values) h some = absurd (omega arith)
nonzero_spread (false ∷ flags) values h some = nonzero_spread flags values h some
nonzero_spread (true ∷ flags) [] h some = absurd (omega arith)
nonzero_spread (true ∷ flags) (v ∷ values) h some =
    some_kept (is_zero v) v (nonzero (spread flags values)) some.0 ∙ ap (λ (l : List ℤ). v ∷ l) (nonzero_spread flags values (omega arith) some.1)

twice_not : (b : Bool) → not (not b) ≡ b
twice_not true = refl
twice_not false = refl

ended_by : (flags : List Bool) (values : List ℤ) (ones : ℕ) (ended : Bool) → length values ≡ many_of flags → ones ≡ value_after 0 (greater1_flags 8 (map nat_abs values))
    → (if value_after 0 flags == 0 then ended else not (ones == 0)) ≡ ended_at_zero ended values
ended_by flags [] ones ended h is =
    let z : many_of flags ≡ 0 = omega arith in
    ap (λ (b : Bool). if b then ended else not (ones == 0)) (mask_none flags ∙ ap (λ n. n == 0) z)
ended_by flags (v ∷ values) ones ended h is =
    let z : many_of flags ≡ suc (length values) = omega arith in
    ap (λ (b : Bool). if b then ended else not (ones == 0)) (mask_none flags ∙ ap (λ n. n == 0) z ∙ suc_some (length values))
    ∙ ap (λ n. not (n == 0)) is
    ∙ ap not (flags_zero 0 (greater1_flags 8 (map nat_abs (v ∷ values))))
    ∙ twice_not (has_flag (greater1_flags 8 (map nat_abs (v ∷ values))))
    ∙ sym (counted_some 0 (greater1_flags 8 (map nat_abs (v ∷ values))))

-- the counter of greater1 flags ended at 0 just where one of them is 1
pub ended_is : (flags : List Bool) (values : List ℤ) (ones : ℕ) (ended : Bool) → length values ≡ many_of flags → AreSome values → ones ≡ value_after 0 (greater1_flags 8 (map nat_abs values))
    → (if value_after 0 flags == 0 then ended else not (ones == 0)) ≡ ended_at_zero ended (nonzero (spread flags values))
ended_is flags values ones ended h some is = ended_by flags values ones ended h is ∙ ap (ended_at_zero ended) (sym (nonzero_spread flags values h some))
