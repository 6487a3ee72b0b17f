-- All that is read of a sub-block's levels other than 0 is what the definitions read.
use Rattle.std.proofs.Common.{◌≡◌, refl, sym, ◌∙◌, ap, ℕ, zero, suc, ◌+◌, ◌-◌, ◌*◌, Bool, true, false, not, Some, None, Option, List, [], ◌∷◌, ◌++◌, length, length-append, arith}
use Rattle.std.proofs.lemmas.List.{length-replicate}
use Rattle.h265_model.proofs.ByteLaws.{u-value}
use Rattle.std.proofs.lemmas.Bool.Decides.{nat_tests}
use Rattle.std.specs.Prelude.{◌==◌, ◌||◌, if◌then◌else◌, min, replicate}
use Rattle.h265_model.specs.declared.Place.TheVariants.{Context}
use Rattle.h265_model.specs.Bits.{u, value_after, ◌>>=◌ as and_then}
use Rattle.h265_model.specs.Engine.{Engine, bin, bypass_read, give}
use Rattle.h265_model.specs.Residual as residual
use Rattle.h265_model.specs.Residual.{Sub, sig_read, sig_at, is_implied, has_flag, greater1_read, greater1_context, counted, greater2_read, greater2_context, signs_read, rests_read, known_of, known, known_later}
use Rattle.residual_read.specs.Parts.{second_read, levels_at, levels_from, unflagged}
use Rattle.residual_read.proofs.FlagReads.{with_flag}
use Rattle.residual_read.proofs.LevelReads.{levels_are, tested}

suc_some : (m : ℕ) → (2 * m + 1 == 0) ≡ false
suc_some m = grind (arith, nat_tests)

twice_is : (m : ℕ) → (2 * m + 0 == 0) ≡ (m == 0)
twice_is m = grind (arith, nat_tests)

-- digits are 0 just where no flag is 1
pub flags_zero : (m : ℕ) (flags : List Bool) → (value_after m flags == 0) ≡ not (not (m == 0) || has_flag flags)
unfolding value_after
flags_zero m [] = go (m == 0)
  where
    go : (b : Bool) → b ≡ not (not b || false)
    go true = refl
    go false = refl
flags_zero m (true ∷ flags) = flags_zero (2 * m + 1) flags ∙ ap (λ b. not (not b || has_flag flags)) (suc_some m) ∙ go (m == 0)
  where
    go : (b : Bool) → not (not false || has_flag flags) ≡ not (not b || has_flag (true ∷ flags))
    go true = refl
    go false = refl
flags_zero m (false ∷ flags) = flags_zero (2 * m + 0) flags ∙ ap (λ b. not (not b || has_flag flags)) (twice_is m)

pub second_same : (component set : ℕ) (flags : List Bool) (e : Engine) → second_read component set (value_after 0 flags) e ≡ greater2_read component set flags e
unfolding second_read
second_same component set flags e = ap (λ b. (if b then give false else bin (Context (greater2_context component set))) e) (flags_zero 0 flags) ∙ go (has_flag flags)
  where
    go : (b : Bool) → (if not (not true || b) then give false else bin (Context (greater2_context component set))) e ≡ (if b then bin (Context (greater2_context component set)) else give false) e
    go true = refl
    go false = refl

same_some : {A : Type 0} (x y : A) → Some x ≡ Some y → x ≡ y
same_some x y h = cc

clash : {A : Type 0} (x : A) → None ≡ Some x → ⊥
clash x h = cc

abbrev listed : Option (List Bool × Engine) → List Bool
listed None = []
listed (Some found) = found.0

one_last : (n : ℕ) (flags : List Bool) (d : Engine) (b : Bool) (o : Option (List Bool × Engine)) → ((fs : List Bool) → o ≡ Some (fs, d) → length fs ≡ n) → and_then o (with_flag b) ≡ Some (flags, d) → length flags ≡ suc n
one_last n flags d b None k g = absurd (clash (flags, d) g)
one_last n flags d b (Some (fs, f)) k g =
    let p : (b ∷ fs, f) ≡ (flags, d) = same_some _ _ g in
    let q : b ∷ fs ≡ flags = ap (λ (x : List Bool × Engine). x.0) p in
    let r : f ≡ d = ap (λ (x : List Bool × Engine). x.1) p in
    ap length (sym q) ∙ ap suc (k fs (ap (λ (x : Engine). Some (fs, x)) r))

one_more : (n : ℕ) (flags : List Bool) (d : Engine) (read : Bool → Engine → Option (List Bool × Engine)) → ((b : Bool) (f : Engine) (fs : List Bool) → read b f ≡ Some (fs, d) → length fs ≡ n)
    → (o : Option (Bool × Engine)) → and_then o (λ f. and_then (read f.0 f.1) (with_flag f.0)) ≡ Some (flags, d) → length flags ≡ suc n
one_more n flags d read k None g = absurd (clash (flags, d) g)
one_more n flags d read k (Some (b, f)) g = one_last n flags d b (read b f) (λ fs h. k b f fs h) g

-- as many flags as were asked for
pub ones_many : (component set counter n : ℕ) (flags : List Bool) (e d : Engine) → greater1_read component set counter n e ≡ Some (flags, d) → length flags ≡ n
ones_many component set counter zero flags e d h = ap (λ (o : Option (List Bool × Engine)). length (listed o)) (sym h)
ones_many component set counter (suc n) flags e d h =
    one_more n flags d (λ b f. greater1_read component set (counted counter b) n f) (λ b f fs k. ones_many component set (counted counter b) n fs f d k) (bin (Context (greater1_context component set counter)) e) h

pub sig_many : (s : residual.Shape) (sub : Sub) (inner found : Bool) (n : ℕ) (flags : List Bool) (e d : Engine) → sig_read s sub inner found n e ≡ Some (flags, d) → length flags ≡ n
sig_many s sub inner found zero flags e d h = ap (λ (o : Option (List Bool × Engine)). length (listed o)) (sym h)
sig_many s sub inner found (suc n) flags e d h =
    one_more n flags d (λ b f. sig_read s sub inner (found || b) n f) (λ b f fs k. sig_many s sub inner (found || b) n fs f d k)
    ((if is_implied inner found n then give true else bin (Context (sig_at s sub n))) e) h

pub signs_many : (n : ℕ) (flags : List Bool) (e d : Engine) → signs_read n e ≡ Some (flags, d) → length flags ≡ n
signs_many zero flags e d h = ap (λ (o : Option (List Bool × Engine)). length (listed o)) (sym h)
signs_many (suc n) flags e d h = one_more n flags d (λ b f. signs_read n f) (λ b f fs k. signs_many n fs f d k) (bypass_read e) h

-- ---- the levels

later_long : (flags : List Bool) → length (known_later flags) ≡ length flags
later_long [] = refl
later_long (flag ∷ flags) = ap suc (later_long flags)

known_long : (g : Bool) (flags : List Bool) → length (known g flags) ≡ length flags
known_long g [] = refl
known_long g (false ∷ flags) = ap suc (known_long g flags)
known_long g (true ∷ flags) = ap suc (later_long flags)

pub levels_same : (g : Bool) (many : ℕ) (flags signs : List Bool) (e : Engine) → length flags ≡ min many 8 → length signs ≡ many
    → levels_at 0 false g (value_after 0 flags) (min many 8) many (value_after 0 signs) [] e ≡ and_then (rests_read 0 (known_of many flags g) e) (tested signs [])
unfolding levels_at
levels_same g many flags signs e fl sl =
    let m : many - min many 8 ≡ many - 8 = omega arith in
    let a : length (known g flags ++ replicate (many - 8) unflagged) ≡ length (known g flags) + length (replicate (many - 8) unflagged) = length-append (known g flags) (replicate (many - 8) unflagged) in
    let b : length (replicate (many - 8) unflagged) ≡ many - 8 = length-replicate (many - 8) unflagged in
    let c : length (known g flags) ≡ length flags = known_long g flags in
    let long : length signs ≡ length (known g flags ++ replicate (many - 8) unflagged) = omega arith in
    ap (λ (l : List Bool). levels_from 0 (known g l ++ replicate (many - min many 8) unflagged) (u many (value_after 0 signs)) [] e) (ap (λ n. u n (value_after 0 flags)) (sym fl) ∙ u-value 0 flags)
    ∙ ap (λ (l : List Bool). levels_from 0 (known g flags ++ replicate (many - min many 8) unflagged) l [] e) (ap (λ n. u n (value_after 0 signs)) (sym sl) ∙ u-value 0 signs)
    ∙ ap (λ n. levels_from 0 (known g flags ++ replicate n unflagged) signs [] e) m
    ∙ levels_are 0 (known g flags ++ replicate (many - 8) unflagged) signs [] e long
