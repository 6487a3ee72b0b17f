-- All that is read of a sub-block's levels other than 0 is what the definitions read.
use Rattle.std.proofs.Common.{◌≡◌, refl, ◌∙◌, ap, ℕ, Bool, true, false, Some, None, Option, List, [], length, arith}
use Rattle.std.specs.Prelude.{nat_le, if◌then◌else◌, ℤ, min}
use Rattle.std.specs.List.{list_all}
use Rattle.h265_model.specs.Bits.{value_after, ◌>>=◌ as and_then}
use Rattle.h265_model.specs.Engine.{Engine, give, refuse}
use Rattle.h265_model.specs.Residual.{greater1_read, greater2_read, signs_read, rests_read, known_of, signed_all, values_read}
use Rattle.residual_read.specs.Parts.{values_with}
use Rattle.residual_read.proofs.FlagReads.{valued, ones_is}
use Rattle.residual_read.proofs.LevelReads.{signs_are, tested}
use Rattle.residual_read.proofs.LevelSteps.{beside, signs_then, greater2_then, ones_then, values_open}
use Rattle.residual_read.proofs.ValueReads.{second_same, ones_many, signs_many, levels_same}

-- the levels alone
abbrev pub levels_alone : (ℕ × List ℤ) × Engine → Option (List ℤ × Engine)
levels_alone found = Some (found.0.1, found.1)

abbrev rest4 : List Bool → List ℕ × Engine → Option (List ℤ × Engine)
rest4 signs found = (if list_all (λ size. nat_le size 255) found.0 then give (signed_all signs found.0) else refuse) found.1

abbrev rest3 : ℕ → List Bool → Bool → List Bool × Engine → Option (List ℤ × Engine)
rest3 many flags g found = and_then (rests_read 0 (known_of many flags g) found.1) (rest4 found.0)

abbrev rest2 : ℕ → List Bool → Bool × Engine → Option (List ℤ × Engine)
rest2 many flags found = and_then (signs_read many found.1) (rest3 many flags found.0)

abbrev rest1 : ℕ → ℕ → ℕ → List Bool × Engine → Option (List ℤ × Engine)
rest1 component set many found = and_then (greater2_read component set found.0 found.1) (rest2 many found.0)

go4 : (ones : ℕ) (signs : List Bool) (o : Option (List ℕ × Engine)) → and_then (and_then (and_then o (tested signs [])) (beside ones)) levels_alone ≡ and_then o (rest4 signs)
go4 ones signs None = refl
go4 ones signs (Some (sizes, f)) = go (list_all (λ size. nat_le size 255) sizes)
  where
    go : (t : Bool) → and_then (and_then (if t then Some (signed_all signs sizes, f) else None) (beside ones)) levels_alone ≡ (if t then give (signed_all signs sizes) else refuse) f
    go true = refl
    go false = refl

go3 : (many : ℕ) (flags : List Bool) (g : Bool) (d : Engine) → length flags ≡ min many 8 → (o : Option (List Bool × Engine)) → signs_read many d ≡ o
    → and_then (and_then (and_then o (valued 0)) (signs_then many (value_after 0 flags) g)) levels_alone ≡ and_then o (rest3 many flags g)
go3 many flags g d fl None h = refl
go3 many flags g d fl (Some (signs, f)) h =
    ap (λ (o : Option (List ℤ × Engine)). and_then (and_then o (beside (value_after 0 flags))) levels_alone) (levels_same g many flags signs f fl (signs_many many signs d f h))
    ∙ go4 (value_after 0 flags) signs (rests_read 0 (known_of many flags g) f)

go2 : (many : ℕ) (flags : List Bool) → length flags ≡ min many 8 → (o : Option (Bool × Engine))
    → and_then (and_then o (greater2_then many (value_after 0 flags))) levels_alone ≡ and_then o (rest2 many flags)
go2 many flags fl None = refl
go2 many flags fl (Some (g, d)) =
    ap (λ (o : Option (ℕ × Engine)). and_then (and_then o (signs_then many (value_after 0 flags) g)) levels_alone) (signs_are 0 many d)
    ∙ go3 many flags g d fl (signs_read many d) refl

go1 : (component set many : ℕ) (e : Engine) (o : Option (List Bool × Engine)) → greater1_read component set 1 (min many 8) e ≡ o
    → and_then (and_then (and_then o (valued 0)) (ones_then component set many)) levels_alone ≡ and_then o (rest1 component set many)
go1 component set many e None h = refl
go1 component set many e (Some (flags, d)) h =
    ap (λ (o : Option (Bool × Engine)). and_then (and_then o (greater2_then many (value_after 0 flags))) levels_alone) (second_same component set flags d)
    ∙ go2 many flags (ones_many component set 1 (min many 8) flags e d h) (greater2_read component set flags d)

pub values_same : (component set many : ℕ) (e : Engine) → and_then (values_with component set many e) levels_alone ≡ values_read component set many e
values_same component set many e =
    let n : min many 8 ≡ min 8 many = omega arith in
    ap (λ (o : Option ((ℕ × List ℤ) × Engine)). and_then o levels_alone) (values_open component set many e)
    ∙ ap (λ (o : Option (ℕ × Engine)). and_then (and_then o (ones_then component set many)) levels_alone) (ones_is component set 1 0 (min many 8) e)
    ∙ go1 component set many e (greater1_read component set 1 (min many 8) e) refl
    ∙ ap (λ k. and_then (greater1_read component set 1 k e) (rest1 component set many)) n
