-- Flags read as digits are the flags that the definitions read.
use Rattle.std.proofs.Common.{◌≡◌, refl, sym, ◌∙◌, ap, ℕ, zero, suc, ◌+◌, ◌*◌, Bool, true, false, not, Some, None, Option, List, ◌∷◌, arith}
use Rattle.std.proofs.lemmas.Bool.Decides.{nat_tests}
use Rattle.std.specs.Prelude.{◌==◌, ◌||◌, if◌then◌else◌}
use Rattle.h265_model.specs.declared.Place.TheVariants.{Context}
use Rattle.h265_model.specs.Bits.{digit, value_after, ◌>>=◌ as and_then}
use Rattle.h265_model.specs.Engine.{Engine, bin, give}
use Rattle.h265_model.specs.Residual as residual
use Rattle.h265_model.specs.Residual.{Sub, sig_read, greater1_read, greater1_context, counted, is_implied, sig_at}
use Rattle.residual_read.specs.Parts.{mask_read, ones_read}

abbrev pub valued : ℕ → List Bool × Engine → Option (ℕ × Engine)
valued m found = Some (value_after m found.0, found.1)

abbrev pub with_flag : Bool → List Bool × Engine → Option (List Bool × Engine)
with_flag flag found = Some (flag ∷ found.0, found.1)

pub joined : (m : ℕ) (b : Bool) (o : Option (List Bool × Engine)) → and_then o (valued (2 * m + digit b)) ≡ and_then (and_then o (with_flag b)) (valued m)
unfolding value_after
joined m b None = refl
joined m b (Some found) = refl

or_true : (a : Bool) → (a || true) ≡ true
or_true true = refl
or_true false = refl

or_false : (a : Bool) → (a || false) ≡ a
or_false true = refl
or_false false = refl

odd : (m : ℕ) → (2 * m + 1 == 0) ≡ false
odd m = grind (arith, nat_tests)

even : (m : ℕ) → (2 * m + 0 == 0) ≡ (m == 0)
even m = grind (arith, nat_tests)

found_is : (m : ℕ) (b : Bool) → not (2 * m + digit b == 0) ≡ (not (m == 0) || b)
found_is m true = ap not (odd m) ∙ sym (or_true (not (m == 0)))
found_is m false = ap not (even m) ∙ sym (or_false (not (m == 0)))

mask_by : (s : residual.Shape) (sub : Sub) (inner : Bool) (m k : ℕ) (o : Option (Bool × Engine))
    → ((n : ℕ) (d : Engine) → mask_read s sub inner n k d ≡ and_then (sig_read s sub inner (not (n == 0)) k d) (valued n))
    → and_then o (λ f. mask_read s sub inner (2 * m + digit f.0) k f.1)
    ≡ and_then (and_then o (λ f. and_then (sig_read s sub inner (not (m == 0) || f.0) k f.1) (with_flag f.0))) (valued m)
mask_by s sub inner m k None h = refl
mask_by s sub inner m k (Some (b, d)) h =
    h (2 * m + digit b) d
    ∙ ap (λ found. and_then (sig_read s sub inner found k d) (valued (2 * m + digit b))) (found_is m b)
    ∙ joined m b (sig_read s sub inner (not (m == 0) || b) k d)

pub mask_is : (s : residual.Shape) (sub : Sub) (inner : Bool) (m k : ℕ) (e : Engine) → mask_read s sub inner m k e ≡ and_then (sig_read s sub inner (not (m == 0)) k e) (valued m)
unfolding mask_read value_after
mask_is s sub inner m zero e = refl
mask_is s sub inner m (suc k) e =
    mask_by s sub inner m k ((if is_implied inner (not (m == 0)) k then give true else bin (Context (sig_at s sub k))) e) (λ n d. mask_is s sub inner n k d)

ones_by : (component set counter m n : ℕ) (o : Option (Bool × Engine))
    → ((c l : ℕ) (d : Engine) → ones_read component set c l n d ≡ and_then (greater1_read component set c n d) (valued l))
    → and_then o (λ f. ones_read component set (counted counter f.0) (2 * m + digit f.0) n f.1)
    ≡ and_then (and_then o (λ f. and_then (greater1_read component set (counted counter f.0) n f.1) (with_flag f.0))) (valued m)
ones_by component set counter m n None h = refl
ones_by component set counter m n (Some (b, d)) h = h (counted counter b) (2 * m + digit b) d ∙ joined m b (greater1_read component set (counted counter b) n d)

pub ones_is : (component set counter m n : ℕ) (e : Engine) → ones_read component set counter m n e ≡ and_then (greater1_read component set counter n e) (valued m)
unfolding ones_read value_after
ones_is component set counter m zero e = refl
ones_is component set counter m (suc n) e =
    ones_by component set counter m n (bin (Context (greater1_context component set counter)) e) (λ c l d. ones_is component set c l n d)
