-- One sub-block before the last one, and those before it.
use Rattle.std.proofs.Common.{◌≡◌, refl, sym, ◌∙◌, ap, ℕ, suc, ◌+◌, ◌-◌, ◌<◌, ◌≤◌, Bool, Some, None, Option, List, ◌∷◌, arith}
use Rattle.std.specs.Prelude.{ℤ}
use Rattle.h265_model.specs.Bits.{◌>>=◌ as and_then}
use Rattle.h265_model.specs.Engine.{Engine}
use Rattle.h265_model.specs.Residual as residual
use Rattle.h265_model.specs.Residual.{place_at, sub_scan, sub_at, Sub}
use Rattle.residual_read.specs.Parts.{subs_with, coded_read, inner_with, GivesBoth}
use Rattle.scan_orders.specs.Marks.{AreMarks}
use Rattle.residual_read.specs.Going.{GoesOn, Steps}
use Rattle.residual_read.proofs.Steps.{then_some, then_none}

abbrev pub inner_then : residual.Shape → List Bool → ℕ → Bool → (Bool × List ℤ) × Engine → Option (List ℤ × Engine)
inner_then s flags number coded found = subs_with s (coded ∷ flags) found.0.0 number found.0.1 found.1

abbrev pub coded_then : residual.Shape → List Bool → Bool → ℕ → List ℤ → Bool × Engine → Option (List ℤ × Engine)
coded_then s flags ended number levels found = and_then (inner_with s (sub_at s number flags) (place_at (sub_scan s) number) found.0 ended levels found.1) (inner_then s flags number found.0)

pub subs_suc : (s : residual.Shape) (flags : List Bool) (ended : Bool) (number : ℕ) (levels : List ℤ) (e : Engine)
    → subs_with s flags ended (suc number) levels e ≡ and_then (coded_read s (sub_at s number flags) e) (coded_then s flags ended number levels)
unfolding subs_with
subs_suc s flags ended number levels e = refl

subs_open : (s : residual.Shape) (flags : List Bool) (ended : Bool) (number : ℕ) (levels : List ℤ) (e : Engine)
    → subs_with s flags ended (number + 1) levels e ≡ and_then (coded_read s (sub_at s number flags) e) (coded_then s flags ended number levels)
subs_open s flags ended number levels e = let n : number + 1 ≡ suc number = omega arith in ap (λ k. subs_with s flags ended k levels e) n ∙ subs_suc s flags ended number levels e

pub step_none : (s : residual.Shape) (flags : List Bool) (ended : Bool) (number : ℕ) (levels : List ℤ) (e : Engine) (sub : Sub) → sub ≡ sub_at s number flags → coded_read s sub e ≡ None
    → subs_with s flags ended (number + 1) levels e ≡ None
step_none s flags ended number levels e sub is h = subs_open s flags ended number levels e ∙ then_none (coded_read s (sub_at s number flags) e) (coded_then s flags ended number levels) (rw (← is) h)

moved : (s : residual.Shape) (b sub : Sub) (x y : ℕ) (p : ℕ × ℕ) (coded ended : Bool) (levels : List ℤ) (d : Engine) (o : Option ((Bool × List ℤ) × Engine)) → sub ≡ b → x ≡ p.0 → y ≡ p.1
    → inner_with s sub (x, y) coded ended levels d ≡ o → inner_with s b p coded ended levels d ≡ o
moved s b sub x y p coded ended levels d o is ex ey h =
    let q : (x, y) ≡ p = ap (λ (a : ℕ). (a, y)) ex ∙ ap (λ (c : ℕ). (p.0, c)) ey in
    ap (λ (r : ℕ × ℕ). inner_with s b r coded ended levels d) (sym q) ∙ ap (λ (t : Sub). inner_with s t (x, y) coded ended levels d) (sym is) ∙ h

pub step_by : (s : residual.Shape) (flags : List Bool) (ended : Bool) (number : ℕ) (levels levels' : List ℤ) (marks : List Bool) (e d f : Engine) (sub : Sub) (coded : Bool) (o : Option Bool) (x y : ℕ)
    → sub ≡ sub_at s number flags → x ≡ (place_at (sub_scan s) number).0 → y ≡ (place_at (sub_scan s) number).1 → coded_read s sub e ≡ Some (coded, d)
    → GivesBoth o levels' (inner_with s sub (x, y) coded ended levels d) f → AreMarks s number (coded ∷ flags) marks
    → Steps s flags ended number levels e o marks levels' f
step_by s flags ended number levels levels' marks e d f sub coded None x y is ex ey h i are =
    subs_open s flags ended number levels e ∙ then_some (coded_read s (sub_at s number flags) e) (coded, d) (coded_then s flags ended number levels) (rw (← is) h)
    ∙ then_none (inner_with s (sub_at s number flags) (place_at (sub_scan s) number) coded ended levels d) (inner_then s flags number coded) (moved s (sub_at s number flags) sub x y (place_at (sub_scan s) number) coded ended levels d _ is ex ey i)
step_by s flags ended number levels levels' marks e d f sub coded (Some ended') x y is ex ey h i are = record {
  now = coded ∷ flags;
  are = are;
  goes = subs_open s flags ended number levels e ∙ then_some (coded_read s (sub_at s number flags) e) (coded, d) (coded_then s flags ended number levels) (rw (← is) h)
      ∙ then_some (inner_with s (sub_at s number flags) (place_at (sub_scan s) number) coded ended levels d) ((ended', levels'), f) (inner_then s flags number coded) (moved s (sub_at s number flags) sub x y (place_at (sub_scan s) number) coded ended levels d _ is ex ey i);
}

pub going_more : (s : residual.Shape) (flags : List Bool) (ended : Bool) (from : ℕ) (levels : List ℤ) (e : Engine) (left : ℕ) (marks marks' : List Bool) (ended' last : Bool) (levels' levels'' : List ℤ) (d f : Engine) → 0 < left
    → ((flags : List Bool) → AreMarks s (left - 1 + 1) flags marks → Steps s flags ended' (left - 1) levels' d (Some last) marks' levels'' f)
    → GoesOn s flags ended from levels e left marks ended' levels' d → GoesOn s flags ended from levels e (left - 1) marks' last levels'' f
going_more s flags ended from levels e left marks marks' ended' last levels' levels'' d f some step g =
    let n : left ≡ left - 1 + 1 = omega arith in
    let h : GoesOn s g.now ended' (left - 1 + 1) levels' d (left - 1) marks' last levels'' f = step g.now (ap' n g.are) in
    record { now = h.now; are = h.are; goes = g.goes ∙ ap (λ k. subs_with s g.now ended' k levels' d) n ∙ h.goes }
  where
    ap' : {a b : ℕ} → a ≡ b → AreMarks s a g.now marks → AreMarks s b g.now marks
    ap' e h = rw (← e) h

pub going_none : (s : residual.Shape) (flags : List Bool) (ended : Bool) (from : ℕ) (levels : List ℤ) (e : Engine) (left : ℕ) (marks marks' : List Bool) (ended' : Bool) (levels' levels'' : List ℤ) (d f : Engine) → 0 < left
    → ((flags : List Bool) → AreMarks s (left - 1 + 1) flags marks → Steps s flags ended' (left - 1) levels' d None marks' levels'' f)
    → GoesOn s flags ended from levels e left marks ended' levels' d → subs_with s flags ended from levels e ≡ None
going_none s flags ended from levels e left marks marks' ended' levels' levels'' d f some step g =
    let n : left ≡ left - 1 + 1 = omega arith in
    g.goes ∙ ap (λ k. subs_with s g.now ended' k levels' d) n ∙ step g.now (ap' n g.are)
  where
    ap' : {a b : ℕ} → a ≡ b → AreMarks s a g.now marks → AreMarks s b g.now marks
    ap' e h = rw (← e) h

pub subs_zero : (s : residual.Shape) (flags : List Bool) (ended : Bool) (levels : List ℤ) (e : Engine) → subs_with s flags ended 0 levels e ≡ Some (levels, e)
unfolding subs_with
subs_zero s flags ended levels e = refl

pub going_all : (s : residual.Shape) (flags : List Bool) (ended : Bool) (from : ℕ) (levels : List ℤ) (e : Engine) (left : ℕ) (marks : List Bool) (ended' : Bool) (levels' : List ℤ) (d : Engine) → left ≤ 0
    → GoesOn s flags ended from levels e left marks ended' levels' d → subs_with s flags ended from levels e ≡ Some (levels', d)
going_all s flags ended from levels e left marks ended' levels' d none g =
    let n : left ≡ 0 = omega arith in
    g.goes ∙ ap (λ k. subs_with s g.now ended' k levels' d) n ∙ subs_zero s g.now ended' levels' d
