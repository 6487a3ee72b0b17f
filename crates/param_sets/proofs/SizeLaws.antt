-- Laws of the size that is read.
use Rattle.std.proofs.Common.{◌≡◌, ℕ, ◌+◌, ◌-◌, ◌*◌, ◌<◌, ◌≤◌, Bool, true, false, List, Option, Some, None, Result, Ok, Err, refl, sym, ◌∙◌, ap, subst, arith, IsTrue}
use Rattle.std.specs.Prelude.{◌==◌, ◌&&◌, nat_le, nat_lt, if◌then◌else◌, MatchResult, ok_or}
use Rattle.std.specs.Option.{SomeIff}
use Rattle.std.proofs.lemmas.Bool.Decides.{nat_tests}
use Rattle.h265_model.specs.Bits.{◌>>-◌}
use Rattle.h265_model.specs.Plain.{Size}
use Rattle.h265_model.specs.Settings.{is_size, most_area, most_side}
use Rattle.h265_model.specs.Bits.{read_u}
use Rattle.h265_model.specs.Fields.{or_number}
use Rattle.h265_model.specs.ParamSets.{is_coded_side, read_side, read_whole, windowed, read_window, read_size}

abbrev Sized : Type 0
Sized = Result (Size × List Bool) ℕ

abbrev size_of : ℕ → ℕ → Size
size_of w h = record { w = w; h = h }

-- ---- the size after its parts

after_flag : ℕ → ℕ → Option (ℕ × List Bool) → Sized
after_flag w h r = or_number 10 r >>- λ window. if window.0 == 0 then read_whole w h window.1 else read_window w h window.1

after_h : ℕ → Result (ℕ × List Bool) ℕ → Sized
unfolding after_flag
after_h w r = r >>- λ h. after_flag w h.0 (read_u 1 h.1)

after_w : Result (ℕ × List Bool) ℕ → Sized
unfolding after_h
after_w r = r >>- λ w. after_h w.0 (read_side 9 w.1)

sized : (x : List Bool) → read_size x ≡ after_w (read_side 8 x)
unfolding read_size after_w after_h after_flag
sized x = refl

pub no_width : (x : List Bool) (n : ℕ) → read_side 8 x ≡ Err n → read_size x ≡ Err n
unfolding after_w
no_width x n e = sized x ∙ ap after_w e

with_width : (x : List Bool) (w : ℕ) (y : List Bool) → read_side 8 x ≡ Ok (w, y) → read_size x ≡ after_h w (read_side 9 y)
unfolding after_w
with_width x w y e = sized x ∙ ap after_w e

pub no_height : (x : List Bool) (w : ℕ) (y : List Bool) (n : ℕ) → read_side 8 x ≡ Ok (w, y) → read_side 9 y ≡ Err n → read_size x ≡ Err n
unfolding after_h
no_height x w y n e f = with_width x w y e ∙ ap (after_h w) f

with_height : (x : List Bool) (w : ℕ) (y : List Bool) (h : ℕ) (z : List Bool) → read_side 8 x ≡ Ok (w, y) → read_side 9 y ≡ Ok (h, z) → read_size x ≡ after_flag w h (read_u 1 z)
unfolding after_h
with_height x w y h z e f = with_width x w y e ∙ ap (after_h w) f

pub no_flag : (x : List Bool) (w : ℕ) (y : List Bool) (h : ℕ) (z : List Bool) → read_side 8 x ≡ Ok (w, y) → read_side 9 y ≡ Ok (h, z) → read_u 1 z ≡ None → read_size x ≡ Err 10
unfolding after_flag
no_flag x w y h z e f g = with_height x w y h z e f ∙ ap (after_flag w h) g

pub flag_unset : (x : List Bool) (w : ℕ) (y : List Bool) (h : ℕ) (z : List Bool) (v : ℕ) (t : List Bool) → read_side 8 x ≡ Ok (w, y) → read_side 9 y ≡ Ok (h, z) → read_u 1 z ≡ Some (v, t) → v ≡ 0 → read_size x ≡ read_whole w h t
unfolding after_flag
flag_unset x w y h z v t e f g is =
    let unset : (v == 0) ≡ true = grind (arith, nat_tests) in
    with_height x w y h z e f ∙ ap (after_flag w h) g ∙ ap (λ (b : Bool). if b then read_whole w h t else read_window w h t) unset

pub flag_set : (x : List Bool) (w : ℕ) (y : List Bool) (h : ℕ) (z : List Bool) (v : ℕ) (t : List Bool) → read_side 8 x ≡ Ok (w, y) → read_side 9 y ≡ Ok (h, z) → read_u 1 z ≡ Some (v, t) → (v ≡ 0 → ⊥) → read_size x ≡ read_window w h t
unfolding after_flag
flag_set x w y h z v t e f g is =
    let one : (v == 0) ≡ false = grind (arith, nat_tests) in
    with_height x w y h z e f ∙ ap (after_flag w h) g ∙ ap (λ (b : Bool). if b then read_whole w h t else read_window w h t) one

-- ---- sizes within the limits

area_true : (w h : ℕ) → IsTrue (is_size (size_of w h)) → nat_le (w * h) most_area ≡ true
area_true w h is = grind (arith, nat_tests)

area_false : (w h : ℕ) → (IsTrue (is_size (size_of w h)) → ⊥) → 1 ≤ w → w ≤ most_side → 1 ≤ h → h ≤ most_side → nat_le (w * h) most_area ≡ false
area_false w h is a b c d = grind (arith, nat_tests)

pub record IsSide (n : ℕ) : Type 0 where
  pub least : 8 ≤ n
  pub most : n ≤ most_side

pub side_is : (n : ℕ) → IsTrue (is_coded_side n) → IsSide n
side_is n is = record { least = grind (arith, nat_tests); most = grind (arith, nat_tests) }

pub whole_read : (w h : ℕ) (t : List Bool) (r : Option Size) → IsSide w → IsSide h → SomeIff r (IsTrue (is_size (size_of w h))) (size_of w h) → MatchResult (ok_or r 10) (λ size. read_whole w h t ≡ Ok (size, t)) (λ field. read_whole w h t ≡ Err field)
whole_read w h t None a b is = rw (area_false w h is (omega (arith, a.least)) a.most (omega (arith, b.least)) b.most) refl
whole_read w h t (Some size) a b is =
    let P : Size → Type 0 = λ s. read_whole w h t ≡ Ok (s, t) in
    subst P (sym is.1) (rw (area_true w h is.0) refl)

some_offset : (right bottom : ℕ) → (right + bottom ≡ 0 → ⊥) → nat_lt 0 (right + bottom) ≡ true
some_offset right bottom h = grind (arith, nat_tests)

no_offset : (right bottom : ℕ) → right + bottom ≡ 0 → nat_lt 0 (right + bottom) ≡ false
no_offset right bottom h = grind (arith, nat_tests)

never : (b : Bool) → (b && false) ≡ false
never true = refl
never false = refl

pub window_empty : (w h right bottom : ℕ) (t : List Bool) → right + bottom ≡ 0 → windowed w h right bottom t ≡ Err 14
window_empty w h right bottom t e = rw (no_offset right bottom e, never (nat_le ((w - right) * (h - bottom)) most_area)) refl

pub window_read : (w h right bottom : ℕ) (t : List Bool) (r : Option Size) → IsSide w → IsSide h → right < 8 → bottom < 8 → (right + bottom ≡ 0 → ⊥) → SomeIff r (IsTrue (is_size (size_of (w - right) (h - bottom)))) (size_of (w - right) (h - bottom)) →
    MatchResult (ok_or r 14) (λ size. windowed w h right bottom t ≡ Ok (size, t)) (λ field. windowed w h right bottom t ≡ Err field)
window_read w h right bottom t None a b x y some is =
    rw (area_false (w - right) (h - bottom) is (omega (arith, a.least)) (omega (arith, a.most)) (omega (arith, b.least)) (omega (arith, b.most))) refl
window_read w h right bottom t (Some size) a b x y some is =
    let P : Size → Type 0 = λ s. windowed w h right bottom t ≡ Ok (s, t) in
    subst P (sym is.1) (rw (area_true (w - right) (h - bottom) is.0, some_offset right bottom some) refl)
