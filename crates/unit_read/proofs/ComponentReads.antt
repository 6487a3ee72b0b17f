-- The levels of a component that has none.
use Rattle.std.proofs.Common.{◌≡◌, sym, ◌∙◌, ap, ℕ, suc, ◌+◌, ◌*◌, ◌^◌, ◌<◌, ◌≤◌, Bool, true, false, Some, List, replicate, arith}
use Rattle.std.proofs.Math.Nat.{mul-le-mul_right}
use Rattle.std.proofs.lemmas.List.{length-replicate, get_or-replicate}
use Rattle.std.specs.Prelude.{ℤ, pos, if◌then◌else◌}
use Rattle.h265_model.specs.Engine.{Engine}
use Rattle.h265_model.specs.Residual.{scan_kind}
use Rattle.h265_model.specs.Tree.{component_read}
use Rattle.h265_model.specs.Predict.{square}
use Rattle.h265_model.proofs.Squares.{places_are}
use Rattle.std.proofs.lemmas.Nat.{pow_pos}
use Rattle.bin_items.specs.Square.{area}

in_square : (w x y : ℕ) → x < w → y < w → y * w + x < w * w
in_square w x y h k =
    let n : suc y ≤ w = omega arith in
    let m : suc y * w ≤ w * w = mul-le-mul_right w n in
    let e : suc y * w ≡ y * w + w = omega arith in
    omega arith

pub no_levels : (log2 : ℕ) → replicate (area log2) (pos 0) ≡ square (2 ^ log2) (λ x y. pos 0)
no_levels log2 =
    places_are (2 ^ log2) (2 ^ log2) (replicate (area log2) (pos 0)) (λ x y. pos 0) (pos 0) (pow_pos log2) (length-replicate (area log2) (pos 0))
    (λ x y wide tall. get_or-replicate (area log2) (y * 2 ^ log2 + x) (pos 0) (pos 0) (in_square (2 ^ log2) x y wide tall))

pub none_read : (log2 mode component : ℕ) (flag : Bool) (levels : List ℤ) (e : Engine) → flag ≡ false → levels ≡ replicate (area log2) (pos 0) → component_read log2 mode component flag e ≡ Some (levels, e)
none_read log2 mode component flag levels e h is =
    ap (λ (b : Bool). component_read log2 mode component b e) h ∙ ap (λ (l : List ℤ). Some (l, e)) (sym (is ∙ no_levels log2))

choice_low : (b : Bool) (x y : ℕ) → x < 3 → y < 3 → (if b then x else y) < 3
choice_low true x y h k = h
choice_low false x y h k = k

pub scan_low : (mode log2 : ℕ) → scan_kind mode log2 < 3
unfolding scan_kind
scan_low mode log2 = choice_low _ 2 _ (omega arith) (choice_low _ 1 0 (omega arith) (omega arith))
