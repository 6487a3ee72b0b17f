-- Contexts of residuals are below 130.
use Rattle.std.proofs.Common.{ℕ, zero, suc, ◌+◌, ◌-◌, ◌*◌, ◌/◌, ◌^◌, ◌<◌, ◌≤◌, Bool, true, false, cond, arith}
use Rattle.std.specs.Prelude.{◌==◌, nat_lt}
use Rattle.std.proofs.Math.Nat.{div-le_self}
use Rattle.h265_model.specs.Bits.{digit}
use Rattle.h265_model.specs.Residual.{last_context, sub_block_context, sig_within, by_distance, sig_added, sig_context, greater1_context, greater2_context}

choice_low : (b : Bool) (x y n : ℕ) → x ≤ n → y ≤ n → cond b x y ≤ n
choice_low true x y n h k = h
choice_low false x y n h k = k

-- by the test of a component
set_low : (b : Bool) (set : ℕ) → set < cond b 4 2 → 4 * set + cond b 0 16 ≤ 20
set_low true set h = omega arith
set_low false set h = omega arith

pub greater1_low : (component set counter : ℕ) → set < cond (component == 0) 4 2 → greater1_context component set counter < 130
unfolding greater1_context
greater1_low component set counter h = let s = set_low (component == 0) set h in omega arith

pub greater2_low : (component set : ℕ) → set < cond (component == 0) 4 2 → greater2_context component set < 130
unfolding greater2_context
greater2_low component set h = let s = set_low (component == 0) set h in let t = choice_low (component == 0) 0 4 4 (omega arith) (omega arith) in omega arith

digit_low : (b : Bool) → digit b ≤ 1
digit_low true = omega arith
digit_low false = omega arith

pub sub_block_low : (component : ℕ) (right below : Bool) → sub_block_context component right below < 130
unfolding sub_block_context
sub_block_low component right below = let c = choice_low (component == 0) 0 2 2 (omega arith) (omega arith) in omega arith

distance_low : (n : ℕ) → by_distance n ≤ 2
distance_low zero = omega arith
distance_low (suc zero) = omega arith
distance_low (suc (suc n)) = omega arith

within_low : (right below : Bool) (x y : ℕ) → sig_within right below x y ≤ 2
within_low false false x y = choice_low (x + y == 0) 2 _ 2 (omega arith) (choice_low (nat_lt (x + y) 3) 1 0 2 (omega arith) (omega arith))
within_low true false x y = distance_low y
within_low false true x y = distance_low x
within_low true true x y = omega arith

added_low : (component log2 scan : ℕ) (first : Bool) → sig_added component log2 scan first ≤ 24
added_low zero log2 scan first =
    let a = choice_low first 0 3 3 (omega arith) (omega arith) in
    let b = choice_low (log2 == 3) (cond (scan == 0) 9 15) 21 21 (choice_low (scan == 0) 9 15 21 (omega arith) (omega arith)) (omega arith) in
    omega arith
added_low (suc c) log2 scan first = choice_low (log2 == 3) 9 12 24 (omega arith) (omega arith)

pub sig_low : (component log2 scan sub_x sub_y x y : ℕ) (right below : Bool) → sig_context component log2 scan sub_x sub_y x y right below < 130
unfolding sig_context
sig_low component log2 scan sub_x sub_y x y right below =
    let a = within_low right below x y in
    let b = added_low component log2 scan (sub_x + sub_y == 0) in
    let c = choice_low (component == 0) 53 80 80 (omega arith) (omega arith) in
    let d = choice_low (sub_x + sub_y + x + y == 0) 0 (sig_within right below x y + sig_added component log2 scan (sub_x + sub_y == 0)) 26 (omega arith) (omega arith) in
    omega arith

pub last_low : (component log2 : ℕ) (vertical : Bool) (i : ℕ) → log2 ≤ 5 → i < 2 * log2 - 1 → last_context component log2 vertical i < 130
unfolding last_context
last_low component log2 vertical i h k =
    let a = choice_low vertical 31 13 31 (omega arith) (omega arith) in
    let p : i / 2 ^ ((log2 + 1) / 4) ≤ i = div-le_self i _ in
    let q : i / 2 ^ (log2 - 2) ≤ i = div-le_self i _ in
    let b = choice_low (component == 0) (3 * (log2 - 2) + (log2 - 1) / 4 + i / 2 ^ ((log2 + 1) / 4)) (15 + i / 2 ^ (log2 - 2)) 30 (omega arith) (omega arith) in
    omega arith
