-- Signs as the digits of a number.
use Rattle.std.proofs.Common.{◌≡◌, refl, sym, ◌∙◌, ap, ℕ, suc, ◌+◌, ◌*◌, ◌^◌, ◌<◌, ◌≤◌, pow-suc, Bool, true, false, List, [], ◌∷◌, ◌++◌, length, map, take, get_or, arith}
use Rattle.std.specs.Prelude.{ℤ, pos, negsuc}
use Rattle.std.specs.Int.Signed.{lt_z}
use Rattle.h265_model.specs.Plain.{bypass_bin}
use Rattle.residual_code.proofs.Sizes.{lt_false}
use Rattle.std.proofs.lemmas.List.{take_more, map-append}
use Rattle.h265_model.specs.Bits.{u, value_after, digit}
use Rattle.h265_model.specs.Binarise.{fl, bypass_bins}
use Rattle.h265_model.specs.Residual.{is_negative}
use Rattle.h265_model.proofs.ByteLaws.{u-value}

value_push : (bits : List Bool) (n : ℕ) (b : Bool) → value_after n (bits ++ b ∷ []) ≡ 2 * value_after n bits + digit b
unfolding value_after
value_push [] n b = refl
value_push (a ∷ bits) n b = value_push bits (2 * n + digit a) b

pub sign_more : (values : List ℤ) (i bits : ℕ) → i < length values → bits ≡ value_after 0 (map is_negative (take i values)) →
    2 * bits + digit (is_negative (get_or values i (pos 0))) ≡ value_after 0 (map is_negative (take (i + 1) values))
sign_more values i bits h e =
    let v : ℤ = get_or values i (pos 0) in
    let t : map is_negative (take (i + 1) values) ≡ map is_negative (take i values) ++ is_negative v ∷ [] =
    ap (map is_negative) (take_more values i (pos 0) h) ∙ map-append is_negative (take i values) (v ∷ []) in
    rw (t, e) (sym (value_push (map is_negative (take i values)) 0 (is_negative v)))

length-negatives : (values : List ℤ) → length (map is_negative values) ≡ length values
length-negatives [] = refl
length-negatives (v ∷ values) = ap suc (length-negatives values)

pub signs_done : (values : List ℤ) (bits : ℕ) → bits ≡ value_after 0 (map is_negative values) → fl (length values) bits ≡ map is_negative values
signs_done values bits e =
    ap (λ n. u n bits) (sym (length-negatives values)) ∙ (ap (u (length (map is_negative values))) e ∙ u-value 0 (map is_negative values))

pub sign_items : (values : List ℤ) → bypass_bins (map is_negative values) ≡ map (λ v. bypass_bin (is_negative v)) values
sign_items [] = refl
sign_items (v ∷ values) = ap (λ l. bypass_bin (is_negative v) ∷ l) (sign_items values)

pub signs_written : (values : List ℤ) (n bits : ℕ) → n ≡ length values → fl (length values) bits ≡ map is_negative values → bypass_bins (fl n bits) ≡ map (λ v. bypass_bin (is_negative v)) values
signs_written values n bits e f = ap (λ k. bypass_bins (fl k bits)) e ∙ (ap bypass_bins f ∙ sign_items values)

-- the test of a sign
pub sign_test : (v : ℤ) → lt_z v (pos 0) ≡ is_negative v
sign_test (pos n) = lt_false n 0 (omega arith)
sign_test (negsuc n) = refl

digit_low : (b : Bool) → digit b ≤ 1
digit_low true = omega arith
digit_low false = omega arith

pub sign_low : (values : List ℤ) (i bits : ℕ) (b : Bool) → bits < 2 ^ i → 2 * bits + digit b < 2 ^ (i + 1)
sign_low values i bits b h =
    let d : digit b ≤ 1 = digit_low b in
    let e : i + 1 ≡ suc i = omega arith in
    let p : 2 ^ suc i ≡ 2 ^ i * 2 = pow-suc 2 i in
    rw (e, p) (omega arith)
