-- A vector that was written as a difference is read.
use Rattle.std.proofs.Common.{◌≡◌, refl, sym, ◌∙◌, ap, subst, ℕ, zero, suc, ◌+◌, ◌-◌, ◌*◌, ◌/◌, ◌%◌, ◌^◌, ◌<◌, ◌≤◌, List, [], ◌∷◌, ◌++◌, Bool, true, false, cond, append_assoc, arith}
use Rattle.std.specs.Prelude.{Option, Some, ℤ, pos, negsuc, ◌+ℤ◌, ◌-ℤ◌, ◌*ℤ◌, neg_ℤ, nat_abs, nat_lt, ◌==◌}
use Rattle.std.proofs.Math.IntN.{sub_ℕ, +ℤ_comm, -ℤ-+ℤ_cancel, pos-*ℤ-pos, pos-*ℤ-negsuc}
use Rattle.std.proofs.Math.Nat.{mod-eq_of_lt}
use Rattle.std.proofs.lemmas.Bool.{cond-true, cond-false, eq-eqb, lt-ltb, le-ltb, ltb-true}
use Rattle.h265_model.specs.declared.Place.{Place}
use Rattle.h265_model.specs.declared.Place.TheVariants.{Context, Bypass}
use Rattle.h265_model.specs.declared.Item.{Item}
use Rattle.h265_model.specs.declared.Item.TheVariants as items
use Rattle.h265_model.specs.declared.moves.Vector.{Vector}
use Rattle.h265_model.specs.Plain.{context_bin, bypass_bin}
use Rattle.h265_model.specs.Engine.{Engine, bin, Reader, ◌>>=◌, give, refuse, Reads}
use Rattle.h265_model.specs.Residual.{is_negative, signed}
use Rattle.h265_model.specs.Binarise.{eg, bypass_bins, eg_read}
use Rattle.h265_model.specs.Motion.{vector, predictor, difference, greater1_of, size_items, part_items, difference_items, second_is_nearer, move_items, greater1_if, size_read, part_read, difference_read, low_16, signed_16, quarter, whole_part, or_refuse, whole_vector, vector_read}
use Rattle.h265_model.specs.Bits.{◌>>=◌ as and_then}
use Rattle.h265_model.specs.Tree.{expect}
use Rattle.std.specs.Bool.{beq}
use Rattle.h265_laws.proofs.Reading.{reads_as, reads_bin, reads_map, reads_give, reads_eg}
use Rattle.h265_laws.proofs.ResidualLaw.{AreBins, reads_then, bypass_are, bins-append}
use Rattle.unit_laws.specs.Laws.{IsShort, EachVectorIsRead}

-- ---- whole samples

abbrev whole : ℕ → Option ℤ
whole n = quarter (signed_16 n)

quarter_pos : (n : ℕ) → quarter (pos (4 * n)) ≡ Some (pos n)
quarter_pos n = cond-true (4 * n % 4 == 0) _ _ (eq-eqb (4 * n % 4) 0 (omega arith)) ∙ ap (λ (k : ℕ). Some (pos k)) (omega arith)

quarter_neg : (n : ℕ) → quarter (negsuc (4 * n + 3)) ≡ Some (negsuc n)
quarter_neg n =
    let d : suc (4 * n + 3) / 4 ≡ suc n = omega arith in
    cond-true (suc (4 * n + 3) % 4 == 0) _ _ (eq-eqb (suc (4 * n + 3) % 4) 0 (omega arith)) ∙ ap (λ (k : ℕ). Some (neg_ℤ (pos k))) d

signed_low : (n : ℕ) → n < 2 ^ 15 → signed_16 n ≡ pos n
signed_low n h = cond-true (nat_lt n (2 ^ 15)) _ _ (lt-ltb n (2 ^ 15) h)

signed_high : (k : ℕ) → k < 2 ^ 15 → signed_16 (2 ^ 16 - 1 - k) ≡ negsuc k
signed_high k h =
    let e : 2 ^ 16 - (2 ^ 16 - 1 - k) ≡ suc k = omega arith in
    cond-false (nat_lt (2 ^ 16 - 1 - k) (2 ^ 15)) _ _ (le-ltb (2 ^ 16 - 1 - k) (2 ^ 15) (omega arith)) ∙ ap (λ (n : ℕ). neg_ℤ (pos n)) e

low_pos : (n : ℕ) → n < 2 ^ 15 → signed_16 (low_16 (pos n)) ≡ pos n
low_pos n h =
    let few : n < 2 ^ 16 = omega arith in
    let e : n % 2 ^ 16 ≡ n = mod-eq_of_lt few in
    ap signed_16 e ∙ signed_low n h

low_neg : (k : ℕ) → k < 2 ^ 15 → signed_16 (low_16 (negsuc k)) ≡ negsuc k
low_neg k h =
    let few : k < 2 ^ 16 = omega arith in
    let e : k % 2 ^ 16 ≡ k = mod-eq_of_lt few in
    ap (λ (n : ℕ). signed_16 (2 ^ 16 - 1 - n)) e ∙ signed_high k h

-- four times a coordinate gives the coordinate back
four_back : (v : ℤ) → nat_abs v ≤ 4095 → quarter (signed_16 (low_16 (pos 4 *ℤ v))) ≡ Some v
four_back (pos n) h = ap (λ s. quarter (signed_16 (low_16 s))) (pos-*ℤ-pos 4 n) ∙ (ap quarter (low_pos (4 * n) (omega arith)) ∙ quarter_pos n)
four_back (negsuc n) h =
    let k : 4 * suc n ≡ suc (4 * n + 3) = omega arith in
    let e : pos 4 *ℤ negsuc n ≡ negsuc (4 * n + 3) = pos-*ℤ-negsuc 4 n ∙ ap (λ (m : ℕ). neg_ℤ (pos m)) k in
    ap (λ s. quarter (signed_16 (low_16 s))) e ∙ (ap quarter (low_neg (4 * n + 3) (omega arith)) ∙ quarter_neg n)

part_back : (p v : ℤ) → nat_abs v ≤ 4095 → whole_part p (pos 4 *ℤ v -ℤ pos 4 *ℤ p) ≡ Some v
unfolding whole_part
part_back p v h =
    ap (λ s. quarter (signed_16 (low_16 s))) (+ℤ_comm (pos 4 *ℤ p) (pos 4 *ℤ v -ℤ pos 4 *ℤ p) ∙ -ℤ-+ℤ_cancel (pos 4 *ℤ v) (pos 4 *ℤ p)) ∙ four_back v h

-- ---- flags and sizes

pub reads_expect : {A : Type 0} (place : Place) (value : Bool) (read : Reader A) (list : List Item) (a : A)
    → Reads read list a → Reads (expect place value read) (items.Bin (record { value = value; place = place }) ∷ list) a
reads_expect place true read list a r = reads_bin place true (λ b. cond (beq b true) read refuse) list a r
reads_expect place false read list a r = reads_bin place false (λ b. cond (beq b false) read refuse) list a r

begins_greater1 : (n : ℕ) → AreBins (greater1_of n)
begins_greater1 zero = tt
begins_greater1 (suc n) = tt

size_are : (n : ℕ) (negative : Bool) → AreBins (size_items n negative)
size_are zero negative = tt
size_are (suc zero) negative = tt
size_are (suc (suc n)) negative = bins-append (bypass_bins (eg 1 n)) (bypass_bin negative ∷ []) (bypass_are (eg 1 n)) tt

reads_one : (place : Place) (value : Bool) → Reads (bin place) (items.Bin (record { value = value; place = place }) ∷ []) value
reads_one place value = record { from = λ e left h. h.1 ∙ ap (λ (d : Engine). Some (value, d)) h.2 }

some : (n : ℕ) → nat_lt 0 (suc n) ≡ true
some n = lt-ltb 0 (suc n) (omega arith)

more : (n : ℕ) → nat_lt 1 (suc (suc n)) ≡ true
more n = lt-ltb 1 (suc (suc n)) (omega arith)

one_less : (n : ℕ) → nat_lt 0 n ≡ nat_lt 1 (suc n)
one_less zero = refl
one_less (suc n) = some n ∙ sym (more n)

-- abs_mvd_greater1_flag
reads_greater1 : (n : ℕ) → Reads (greater1_if (nat_lt 0 n)) (greater1_of n) (nat_lt 1 n)
reads_greater1 zero = reads_give false
reads_greater1 (suc n) =
    subst (λ (b : Bool). Reads (greater1_if b) (greater1_of (suc n)) (nat_lt 1 (suc n))) (sym (some n))
    (reads_as (bin (Context 128)) _ (greater1_of (suc n)) (nat_lt 0 n) (nat_lt 1 (suc n)) refl (one_less n) (reads_one (Context 128) (nat_lt 0 n)))

-- the size and the sign
reads_size : (n : ℕ) (negative : Bool) → n < 65537 → Reads (part_read (nat_lt 0 n) (nat_lt 1 n)) (size_items n negative) (signed negative n)
reads_size zero true h = reads_give (pos 0)
reads_size zero false h = reads_give (pos 0)
reads_size (suc zero) negative h = reads_map (bin Bypass) (λ s. signed s 1) _ negative (reads_one Bypass negative)
reads_size (suc (suc n)) negative h =
    let few : n < 65535 = omega arith in
    let two : n + 2 ≡ suc (suc n) = omega arith in
    let f : ℕ → Reader ℤ = λ size. bin Bypass >>= λ s. give (signed s size) in
    let size : Reads (size_read true) (bypass_bins (eg 1 n)) (suc (suc n)) =
    reads_as (size_read true) _ _ (n + 2) (suc (suc n)) refl two (reads_map (eg_read 1) (λ rest. rest + 2) _ n (reads_eg 1 n few)) in
    let r : Reads (part_read true true) (size_items (suc (suc n)) negative) (signed negative (suc (suc n))) =
    reads_then (size_read true) f (bypass_bins (eg 1 n)) (bypass_bin negative ∷ []) (suc (suc n)) (signed negative (suc (suc n))) (bypass_are (eg 1 n)) size
    (reads_map (bin Bypass) (λ s. signed s (suc (suc n))) _ negative (reads_one Bypass negative)) in
    subst (λ (b : Bool). Reads (part_read b (nat_lt 1 (suc (suc n)))) (size_items (suc (suc n)) negative) (signed negative (suc (suc n)))) (sym (some (suc n)))
    (subst (λ (b : Bool). Reads (part_read true b) (size_items (suc (suc n)) negative) (signed negative (suc (suc n)))) (sym (more n)) r)

signed_back : (v : ℤ) → signed (is_negative v) (nat_abs v) ≡ v
signed_back (pos n) = refl
signed_back (negsuc n) = refl

reads_part : (v : ℤ) → nat_abs v < 65537 → Reads (part_read (nat_lt 0 (nat_abs v)) (nat_lt 1 (nat_abs v))) (part_items v) v
reads_part v h = reads_as (part_read (nat_lt 0 (nat_abs v)) (nat_lt 1 (nat_abs v))) _ (part_items v) _ v refl (signed_back v) (reads_size (nat_abs v) (is_negative v) h)

-- ---- the difference

pub reads_difference : (d : Vector) → nat_abs d.x < 65537 → nat_abs d.y < 65537 → Reads difference_read (difference_items d) d
unfolding difference_read difference_items
reads_difference d hx hy =
    let x : ℕ = nat_abs d.x in
    let y : ℕ = nat_abs d.y in
    let at_y : Bool → Bool → ℤ → Reader Vector = λ y0 y1 v. part_read y0 y1 >>= λ w. give (vector v w) in
    let at_x : Bool → Bool → Bool → Bool → Reader Vector = λ x0 y0 x1 y1. part_read x0 x1 >>= λ v. at_y y0 y1 v in
    let at_y1 : Bool → Bool → Bool → Reader Vector = λ x0 y0 x1. greater1_if y0 >>= λ y1. at_x x0 y0 x1 y1 in
    let at_x1 : Bool → Bool → Reader Vector = λ x0 y0. greater1_if x0 >>= λ x1. at_y1 x0 y0 x1 in
    let ry : Reads (at_y (nat_lt 0 y) (nat_lt 1 y) d.x) (part_items d.y) d =
    reads_map (part_read (nat_lt 0 y) (nat_lt 1 y)) (λ w. vector d.x w) _ d.y (reads_part d.y hy) in
    let rx : Reads (at_x (nat_lt 0 x) (nat_lt 0 y) (nat_lt 1 x) (nat_lt 1 y)) (part_items d.x ++ part_items d.y) d =
    reads_then (part_read (nat_lt 0 x) (nat_lt 1 x)) (λ v. at_y (nat_lt 0 y) (nat_lt 1 y) v) _ _ d.x d (size_are x (is_negative d.x)) (reads_part d.x hx) ry in
    let ry1 : Reads (at_y1 (nat_lt 0 x) (nat_lt 0 y) (nat_lt 1 x)) (greater1_of y ++ (part_items d.x ++ part_items d.y)) d =
    reads_then (greater1_if (nat_lt 0 y)) (λ y1. at_x (nat_lt 0 x) (nat_lt 0 y) (nat_lt 1 x) y1) _ _ (nat_lt 1 y) d (begins_greater1 y) (reads_greater1 y) rx in
    let rx1 : Reads (at_x1 (nat_lt 0 x) (nat_lt 0 y)) (greater1_of x ++ (greater1_of y ++ (part_items d.x ++ part_items d.y))) d =
    reads_then (greater1_if (nat_lt 0 x)) (λ x1. at_y1 (nat_lt 0 x) (nat_lt 0 y) x1) _ _ (nat_lt 1 x) d (begins_greater1 x) (reads_greater1 x) ry1 in
    reads_bin (Context 127) (nat_lt 0 x) (λ x0. bin (Context 127) >>= λ y0. at_x1 x0 y0) _ d
    (reads_bin (Context 127) (nat_lt 0 y) (λ y0. at_x1 (nat_lt 0 x) y0) _ d rx1)

pub difference_are : (d : Vector) → AreBins (difference_items d)
unfolding difference_items
difference_are d =
    bins-append (greater1_of (nat_abs d.x)) _ (begins_greater1 (nat_abs d.x))
    (bins-append (greater1_of (nat_abs d.y)) _ (begins_greater1 (nat_abs d.y))
    (bins-append (part_items d.x) (part_items d.y) (size_are (nat_abs d.x) (is_negative d.x)) (size_are (nat_abs d.y) (is_negative d.y))))

-- ---- the vector

reads_whole : (p v : Vector) → IsShort v → Reads (whole_vector p (difference v p)) [] v
reads_whole p v s = record {
  from = λ e left h.
      ap (λ (o : Option ℤ). and_then (or_refuse o e) (λ x. and_then (or_refuse (whole_part p.y (difference v p).y) x.1) (λ y. Some (vector x.0 y.0, y.1)))) (part_back p.x v.x s.x)
      ∙ (ap (λ (o : Option ℤ). and_then (or_refuse o e) (λ y. Some (vector v.x y.0, y.1))) (part_back p.y v.y s.y)
      ∙ ap (λ (d : Engine). Some (v, d)) h);
}

-- ---- how long a difference is

abs-sub : (a b : ℕ) → nat_abs (sub_ℕ a b) ≤ a + b
abs-sub a b = go (nat_lt a b) refl
  where
    go : (t : Bool) → nat_lt a b ≡ t → nat_abs (cond t (negsuc (b - suc a)) (pos (a - b))) ≤ a + b
    go true e = let less : a < b = ltb-true a b e in omega arith
    go false e = omega arith

abs-add : (m k : ℤ) → nat_abs (m +ℤ k) ≤ nat_abs m + nat_abs k
abs-add (pos a) (pos b) = omega arith
abs-add (pos a) (negsuc b) = abs-sub a (suc b)
abs-add (negsuc a) (pos b) = let h : nat_abs (sub_ℕ b (suc a)) ≤ b + suc a = abs-sub b (suc a) in omega arith
abs-add (negsuc a) (negsuc b) = omega arith

abs-neg : (k : ℤ) → nat_abs (neg_ℤ k) ≡ nat_abs k
abs-neg (pos zero) = refl
abs-neg (pos (suc n)) = refl
abs-neg (negsuc n) = refl

-- a named predictor is one of two short ones
short_predictor : (second : Bool) (both : Vector × Vector) → IsShort both.0 → IsShort both.1 → IsShort (predictor second both)
short_predictor false both a b = a
short_predictor true both a b = b

abs_four : (v : ℤ) → nat_abs v ≤ 4095 → nat_abs (pos 4 *ℤ v) ≤ 16380
abs_four (pos n) h = subst (λ s. nat_abs s ≤ 16380) (sym (pos-*ℤ-pos 4 n)) (omega arith)
abs_four (negsuc n) h =
    let k : 4 * suc n ≡ suc (4 * n + 3) = omega arith in
    let e : pos 4 *ℤ negsuc n ≡ negsuc (4 * n + 3) = pos-*ℤ-negsuc 4 n ∙ ap (λ (m : ℕ). neg_ℤ (pos m)) k in
    subst (λ s. nat_abs s ≤ 16380) (sym e) (omega arith)

part_small : (v p : ℤ) → nat_abs v ≤ 4095 → nat_abs p ≤ 4095 → nat_abs (pos 4 *ℤ v -ℤ pos 4 *ℤ p) < 65537
part_small v p hv hp =
    let a : nat_abs (pos 4 *ℤ v) ≤ 16380 = abs_four v hv in
    let b : nat_abs (pos 4 *ℤ p) ≤ 16380 = abs_four p hp in
    let c : nat_abs (pos 4 *ℤ v -ℤ pos 4 *ℤ p) ≤ nat_abs (pos 4 *ℤ v) + nat_abs (pos 4 *ℤ p) =
    subst (λ (n : ℕ). nat_abs (pos 4 *ℤ v -ℤ pos 4 *ℤ p) ≤ nat_abs (pos 4 *ℤ v) + n) (abs-neg (pos 4 *ℤ p)) (abs-add (pos 4 *ℤ v) (neg_ℤ (pos 4 *ℤ p))) in
    omega arith

-- ---- the law

-- what is made of the vector that is read
pub reads_move_as : {A : Type 0} (c : Vector → A) (v : Vector) (both : Vector × Vector) → IsShort v → IsShort both.0 → IsShort both.1
    → Reads (expect (Context 125) false (vector_read both >>= λ w. expect (Context 129) false (give (c w)))) (move_items v both) (c v)
unfolding move_items vector_read
reads_move_as {A = A} c v both hv h0 h1 =
    let second : Bool = second_is_nearer v both in
    let p : Vector = predictor second both in
    let hp : IsShort p = short_predictor second both h0 h1 in
    let d : Vector = difference v p in
    let whole_of : Bool → Vector → Reader Vector = λ s w. whole_vector (predictor s both) w in
    let flag : Vector → Reader Vector = λ w. bin (Context 126) >>= λ s. whole_of s w in
    let r_flag : Reads (flag d) (context_bin second 126 ∷ []) v = reads_bin (Context 126) second (λ s. whole_of s d) [] v (reads_whole p v hv) in
    let r_vector : Reads (difference_read >>= flag) (difference_items d ++ (context_bin second 126 ∷ [])) v =
    reads_then difference_read flag (difference_items d) (context_bin second 126 ∷ []) d v (difference_are d)
    (reads_difference d (part_small v.x p.x hv.x hp.x) (part_small v.y p.y hv.y hp.y)) r_flag in
    let ends : Vector → Reader A = λ w. expect (Context 129) false (give (c w)) in
    let r_end : Reads (ends v) (context_bin false 129 ∷ []) (c v) = reads_expect (Context 129) false (give (c v)) [] (c v) (reads_give (c v)) in
    let are : AreBins (difference_items d ++ (context_bin second 126 ∷ [])) = bins-append (difference_items d) (context_bin second 126 ∷ []) (difference_are d) tt in
    let r_all : Reads ((difference_read >>= flag) >>= ends) ((difference_items d ++ (context_bin second 126 ∷ [])) ++ (context_bin false 129 ∷ [])) (c v) =
    reads_then (difference_read >>= flag) ends (difference_items d ++ (context_bin second 126 ∷ [])) (context_bin false 129 ∷ []) v (c v) are r_vector r_end in
    reads_expect (Context 125) false ((difference_read >>= flag) >>= ends) _ (c v)
    (reads_as ((difference_read >>= flag) >>= ends) _ _ (c v) (c v) (append_assoc (difference_items d) (context_bin second 126 ∷ []) (context_bin false 129 ∷ [])) refl r_all)

pub reads_move : EachVectorIsRead
reads_move v both hv h0 h1 = reads_move_as (λ w. w) v both hv h0 h1
