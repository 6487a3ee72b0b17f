-- The place of the last level, in prefixes and suffixes.
use Rattle.std.proofs.Common.{◌≡◌, refl, sym, ◌∙◌, ap, ℕ, zero, suc, ◌+◌, ◌-◌, ◌*◌, ◌^◌, ◌<◌, ◌≤◌, Bool, true, false, cond, not, ◌&&◌, ◌||◌, List, [], ◌∷◌, ◌++◌, arith}
use Rattle.std.specs.Prelude.{◌==◌, nat_le, ℤ, pos}
use Rattle.std.proofs.lemmas.Bool.{agree_below, agree_below_at, and_parts, leb-true, false≢true}
use Rattle.h265_model.specs.Plain.{context_bin}
use Rattle.h265_model.specs.Bits.{u}
use Rattle.h265_model.specs.Binarise.{tr, fl, context_bins, bypass_bins}
use Rattle.h265_model.specs.Residual.{prefix_of, suffix_bits, suffix_base, swapped, is_zero, nonzero, without_leading_zeros, last_items, last_context}
use Rattle.h265_model.specs.Residual as residual
use Rattle.residual_code.specs.Parts.{down}
use Rattle.residual_code.proofs.Zeros.{any_level}
use Rattle.residual_code.proofs.Down.{down_first, down_none}

pub prefix_more : (number : ℕ → ℕ) (i limit prefix context : ℕ) → i < prefix → prefix ≤ limit → context ≡ number i →
    context_bins number i (tr (limit - i) (prefix - i)) ≡ context_bin true context ∷ context_bins number (i + 1) (tr (limit - (i + 1)) (prefix - (i + 1)))
prefix_more number i limit prefix context h k c =
    let l : limit - i ≡ suc (limit - (i + 1)) = omega arith in
    let p : prefix - i ≡ suc (prefix - (i + 1)) = omega arith in
    let n : i + 1 ≡ suc i = omega arith in
    let t : tr (limit - i) (prefix - i) ≡ true ∷ tr (limit - (i + 1)) (prefix - (i + 1)) = ap (λ m. tr m (prefix - i)) l ∙ ap (λ m. tr (suc (limit - (i + 1))) m) p in
    ap (context_bins number i) t ∙ (ap (λ m. context_bin true m ∷ context_bins number (suc i) (tr (limit - (i + 1)) (prefix - (i + 1)))) (sym c)
    ∙ ap (λ m. context_bin true context ∷ context_bins number m (tr (limit - (i + 1)) (prefix - (i + 1)))) (sym n))

pub prefix_ended : (number : ℕ → ℕ) (i limit prefix context : ℕ) → i ≡ prefix → prefix < limit → context ≡ number prefix →
    context_bins number i (tr (limit - i) (prefix - i)) ≡ context_bin false context ∷ []
prefix_ended number i limit prefix context e h c =
    let l : limit - i ≡ suc (limit - (i + 1)) = omega arith in
    let p : prefix - i ≡ zero = omega arith in
    rw (l, p, c, e) refl

pub prefix_whole : (number : ℕ → ℕ) (i limit prefix : ℕ) → i ≡ prefix → limit ≤ prefix → prefix ≤ limit → context_bins number i (tr (limit - i) (prefix - i)) ≡ []
prefix_whole number i limit prefix e h k = let l : limit - i ≡ zero = omega arith in rw l refl

pub no_suffix : (prefix value : ℕ) → prefix < 4 → bypass_bins (fl (suffix_bits prefix) value) ≡ []
unfolding u
no_suffix prefix value h = let e : suffix_bits prefix ≡ zero = omega arith in rw e refl

-- ---- prefixes of the coordinates that occur

fits : ℕ → ℕ → Bool
fits log2 v = nat_le (suffix_base (prefix_of v)) v && (nat_le (prefix_of v) 9 && nat_le (prefix_of v) (2 * log2 - 1))

all_fit : (log2 : ℕ) → 3 ≤ log2 → log2 ≤ 5 → agree_below (fits log2) (λ v. true) (2 ^ log2) ≡ true
unfolding fits
all_fit zero h k = absurd (omega arith)
all_fit (suc zero) h k = absurd (omega arith)
all_fit (suc (suc zero)) h k = absurd (omega arith)
all_fit (suc (suc (suc zero))) h k = refl
all_fit (suc (suc (suc (suc zero)))) h k = refl
all_fit (suc (suc (suc (suc (suc zero))))) h k = refl
all_fit (suc (suc (suc (suc (suc (suc n)))))) h k = absurd (omega arith)

pub record IsSplit (log2 v : ℕ) : Type 0 where
  pub base : suffix_base (prefix_of v) ≤ v
  pub low : prefix_of v ≤ 9
  pub within : prefix_of v ≤ 2 * log2 - 1

pub split : (log2 v : ℕ) → 3 ≤ log2 → log2 ≤ 5 → v < 2 ^ log2 → IsSplit log2 v
unfolding fits
split log2 v low high h =
    let fit : fits log2 v ≡ true = agree_below_at (fits log2) (λ w. true) (2 ^ log2) v (all_fit log2 low high) h in
    let a = and_parts _ _ fit in
    let b = and_parts _ _ a.1 in
    record { base = leb-true _ _ a.0; low = leb-true _ _ b.0; within = leb-true _ _ b.1 }

pub swapped_low : (kind n : ℕ) (p : ℕ × ℕ) → p.0 < n → p.1 < n → ((swapped kind p).0 < n) × ((swapped kind p).1 < n)
swapped_low kind n p h k = go (kind == 2)
  where
    go : (b : Bool) → ((cond b (p.1, p.0) p).0 < n) × ((cond b (p.1, p.0) p).1 < n)
    go true = (k, h)
    go false = (h, k)

-- ---- the last level of a sub-block

pub lead_zero : (f : ℕ → ℤ) (left : ℕ) → 0 < left → is_zero (f (left - 1)) ≡ true → without_leading_zeros (down f left) ≡ without_leading_zeros (down f (left - 1))
lead_zero f left h e = ap without_leading_zeros (down_first f left h) ∙ rw e refl

pub lead_level : (f : ℕ → ℤ) (left : ℕ) → 0 < left → is_zero (f (left - 1)) ≡ false → without_leading_zeros (down f left) ≡ f (left - 1) ∷ down f (left - 1)
lead_level f left h e = ap without_leading_zeros (down_first f left h) ∙ rw e refl

no_leading : (levels : List ℤ) → without_leading_zeros levels ≡ [] → any_level levels ≡ false
no_leading [] h = refl
no_leading (v ∷ levels) h = go (is_zero v) h (no_leading levels)
  where
    go : (b : Bool) → cond b (without_leading_zeros levels) (v ∷ levels) ≡ [] → (without_leading_zeros levels ≡ [] → any_level levels ≡ false) → (not b || any_level levels) ≡ false
    go true k later = later k
    go false k later = absurd (cc)

pub some_last : (f : ℕ → ℤ) (levels : List ℤ) (left : ℕ) → left ≤ 0 → any_level levels ≡ true → without_leading_zeros levels ≡ without_leading_zeros (down f left) → ⊥
some_last f levels left h some same =
    let z : left ≡ 0 = omega arith in
    let e : without_leading_zeros (down f left) ≡ [] = ap (λ n. without_leading_zeros (down f n)) z ∙ ap without_leading_zeros (down_none f) in
    let n : any_level levels ≡ false = no_leading levels (same ∙ e) in
    false≢true (sym n ∙ some)

-- the coordinates as they are coded
pub x_split : (log2 kind : ℕ) (place coded : ℕ × ℕ) → 3 ≤ log2 → log2 ≤ 5 → place.0 < 2 ^ log2 → place.1 < 2 ^ log2 → coded ≡ swapped kind place → IsSplit log2 coded.0
x_split log2 kind place coded low high x y e = rw e (split log2 (swapped kind place).0 low high (swapped_low kind (2 ^ log2) place x y).0)

pub y_split : (log2 kind : ℕ) (place coded : ℕ × ℕ) → 3 ≤ log2 → log2 ≤ 5 → place.0 < 2 ^ log2 → place.1 < 2 ^ log2 → coded ≡ swapped kind place → IsSplit log2 coded.1
y_split log2 kind place coded low high x y e = rw e (split log2 (swapped kind place).1 low high (swapped_low kind (2 ^ log2) place x y).1)

pub last_is : (s : residual.Shape) (place coded : ℕ × ℕ) (x y : ℕ) → coded ≡ swapped s.scan place → x ≡ prefix_of coded.0 → y ≡ prefix_of coded.1 →
    context_bins (last_context s.component s.log2 false) 0 (tr (2 * s.log2 - 1) x)
    ++ (context_bins (last_context s.component s.log2 true) 0 (tr (2 * s.log2 - 1) y)
    ++ (bypass_bins (fl (suffix_bits x) (coded.0 - suffix_base x)) ++ bypass_bins (fl (suffix_bits y) (coded.1 - suffix_base y))))
    ≡ last_items s place
last_is s place coded x y e f g = rw (f, g, e) refl

pub level_zero : (level v : ℤ) (flag : Bool) → level ≡ v → flag ≡ not (is_zero level) → flag ≡ false → is_zero v ≡ true
level_zero level v flag e f h = go (is_zero v) (ap (λ w. not (is_zero w)) (sym e) ∙ (sym f ∙ h))
  where
    go : (b : Bool) → not b ≡ false → b ≡ true
    go true k = refl
    go false k = absurd (cc)

pub level_not : (level v : ℤ) (flag : Bool) → level ≡ v → flag ≡ not (is_zero level) → flag ≡ true → is_zero v ≡ false
level_not level v flag e f h = go (is_zero v) (ap (λ w. not (is_zero w)) (sym e) ∙ (sym f ∙ h))
  where
    go : (b : Bool) → not b ≡ true → b ≡ false
    go true k = absurd (cc)
    go false k = refl

-- the first level after the zeros isn't 0
pub one_level : (v : ℤ) (rest levels : List ℤ) → any_level levels ≡ true → without_leading_zeros levels ≡ v ∷ rest → nonzero (v ∷ []) ≡ v ∷ []
one_level v rest [] some e = absurd (cc)
one_level v rest (w ∷ levels) some e = go (is_zero w) refl some e (one_level v rest levels)
  where
    head : List ℤ → ℤ
    head [] = pos 0
    head (u ∷ us) = u

    kept : (u : ℤ) → is_zero u ≡ false → nonzero (u ∷ []) ≡ u ∷ []
    kept u h = rw h refl

    go : (b : Bool) → is_zero w ≡ b → (not b || any_level levels) ≡ true → cond b (without_leading_zeros levels) (w ∷ levels) ≡ v ∷ rest
        → (any_level levels ≡ true → without_leading_zeros levels ≡ v ∷ rest → nonzero (v ∷ []) ≡ v ∷ []) → nonzero (v ∷ []) ≡ v ∷ []
    go true z s k later = later s k
    go false z s k later = let same : w ≡ v = ap head k in kept v (ap is_zero (sym same) ∙ z)
