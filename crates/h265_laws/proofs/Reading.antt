-- Readers over engines that spell items: how readings join, and the binarisations.
use Rattle.std.proofs.Common.{◌≡◌, refl, sym, ◌∙◌, ap, subst, ℕ, zero, suc, ◌+◌, ◌-◌, ◌*◌, ◌/◌, ◌%◌, ◌^◌, ◌<◌, ◌≤◌, List, [], ◌∷◌, ◌++◌, Bool, true, false, cond, arith, add-zero, pow_pos, leb-true, leb-false, ltb-true, ltb-false, pow-add, one-add, le_refl}
use Rattle.std.specs.Prelude.{Some, nat_le, nat_lt}
use Rattle.std.proofs.lemmas.Bool.{cond-true, cond-false}
use Rattle.std.proofs.lemmas.Nat.{mod-pow-add, div-add-mod', mul-le}
use Rattle.std.proofs.Math.Nat.{pow-suc, mod-eq_of_lt}
use Rattle.h265_model.specs.declared.Place.{Place}
use Rattle.h265_model.specs.declared.Item.{Item}
use Rattle.h265_model.specs.declared.Place.TheVariants.{Context, Bypass}
use Rattle.h265_model.specs.declared.Item.TheVariants as items
use Rattle.h265_model.specs.Plain.{context_bin, bypass_bin}
use Rattle.h265_model.specs.Engine.{Engine, bin, Part, parts_of, Gives, Reader, ◌>>=◌, give, refuse, Reads}
use Rattle.h265_model.specs.Binarise.{tr, fl, eg_within, eg, remaining, bypass_bins, context_bins, tr_from, tr_read, fl_from, fl_read, eg_from, eg_read, remaining_read}
use Rattle.h265_laws.proofs.Digits.{odd, digit-odd}
use Rattle.h265_laws.proofs.Parts.{BeginsWithBin, parts_of-append, GivesBoth, gives_both}
use Rattle.h265_model.specs.Bits.{digit, ◌>>=◌ as and_then, u}

pub reads_give : {A : Type 0} (x : A) → Reads (give x) [] x
reads_give x = record { from = λ e left h. ap (λ (d : Engine). Some (x, d)) h }

pub reads_bind : {A B : Type 0} (read : Reader A) (f : A → Reader B) (front back : List Item) (a : A) (b : B)
    → BeginsWithBin back → Reads read front a → Reads (f a) back b → Reads (read >>= f) (front ++ back) b
reads_bind read f front back a b begins first second = record {
  from = λ e left h.
      let r : GivesBoth (parts_of front) (parts_of back) e left =
      gives_both (parts_of front) (parts_of back) e left (subst (λ (ps : List Part). Gives ps e left) (parts_of-append front back begins) h) in
      ap (λ o. and_then o (λ found. f found.0 found.1)) (first.from e r.between r.first) ∙ second.from r.between left r.second;
}

pub reads_bin : {B : Type 0} (place : Place) (value : Bool) (f : Bool → Reader B) (back : List Item) (b : B)
    → Reads (f value) back b → Reads (bin place >>= f) (items.Bin (record { value = value; place = place }) ∷ back) b
reads_bin place value f back b later = record {
  from = λ e left h.
      ap (λ o. and_then o (λ (found : Bool × Engine). f found.0 found.1)) h.1 ∙ later.from h.0 left h.2;
}

pub reads_as : {A : Type 0} (read : Reader A) (list list' : List Item) (a a' : A) → list ≡ list' → a ≡ a' → Reads read list a → Reads read list' a'
reads_as read list list' a a' same equal r = record {
  from = λ e left h.
      r.from e left (subst (λ (l : List Item). Gives (parts_of l) e left) (sym same) h) ∙ ap (λ v. Some (v, left)) equal;
}

-- a value made of one that is read
pub reads_map : {A B : Type 0} (read : Reader A) (f : A → B) (list : List Item) (a : A) → Reads read list a → Reads (read >>= λ x. give (f x)) list (f a)
reads_map read f list a r = record { from = λ e left h. ap (λ o. and_then o (λ found. Some (f found.0, found.1))) (r.from e left h) }

-- bins each in a place of its number
abbrev pub placed : (ℕ → Place) → ℕ → List Bool → List Item
placed place i [] = []
placed place i (b ∷ bits) = items.Bin (record { value = b; place = place i }) ∷ placed place (suc i) bits

pub placed-bypass : (i : ℕ) (bits : List Bool) → placed (λ n. Bypass) i bits ≡ bypass_bins bits
placed-bypass i [] = refl
placed-bypass i (b ∷ bits) = ap (λ (l : List Item). bypass_bin b ∷ l) (placed-bypass (suc i) bits)

pub placed-context : (number : ℕ → ℕ) (i : ℕ) (bits : List Bool) → placed (λ n. Context (number n)) i bits ≡ context_bins number i bits
placed-context number i [] = refl
placed-context number i (b ∷ bits) = ap (λ (l : List Item). context_bin b (number i) ∷ l) (placed-context number (suc i) bits)

-- ---- TR

pub reads_tr : (place : ℕ → Place) (i limit v : ℕ) → v ≤ limit → Reads (tr_from place i limit) (placed place i (tr limit v)) (i + v)
reads_tr place i zero zero h = reads_as (give i) [] [] i (i + 0) refl (sym (add-zero i)) (reads_give i)
reads_tr place i zero (suc v) h = absurd (omega arith)
reads_tr place i (suc limit) zero h =
    reads_as (tr_from place i (suc limit)) _ (placed place i (false ∷ [])) i (i + 0) refl (sym (add-zero i))
    (reads_bin (place i) false (λ b. cond b (tr_from place (suc i) limit) (give i)) [] i (reads_give i))
reads_tr place i (suc limit) (suc v) h =
    let later : Reads (tr_from place (suc i) limit) (placed place (suc i) (tr limit v)) (suc i + v) = reads_tr place (suc i) limit v (omega arith) in
    reads_as (tr_from place i (suc limit)) _ (placed place i (true ∷ tr limit v)) (suc i + v) (i + suc v) refl (omega arith)
    (reads_bin (place i) true (λ b. cond b (tr_from place (suc i) limit) (give i)) (placed place (suc i) (tr limit v)) (suc i + v) later)

-- ---- FL

one_more : (h b x p q r s : ℕ) → b ≡ x → q ≡ p * 2 → s ≡ x * p + r → (2 * h + b) * p + r ≡ h * q + s
one_more h b x p q r s e f g = rw (e, f, g) (omega arith)

pub reads_fl_from : (head n v : ℕ) → Reads (fl_from head n) (bypass_bins (u n v)) (head * 2 ^ n + v % 2 ^ n)
unfolding u
reads_fl_from head zero v = reads_as (give head) [] [] head (head * 2 ^ 0 + v % 2 ^ 0) refl (omega arith) (reads_give head)
reads_fl_from head (suc n) v =
    let b : Bool = odd (v / 2 ^ n) in
    let e : (2 * head + digit b) * 2 ^ n + v % 2 ^ n ≡ head * 2 ^ suc n + v % 2 ^ suc n =
    one_more head (digit b) (v / 2 ^ n % 2) (2 ^ n) (2 ^ suc n) (v % 2 ^ n) (v % 2 ^ suc n) (digit-odd (v / 2 ^ n)) (pow-suc 2 n)
    (ap (λ (k : ℕ). v % 2 ^ k) (sym (one-add n)) ∙ mod-pow-add v 1 n) in
    reads_as (fl_from head (suc n)) _ (bypass_bins (b ∷ u n v)) ((2 * head + digit b) * 2 ^ n + v % 2 ^ n) _ refl e
    (reads_bin Bypass b (λ c. fl_from (2 * head + digit c) n) (bypass_bins (u n v)) _ (reads_fl_from (2 * head + digit b) n v))

pub reads_fl : (n v : ℕ) → v < 2 ^ n → Reads (fl_read n) (bypass_bins (fl n v)) v
reads_fl n v h =
    let e : v % 2 ^ n ≡ v = mod-eq_of_lt h in
    reads_as (fl_read n) _ (bypass_bins (fl n v)) (0 * 2 ^ n + v % 2 ^ n) v refl (omega arith) (reads_fl_from 0 n v)

-- ---- EG

reads_eg_within : (ones k v : ℕ) → v + 2 ^ k < 2 ^ (suc k + ones) → Reads (eg_from ones k) (bypass_bins (eg_within ones k v)) v
reads_eg_within zero k v h =
    let two : 2 ^ (suc k + 0) ≡ 2 ^ k * 2 = ap (λ (m : ℕ). 2 ^ m) (add-zero (suc k)) ∙ pow-suc 2 k in
    reads_bin Bypass false (λ b. cond b refuse (fl_read k)) (bypass_bins (fl k v)) v (reads_fl k v (omega arith))
reads_eg_within (suc ones) k v h = go (reads_eg_within ones (suc k) (v - 2 ^ k)) (nat_le (2 ^ k) v) refl
  where
    Rest : Type 0
    Rest = (v - 2 ^ k) + 2 ^ suc k < 2 ^ (suc (suc k) + ones) → Reads (eg_from ones (suc k)) (bypass_bins (eg_within ones (suc k) (v - 2 ^ k))) (v - 2 ^ k)

    f : Bool → Reader ℕ
    f b = cond b (eg_from ones (suc k) >>= λ rest. give (2 ^ k + rest)) (fl_read k)

    go : Rest → (t : Bool) → nat_le (2 ^ k) v ≡ t → Reads (eg_from (suc ones) k) (bypass_bins (eg_within (suc ones) k v)) v
    go rest true e =
        let enough : 2 ^ k ≤ v = leb-true _ _ e in
        let double : 2 ^ suc k ≡ 2 ^ k * 2 = pow-suc 2 k in
        let same : 2 ^ (suc (suc k) + ones) ≡ 2 ^ (suc k + suc ones) = ap (λ (m : ℕ). 2 ^ m) (omega arith) in
        let later : Reads (eg_from ones (suc k)) (bypass_bins (eg_within ones (suc k) (v - 2 ^ k))) (v - 2 ^ k) = rest (omega arith) in
        let is : true ∷ eg_within ones (suc k) (v - 2 ^ k) ≡ eg_within (suc ones) k v = sym (cond-true (nat_le (2 ^ k) v) _ _ e) in
        reads_as (bin Bypass >>= f) _ (bypass_bins (eg_within (suc ones) k v)) (2 ^ k + (v - 2 ^ k)) v (ap bypass_bins is) (omega arith)
        (reads_bin Bypass true f (bypass_bins (eg_within ones (suc k) (v - 2 ^ k))) (2 ^ k + (v - 2 ^ k))
        (reads_map (eg_from ones (suc k)) (λ rest. 2 ^ k + rest) (bypass_bins (eg_within ones (suc k) (v - 2 ^ k))) (v - 2 ^ k) later))
    go rest false e =
        let small : v < 2 ^ k = leb-false _ _ e in
        let is : false ∷ fl k v ≡ eg_within (suc ones) k v = sym (cond-false (nat_le (2 ^ k) v) _ _ e) in
        reads_as (bin Bypass >>= f) _ (bypass_bins (eg_within (suc ones) k v)) v v (ap bypass_bins is) refl
        (reads_bin Bypass false f (bypass_bins (fl k v)) v (reads_fl k v small))

pub reads_eg : (k v : ℕ) → v < 65535 → Reads (eg_read k) (bypass_bins (eg k v)) v
reads_eg k v h =
    let p : 0 < 2 ^ k = pow_pos k in
    let big : 2 ^ (suc k + 15) ≡ 2 ^ k * 65536 = ap (λ (m : ℕ). 2 ^ m) (omega arith) ∙ pow-add 2 k 16 in
    reads_eg_within 15 k v (omega arith)

-- ---- remaining levels

tr_top : (limit v : ℕ) → limit ≤ v → tr limit v ≡ tr limit limit
tr_top zero v h = refl
tr_top (suc limit) zero h = absurd (omega arith)
tr_top (suc limit) (suc v) h = ap (λ (l : List Bool). true ∷ l) (tr_top limit v (omega arith))

pub bypass_bins-append : (a b : List Bool) → bypass_bins (a ++ b) ≡ bypass_bins a ++ bypass_bins b
bypass_bins-append [] b = refl
bypass_bins-append (x ∷ a) b = ap (λ (l : List Item). bypass_bin x ∷ l) (bypass_bins-append a b)

pub begins_bypass : (bits : List Bool) → BeginsWithBin (bypass_bins bits)
begins_bypass [] = tt
begins_bypass (b ∷ bits) = tt

pub reads_tr_bypass : (limit v : ℕ) → v ≤ limit → Reads (tr_read (λ i. Bypass) limit) (bypass_bins (tr limit v)) v
reads_tr_bypass limit v h =
    reads_as (tr_read (λ i. Bypass) limit) (placed (λ i. Bypass) 0 (tr limit v)) _ (0 + v) v (placed-bypass 0 (tr limit v)) (omega arith) (reads_tr (λ i. Bypass) 0 limit v h)

pub reads_remaining : (r v : ℕ) → v < 65535 → Reads (remaining_read r) (bypass_bins (remaining r v)) v
reads_remaining r v h = go (nat_lt (v / 2 ^ r) 4) refl
  where
    p : ℕ
    p = v / 2 ^ r

    f : ℕ → Reader ℕ
    f q = cond (nat_lt q 4) (fl_read r >>= λ low. give (q * 2 ^ r + low)) (eg_read (suc r) >>= λ rest. give (4 * 2 ^ r + rest))

    whole : v / 2 ^ r * 2 ^ r + v % 2 ^ r ≡ v
    whole = div-add-mod' v (2 ^ r)

    go : (t : Bool) → nat_lt (v / 2 ^ r) 4 ≡ t → Reads (remaining_read r) (bypass_bins (remaining r v)) v
    go true e =
        let few : p < 4 = ltb-true _ _ e in
        let list : bypass_bins (tr 4 p) ++ bypass_bins (fl r v) ≡ bypass_bins (remaining r v) =
        sym (bypass_bins-append (tr 4 p) (fl r v)) ∙ ap (λ (l : List Bool). bypass_bins (tr 4 p ++ l)) (sym (cond-true (nat_lt p 4) _ _ e)) in
        let later : Reads (fl_read r >>= λ low. give (p * 2 ^ r + low)) (bypass_bins (fl r v)) (p * 2 ^ r + (0 * 2 ^ r + v % 2 ^ r)) =
        reads_map (fl_read r) (λ low. p * 2 ^ r + low) (bypass_bins (fl r v)) (0 * 2 ^ r + v % 2 ^ r) (reads_fl_from 0 r v) in
        reads_as (tr_read (λ i. Bypass) 4 >>= f) _ (bypass_bins (remaining r v)) (p * 2 ^ r + (0 * 2 ^ r + v % 2 ^ r)) v list (let w : p * 2 ^ r + v % 2 ^ r ≡ v = whole in omega arith)
        (reads_bind (tr_read (λ i. Bypass) 4) f (bypass_bins (tr 4 p)) (bypass_bins (fl r v)) p _ (begins_bypass (fl r v))
        (reads_tr_bypass 4 p (omega arith))
        (subst (λ (m : Reader ℕ). Reads m (bypass_bins (fl r v)) (p * 2 ^ r + (0 * 2 ^ r + v % 2 ^ r))) (sym (cond-true (nat_lt p 4) _ _ e)) later))
    go false e =
        let most : 4 ≤ p = ltb-false _ _ e in
        let w : p * 2 ^ r + v % 2 ^ r ≡ v = whole in
        let m : 4 * 2 ^ r ≤ p * 2 ^ r = mul-le 4 (2 ^ r) p (2 ^ r) most (le_refl (2 ^ r)) in
        let fits : 4 * 2 ^ r ≤ v = omega arith in
        let list : bypass_bins (tr 4 4) ++ bypass_bins (eg (suc r) (v - 4 * 2 ^ r)) ≡ bypass_bins (remaining r v) =
        sym (bypass_bins-append (tr 4 4) (eg (suc r) (v - 4 * 2 ^ r)))
        ∙ (ap (λ (l : List Bool). bypass_bins (l ++ eg (suc r) (v - 4 * 2 ^ r))) (sym (tr_top 4 p most))
        ∙ ap (λ (l : List Bool). bypass_bins (tr 4 p ++ l)) (sym (cond-false (nat_lt p 4) _ _ e))) in
        reads_as (tr_read (λ i. Bypass) 4 >>= f) _ (bypass_bins (remaining r v)) (4 * 2 ^ r + (v - 4 * 2 ^ r)) v list (omega arith)
        (reads_bind (tr_read (λ i. Bypass) 4) f (bypass_bins (tr 4 4)) (bypass_bins (eg (suc r) (v - 4 * 2 ^ r))) 4 _ (begins_bypass (eg (suc r) (v - 4 * 2 ^ r)))
        (reads_tr_bypass 4 4 (omega arith))
        (reads_map (eg_read (suc r)) (λ rest. 4 * 2 ^ r + rest) (bypass_bins (eg (suc r) (v - 4 * 2 ^ r))) (v - 4 * 2 ^ r) (reads_eg (suc r) (v - 4 * 2 ^ r) (omega arith))))
