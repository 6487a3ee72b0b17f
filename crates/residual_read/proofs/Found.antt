-- What is known of the levels other than 0 that are read.
use Rattle.std.proofs.Common.{◌≡◌, refl, sym, ◌∙◌, ap, subst, ℕ, zero, suc, ◌+◌, ◌-◌, ◌≤◌, Bool, true, false, Some, None, Option, List, [], ◌∷◌, ◌++◌, length, length-append, map, arith}
use Rattle.std.proofs.lemmas.Bool.Decides.{nat_tests}
use Rattle.std.proofs.lemmas.List.{length-replicate}
use Rattle.std.specs.Prelude.{if◌then◌else◌, ℤ, nat_abs, min, replicate, nat_lt, nat_le}
use Rattle.std.specs.List.{list_all}
use Rattle.h265_model.specs.Bits.{value_after, ◌>>=◌ as and_then}
use Rattle.h265_model.specs.Engine.{Engine, give}
use Rattle.h265_model.specs.Binarise.{remaining_read, fl_read}
use Rattle.h265_model.specs.Residual.{Known, known, known_later, known_of, rests_read, rice_after, signs_read, greater1_read, signed, signed_all, is_zero, greater1_flags}
use Rattle.residual_read.specs.Parts.{values_with, levels_at, ones_read, second_read, unflagged}
use Rattle.residual_read.proofs.FlagReads.{valued, ones_is}
use Rattle.residual_read.proofs.LevelReads.{signs_are, tested}
use Rattle.residual_read.proofs.LevelSteps.{beside, signs_then, greater2_then, ones_then, values_open}
use Rattle.residual_read.proofs.ValueReads.{ones_many, signs_many, levels_same}
use Rattle.residual_read.proofs.Counts.{AreSome}

same_some : {A : Type 0} (x y : A) → Some x ≡ Some y → x ≡ y
same_some x y h = cc

clash : {A : Type 0} (x : A) → None ≡ Some x → ⊥
clash x h = cc

-- a reading in two steps that gave a value
pub record InTwo {A B : Type 0} (o : Option A) (f : A → Option B) (y : B) : Type 0 where
  pub x : A
  pub first : o ≡ Some x
  pub second : f x ≡ Some y

pub in_two : {A B : Type 0} (o : Option A) (f : A → Option B) (y : B) → and_then o f ≡ Some y → InTwo o f y
in_two None f y h = absurd (clash y h)
in_two (Some x) f y h = record { x = x; first = refl; second = h }

-- ---- sizes

-- sizes of which this much was known
abbrev AreSizes : List Known → List ℕ → Type 0
AreSizes [] [] = Unit {0}
AreSizes [] (size ∷ sizes) = ⊥
AreSizes (k ∷ ks) [] = ⊥
AreSizes (k ∷ ks) (size ∷ sizes) = ((k.base ≤ size) × (k.has_remaining ≡ false → size ≡ k.base)) × AreSizes ks sizes

abbrev rest_of : ℕ → Known → ℕ × Engine → Option (List ℕ × Engine)
rest_of r k found = and_then (rests_read (if k.has_remaining then rice_after r (k.base + found.0) else r) [] found.1) (λ more. Some (more.0, more.1))

none_rest : (k : Known) (r : ℕ) (e : Engine) (x : ℕ × Engine) → (if k.has_remaining then remaining_read r else give 0) e ≡ Some x → k.has_remaining ≡ false → x.0 ≡ 0
none_rest k r e x h none =
    let g : (if false then remaining_read r else give 0) e ≡ Some x = subst (λ (b : Bool). (if b then remaining_read r else give 0) e ≡ Some x) none h in
    let p : (0, e) ≡ x = same_some (0, e) x g in
    ap (λ (y : ℕ × Engine). y.0) (sym p)

sizes_are : (r : ℕ) (ks : List Known) (e d : Engine) (sizes : List ℕ) → rests_read r ks e ≡ Some (sizes, d) → AreSizes ks sizes
sizes_are r [] e d sizes h =
    let p : ([], e) ≡ (sizes, d) = same_some ([], e) (sizes, d) h in
    subst (AreSizes []) (ap (λ (y : List ℕ × Engine). y.0) p) tt
sizes_are r (k ∷ ks) e d sizes h =
    let a = in_two ((if k.has_remaining then remaining_read r else give 0) e) (λ found. and_then (rests_read (if k.has_remaining then rice_after r (k.base + found.0) else r) ks found.1) (λ more. Some ((k.base + found.0) ∷ more.0, more.1))) (sizes, d) h in
    let b = in_two (rests_read (if k.has_remaining then rice_after r (k.base + a.x.0) else r) ks a.x.1) (λ more. Some ((k.base + a.x.0) ∷ more.0, more.1)) (sizes, d) a.second in
    let p : ((k.base + a.x.0) ∷ b.x.0, b.x.1) ≡ (sizes, d) = same_some ((k.base + a.x.0) ∷ b.x.0, b.x.1) (sizes, d) b.second in
    let rest : AreSizes ks b.x.0 = sizes_are (if k.has_remaining then rice_after r (k.base + a.x.0) else r) ks a.x.1 b.x.1 b.x.0 b.first in
    subst (AreSizes (k ∷ ks)) (ap (λ (y : List ℕ × Engine). y.0) p) (
      (omega arith, λ none. let z = none_rest k r e a.x a.first none in omega arith),
      rest,
    )

sizes_many : (ks : List Known) (sizes : List ℕ) → AreSizes ks sizes → length sizes ≡ length ks
sizes_many [] [] h = refl
sizes_many [] (size ∷ sizes) h = absurd h
sizes_many (k ∷ ks) [] h = absurd h
sizes_many (k ∷ ks) (size ∷ sizes) h = ap suc (sizes_many ks sizes h.1)

-- ---- sizes are at least 1

abbrev ArePositive : List ℕ → Type 0
ArePositive [] = Unit {0}
ArePositive (size ∷ sizes) = (1 ≤ size) × ArePositive sizes

abbrev AreBased : List Known → Type 0
AreBased [] = Unit {0}
AreBased (k ∷ ks) = (1 ≤ k.base) × AreBased ks

based_later : (flags : List Bool) (ks : List Known) → AreBased ks → AreBased (known_later flags ++ ks)
based_later [] ks h = h
based_later (flag ∷ flags) ks h = (omega arith, based_later flags ks h)

based_known : (g : Bool) (flags : List Bool) (ks : List Known) → AreBased ks → AreBased (known g flags ++ ks)
based_known g [] ks h = h
based_known g (false ∷ flags) ks h = (omega arith, based_known g flags ks h)
based_known g (true ∷ flags) ks h = (omega arith, based_later flags ks h)

based_none : (n : ℕ) → AreBased (replicate n unflagged)
based_none zero = tt
based_none (suc n) = (omega arith, based_none n)

positive : (ks : List Known) (sizes : List ℕ) → AreBased ks → AreSizes ks sizes → ArePositive sizes
positive [] [] b h = tt
positive [] (size ∷ sizes) b h = absurd h
positive (k ∷ ks) [] b h = absurd h
positive (k ∷ ks) (size ∷ sizes) b h = (let x = h.0.0 in let y = b.0 in omega arith, positive ks sizes b.1 h.1)

-- ---- flags of sizes

large : (size : ℕ) → 2 ≤ size → nat_lt 1 size ≡ true
large size h = grind (arith, nat_tests)

small : (size : ℕ) → size ≡ 1 → nat_lt 1 size ≡ false
small size h = grind (arith, nat_tests)

abbrev NoneMore : List Known → ℕ → Type 0
NoneMore ks m = (sizes : List ℕ) → AreSizes ks sizes → greater1_flags m sizes ≡ []

flags_later : (flags : List Bool) (ks : List Known) (m n : ℕ) (sizes : List ℕ) → NoneMore ks m → n ≡ length flags + m → AreSizes (known_later flags ++ ks) sizes → greater1_flags n sizes ≡ flags
flags_later [] ks m n sizes none e h = let z : n ≡ m = omega arith in ap (λ k. greater1_flags k sizes) z ∙ none sizes h
flags_later (flag ∷ flags) ks m zero sizes none e h = absurd (omega arith)
flags_later (flag ∷ flags) ks m (suc n) [] none e h = absurd h
flags_later (true ∷ flags) ks m (suc n) (size ∷ sizes) none e h =
    ap (λ (b : Bool). b ∷ greater1_flags n sizes) (large size (let x = h.0.0 in omega arith)) ∙ ap (λ (l : List Bool). true ∷ l) (flags_later flags ks m n sizes none (omega arith) h.1)
flags_later (false ∷ flags) ks m (suc n) (size ∷ sizes) none e h =
    ap (λ (b : Bool). b ∷ greater1_flags n sizes) (small size (h.0.1 refl)) ∙ ap (λ (l : List Bool). false ∷ l) (flags_later flags ks m n sizes none (omega arith) h.1)

flags_known : (g : Bool) (flags : List Bool) (ks : List Known) (m n : ℕ) (sizes : List ℕ) → NoneMore ks m → n ≡ length flags + m → AreSizes (known g flags ++ ks) sizes → greater1_flags n sizes ≡ flags
flags_known g [] ks m n sizes none e h = let z : n ≡ m = omega arith in ap (λ k. greater1_flags k sizes) z ∙ none sizes h
flags_known g (flag ∷ flags) ks m zero sizes none e h = absurd (omega arith)
flags_known g (true ∷ flags) ks m (suc n) [] none e h = absurd h
flags_known g (false ∷ flags) ks m (suc n) [] none e h = absurd h
flags_known g (true ∷ flags) ks m (suc n) (size ∷ sizes) none e h =
    ap (λ (b : Bool). b ∷ greater1_flags n sizes) (large size (let x = h.0.0 in omega arith)) ∙ ap (λ (l : List Bool). true ∷ l) (flags_later flags ks m n sizes none (omega arith) h.1)
flags_known g (false ∷ flags) ks m (suc n) (size ∷ sizes) none e h =
    ap (λ (b : Bool). b ∷ greater1_flags n sizes) (small size (h.0.1 refl)) ∙ ap (λ (l : List Bool). false ∷ l) (flags_known g flags ks m n sizes none (omega arith) h.1)

-- no sizes, or no flags, are left behind the first eight
none_more : (many m : ℕ) → many - 8 ≡ 0 → NoneMore (replicate (many - 8) unflagged) m
none_more many zero h = λ sizes are. refl
none_more many (suc m) h = λ sizes are. go sizes (subst (λ n. AreSizes (replicate n unflagged) sizes) h are)
  where
    go : (sizes : List ℕ) → AreSizes (replicate 0 unflagged) sizes → greater1_flags (suc m) sizes ≡ []
    go [] are = refl
    go (size ∷ sizes) are = absurd are

flags_are : (g : Bool) (many : ℕ) (flags : List Bool) (sizes : List ℕ) → length flags ≡ min many 8 → AreSizes (known_of many flags g) sizes → greater1_flags 8 sizes ≡ flags
flags_are g many flags sizes long h = flags_known g flags (replicate (many - 8) unflagged) (8 - many) 8 sizes (none (8 - many) refl) (omega arith) h
  where
    none : (m : ℕ) → 8 - many ≡ m → NoneMore (replicate (many - 8) unflagged) m
    none zero e = λ sizes are. refl
    none (suc m) e = none_more many (suc m) (omega arith)

-- ---- levels of sizes

abs_signed : (sign : Bool) (size : ℕ) → nat_abs (signed sign size) ≡ size
abs_signed false size = refl
abs_signed true zero = refl
abs_signed true (suc n) = refl

some_signed : (sign : Bool) (size : ℕ) → 1 ≤ size → is_zero (signed sign size) ≡ false
some_signed sign zero h = absurd (omega arith)
some_signed true (suc n) h = refl
some_signed false (suc n) h = refl

levels_abs : (signs : List Bool) (sizes : List ℕ) → length signs ≡ length sizes → map nat_abs (signed_all signs sizes) ≡ sizes
levels_abs [] [] h = refl
levels_abs [] (size ∷ sizes) h = absurd (omega arith)
levels_abs (sign ∷ signs) [] h = refl
levels_abs (sign ∷ signs) (size ∷ sizes) h =
    ap (λ n. n ∷ map nat_abs (signed_all signs sizes)) (abs_signed sign size) ∙ ap (λ (l : List ℕ). size ∷ l) (levels_abs signs sizes (omega arith))

levels_many : (signs : List Bool) (sizes : List ℕ) → length signs ≡ length sizes → length (signed_all signs sizes) ≡ length sizes
levels_many [] [] h = refl
levels_many [] (size ∷ sizes) h = absurd (omega arith)
levels_many (sign ∷ signs) [] h = refl
levels_many (sign ∷ signs) (size ∷ sizes) h = ap suc (levels_many signs sizes (omega arith))

levels_some : (signs : List Bool) (sizes : List ℕ) → length signs ≡ length sizes → ArePositive sizes → AreSome (signed_all signs sizes)
levels_some [] [] h p = tt
levels_some [] (size ∷ sizes) h p = absurd (omega arith)
levels_some (sign ∷ signs) [] h p = tt
levels_some (sign ∷ signs) (size ∷ sizes) h p = (some_signed sign size p.0, levels_some signs sizes (omega arith) p.1)

-- ---- all of them

-- levels other than 0, as many as were asked for, and their greater1 flags as digits
pub record AreFound (many ones : ℕ) (values : List ℤ) : Type 0 where
  pub long : length values ≡ many
  pub some : AreSome values
  pub greater : ones ≡ value_after 0 (greater1_flags 8 (map nat_abs values))

later_long : (flags : List Bool) → length (known_later flags) ≡ length flags
later_long [] = refl
later_long (flag ∷ flags) = ap suc (later_long flags)

known_long : (g : Bool) (flags : List Bool) → length (known g flags) ≡ length flags
known_long g [] = refl
known_long g (false ∷ flags) = ap suc (known_long g flags)
known_long g (true ∷ flags) = ap suc (later_long flags)

of_sizes : (g : Bool) (many : ℕ) (flags signs : List Bool) (sizes : List ℕ) → length flags ≡ min many 8 → length signs ≡ many → AreSizes (known_of many flags g) sizes
    → AreFound many (value_after 0 flags) (signed_all signs sizes)
of_sizes g many flags signs sizes fl sl h =
    let a : length (known g flags ++ replicate (many - 8) unflagged) ≡ length (known g flags) + length (replicate (many - 8) unflagged) = length-append (known g flags) (replicate (many - 8) unflagged) in
    let b : length (replicate (many - 8) unflagged) ≡ many - 8 = length-replicate (many - 8) unflagged in
    let c : length (known g flags) ≡ length flags = known_long g flags in
    let d : length sizes ≡ length (known g flags ++ replicate (many - 8) unflagged) = sizes_many (known_of many flags g) sizes h in
    let same : length signs ≡ length sizes = omega arith in
    record {
      long = levels_many signs sizes same ∙ omega arith;
      some = levels_some signs sizes same (positive (known_of many flags g) sizes (based_known g flags (replicate (many - 8) unflagged) (based_none (many - 8))) h);
      greater = ap (value_after 0) (sym (flags_are g many flags sizes fl h)) ∙ ap (λ (l : List ℕ). value_after 0 (greater1_flags 8 l)) (sym (levels_abs signs sizes same));
    }

tested_is : (signs : List Bool) (found : List ℕ × Engine) (x : List ℤ × Engine) → tested signs [] found ≡ Some x → x.0 ≡ signed_all signs found.0
tested_is signs found x h = go (list_all (λ size. nat_le size 255) found.0) h
  where
    go : (t : Bool) → (if t then Some ([] ++ signed_all signs found.0, found.1) else None) ≡ Some x → x.0 ≡ signed_all signs found.0
    go true k =
        let p : (signed_all signs found.0, found.1) ≡ x = same_some (signed_all signs found.0, found.1) x k in
        ap (λ (y : List ℤ × Engine). y.0) (sym p)
    go false k = absurd (clash x k)

pub values_found : (component set many ones : ℕ) (values : List ℤ) (e d : Engine) → values_with component set many e ≡ Some ((ones, values), d) → AreFound many ones values
values_found component set many ones values e d h =
    let a = in_two (ones_read component set 1 0 (min many 8) e) (ones_then component set many) ((ones, values), d) (sym (values_open component set many e) ∙ h) in
    let b = in_two (greater1_read component set 1 (min many 8) e) (valued 0) a.x (sym (ones_is component set 1 0 (min many 8) e) ∙ a.first) in
    let bp : (value_after 0 b.x.0, b.x.1) ≡ a.x = same_some (value_after 0 b.x.0, b.x.1) a.x b.second in
    let fl : length b.x.0 ≡ min many 8 = ones_many component set 1 (min many 8) b.x.0 e b.x.1 b.first in
    let c = in_two (second_read component set a.x.0 a.x.1) (greater2_then many a.x.0) ((ones, values), d) a.second in
    let l = in_two (fl_read many c.x.1) (signs_then many a.x.0 c.x.0) ((ones, values), d) c.second in
    let s = in_two (signs_read many c.x.1) (valued 0) l.x (sym (signs_are 0 many c.x.1) ∙ l.first) in
    let sp : (value_after 0 s.x.0, s.x.1) ≡ l.x = same_some (value_after 0 s.x.0, s.x.1) l.x s.second in
    let sl : length s.x.0 ≡ many = signs_many many s.x.0 c.x.1 s.x.1 s.first in
    let v = in_two (levels_at 0 false c.x.0 a.x.0 (min many 8) many l.x.0 [] l.x.1) (beside a.x.0) ((ones, values), d) l.second in
    let vp : ((a.x.0, v.x.0), v.x.1) ≡ ((ones, values), d) = same_some ((a.x.0, v.x.0), v.x.1) ((ones, values), d) v.second in
    let onep : value_after 0 b.x.0 ≡ a.x.0 = ap (λ (y : ℕ × Engine). y.0) bp in
    let signp : value_after 0 s.x.0 ≡ l.x.0 = ap (λ (y : ℕ × Engine). y.0) sp in
    let z : levels_at 0 false c.x.0 (value_after 0 b.x.0) (min many 8) many (value_after 0 s.x.0) [] l.x.1 ≡ Some v.x =
    ap (λ n. levels_at 0 false c.x.0 n (min many 8) many (value_after 0 s.x.0) [] l.x.1) onep ∙ ap (λ n. levels_at 0 false c.x.0 a.x.0 (min many 8) many n [] l.x.1) signp ∙ v.first in
    let t = in_two (rests_read 0 (known_of many b.x.0 c.x.0) l.x.1) (tested s.x.0 []) v.x (sym (levels_same c.x.0 many b.x.0 s.x.0 l.x.1 fl sl) ∙ z) in
    let found : AreFound many (value_after 0 b.x.0) (signed_all s.x.0 t.x.0) = of_sizes c.x.0 many b.x.0 s.x.0 t.x.0 fl sl (sizes_are 0 (known_of many b.x.0 c.x.0) l.x.1 t.x.1 t.x.0 t.first) in
    let valuep : signed_all s.x.0 t.x.0 ≡ values = sym (tested_is s.x.0 t.x v.x t.second) ∙ ap (λ (y : (ℕ × List ℤ) × Engine). y.0.1) vp in
    let numberp : value_after 0 b.x.0 ≡ ones = onep ∙ ap (λ (y : (ℕ × List ℤ) × Engine). y.0.0) vp in
    subst (λ (y : List ℤ). AreFound many ones y) valuep (subst (λ (n : ℕ). AreFound many n (signed_all s.x.0 t.x.0)) numberp found)
