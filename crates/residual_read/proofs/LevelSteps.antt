-- One level of a sub-block.
use Rattle.std.proofs.Common.{◌≡◌, ◌≢◌, refl, sym, ◌∙◌, ap, ℕ, zero, suc, ◌+◌, ◌-◌, ◌/◌, ◌%◌, ◌^◌, ◌<◌, ◌≤◌, Bool, true, false, Some, None, Option, List, [], ◌∷◌, ◌++◌, arith}
use Rattle.std.proofs.lemmas.Bool.Decides.{nat_tests}
use Rattle.std.specs.Prelude.{◌==◌, ◌||◌, nat_lt, if◌then◌else◌, replicate, ℤ, min}
use Rattle.h265_model.specs.Bits.{u, ◌>>=◌ as and_then}
use Rattle.h265_model.specs.Binarise.{fl_read}
use Rattle.h265_model.specs.declared.Place.TheVariants.{Context}
use Rattle.h265_model.specs.Engine.{Engine, bin}
use Rattle.h265_model.specs.Residual.{Known, known, rice_after, signed, greater2_context}
use Rattle.residual_read.specs.Parts.{known_after, known_one, known_as, next_known, unflagged, levels_from, levels_at, size_read, values_with, second_read, ones_read}
use Rattle.residual_read.proofs.Steps.{then_some, then_none}

known_first : (flag seen g : Bool) (flags : List Bool) → known_after seen g (flag ∷ flags) ≡ known_one seen g flag ∷ known_after (seen || nat_lt 1 (known_one seen g flag).base) g flags
known_first false true g flags = refl
known_first false false g flags = refl
known_first true true g flags = refl
known_first true false true flags = refl
known_first true false false flags = refl

known_none : (seen g : Bool) → known_after seen g [] ≡ []
known_none true g = refl
known_none false g = refl

abbrev ks : Bool → Bool → ℕ → ℕ → ℕ → List Known
ks seen g left n ones = known_after seen g (u left ones) ++ replicate (n - left) unflagged

suc_not_zero : (l : ℕ) → (suc l == 0) ≡ false
suc_not_zero l = grind (arith, nat_tests)

ks_open : (seen g : Bool) (left m ones : ℕ) → left ≤ suc m → ks seen g left (suc m) ones ≡ next_known seen g left ones ∷ ks (seen || nat_lt 1 (next_known seen g left ones).base) g (left - 1) m ones
unfolding u
ks_open seen g zero m ones h =
    let n : suc m - 0 ≡ suc m = omega arith in
    let o : m ≡ m - 0 = omega arith in
    ap (λ (l : List Known). l ++ replicate (suc m - 0) unflagged) (known_none seen g)
    ∙ ap (λ k. replicate k unflagged) n
    ∙ ap (λ k. unflagged ∷ replicate k unflagged) o
    ∙ ap (λ (l : List Known). unflagged ∷ (l ++ replicate (m - 0) unflagged)) (sym (known_none (seen || nat_lt 1 1) g))
ks_open seen g (suc l) m ones h =
    let flag : Bool = ones / 2 ^ l % 2 == 1 in
    let n : suc m - suc l ≡ m - l = omega arith in
    let o : suc l - 1 ≡ l = omega arith in
    ap (λ (list : List Known). list ++ replicate (suc m - suc l) unflagged) (known_first flag seen g (u l ones))
    ∙ ap (λ k. known_one seen g flag ∷ (known_after (seen || nat_lt 1 (known_one seen g flag).base) g (u l ones) ++ replicate k unflagged)) n
    ∙ sym (rw (suc_not_zero l, o) refl)

abbrev levels_then : ℕ → Bool → Bool → ℕ → ℕ → ℕ → ℕ → List ℤ → ℕ × Engine → Option (List ℤ × Engine)
levels_then rice seen g ones left m signs values found =
    let k : Known = next_known seen g left ones in
    levels_at (if k.has_remaining then rice_after rice found.0 else rice) (seen || nat_lt 1 k.base) g ones (left - 1) m signs (values ++ signed (signs / 2 ^ m % 2 == 1) found.0 ∷ []) found.1

levels_suc : (rice : ℕ) (seen g : Bool) (ones left m signs : ℕ) (values : List ℤ) (e : Engine) → left ≤ suc m
    → levels_at rice seen g ones left (suc m) signs values e ≡ and_then (size_read rice (next_known seen g left ones) e) (levels_then rice seen g ones left m signs values)
unfolding levels_at u
levels_suc rice seen g ones left m signs values e h =
    ap (λ (l : List Known). levels_from rice l (u (suc m) signs) values e) (ks_open seen g left m ones h)

levels_open : (rice : ℕ) (seen g : Bool) (ones left i many signs : ℕ) (values : List ℤ) (e : Engine) → i < many → left ≤ many - i
    → levels_at rice seen g ones left (many - i) signs values e ≡ and_then (size_read rice (next_known seen g left ones) e) (levels_then rice seen g ones left (many - (i + 1)) signs values)
levels_open rice seen g ones left i many signs values e h k =
    let q : many - i ≡ suc (many - (i + 1)) = omega arith in
    ap (λ n. levels_at rice seen g ones left n signs values e) q ∙ levels_suc rice seen g ones left (many - (i + 1)) signs values e (omega arith)

pub levels_none : (rice : ℕ) (seen g more : Bool) (ones left i many signs base : ℕ) (values : List ℤ) (e : Engine) → i < many → left ≤ many - i
    → known_as base more ≡ next_known seen g left ones → size_read rice (known_as base more) e ≡ None
    → levels_at rice seen g ones left (many - i) signs values e ≡ None
levels_none rice seen g more ones left i many signs base values e h k is r =
    levels_open rice seen g ones left i many signs values e h k ∙ then_none _ (levels_then rice seen g ones left (many - (i + 1)) signs values) (rw (← is) r)

pub levels_more : (rice : ℕ) (seen g more : Bool) (ones left i many signs base size rice' left' : ℕ) (seen' : Bool) (v : ℤ) (values values' : List ℤ) (e d : Engine) → i < many → left ≤ many - i
    → known_as base more ≡ next_known seen g left ones → size_read rice (known_as base more) e ≡ Some (size, d)
    → rice' ≡ (if more then rice_after rice size else rice) → seen' ≡ (seen || nat_lt 1 base) → left' ≡ left - 1 → v ≡ signed (signs / 2 ^ (many - (i + 1)) % 2 == 1) size → values' ≡ values ++ v ∷ []
    → levels_at rice seen g ones left (many - i) signs values e ≡ levels_at rice' seen' g ones left' (many - (i + 1)) signs values' d
levels_more rice seen g more ones left i many signs base size rice' left' seen' v values values' e d h k is r ri se le vi va =
    levels_open rice seen g ones left i many signs values e h k
    ∙ ap (λ (known : Known). and_then (size_read rice known e) (λ found. levels_at (if known.has_remaining then rice_after rice found.0 else rice) (seen || nat_lt 1 known.base) g ones (left - 1) (many - (i + 1)) signs (values ++ signed (signs / 2 ^ (many - (i + 1)) % 2 == 1) found.0 ∷ []) found.1)) (sym is)
    ∙ then_some _ _ (λ found. levels_at (if more then rice_after rice found.0 else rice) (seen || nat_lt 1 base) g ones (left - 1) (many - (i + 1)) signs (values ++ signed (signs / 2 ^ (many - (i + 1)) % 2 == 1) found.0 ∷ []) found.1) r
    ∙ sym (rw (ri, se, le, va, vi) refl)

none_left : (rice : ℕ) (seen g : Bool) (ones signs : ℕ) (values : List ℤ) (e : Engine) → levels_at rice seen g ones 0 0 signs values e ≡ Some (values, e)
unfolding levels_at u
none_left rice true g ones signs values e = refl
none_left rice false g ones signs values e = refl

pub levels_full : (rice : ℕ) (seen g : Bool) (ones left i many signs : ℕ) (values : List ℤ) (e : Engine) → many ≤ i → left ≤ many - i
    → levels_at rice seen g ones left (many - i) signs values e ≡ Some (values, e)
levels_full rice seen g ones left i many signs values e h k =
    let q : many - i ≡ 0 = omega arith in
    let z : left ≡ 0 = omega arith in
    rw (q, z) (none_left rice seen g ones signs values e)

pub start_left : (many : ℕ) → min many 8 ≤ many
start_left many = omega arith

-- ---- all that is read of a sub-block's levels other than 0

abbrev pub beside : ℕ → List ℤ × Engine → Option ((ℕ × List ℤ) × Engine)
beside ones values = Some ((ones, values.0), values.1)

abbrev pub signs_then : ℕ → ℕ → Bool → ℕ × Engine → Option ((ℕ × List ℤ) × Engine)
signs_then many ones greater2 found = and_then (levels_at 0 false greater2 ones (min many 8) many found.0 [] found.1) (beside ones)

abbrev pub greater2_then : ℕ → ℕ → Bool × Engine → Option ((ℕ × List ℤ) × Engine)
greater2_then many ones found = and_then (fl_read many found.1) (signs_then many ones found.0)

abbrev pub ones_then : ℕ → ℕ → ℕ → ℕ × Engine → Option ((ℕ × List ℤ) × Engine)
ones_then component set many found = and_then (second_read component set found.0 found.1) (greater2_then many found.0)

pub values_open : (component set many : ℕ) (e : Engine) → values_with component set many e ≡ and_then (ones_read component set 1 0 (min many 8) e) (ones_then component set many)
unfolding values_with
values_open component set many e = refl

pub values_none1 : (component set many : ℕ) (e : Engine) → ones_read component set 1 0 (min many 8) e ≡ None → values_with component set many e ≡ None
values_none1 component set many e h = values_open component set many e ∙ then_none _ (ones_then component set many) h

pub values_none2 : (component set many ones : ℕ) (e d : Engine) → ones_read component set 1 0 (min many 8) e ≡ Some (ones, d) → second_read component set ones d ≡ None → values_with component set many e ≡ None
values_none2 component set many ones e d h i = values_open component set many e ∙ then_some _ _ (ones_then component set many) h ∙ then_none _ (greater2_then many ones) i

pub values_none3 : (component set many ones : ℕ) (g : Bool) (e d f : Engine) → ones_read component set 1 0 (min many 8) e ≡ Some (ones, d) → second_read component set ones d ≡ Some (g, f) → fl_read many f ≡ None
    → values_with component set many e ≡ None
values_none3 component set many ones g e d f h i j = values_open component set many e ∙ then_some _ _ (ones_then component set many) h ∙ then_some _ _ (greater2_then many ones) i ∙ then_none _ (signs_then many ones g) j

pub values_none4 : (component set many ones signs : ℕ) (g : Bool) (e d f l : Engine) → ones_read component set 1 0 (min many 8) e ≡ Some (ones, d) → second_read component set ones d ≡ Some (g, f) → fl_read many f ≡ Some (signs, l)
    → levels_at 0 false g ones (min many 8) many signs [] l ≡ None → values_with component set many e ≡ None
values_none4 component set many ones signs g e d f l h i j k =
    values_open component set many e ∙ then_some _ _ (ones_then component set many) h ∙ then_some _ _ (greater2_then many ones) i ∙ then_some _ _ (signs_then many ones g) j
    ∙ then_none _ (beside ones) k

pub values_all : (component set many ones signs : ℕ) (g : Bool) (values : List ℤ) (e d f l m : Engine) → ones_read component set 1 0 (min many 8) e ≡ Some (ones, d) → second_read component set ones d ≡ Some (g, f)
    → fl_read many f ≡ Some (signs, l) → levels_at 0 false g ones (min many 8) many signs [] l ≡ Some (values, m) → values_with component set many e ≡ Some ((ones, values), m)
values_all component set many ones signs g values e d f l m h i j k =
    values_open component set many e ∙ then_some _ _ (ones_then component set many) h ∙ then_some _ _ (greater2_then many ones) i ∙ then_some _ _ (signs_then many ones g) j
    ∙ then_some _ _ (beside ones) k

not_zero : (n : ℕ) → n ≢ 0 → (n == 0) ≡ false
not_zero zero h = absurd (h refl)
not_zero (suc n) h = suc_not_zero n

pub second_none : (component set ones : ℕ) (e : Engine) → ones ≡ 0 → second_read component set ones e ≡ Some (false, e)
unfolding second_read
second_none component set ones e h = rw h refl

pub second_is : (component set ones context : ℕ) (e : Engine) → ones ≢ 0 → context ≡ greater2_context component set → second_read component set ones e ≡ bin (Context context) e
unfolding second_read
second_is component set ones context e h is = rw (is, not_zero ones h) refl
