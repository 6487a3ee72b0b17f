-- Levels read one by one are those of the definitions, whose sizes are tested after them all.
use Rattle.std.proofs.Common.{◌≡◌, refl, sym, ◌∙◌, ap, ℕ, zero, suc, ◌+◌, ◌*◌, Bool, true, false, Some, None, Option, List, [], ◌∷◌, ◌++◌, length, append_assoc, arith}
use Rattle.std.specs.Prelude.{◌&&◌, nat_le, if◌then◌else◌, ℤ}
use Rattle.std.specs.List.{list_all}
use Rattle.h265_model.specs.Bits.{digit, value_after, ◌>>=◌ as and_then}
use Rattle.h265_model.specs.Binarise.{remaining_read, fl_from}
use Rattle.h265_model.specs.Engine.{Engine, bypass_read, give}
use Rattle.h265_model.specs.Residual.{Known, rests_read, signs_read, signed, signed_all, rice_after}
use Rattle.residual_read.specs.Parts.{levels_from}
use Rattle.residual_read.proofs.FlagReads.{valued, with_flag, joined}

abbrev pub within : ℕ → Bool
within size = nat_le size 255

abbrev pub tested : List Bool → List ℤ → List ℕ × Engine → Option (List ℤ × Engine)
tested signs values found = if list_all (λ size. nat_le size 255) found.0 then Some (values ++ signed_all signs found.0, found.1) else None

abbrev with_size : ℕ → List ℕ × Engine → Option (List ℕ × Engine)
with_size size found = Some (size ∷ found.0, found.1)

nothing_more : (values : List ℤ) → values ≡ values ++ []
nothing_more [] = refl
nothing_more (v ∷ values) = ap (λ l. v ∷ l) (nothing_more values)

none_signed : (signs : List Bool) → signed_all signs [] ≡ []
none_signed [] = refl
none_signed (s ∷ signs) = refl

fits_by : (sign : Bool) (signs : List Bool) (values : List ℤ) (size : ℕ) (o : Option (List ℕ × Engine)) → nat_le size 255 ≡ true
    → and_then o (tested signs (values ++ signed sign size ∷ [])) ≡ and_then (and_then o (with_size size)) (tested (sign ∷ signs) values)
fits_by sign signs values size None t = refl
fits_by sign signs values size (Some (sizes, d)) t =
    ap (λ (l : List ℤ). if list_all (λ size. nat_le size 255) sizes then Some (l, d) else None) (append_assoc values (signed sign size ∷ []) (signed_all signs sizes))
    ∙ ap (λ (b : Bool). if b && list_all (λ size. nat_le size 255) sizes then Some (values ++ signed sign size ∷ signed_all signs sizes, d) else None) (sym t)

large_by : (sign : Bool) (signs : List Bool) (values : List ℤ) (size : ℕ) (o : Option (List ℕ × Engine)) → nat_le size 255 ≡ false
    → None ≡ and_then (and_then o (with_size size)) (tested (sign ∷ signs) values)
large_by sign signs values size None t = refl
large_by sign signs values size (Some (sizes, d)) t =
    ap (λ (b : Bool). if b && list_all (λ size. nat_le size 255) sizes then Some (values ++ signed sign size ∷ signed_all signs sizes, d) else None) (sym t)

abbrev sized : Known → ℕ × Engine → Option (ℕ × Engine)
sized k found = if nat_le (k.base + found.0) 255 then Some (k.base + found.0, found.1) else None

abbrev one_then : ℕ → Known → List Known → List Bool → Bool → List ℤ → ℕ × Engine → Option (List ℤ × Engine)
one_then r k ks signs sign values found = levels_from (if k.has_remaining then rice_after r found.0 else r) ks signs (values ++ signed sign found.0 ∷ []) found.1

abbrev rest_then : ℕ → Known → List Known → ℕ × Engine → Option (List ℕ × Engine)
rest_then r k ks found = and_then (rests_read (if k.has_remaining then rice_after r (k.base + found.0) else r) ks found.1) (with_size (k.base + found.0))

level_by : (r : ℕ) (k : Known) (ks : List Known) (sign : Bool) (signs : List Bool) (values : List ℤ) (o : Option (ℕ × Engine))
    → ((q : ℕ) (more : List ℤ) (d : Engine) → levels_from q ks signs more d ≡ and_then (rests_read q ks d) (tested signs more))
    → and_then (and_then o (sized k)) (one_then r k ks signs sign values) ≡ and_then (and_then o (rest_then r k ks)) (tested (sign ∷ signs) values)
level_by r k ks sign signs values None h = refl
level_by r k ks sign signs values (Some (rest, d)) h = go (nat_le (k.base + rest) 255) refl
  where
    later : ℕ
    later = if k.has_remaining then rice_after r (k.base + rest) else r

    go : (t : Bool) → nat_le (k.base + rest) 255 ≡ t
        → and_then (if nat_le (k.base + rest) 255 then Some (k.base + rest, d) else None) (one_then r k ks signs sign values) ≡ and_then (and_then (rests_read later ks d) (with_size (k.base + rest))) (tested (sign ∷ signs) values)
    go true e =
        ap (λ (b : Bool). and_then (if b then Some (k.base + rest, d) else None) (one_then r k ks signs sign values)) e
        ∙ h later (values ++ signed sign (k.base + rest) ∷ []) d ∙ fits_by sign signs values (k.base + rest) (rests_read later ks d) e
    go false e =
        ap (λ (b : Bool). and_then (if b then Some (k.base + rest, d) else None) (one_then r k ks signs sign values)) e
        ∙ large_by sign signs values (k.base + rest) (rests_read later ks d) e

sized_is : (k : Known) (o : Option (ℕ × Engine)) → and_then o (λ f. (if nat_le (k.base + f.0) 255 then give (k.base + f.0) else (λ e. None)) f.1) ≡ and_then o (sized k)
sized_is k None = refl
sized_is k (Some (rest, d)) = go (nat_le (k.base + rest) 255)
  where
    go : (t : Bool) → (if t then give (k.base + rest) else (λ (e : Engine). None)) d ≡ (if t then Some (k.base + rest, d) else None)
    go true = refl
    go false = refl

pub levels_are : (r : ℕ) (ks : List Known) (signs : List Bool) (values : List ℤ) (e : Engine) → length signs ≡ length ks → levels_from r ks signs values e ≡ and_then (rests_read r ks e) (tested signs values)
levels_are r [] signs values e h = ap (λ (l : List ℤ). Some (l, e)) (nothing_more values ∙ ap (λ (l : List ℤ). values ++ l) (sym (none_signed signs)))
levels_are r (k ∷ ks) [] values e h = absurd (omega arith)
levels_are r (k ∷ ks) (sign ∷ signs) values e h =
    ap (λ (o : Option (ℕ × Engine)). and_then o (one_then r k ks signs sign values)) (sized_is k ((if k.has_remaining then remaining_read r else give 0) e))
    ∙ level_by r k ks sign signs values ((if k.has_remaining then remaining_read r else give 0) e) (λ q more d. levels_are q ks signs more d (omega arith))

signs_by : (m n : ℕ) (o : Option (Bool × Engine)) → ((l : ℕ) (d : Engine) → fl_from l n d ≡ and_then (signs_read n d) (valued l))
    → and_then o (λ f. fl_from (2 * m + digit f.0) n f.1) ≡ and_then (and_then o (λ f. and_then (signs_read n f.1) (with_flag f.0))) (valued m)
signs_by m n None h = refl
signs_by m n (Some (b, d)) h = h (2 * m + digit b) d ∙ joined m b (signs_read n d)

pub signs_are : (m n : ℕ) (e : Engine) → fl_from m n e ≡ and_then (signs_read n e) (valued m)
unfolding value_after
signs_are m zero e = refl
signs_are m (suc n) e = signs_by m n (bypass_read e) (λ l d. signs_are l n d)
