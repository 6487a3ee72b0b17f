-- What stands before a picture that is decoded: the picture that it refers to, and the order count that comes next.
use Rattle.std.proofs.Common.{◌≡◌, refl, sym, ◌∙◌, ap, subst, ℕ, ◌+◌, ◌*◌, ◌%◌, ◌<◌, List, [], Bool, true, false, take, length, arith, le_refl, mod-lt, take_all}
use Rattle.std.specs.Prelude.{Option, Some, None}
use Rattle.std.specs.List.{AllByRecursion}
use Rattle.std.proofs.lemmas.Bool.{eq-eqb}
use Rattle.h265_model.specs.declared.leaf.SliceKind.TheVariants.{P}
use Rattle.h265_model.specs.declared.leaf.Leaf.{Leaf}
use Rattle.h265_model.specs.Plain.{Size, Picture, ctus, joined}
use Rattle.h265_model.specs.Settings.{Settings}
use Rattle.h265_model.specs.Raster.{Raster, blank, planes, stored_picture}
use Rattle.h265_model.specs.Tree.{IsCopy}
use Rattle.h265_model.specs.Stream.{is_idr, order_count}
use Rattle.h265_model.specs.Decode.{Decoded, decoded_picture}
use Rattle.h265_model.specs.Decode.{referred, is_next}
use Rattle.h265_laws.proofs.ChoiceLaw.{copies_are, no_copies}
use Rattle.h265_laws.proofs.CoverLaw.{joined_cover}
use Rattle.h265_laws.proofs.Coverage.{CoversBlock}
use Rattle.h265_laws.proofs.PictureLaw.{IsFit, fair_joined, copies_stored}
use Rattle.h265_laws.proofs.StreamLaw.{picture_of, leaves_of, lawful_of, many_of, zero_order, next_order, low_order, IsFollowing}

-- what the picture that a picture refers to has to be
abbrev pub Stores : Settings → Bool → Option Raster → Picture → Type 0
Stores settings true before prev = Unit {0}
Stores settings false None prev = ⊥
Stores settings false (Some raster) prev = prev ≡ stored_picture settings.size (planes settings.size (picture_of settings raster))

-- the picture with this order count comes next, and refers to this one
pub record IsBehind (settings : Settings) (idr : Bool) (poc : ℕ) (before : Option Raster) (last : Option Decoded) : Type 0 where
  pub prev : Picture
  pub is_referred : referred idr last settings.size ≡ Some prev
  pub comes_next : is_next idr last poc ≡ true
  pub stores : Stores settings idr before prev

pub low_count : (settings : Settings) (n : ℕ) → order_count settings.key n % 256 < 256
low_count settings n = mod-lt (order_count settings.key n) (omega arith)

pub zero_count : (settings : Settings) (n : ℕ) → is_idr settings.key n ≡ true → order_count settings.key n % 256 ≡ 0
zero_count settings n e = ap (λ (a : ℕ). a % 256) (zero_order settings.key n e)

pub behind_is : (settings : Settings) (n : ℕ) (before : Option Raster) (last : Option Decoded) → IsFollowing settings n before last
    → IsBehind settings (is_idr settings.key n) (order_count settings.key n % 256) before last
behind_is settings n before last h = go (is_idr settings.key n) refl before last h
  where
    poc : ℕ
    poc = order_count settings.key n % 256

    go : (idr : Bool) → is_idr settings.key n ≡ idr → (b : Option Raster) (l : Option Decoded) → IsFollowing settings n b l → IsBehind settings idr poc b l
    go true e b l h = record { prev = blank; is_referred = refl; comes_next = eq-eqb poc 0 (zero_count settings n e); stores = tt }
    go false e None None h = absurd (let f : is_idr settings.key 0 ≡ false = subst (λ (k : ℕ). is_idr settings.key k ≡ false) h e in cc)
    go false e None (Some d) h = elim h [ ]
    go false e (Some r) None h = elim h [ ]
    go false e (Some r) (Some d) h =
        let f : is_idr settings.key (h.0 + 1) ≡ false = subst (λ (k : ℕ). is_idr settings.key k ≡ false) h.1 e in
        let follow : poc ≡ (d.poc + 1) % 256 =
        ap (λ (k : ℕ). order_count settings.key k % 256) h.1 ∙ (ap (λ (a : ℕ). a % 256) (next_order settings.key h.0 f)
        ∙ (low_order (order_count settings.key h.0) ∙ ap (λ (a : ℕ). (a + 1) % 256) (sym h.2))) in
        record {
          prev = decoded_picture settings.size d;
          is_referred = refl;
          comes_next = eq-eqb poc ((d.poc + 1) % 256) follow;
          stores = ap (stored_picture settings.size) h.3;
        }

-- the leaves that are copied where nothing moves are so of equal blocks
pub still_copies : (settings : Settings) (idr : Bool) (before : Option Raster) (raster : Raster) (prev : Picture) → IsFit settings.size → Stores settings idr before prev
    → AllByRecursion (IsCopy prev (picture_of settings raster)) (joined (leaves_of settings idr before raster))
still_copies settings true before raster prev fit stores =
    no_copies prev (picture_of settings raster) _ (fair_joined None (picture_of settings raster) settings.size settings.effort 0 (ctus settings.size.w * ctus settings.size.h))
still_copies settings false None raster prev fit stores = elim stores [ ]
still_copies settings false (Some r) raster prev fit stores =
    let size : Size = settings.size in
    let now : Picture = picture_of settings raster in
    let leaves : List (List Leaf) = leaves_of settings false (Some r) raster in
    let total : ℕ = ctus size.w * ctus size.h in
    let all : take total leaves ≡ leaves = take_all total leaves (let m : length leaves ≡ total = many_of settings false (Some r) raster in omega arith) in
    let block : CoversBlock size [] (joined leaves) 0 (total * 1024) =
    subst (λ (l : List (List Leaf)). CoversBlock size [] (joined l) 0 (total * 1024)) all (joined_cover P size leaves total total fit.wide (lawful_of settings false (Some r) raster) (le_refl total)) in
    let copies : AllByRecursion (IsCopy (picture_of settings r) now) (joined leaves) =
    copies_are (picture_of settings r) now (joined leaves) (fair_joined (Some (picture_of settings r)) now size settings.effort 0 total) in
    subst (λ (p : Picture). AllByRecursion (IsCopy p now) (joined leaves)) (sym stores) (copies_stored size (picture_of settings r) now [] (joined leaves) block.placed copies)
