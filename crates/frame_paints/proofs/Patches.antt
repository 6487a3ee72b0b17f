-- A rectangle that is painted as a frame has it.
use Rattle.std.proofs.Common.{◌≡◌, refl, sym, ◌∙◌, ap, ℕ, zero, suc, ◌+◌, ◌*◌, ◌-◌, ◌<◌, ◌≤◌, Bool, true, false, List, length, get_or, cond, arith}
use Rattle.std.specs.Prelude.{◌&&◌, nat_lt, IsTrue}
use Rattle.std.proofs.lemmas.Bool.{lt-ltb, and_from, both_ways}
use Rattle.std.proofs.lemmas.Bool.Decides.{nat_tests}
use Rattle.h265_model.specs.Plain.{Size, Picture, coded, place_values}
use Rattle.h265_model.specs.Settings.{is_size}
use Rattle.h265_model.specs.declared.rect.Rect.{Rect}
use Rattle.h265_model.specs.declared.rgb.Rgb.{Rgb}
use Rattle.h265_model.specs.Raster.{paints, component, black}
use Rattle.h265_model.proofs.Squares.{at_places, length_places}
use Rattle.px_plane.specs.Planes.{Planes, picture_of, covers, Stores, filled, blitted, pixel_at}
use Rattle.frame_paints.specs.Parts.{SameBetween, SameIn, SameBeside, KeptBeside, IsPiece, IsPartOf, HasColour}
use Rattle.px_plane.proofs.Shown.{InLimits, in_limits}
use Rattle.paint_script.specs.Spellable.{IsSpellableRect}
use Rattle.frame_paints.specs.Lines.{patched}
use Rattle.frame_paints.specs.Pixels.{colour_at}
use Rattle.frame_paints.proofs.Parts.{rows_join, narrower}

-- the place is in the rectangle
pub record IsIn (r : Rect) (x y : ℕ) : Type 0 where
  pub left : r.x ≤ x
  pub right : x < r.x + r.w
  pub top : r.y ≤ y
  pub bottom : y < r.y + r.h

pub is_in : (r : Rect) (x y : ℕ) → paints r x y ≡ true → IsIn r x y
is_in r x y e = record {
  left = grind (arith, nat_tests);
  right = grind (arith, nat_tests);
  top = grind (arith, nat_tests);
  bottom = grind (arith, nat_tests);
}

pub in_paints : (r : Rect) (x y : ℕ) → IsIn r x y → paints r x y ≡ true
in_paints r x y is = let a : r.x ≤ x = is.left in let b : x < r.x + r.w = is.right in let c : r.y ≤ y = is.top in let d : y < r.y + r.h = is.bottom in grind (arith, nat_tests)

-- in a piece a paint covers what it paints
piece_covers : (size : Size) (r : Rect) (x y : ℕ) → IsPiece size r → paints r x y ≡ true → covers size r x y ≡ true
piece_covers size r x y is e =
    let at : IsIn r x y = is_in r x y e in
    let across : r.x + r.w ≤ size.w = is.across in
    let down : r.y + r.h ≤ size.h = is.down in
    let right : x < r.x + r.w = at.right in
    let bottom : y < r.y + r.h = at.bottom in
    and_from _ _ (and_from _ _ (lt-ltb x size.w (omega arith)) (lt-ltb y size.h (omega arith))) e

and_false : (a : Bool) → (a && false) ≡ false
and_false true = refl
and_false false = refl

-- a paint of a piece, of which each sample is the frame's
painted_patch : (old frame new : Planes) (r : Rect) (ink : Picture) → IsPiece old.size r
    → ((c x y : ℕ) → c < 3 → IsIn r x y → ink c x y ≡ picture_of frame c x y)
    → Stores new (λ c x y. cond (covers old.size r x y) (ink c x y) (picture_of old c x y)) → Stores new (patched old frame r)
painted_patch old frame new r ink is same stores = record { each = λ c x y h hx hy. stores.each c x y h hx hy ∙ go c x y h (paints r x y) refl }
  where
    go : (c x y : ℕ) → c < 3 → (t : Bool) → paints r x y ≡ t
        → cond (covers old.size r x y) (ink c x y) (picture_of old c x y) ≡ cond (paints r x y) (picture_of frame c x y) (picture_of old c x y)
    go c x y h true e = rw (piece_covers old.size r x y is e, e) (same c x y h (is_in r x y e))
    go c x y h false e =
        let none : covers old.size r x y ≡ false = ap (λ (t : Bool). (nat_lt x old.size.w && nat_lt y old.size.h) && t) e ∙ and_false (nat_lt x old.size.w && nat_lt y old.size.h) in
        rw (none, e) refl

pub fill_patches : (old frame new : Planes) (r : Rect) (colour : Rgb) → IsPiece old.size r → HasColour frame r colour
    → Stores new (filled old r colour) → Stores new (patched old frame r)
fill_patches old frame new r colour is has stores =
    painted_patch old frame new r (λ c x y. component c colour) is (λ c x y h at. sym ((has.each c h).each x y at.left at.right at.top at.bottom)) stores

component_at : (frame : Planes) (c x y : ℕ) → c < 3 → component c (colour_at frame x y) ≡ picture_of frame c x y
component_at frame zero x y h = refl
component_at frame (suc zero) x y h = refl
component_at frame (suc (suc zero)) x y h = refl
component_at frame (suc (suc (suc c))) x y h = absurd (omega arith)

pixel_is : (frame : Planes) (r : Rect) (pixels : List Rgb) → pixels ≡ place_values r.w r.h (λ x y. colour_at frame (r.x + x) (r.y + y))
    → (x y : ℕ) → IsIn r x y → pixel_at r pixels x y ≡ colour_at frame x y
pixel_is frame r pixels are x y at =
    let left : r.x ≤ x = at.left in
    let right : x < r.x + r.w = at.right in
    let top : r.y ≤ y = at.top in
    let bottom : y < r.y + r.h = at.bottom in
    let hx : x - r.x < r.w = omega arith in
    let hy : y - r.y < r.h = omega arith in
    let back_x : r.x + (x - r.x) ≡ x = omega arith in
    let back_y : r.y + (y - r.y) ≡ y = omega arith in
    ap (λ (l : List Rgb). get_or l ((y - r.y) * r.w + (x - r.x)) black) are
    ∙ (at_places r.w r.h (x - r.x) (y - r.y) (λ x y. colour_at frame (r.x + x) (r.y + y)) black hx hy
    ∙ (ap (λ (k : ℕ). colour_at frame k (r.y + (y - r.y))) back_x ∙ ap (λ (k : ℕ). colour_at frame x k) back_y))

pub blit_patches : (old frame new : Planes) (r : Rect) (pixels : List Rgb) → IsPiece old.size r
    → pixels ≡ place_values r.w r.h (λ x y. colour_at frame (r.x + x) (r.y + y))
    → Stores new (blitted old r pixels) → Stores new (patched old frame r)
blit_patches old frame new r pixels is are stores =
    painted_patch old frame new r (λ c x y. component c (pixel_at r pixels x y)) is (λ c x y h at. ap (component c) (pixel_is frame r pixels are x y at) ∙ component_at frame c x y h) stores

pub pixel_count : (frame : Planes) (r : Rect) (pixels : List Rgb) → pixels ≡ place_values r.w r.h (λ x y. colour_at frame (r.x + x) (r.y + y)) → length pixels ≡ r.w * r.h
pixel_count frame r pixels are =
    let turned : r.h * r.w ≡ r.w * r.h = omega arith in
    ap length are ∙ (length_places r.w r.h (λ x y. colour_at frame (r.x + x) (r.y + y)) ∙ turned)

-- the grammar of scripts can spell a piece
pub piece_spelled : (size : Size) (r : Rect) → IsTrue (is_size size) → IsPiece size r → IsSpellableRect r
piece_spelled size r sized is =
    let limits : InLimits size = in_limits size sized in
    let wide : size.w ≤ 4096 = limits.w_high in
    let high : size.h ≤ 4096 = limits.h_high in
    let across : r.x + r.w ≤ size.w = is.across in
    let down : r.y + r.h ≤ size.h = is.down in
    record { x = omega arith; y = omega arith; w = omega arith; h = omega arith; wide = is.wide; high = is.high }

-- ---- a square of which a part was painted

not_in : (r : Rect) (x y : ℕ) → paints r x y ≡ false → (r.x ≤ x → x < r.x + r.w → r.y ≤ y → y < r.y + r.h → ⊥)
not_in r x y e a b c d = both_ways (paints r x y) e (in_paints r x y (record { left = a; right = b; top = c; bottom = d }))

pub part_mended : (old frame new : Planes) (square part : Rect) → new.size ≡ old.size → IsPiece old.size square
    → SameBeside old frame square part → Stores new (patched old frame part) → SameIn new frame square
part_mended old frame new square part size is same stores = record {
  each = λ c x y h hl hr ht hb.
      let across : square.x + square.w ≤ old.size.w = is.across in
      let down : square.y + square.h ≤ old.size.h = is.down in
      let hx : x < coded old.size.w = omega arith in
      let hy : y < coded old.size.h = omega arith in
      stores.each c x y h (rw size hx) (rw size hy) ∙ go c x y h hl hr ht hb (paints part x y) refl;
}
  where
    go : (c x y : ℕ) → c < 3 → square.x ≤ x → x < square.x + square.w → square.y ≤ y → y < square.y + square.h → (t : Bool) → paints part x y ≡ t
        → cond (paints part x y) (picture_of frame c x y) (picture_of old c x y) ≡ picture_of frame c x y
    go c x y h hl hr ht hb true e = rw e refl
    go c x y h hl hr ht hb false e = rw e (same.each c x y h hl hr ht hb (not_in part x y e))

pub part_kept : (old frame new : Planes) (square part : Rect) → new.size ≡ old.size → IsPartOf square part → Stores new (patched old frame part)
    → KeptBeside old new square.x (square.x + square.w) square.y (square.y + square.h)
part_kept old frame new square part size is stores = record {
  each = λ c x y h hx hy out.
      let ix : x < coded old.size.w = omega arith in
      let iy : y < coded old.size.h = omega arith in
      stores.each c x y h (rw size ix) (rw size iy) ∙ go c x y out (paints part x y) refl;
}
  where
    go : (c x y : ℕ) → (square.x ≤ x → x < square.x + square.w → square.y ≤ y → y < square.y + square.h → ⊥) → (t : Bool) → paints part x y ≡ t
        → cond (paints part x y) (picture_of frame c x y) (picture_of old c x y) ≡ picture_of old c x y
    go c x y out true e =
        let at : IsIn part x y = is_in part x y e in
        let a : square.x ≤ part.x = is.left in
        let b : part.x + part.w ≤ square.x + square.w = is.right in
        let d : square.y ≤ part.y = is.top in
        let f : part.y + part.h ≤ square.y + square.h = is.bottom in
        let l : part.x ≤ x = at.left in
        let r : x < part.x + part.w = at.right in
        let t : part.y ≤ y = at.top in
        let o : y < part.y + part.h = at.bottom in
        absurd (out (omega arith) (omega arith) (omega arith) (omega arith))
    go c x y out false e = rw e refl

pub all_kept : (p : Planes) (left right top bottom : ℕ) → KeptBeside p p left right top bottom
all_kept p left right top bottom = record { each = λ c x y h hx hy out. refl }

-- kept beside a part, and then beside another one, both in a third one
pub kept_on : (p q r : Planes) (left right top bottom l1 r1 t1 b1 l2 r2 t2 b2 : ℕ) → q.size ≡ p.size
    → left ≤ l1 → r1 ≤ right → top ≤ t1 → b1 ≤ bottom → left ≤ l2 → r2 ≤ right → top ≤ t2 → b2 ≤ bottom
    → KeptBeside p q l1 r1 t1 b1 → KeptBeside q r l2 r2 t2 b2 → KeptBeside p r left right top bottom
kept_on p q r left right top bottom l1 r1 t1 b1 l2 r2 t2 b2 size i1 i2 i3 i4 i5 i6 i7 i8 first second = record {
  each = λ c x y h hx hy out.
      second.each c x y h (rw size hx) (rw size hy) (λ a b d e. out (omega arith) (omega arith) (omega arith) (omega arith))
      ∙ first.each c x y h hx hy (λ a b d e. out (omega arith) (omega arith) (omega arith) (omega arith));
}

-- what is the same stays so beside what is painted
pub same_kept : (p q frame : Planes) (left right top bottom l r t b : ℕ) → right ≤ p.size.w → bottom ≤ p.size.h
    → ((x y : ℕ) → left ≤ x → x < right → top ≤ y → y < bottom → l ≤ x → x < r → t ≤ y → y < b → ⊥)
    → SameBetween p frame left right top bottom → KeptBeside p q l r t b → SameBetween q frame left right top bottom
same_kept p q frame left right top bottom l r t b wide high apart same kept = record {
  each = λ c x y h hl hr ht hb.
      kept.each c x y h (omega arith) (omega arith) (apart x y hl hr ht hb) ∙ same.each c x y h hl hr ht hb;
}

pub kept_wider : (p q : Planes) (left right top bottom l r t b : ℕ) → l ≤ left → right ≤ r → t ≤ top → bottom ≤ b
    → KeptBeside p q left right top bottom → KeptBeside p q l r t b
kept_wider p q left right top bottom l r t b i1 i2 i3 i4 kept = record {
  each = λ c x y h hx hy out. kept.each c x y h hx hy (λ a b d e. out (omega arith) (omega arith) (omega arith) (omega arith));
}

-- rows between two that are the same already were painted
pub trimmed : (p q frame : Planes) (w top first last bottom : ℕ) → w ≤ p.size.w → bottom ≤ p.size.h → first ≤ last → last ≤ bottom
    → SameBetween p frame 0 (0 + w) top first → SameBetween p frame 0 (0 + w) last bottom → SameBetween q frame 0 w first last → KeptBeside p q 0 w first last
    → SameBetween q frame 0 w top bottom
trimmed p q frame w top first last bottom wide high i1 i2 above below middle kept =
    rows_join q frame 0 w top last bottom
    (rows_join q frame 0 w top first last
    (same_kept p q frame 0 w top first 0 w first last wide (omega arith) (λ i j a b d e f g h k. omega arith) (narrower p frame 0 (0 + w) top first 0 w top first (omega arith) (omega arith) (omega arith) (omega arith) above) kept) middle)
    (same_kept p q frame 0 w last bottom 0 w first last wide high (λ i j a b d e f g h k. omega arith) (narrower p frame 0 (0 + w) last bottom 0 w last bottom (omega arith) (omega arith) (omega arith) (omega arith) below) kept)
