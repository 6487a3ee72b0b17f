-- Lines that paint in some rows alone.
use Rattle.std.proofs.Common.{◌≡◌, refl, sym, ◌∙◌, ap, subst, ℕ, ◌+◌, ◌<◌, ◌≤◌, Bool, true, false, cond, arith}
use Rattle.std.specs.Prelude.{◌&&◌, nat_lt, Result, Ok, Err, OnOk, OnErr}
use Rattle.std.proofs.lemmas.Bool.{and_parts}
use Rattle.h265_model.specs.Plain.{Size, Picture, coded}
use Rattle.h265_model.specs.declared.rect.Rect.{Rect}
use Rattle.h265_model.specs.declared.rgb.Rgb.{Rgb}
use Rattle.h265_model.specs.Raster.{paints, copies, target, component, source_x, source_y}
use Rattle.px_plane.specs.Planes.{Planes, picture_of, Stores, covers, copies_to, filled, copied}
use Rattle.paint_script.specs.Scripts.{Script}
use Rattle.paint_script.specs.Spellable.{IsSpellableRect}
use Rattle.frame_paints.specs.Lines.{Went, PaintsIn}
use Rattle.frame_paints.specs.Parts.{KeptBeside, IsInRows}
use Rattle.frame_paints.proofs.Going.{went_none, went_on}
use Rattle.frame_paints.proofs.Patches.{IsIn, is_in, all_kept, kept_on}

pub paints_none : (p : Planes) (s : Script) (top bottom : ℕ) → PaintsIn p s p s top bottom
paints_none p s top bottom = record { went = went_none p s; beside = all_kept p 0 p.size.w top bottom }

pub paints_on : (p q r : Planes) (s t u : Script) (top bottom : ℕ) → PaintsIn p s q t top bottom → PaintsIn q t r u top bottom → PaintsIn p s r u top bottom
paints_on p q r s t u top bottom a b =
    let same : q.size.w ≡ p.size.w = ap (λ (z : Size). z.w) a.went.size in
    record {
      went = went_on p q r s t u a.went b.went;
      beside =
          kept_on p q r 0 p.size.w top bottom 0 p.size.w top bottom 0 q.size.w top bottom a.went.size
          (omega arith) (omega arith) (omega arith) (omega arith) (omega arith) (omega arith) (omega arith) (omega arith) a.beside b.beside;
    }

-- what is painted where this test says, a part of the rows
painted_in : (old new : Planes) (test : ℕ → ℕ → Bool) (ink : Picture) (top bottom : ℕ) → new.size ≡ old.size
    → ((x y : ℕ) → test x y ≡ true → (x < old.size.w) × (top ≤ y) × (y < bottom))
    → Stores new (λ c x y. cond (test x y) (ink c x y) (picture_of old c x y)) → KeptBeside old new 0 old.size.w top bottom
painted_in old new test ink top bottom size inside stores = record {
  each = λ c x y h hx hy out.
      let ix : x < coded old.size.w = omega arith in
      let iy : y < coded old.size.h = omega arith in
      stores.each c x y h (rw size ix) (rw size iy) ∙ go c x y out (test x y) refl;
}
  where
    go : (c x y : ℕ) → (0 ≤ x → x < old.size.w → top ≤ y → y < bottom → ⊥) → (t : Bool) → test x y ≡ t → cond (test x y) (ink c x y) (picture_of old c x y) ≡ picture_of old c x y
    go c x y out true e = let i = inside x y e in absurd (out (omega arith) i.0 i.1 i.2)
    go c x y out false e = rw e refl

in_rows : (size : Size) (r : Rect) (top bottom x y : ℕ) → IsInRows size r top bottom → paints r x y ≡ true → (x < size.w) × (top ≤ y) × (y < bottom)
in_rows size r top bottom x y is e =
    let at : IsIn r x y = is_in r x y e in
    let across : r.x + r.w ≤ size.w = is.placed.across in
    let right : x < r.x + r.w = at.right in
    let low : r.y + r.h ≤ bottom = is.low in
    let last : y < r.y + r.h = at.bottom in
    let high : top ≤ r.y = is.high in
    let first : r.y ≤ y = at.top in
    (omega arith, omega arith, omega arith)

pub fill_kept : (old new : Planes) (r : Rect) (colour : Rgb) (top bottom : ℕ) → new.size ≡ old.size → IsInRows old.size r top bottom
    → Stores new (filled old r colour) → KeptBeside old new 0 old.size.w top bottom
fill_kept old new r colour top bottom size is stores =
    painted_in old new (covers old.size r) (λ c x y. component c colour) top bottom size
    (λ x y e. in_rows old.size r top bottom x y is (and_parts (nat_lt x old.size.w && nat_lt y old.size.h) (paints r x y) e).1) stores

pub copy_kept : (old new : Planes) (r : Rect) (to_x to_y top bottom : ℕ) → new.size ≡ old.size → IsInRows old.size (target r to_x to_y) top bottom
    → Stores new (copied old r to_x to_y) → KeptBeside old new 0 old.size.w top bottom
copy_kept old new r to_x to_y top bottom size is stores =
    painted_in old new (copies_to old.size r to_x to_y) (λ c x y. picture_of old c (source_x r to_x x) (source_y r to_y y)) top bottom size
    (λ x y e.
    let a = (and_parts (nat_lt x old.size.w && nat_lt y old.size.h) (copies old.size r to_x to_y x y) e).1 in
    let b = (and_parts (paints (target r to_x to_y) x y && nat_lt (source_x r to_x x) old.size.w) _ a).0 in
    in_rows old.size (target r to_x to_y) top bottom x y is (and_parts (paints (target r to_x to_y) x y) _ b).0) stores

pub kept_either : {T E : Type 0} (old new : Planes) (left right top bottom : ℕ) (r : Result T E) → OnOk r (KeptBeside old new left right top bottom) → OnErr r (new ≡ old)
    → KeptBeside old new left right top bottom
kept_either old new left right top bottom (Ok x) kept same = kept
kept_either old new left right top bottom (Err e) kept same = subst (λ (p : Planes). KeptBeside old p left right top bottom) (sym same) (all_kept old left right top bottom)
