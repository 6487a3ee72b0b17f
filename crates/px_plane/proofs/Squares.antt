-- Squares of samples that are put into a picture.
use Rattle.std.proofs.Common.{◌≡◌, refl, sym, ◌∙◌, ap, subst, ℕ, zero, suc, ◌+◌, ◌*◌, ◌-◌, ◌<◌, ◌≤◌, Bool, true, false, List, cond, get_or, arith}
use Rattle.std.specs.Prelude.{◌&&◌, ◌==◌}
use Rattle.std.proofs.lemmas.Bool.{and_parts, ltb-true, leb-true, eqb-true}
use Rattle.h265_model.specs.Plain.{Size, Picture, coded}
use Rattle.px_plane.specs.Planes.{Planes, plane_of, picture_of, Stores}
use Rattle.px_plane.specs.declared.plane.Sides.{Sides}
use Rattle.px_plane.specs.Rows.{IsPut, IsPutInto, is_in, is_in_square, row_sample, with_square, with_copy}
use Rattle.px_plane.proofs.Shown.{picture_at}
use Rattle.px_plane.proofs.Painted.{plane_put}

-- the part is this square
pub record IsSquare (part : Sides) (x y n : ℕ) : Type 0 where
  pub left : part.left ≡ x
  pub right : part.right ≡ x + n
  pub top : part.top ≡ y
  pub bottom : part.bottom ≡ y + n

in_part : (part : Sides) (x y n px py : ℕ) → IsSquare part x y n → is_in part px py ≡ is_in_square x y n px py
in_part part x y n px py is = rw (is.left, is.right, is.top, is.bottom) refl

sample_of : (part : Sides) (samples : List ℕ) (x y n px py : ℕ) → IsSquare part x y n → row_sample part samples px py ≡ get_or samples ((py - y) * n + (px - x)) 0
sample_of part samples x y n px py is = let e : x + n - x ≡ n = omega arith in rw (is.left, is.right, is.top, e) refl

-- a component has new samples in a square, and the others are as before
pub square_put : (old new : Planes) (stride : ℕ) (part : Sides) (samples : List ℕ) (component x y n : ℕ)
    → new.size ≡ old.size → stride ≡ coded old.size.w → IsSquare part x y n
    → IsPut (plane_of old component) (plane_of new component) stride part (row_sample part samples)
    → ((c : ℕ) → c < 3 → (c == component) ≡ false → plane_of new c ≡ plane_of old c)
    → Stores new (with_square (picture_of old) component x y n samples)
square_put old new stride part samples component x y n same wide is put others = record { each = λ c px py h hx hy. go c px py h (rw (← same) hx) (rw (← same) hy) (c == component) refl }
  where
    go : (c px py : ℕ) → c < 3 → px < coded old.size.w → py < coded old.size.h → (t : Bool) → (c == component) ≡ t
        → picture_of new c px py ≡ cond (t && is_in_square x y n px py) (get_or samples ((py - y) * n + (px - x)) 0) (picture_of old c px py)
    go c px py h hx hy true e =
        let k : c ≡ component = eqb-true c component e in
        rw k (plane_put old new stride part (row_sample part samples) component same wide put px py hx hy
        ∙ (ap (λ (b : Bool). cond b (row_sample part samples px py) (picture_of old component px py)) (in_part part x y n px py is)
        ∙ ap (λ (s : ℕ). cond (is_in_square x y n px py) s (picture_of old component px py)) (sample_of part samples x y n px py is)))
    go c px py h hx hy false e =
        picture_at new c px py (rw same hx) (rw same hy)
        ∙ (ap (λ (l : List ℕ). get_or l (py * coded new.size.w + px) 0) (others c h e)
        ∙ (ap (λ (s : Size). get_or (plane_of old c) (py * coded s.w + px) 0) same ∙ sym (picture_at old c px py hx hy)))

-- the samples of the other picture, by its planes
abbrev pub other_sample : Planes → ℕ → Sides → ℕ → ℕ → Picture
other_sample other stride part from_x from_y c x y = get_or (plane_of other c) ((from_y + (y - part.top)) * stride + (from_x + (x - part.left))) 0

-- a square was copied from another picture
pub square_copied : (old new other : Planes) (stride : ℕ) (part : Sides) (from_x from_y x y n : ℕ)
    → other.size ≡ old.size → stride ≡ coded old.size.w → IsSquare part x y n → from_x + n ≤ coded old.size.w → from_y + n ≤ coded old.size.h
    → IsPutInto old new part (other_sample other stride part from_x from_y)
    → Stores new (with_copy (picture_of old) (picture_of other) from_x from_y x y n)
square_copied old new other stride part from_x from_y x y n same wide is across down put =
    record { each = λ c px py h hx hy. put.each c px py h (rw (← put.size) hx) (rw (← put.size) hy) ∙ (ap (λ (b : Bool). cond b (other_sample other stride part from_x from_y c px py) (picture_of old c px py)) (in_part part x y n px py is) ∙ go c px py (is_in_square x y n px py) refl) }
  where
    go : (c px py : ℕ) → (t : Bool) → is_in_square x y n px py ≡ t
        → cond t (other_sample other stride part from_x from_y c px py) (picture_of old c px py) ≡ cond t (picture_of other c (from_x + (px - x)) (from_y + (py - y))) (picture_of old c px py)
    go c px py true e =
        let p = and_parts _ _ e in
        let q = and_parts _ _ p.0 in
        let r = and_parts _ _ q.0 in
        let left : x ≤ px = leb-true _ _ r.0 in
        let right : px < x + n = ltb-true _ _ r.1 in
        let top : y ≤ py = leb-true _ _ q.1 in
        let bottom : py < y + n = ltb-true _ _ p.1 in
        let ox : from_x + (px - x) < coded old.size.w = omega arith in
        let oy : from_y + (py - y) < coded old.size.h = omega arith in
        rw (is.left, is.top, wide, ← same)
        (sym (picture_at other c (from_x + (px - x)) (from_y + (py - y)) (subst (λ (s : Size). from_x + (px - x) < coded s.w) (sym same) ox) (subst (λ (s : Size). from_y + (py - y) < coded s.h) (sym same) oy)))
    go c px py false e = refl

-- the other planes, where one is replaced
pub others_g : (old : Planes) (list : List ℕ) (c : ℕ) → c < 3 → (c == 0) ≡ false → plane_of (record old { g = list }) c ≡ plane_of old c
others_g old list zero h e = absurd (cc)
others_g old list (suc zero) h e = refl
others_g old list (suc (suc c)) h e = refl

pub others_b : (old : Planes) (list : List ℕ) (c : ℕ) → c < 3 → (c == 1) ≡ false → plane_of (record old { b = list }) c ≡ plane_of old c
others_b old list zero h e = refl
others_b old list (suc zero) h e = absurd (cc)
others_b old list (suc (suc c)) h e = refl

pub others_r : (old : Planes) (list : List ℕ) (c : ℕ) → c < 3 → (c == 2) ≡ false → plane_of (record old { r = list }) c ≡ plane_of old c
others_r old list zero h e = refl
others_r old list (suc zero) h e = refl
others_r old list (suc (suc zero)) h e = absurd (cc)
others_r old list (suc (suc (suc c))) h e = absurd (omega arith)
