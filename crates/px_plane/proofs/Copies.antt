-- Rows that are copied within a plane, and the pictures that copies paint.
use Rattle.std.proofs.Common.{◌≡◌, refl, sym, ◌∙◌, ap, ℕ, ◌+◌, ◌*◌, ◌-◌, ◌<◌, ◌≤◌, Bool, true, false, cond, List, ◌∷◌, [], ◌++◌, length, get_or, arith, inl, inr, ◌⊎◌, min}
use Rattle.std.specs.Prelude.{◌&&◌, nat_lt, nat_le}
use Rattle.std.specs.List.{CopiedTo, SameBelow, SameFrom}
use Rattle.std.proofs.lemmas.Bool.{ltb-true, lt-ltb, and_parts, and_from, cases_lt}
use Rattle.std.proofs.lemmas.Bool.Decides.{nat_tests}
use Rattle.std.proofs.lemmas.Nat.{mul-le}
use Rattle.h265_model.specs.Plain.{Size, Picture, coded}
use Rattle.h265_model.specs.declared.rect.Rect.{Rect}
use Rattle.h265_model.specs.declared.rgb.Rgb.{Rgb}
use Rattle.h265_model.specs.Raster.{component, copies, paints, target, source_x, source_y}
use Rattle.px_plane.specs.declared.plane.Sides.{Sides}
use Rattle.px_plane.specs.Planes.{Planes, plane_of, IsPicture, Stores, ShowsColours, picture_of, copies_to, copied, recopied}
use Rattle.px_plane.specs.Rows.{is_between, is_in, IsPut, IsPutBetween, IsPutInto, IsCopyOf, sample_from}
use Rattle.px_plane.proofs.Rows.{Other, Apart, which, place_other, between_other, between_row}
use Rattle.px_plane.proofs.Shown.{picture_at}
use Rattle.px_plane.proofs.Painted.{colours_at, colours_show, sample_in}

-- ---- one row more

-- n samples were copied from one place of a plane to another
pub record IsCopied (now after : List ℕ) (from at n : ℕ) : Type 0 where
  pub inside : (k : ℕ) → k < n → get_or after (at + k) 0 ≡ get_or now (from + k) 0
  pub before : (i : ℕ) → i < at → get_or after i 0 ≡ get_or now i 0
  pub behind : (i : ℕ) → at + n ≤ i → get_or after i 0 ≡ get_or now i 0

pub copied_from : (now after : List ℕ) (from at n : ℕ) → CopiedTo now after from at n × SameBelow now after at × SameFrom now after (at + n) → IsCopied now after from at n
copied_from now after from at n c = record {
  inside = λ k h. c.0 (at + k) 0 (omega arith) (omega arith) ∙ ap (λ (i : ℕ). get_or now i 0) (omega arith);
  before = λ i h. c.1 i 0 h;
  behind = λ i h. c.2 i 0 h;
}

copied_apart : (now after : List ℕ) (stride from left right j x y : ℕ) → IsCopied now after from (j * stride + left) (right - left) → Apart stride left right j x y
    → get_or after (y * stride + x) 0 ≡ get_or now (y * stride + x) 0
copied_apart now after stride from left right j x y c (inl h) = c.before (y * stride + x) h
copied_apart now after stride from left right j x y c (inr h) = c.behind (y * stride + x) h

-- the row j is no row of the others
not_between : (left right top j x y : ℕ) → j ≤ y → is_between left right top j x y ≡ false
not_between left right top j x y h = grind (arith, nat_tests)

not_yet : (left right j bottom x y : ℕ) → y < j → is_between left right j bottom x y ≡ false
not_yet left right j bottom x y h = grind (arith, nat_tests)

-- what a row that wasn't written has
unwritten_below : (before now : List ℕ) (stride left right top j : ℕ) (f : ℕ → ℕ → ℕ) → IsPutBetween before now stride left right top j f
    → (x y : ℕ) → x < stride → j ≤ y → get_or now (y * stride + x) 0 ≡ get_or before (y * stride + x) 0
unwritten_below before now stride left right top j f known x y in_row low =
    known x y in_row ∙ ap (λ (b : Bool). cond b (f x y) (get_or before (y * stride + x) 0)) (not_between left right top j x y low)

unwritten_above : (before now : List ℕ) (stride left right j bottom : ℕ) (f : ℕ → ℕ → ℕ) → IsPutBetween before now stride left right j bottom f
    → (x y : ℕ) → x < stride → y < j → get_or now (y * stride + x) 0 ≡ get_or before (y * stride + x) 0
unwritten_above before now stride left right j bottom f known x y in_row high =
    known x y in_row ∙ ap (λ (b : Bool). cond b (f x y) (get_or before (y * stride + x) 0)) (not_yet left right j bottom x y high)

-- the row above those that were written adds only its own places
above_other : (left right bottom j x y : ℕ) → Other left right j x y → is_between left right j bottom x y ≡ is_between left right (j + 1) bottom x y
above_other left right bottom j x y (inl h) = grind (arith, nat_tests)
above_other left right bottom j x y (inr (inl h)) = grind (arith, nat_tests)
above_other left right bottom j x y (inr (inr (inl h))) = grind (arith, nat_tests)
above_other left right bottom j x y (inr (inr (inr h))) = grind (arith, nat_tests)

above_row : (left right bottom j x : ℕ) → left ≤ x → x < right → j < bottom → is_between left right j bottom x j ≡ true
above_row left right bottom j x a b c = grind (arith, nat_tests)

module _ (before now after : List ℕ) (stride left right from_x from_row j : ℕ)
    (across : left ≤ right) (wide : right ≤ stride) (source_wide : from_x + (right - left) ≤ stride)
    (c : IsCopied now after (from_row * stride + from_x) (j * stride + left) (right - left)) where
  -- a place of the row has its source's sample
  in_this_row : ((x : ℕ) → x < stride → get_or now (from_row * stride + x) 0 ≡ get_or before (from_row * stride + x) 0)
      → (x : ℕ) → left ≤ x → x < right → get_or after (j * stride + x) 0 ≡ get_or before (from_row * stride + (from_x + (x - left))) 0
  in_this_row fresh x a b =
      ap (λ (i : ℕ). get_or after i 0) (omega arith)
      ∙ (c.inside (x - left) (omega arith)
      ∙ (ap (λ (i : ℕ). get_or now i 0) (omega arith) ∙ fresh (from_x + (x - left)) (omega arith)))

  below_at : (top : ℕ) (f : ℕ → ℕ → ℕ) → top ≤ j → j ≤ from_row
      → ((x : ℕ) → left ≤ x → x < right → get_or before (from_row * stride + (from_x + (x - left))) 0 ≡ f x j)
      → IsPutBetween before now stride left right top j f
      → (x y : ℕ) → x < stride → (y ≡ j) × ((left ≤ x) × (x < right)) ⊎ Other left right j x y
      → get_or after (y * stride + x) 0 ≡ cond (is_between left right top (j + 1) x y) (f x y) (get_or before (y * stride + x) 0)
  below_at top f low fresh each known x y in_row (inl h) =
      rw (h.0, between_row left right top j x h.1.0 h.1.1 low)
      (in_this_row (λ i less. unwritten_below before now stride left right top j f known i from_row less fresh) x h.1.0 h.1.1 ∙ each x h.1.0 h.1.1)
  below_at top f low fresh each known x y in_row (inr h) =
      rw (between_other left right top j x y h)
      (copied_apart now after stride (from_row * stride + from_x) left right j x y c (place_other stride left right j x y across wide in_row h) ∙ known x y in_row)

  -- one row more below those that were copied
  pub copied_below : (top : ℕ) (f : ℕ → ℕ → ℕ) → top ≤ j → j ≤ from_row
      → ((x : ℕ) → left ≤ x → x < right → get_or before (from_row * stride + (from_x + (x - left))) 0 ≡ f x j)
      → IsPutBetween before now stride left right top j f → IsPutBetween before after stride left right top (j + 1) f
  copied_below top f low fresh each known = λ x y in_row. below_at top f low fresh each known x y in_row (which left right j x y)

  above_at : (bottom : ℕ) (f : ℕ → ℕ → ℕ) → j < bottom → from_row ≤ j
      → ((x : ℕ) → left ≤ x → x < right → get_or before (from_row * stride + (from_x + (x - left))) 0 ≡ f x j)
      → IsPutBetween before now stride left right (j + 1) bottom f
      → (x y : ℕ) → x < stride → (y ≡ j) × ((left ≤ x) × (x < right)) ⊎ Other left right j x y
      → get_or after (y * stride + x) 0 ≡ cond (is_between left right j bottom x y) (f x y) (get_or before (y * stride + x) 0)
  above_at bottom f high fresh each known x y in_row (inl h) =
      rw (h.0, above_row left right bottom j x h.1.0 h.1.1 high)
      (in_this_row (λ i less. unwritten_above before now stride left right (j + 1) bottom f known i from_row less (omega arith)) x h.1.0 h.1.1 ∙ each x h.1.0 h.1.1)
  above_at bottom f high fresh each known x y in_row (inr h) =
      rw (above_other left right bottom j x y h)
      (copied_apart now after stride (from_row * stride + from_x) left right j x y c (place_other stride left right j x y across wide in_row h) ∙ known x y in_row)

  -- one row more above those that were copied
  pub copied_above : (bottom : ℕ) (f : ℕ → ℕ → ℕ) → j < bottom → from_row ≤ j
      → ((x : ℕ) → left ≤ x → x < right → get_or before (from_row * stride + (from_x + (x - left))) 0 ≡ f x j)
      → IsPutBetween before now stride left right (j + 1) bottom f → IsPutBetween before after stride left right j bottom f
  copied_above bottom f high fresh each known = λ x y in_row. above_at bottom f high fresh each known x y in_row (which left right j x y)

-- a row below the last one that counts ends within the plane
pub source_ends : (row rows stride len : ℕ) → row < rows → rows * stride ≤ len → row * stride + stride ≤ len
source_ends row rows stride len less tall =
    let h : (row + 1) * stride ≤ rows * stride = mul-le (row + 1) stride rows stride (omega arith) (omega arith) in omega arith

-- rows of at least one sample are no more than the samples
pub few_rows : (rows stride len : ℕ) → 1 ≤ stride → rows * stride ≤ len → rows ≤ len
few_rows rows stride len some tall =
    let h : rows * 1 ≤ rows * stride = mul-le rows 1 rows stride (omega arith) some in omega arith

-- ---- the picture

-- along one side: a place is copied where it is among the first ones that count
along : (n from to end x : ℕ) → (nat_lt x end && (nat_le to x && nat_lt x (to + n)) && nat_lt (from + (x - to)) end) ≡ (nat_le to x && nat_lt x (to + min n (min (end - to) (end - from))))
along n from to end x = grind (arith, nat_tests)

-- new samples where a copy paints the desktop
pub part_copied : (old new : Planes) (r : Rect) (to_x to_y : ℕ) (part : Sides) → IsCopyOf old.size r to_x to_y part
    → IsPutInto old new part (λ c i j. picture_of old c (r.x + (i - part.left)) (r.y + (j - part.top))) → Stores new (copied old r to_x to_y)
part_copied old new r to_x to_y part is put = record {
  each = λ c x y h hx hy.
      let same : new.size ≡ old.size = put.size in
      put.each c x y h (rw (← same) hx) (rw (← same) hy)
      ∙ (ap (λ (t : Bool). cond t (picture_of old c (r.x + (x - part.left)) (r.y + (y - part.top))) (picture_of old c x y)) (sym (is.covered x y))
      ∙ ap (λ (s : ℕ). cond (copies_to old.size r to_x to_y x y) s (picture_of old c x y))
      (λ i. picture_of old c (r.x + (x - is.left i)) (r.y + (y - is.top i))));
}

-- nothing is painted where nothing is copied
pub nothing_copied : (p : Planes) (r : Rect) (to_x to_y : ℕ) → ((x y : ℕ) → copies_to p.size r to_x to_y x y ≡ false) → Stores p (copied p r to_x to_y)
nothing_copied p r to_x to_y none = record {
  each = λ c x y h hx hy. ap (λ (t : Bool). cond t (picture_of p c (source_x r to_x x) (source_y r to_y y)) (picture_of p c x y)) (sym (none x y));
}

-- a sample of the desktop that is copied
copied_is : (size : Size) (shown : ℕ → ℕ → Rgb) (r : Rect) (to_x to_y c x y : ℕ) (source before : ℕ) (copy : Bool)
    → copies size r to_x to_y x y ≡ copy
    → (copy ≡ true → source ≡ sample_in size shown c (source_x r to_x x) (source_y r to_y y)) → before ≡ sample_in size shown c x y
    → cond (nat_lt x size.w && nat_lt y size.h && copy) source before
    ≡ cond (nat_lt x size.w && nat_lt y size.h) (component c (cond copy (shown (source_x r to_x x) (source_y r to_y y)) (shown x y))) 0
copied_is size shown r to_x to_y c x y source before true is from same = go (nat_lt x size.w && nat_lt y size.h) refl
  where
    inside : (nat_lt (source_x r to_x x) size.w && nat_lt (source_y r to_y y) size.h) ≡ true
    inside =
        let all = and_parts (paints (target r to_x to_y) x y && nat_lt (source_x r to_x x) size.w) (nat_lt (source_y r to_y y) size.h) is in
        let some = and_parts (paints (target r to_x to_y) x y) (nat_lt (source_x r to_x x) size.w) all.0 in
        and_from (nat_lt (source_x r to_x x) size.w) (nat_lt (source_y r to_y y) size.h) some.1 all.1

    read : source ≡ component c (shown (source_x r to_x x) (source_y r to_y y))
    read = from refl ∙ ap (λ (b : Bool). cond b (component c (shown (source_x r to_x x) (source_y r to_y y))) 0) inside

    go : (b : Bool) → (nat_lt x size.w && nat_lt y size.h) ≡ b
        → cond (b && true) source before ≡ cond b (component c (shown (source_x r to_x x) (source_y r to_y y))) 0
    go true e = read
    go false e = same ∙ ap (λ (b : Bool). cond b (component c (shown x y)) 0) e
copied_is size shown r to_x to_y c x y source before false is from same = go (nat_lt x size.w && nat_lt y size.h) refl
  where
    go : (b : Bool) → (nat_lt x size.w && nat_lt y size.h) ≡ b → cond (b && false) source before ≡ cond b (component c (shown x y)) 0
    go true e = same ∙ ap (λ (b : Bool). cond b (component c (shown x y)) 0) e
    go false e = same ∙ ap (λ (b : Bool). cond b (component c (shown x y)) 0) e

-- a picture in which a rectangle is copied shows the colours that are copied
pub copy_shows : (old new : Planes) (r : Rect) (to_x to_y : ℕ) (before : ℕ → ℕ → Rgb) → new.size ≡ old.size → IsPicture new
    → Stores new (copied old r to_x to_y) → ShowsColours old before → ShowsColours new (recopied old.size r to_x to_y before)
copy_shows old new r to_x to_y before same is stored shown =
    let size : Size = old.size in
    colours_show old new (recopied size r to_x to_y before) same is (λ c x y h hx hy.
    stored.each c x y h (rw same hx) (rw same hy)
    ∙ copied_is size before r to_x to_y c x y (picture_of old c (source_x r to_x x) (source_y r to_y y)) (picture_of old c x y) (copies size r to_x to_y x y) refl
    (λ copy. colours_at old before shown c (source_x r to_x x) (source_y r to_y y) h (across r to_x to_y x y copy) (down r to_x to_y x y copy))
    (colours_at old before shown c x y h hx hy))
  where
    across : (r : Rect) (to_x to_y x y : ℕ) → copies old.size r to_x to_y x y ≡ true → source_x r to_x x < coded old.size.w
    across r to_x to_y x y copy =
        let all = and_parts (paints (target r to_x to_y) x y && nat_lt (source_x r to_x x) old.size.w) (nat_lt (source_y r to_y y) old.size.h) copy in
        let some = and_parts (paints (target r to_x to_y) x y) (nat_lt (source_x r to_x x) old.size.w) all.0 in
        let less : source_x r to_x x < old.size.w = ltb-true (source_x r to_x x) old.size.w some.1 in
        omega arith

    down : (r : Rect) (to_x to_y x y : ℕ) → copies old.size r to_x to_y x y ≡ true → source_y r to_y y < coded old.size.h
    down r to_x to_y x y copy =
        let all = and_parts (paints (target r to_x to_y) x y && nat_lt (source_x r to_x x) old.size.w) (nat_lt (source_y r to_y y) old.size.h) copy in
        let less : source_y r to_y y < old.size.h = ltb-true (source_y r to_y y) old.size.h all.1 in
        omega arith

-- ---- the planes

in_across : (part : Sides) (i j : ℕ) → is_in part i j ≡ true → (part.left ≤ i) × (i < part.right)
in_across part i j e = (grind (arith, nat_tests), grind (arith, nat_tests))

in_down : (part : Sides) (i j : ℕ) → is_in part i j ≡ true → (part.top ≤ j) × (j < part.bottom)
in_down part i j e = (grind (arith, nat_tests), grind (arith, nat_tests))

-- what is copied within a plane is copied within the picture
pub plane_copied : (old : Planes) (c : ℕ) (after : List ℕ) (stride : ℕ) (part : Sides) (x y : ℕ) → stride ≡ coded old.size.w
    → x + (part.right - part.left) ≤ coded old.size.w → y + (part.bottom - part.top) ≤ coded old.size.h
    → IsPut (plane_of old c) after stride part (sample_from (plane_of old c) stride part x y)
    → IsPut (plane_of old c) after stride part (λ i j. picture_of old c (x + (i - part.left)) (y + (j - part.top)))
plane_copied old c after stride part x y wide across down put = λ i j in_row. put i j in_row ∙ go i j (is_in part i j) refl
  where
    go : (i j : ℕ) (b : Bool) → is_in part i j ≡ b
        → cond b (sample_from (plane_of old c) stride part x y i j) (get_or (plane_of old c) (j * stride + i) 0)
        ≡ cond b (picture_of old c (x + (i - part.left)) (y + (j - part.top))) (get_or (plane_of old c) (j * stride + i) 0)
    go i j true e =
        let column = in_across part i j e in
        let row = in_down part i j e in
        ap (λ (w : ℕ). get_or (plane_of old c) ((y + (j - part.top)) * w + (x + (i - part.left))) 0) wide
        ∙ sym (picture_at old c (x + (i - part.left)) (y + (j - part.top)) (omega arith) (omega arith))
    go i j false e = refl
