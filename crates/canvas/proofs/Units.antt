-- One unit more is drawn.
use Rattle.std.proofs.Common.{◌≡◌, refl, sym, ◌∙◌, ap, subst, ℕ, ◌+◌, ◌*◌, ◌-◌, ◌^◌, ◌<◌, ◌≤◌, List, [], ◌∷◌, ◌++◌, Bool, true, false, cond, ◌||◌, ⊎_elim, get_or, map, arith}
use Rattle.std.specs.Prelude.{IsTrue, None, ℤ, pos, negsuc}
use Rattle.std.specs.List.{list_any}
use Rattle.std.proofs.lemmas.Bool.{and_parts, ltb-true, leb-true, or_cases}
use Rattle.std.proofs.lemmas.List.Folds.{list_any-append}
use Rattle.h265_model.specs.declared.leaf.Leaf.{Leaf}
use Rattle.h265_model.specs.declared.moves.Vector.{Vector}
use Rattle.h265_model.specs.Plain.{block_at, Size, Picture, coded, covers}
use Rattle.h265_model.specs.Predict.{is_inside}
use Rattle.h265_model.specs.Settings.{is_size}
use Rattle.h265_model.specs.Raster.{blank, planes}
use Rattle.h265_model.specs.Rebuild.{with_block, block_of, moved_samples, with_unit, with_units, rebuild}
use Rattle.h265_laws.proofs.Coverage.{inside_parts, inside_from}
use Rattle.h265_model.specs.Motion.{moved, reaches, has_source}
use Rattle.h265_model.specs.Tree.{ReadUnit, Content, Copied, Moved, Samples, Levels, leaf_of, vector_of}
use Rattle.h265_model.proofs.Squares.{at_places}
use Rattle.px_plane.specs.Planes.{Planes, IsPicture, Stores, picture_of, planes_of}
use Rattle.px_plane.specs.Rows.{is_in_square, with_copy}
use Rattle.px_plane.proofs.Shown.{planes_from_stores, InLimits, in_limits}
use Rattle.leaf_sink.specs.Units.{is_covered}
use Rattle.canvas.specs.Drawing.{Pictures, Draws, AreWhole, AreStill, CanMove, IsCopied}

units-append : (size : Size) (before now : Picture) (units : List ReadUnit) (u : ReadUnit) → with_units size before now (units ++ u ∷ []) ≡ with_unit size before (with_units size before now units) u
units-append size before now [] u = refl
units-append size before now (v ∷ units) u = units-append size before (with_unit size before now v) units u

leaves-append : (units : List ReadUnit) (u : ReadUnit) → map leaf_of (units ++ u ∷ []) ≡ map leaf_of units ++ leaf_of u ∷ []
leaves-append [] u = refl
leaves-append (v ∷ units) u = ap (λ (l : List Leaf). leaf_of v ∷ l) (leaves-append units u)

covered_more : (units : List ReadUnit) (u : ReadUnit) (x y : ℕ) → is_covered (units ++ u ∷ []) x y ≡ (is_covered units x y || (covers x y (leaf_of u) || false))
covered_more units u x y = ap (λ (l : List Leaf). list_any (covers x y) l) (leaves-append units u) ∙ list_any-append (covers x y) (map leaf_of units) (leaf_of u ∷ [])

-- the sample of a place of a block
abbrev pub in_block : ReadUnit → List ℕ → ℕ → ℕ → ℕ
in_block u block x y = get_or block ((y - u.block.y) * 2 ^ u.block.log2 + (x - u.block.x)) 0

-- the unit's block is drawn, and elsewhere all is as before
pub record IsUnitDrawn (old new : Pictures) (units : List ReadUnit) (u : ReadUnit) : Type 0 where
  pub last : new.last ≡ old.last
  pub block : (before : Picture) → Stores old.last before → (c x y : ℕ) → c < 3 → is_inside old.last.size x y ≡ true → is_in_square u.block.x u.block.y (2 ^ u.block.log2) x y ≡ true
      → picture_of new.drawn c x y ≡ in_block u (block_of old.last.size before (with_units old.last.size before blank units) (leaf_of u) u.content c) x y
  pub others : (c x y : ℕ) → c < 3 → is_inside old.last.size x y ≡ true → is_in_square u.block.x u.block.y (2 ^ u.block.log2) x y ≡ false → picture_of new.drawn c x y ≡ picture_of old.drawn c x y

pub unit_drawn : (old new : Pictures) (units : List ReadUnit) (u : ReadUnit) → Draws old units → IsUnitDrawn old new units u → Draws new (units ++ u ∷ [])
unit_drawn old new units u draws is = record {
  each = λ before stores c x y small inside covered.
      whole before (subst (λ (p : Planes). Stores p before) is.last stores) c x y small (subst (λ (p : Planes). is_inside p.size x y ≡ true) is.last inside) covered
      ∙ ap (λ (p : Planes). with_units p.size before blank (units ++ u ∷ []) c x y) (sym is.last);
}
  where
    size : Size
    size = old.last.size

    earlier : (a t : Bool) → t ≡ false → (a || (t || false)) ≡ true → a ≡ true
    earlier a true e h = absurd (cc)
    earlier a false e h = ⊎_elim (λ k. k) (λ k. absurd (cc)) (or_cases a false h)

    whole : (before : Picture) → Stores old.last before → (c x y : ℕ) → c < 3 → is_inside size x y ≡ true → is_covered (units ++ u ∷ []) x y ≡ true
        → picture_of new.drawn c x y ≡ with_units size before blank (units ++ u ∷ []) c x y
    whole before stores c x y small inside covered = go (covers x y (leaf_of u)) refl ∙ ap (λ (p : Picture). p c x y) (sym (units-append size before blank units u))
      where
        now : Picture
        now = with_units size before blank units

        go : (t : Bool) → covers x y (leaf_of u) ≡ t → picture_of new.drawn c x y ≡ cond t (in_block u (block_of size before now (leaf_of u) u.content c) x y) (now c x y)
        go true e = is.block before stores c x y small inside e
        go false e = is.others c x y small inside e ∙ draws.each before stores c x y small inside (earlier (is_covered units x y) (covers x y (leaf_of u)) e (sym (covered_more units u x y) ∙ covered))

-- ---- copies

can_move : (limit n x : ℕ) (v : ℤ) → limit ≤ 4096 → reaches limit n x v ≡ true → CanMove x v × (moved x v + n ≤ limit)
can_move limit n x (pos m) most h = let k : x + m + n ≤ limit = leb-true _ _ h in (omega arith, k)
can_move limit n x (negsuc m) most h = let p = and_parts _ _ h in (leb-true _ _ p.0, leb-true _ _ p.1)

side_most : (size : Size) → IsTrue (is_size size) → (coded size.w ≤ 4096) × (coded size.h ≤ 4096)
side_most size h =
    let limits : InLimits size = in_limits size h in
    let w : size.w ≤ 4096 = limits.w_high in
    let tall : size.h ≤ 4096 = limits.h_high in
    (coded_most size.w w, coded_most size.h tall)
  where
    coded_most : (n : ℕ) → n ≤ 4096 → coded n ≤ 4096
    coded_most n h = omega arith

pub source_x : (size : Size) (x y log2 : ℕ) (v : Vector) → IsTrue (is_size size) → IsTrue (has_source size (block_at x y log2) v) → CanMove x v.x × (moved x v.x + 2 ^ log2 ≤ coded size.w)
unfolding has_source
source_x size x y log2 v sized h = can_move (coded size.w) (2 ^ log2) x v.x (side_most size sized).0 (and_parts _ _ h).0

pub source_y : (size : Size) (x y log2 : ℕ) (v : Vector) → IsTrue (is_size size) → IsTrue (has_source size (block_at x y log2) v) → CanMove y v.y × (moved y v.y + 2 ^ log2 ≤ coded size.h)
unfolding has_source
source_y size x y log2 v sized h = can_move (coded size.h) (2 ^ log2) y v.y (side_most size sized).1 (and_parts _ _ h).1

moved_on : (x px : ℕ) (v : ℤ) → CanMove x v → x ≤ px → moved x v + (px - x) ≡ moved px v
moved_on x px (pos n) can h = omega arith
moved_on x px (negsuc n) can h = omega arith

-- where a place of a square stands
pub record IsAt (from_x from_y n x y : ℕ) : Type 0 where
  pub left : from_x ≤ x
  pub right : x < from_x + n
  pub top : from_y ≤ y
  pub bottom : y < from_y + n

pub is_at : (left top n x y : ℕ) → is_in_square left top n x y ≡ true → IsAt left top n x y
is_at left top n x y h =
    let p = and_parts _ _ h in
    let q = and_parts _ _ p.0 in
    let r = and_parts _ _ q.0 in
    record { left = leb-true _ _ r.0; right = ltb-true _ _ r.1; top = leb-true _ _ q.1; bottom = ltb-true _ _ p.1 }

-- a place of a block that is copied
at_moved : (before : Picture) (u : ReadUnit) (v : Vector) (c x y : ℕ) → IsAt u.block.x u.block.y (2 ^ u.block.log2) x y → in_block u (moved_samples before (leaf_of u) v c) x y ≡ before c (moved x v.x) (moved y v.y)
unfolding moved_samples
at_moved before u v c x y at =
    let left : u.block.x ≤ x = at.left in
    let right : x < u.block.x + 2 ^ u.block.log2 = at.right in
    let top : u.block.y ≤ y = at.top in
    let bottom : y < u.block.y + 2 ^ u.block.log2 = at.bottom in
    let ex : u.block.x + (x - u.block.x) ≡ x = omega arith in
    let ey : u.block.y + (y - u.block.y) ≡ y = omega arith in
    at_places (2 ^ u.block.log2) (2 ^ u.block.log2) (x - u.block.x) (y - u.block.y) (λ px py. before c (moved (u.block.x + px) v.x) (moved (u.block.y + py) v.y)) 0 (omega arith) (omega arith)
    ∙ (ap (λ (k : ℕ). before c (moved k v.x) (moved (u.block.y + (y - u.block.y)) v.y)) ex ∙ ap (λ (k : ℕ). before c (moved x v.x) (moved k v.y)) ey)

-- the same of the picture that it is copied from
at_source : (last : Planes) (before : Picture) (u : ReadUnit) (v : Vector) (c x y : ℕ) → Stores last before → c < 3 → IsAt u.block.x u.block.y (2 ^ u.block.log2) x y
    → CanMove u.block.x v.x × (moved u.block.x v.x + 2 ^ u.block.log2 ≤ coded last.size.w) → CanMove u.block.y v.y × (moved u.block.y v.y + 2 ^ u.block.log2 ≤ coded last.size.h)
    → picture_of last c (moved u.block.x v.x + (x - u.block.x)) (moved u.block.y v.y + (y - u.block.y)) ≡ before c (moved x v.x) (moved y v.y)
at_source last before u v c x y stores small at mx my =
    let left : u.block.x ≤ x = at.left in
    let right : x < u.block.x + 2 ^ u.block.log2 = at.right in
    let top : u.block.y ≤ y = at.top in
    let bottom : y < u.block.y + 2 ^ u.block.log2 = at.bottom in
    let wide : moved u.block.x v.x + 2 ^ u.block.log2 ≤ coded last.size.w = mx.1 in
    let tall : moved u.block.y v.y + 2 ^ u.block.log2 ≤ coded last.size.h = my.1 in
    stores.each c (moved u.block.x v.x + (x - u.block.x)) (moved u.block.y v.y + (y - u.block.y)) small (omega arith) (omega arith)
    ∙ (ap (λ (k : ℕ). before c k (moved u.block.y v.y + (y - u.block.y))) (moved_on u.block.x x v.x mx.0 left) ∙ ap (λ (k : ℕ). before c (moved x v.x) k) (moved_on u.block.y y v.y my.0 top))

-- a content that is copied by a vector
pub record CopiesBy (content : Content) (v : Vector) : Type 0 where
  pub block : (size : Size) (before now : Picture) (leaf : Leaf) (c : ℕ) → block_of size before now leaf content c ≡ moved_samples before leaf v c

pub copied_by : (v : Vector) → CopiesBy (Copied v) v
unfolding block_of
copied_by v = record { block = λ size before now leaf c. refl }

pub moved_by : (v : Vector) → CopiesBy (Moved v) v
unfolding block_of
moved_by v = record { block = λ size before now leaf c. refl }

pub copied_as : (old new : Pictures) (from_x from_y x y log2 n : ℕ) (v : Vector) → from_x ≡ moved x v.x → from_y ≡ moved y v.y → n ≡ 2 ^ log2
    → Stores new.drawn (with_copy (picture_of old.drawn) (picture_of old.last) from_x from_y x y n) → new.last ≡ old.last → IsCopied old new x y log2 v
copied_as old new from_x from_y x y log2 n v ex ey en stores same = record { last = same; samples = rw (← ex, ← ey, ← en) stores }

pub copy_drawn : (old new : Pictures) (units : List ReadUnit) (u : ReadUnit) (v : Vector) → IsTrue (is_size old.last.size) → old.drawn.size ≡ old.last.size → new.drawn.size ≡ old.last.size
    → IsTrue (has_source old.last.size u.block v) → CopiesBy u.content v → IsCopied old new u.block.x u.block.y u.block.log2 v → IsUnitDrawn old new units u
copy_drawn old new units u v sized size_old size_new source by is = record {
  last = is.last;
  block = λ before stores c x y small inside at.
      put c x y small inside
      ∙ (ap (λ (t : Bool). cond t (picture_of old.last c (moved u.block.x v.x + (x - u.block.x)) (moved u.block.y v.y + (y - u.block.y))) (picture_of old.drawn c x y)) at
      ∙ (at_source old.last before u v c x y stores small (is_at u.block.x u.block.y (2 ^ u.block.log2) x y at) (source_x old.last.size u.block.x u.block.y u.block.log2 v sized source) (source_y old.last.size u.block.x u.block.y u.block.log2 v sized source)
      ∙ (sym (at_moved before u v c x y (is_at u.block.x u.block.y (2 ^ u.block.log2) x y at))
      ∙ ap (λ (l : List ℕ). in_block u l x y) (sym (by.block old.last.size before (with_units old.last.size before blank units) (leaf_of u) c)))));
  others = λ c x y small inside at.
      put c x y small inside ∙ ap (λ (t : Bool). cond t (picture_of old.last c (moved u.block.x v.x + (x - u.block.x)) (moved u.block.y v.y + (y - u.block.y))) (picture_of old.drawn c x y)) at;
}
  where
    put : (c x y : ℕ) → c < 3 → is_inside old.last.size x y ≡ true → picture_of new.drawn c x y ≡ with_copy (picture_of old.drawn) (picture_of old.last) (moved u.block.x v.x) (moved u.block.y v.y) u.block.x u.block.y (2 ^ u.block.log2) c x y
    put c x y small inside =
        let p = inside_parts old.last.size x y inside in
        is.samples.each c x y small (subst (λ (s : Size). x < coded s.w) (sym size_new) p.0) (subst (λ (s : Size). y < coded s.h) (sym size_new) p.1)

-- ---- a whole picture

pub nothing_drawn : (p : Pictures) → Draws p []
nothing_drawn p = record { each = λ before stores c x y small inside covered. absurd (cc) }

pub whole_rebuilt : (p : Pictures) (units : List ReadUnit) (before : Picture) → p.drawn.size ≡ p.last.size → IsPicture p.drawn → Draws p units → AreWhole p.last.size units → Stores p.last before
    → planes_of p.drawn ≡ rebuild p.last.size before units
unfolding rebuild
whole_rebuilt p units before sizes is draws whole stores =
    planes_from_stores p.drawn (with_units p.last.size before blank units) is
    (record { each = λ c x y small hx hy. inside_drawn c x y small (inside_from p.last.size x y (subst (λ (s : Size). x < coded s.w) sizes hx) (subst (λ (s : Size). y < coded s.h) sizes hy)) })
    ∙ ap (λ (s : Size). planes s (with_units p.last.size before blank units)) sizes
  where
    inside_drawn : (c x y : ℕ) → c < 3 → is_inside p.last.size x y ≡ true → picture_of p.drawn c x y ≡ with_units p.last.size before blank units c x y
    inside_drawn c x y small inside = draws.each before stores c x y small inside (whole.each x y inside)

still_unit : (size : Size) (a b now : Picture) (u : ReadUnit) → vector_of u.content ≡ None → with_unit size a now u ≡ with_unit size b now u
unfolding block_of
still_unit size a b now u e = go u.content e
  where
    go : (k : Content) → vector_of k ≡ None → with_block now (leaf_of (record u { content = k })) (block_of size a now (leaf_of (record u { content = k })) k) ≡ with_block now (leaf_of (record u { content = k })) (block_of size b now (leaf_of (record u { content = k })) k)
    go (Copied v) h = absurd (cc)
    go (Moved v) h = absurd (cc)
    go (Samples planes) h = refl
    go (Levels mode planes) h = refl

still_units : (size : Size) (a b now : Picture) (units : List ReadUnit) → AreStill units → with_units size a now units ≡ with_units size b now units
still_units size a b now [] all = refl
still_units size a b now (u ∷ units) all =
    ap (λ (p : Picture). with_units size a p units) (still_unit size a b now u all.0) ∙ still_units size a b (with_unit size b now u) units all.1

-- without copies the picture before doesn't count
pub still_rebuilt : (size : Size) (a b : Picture) (units : List ReadUnit) → AreStill units → rebuild size a units ≡ rebuild size b units
unfolding rebuild
still_rebuilt size a b units all = ap (λ (p : Picture). planes size p) (still_units size a b blank units all)
