-- The slice of a picture gives the picture back.
use Rattle.std.proofs.Common.{◌≡◌, sym, ◌∙◌, ap, subst, ℕ, zero, suc, ◌+◌, ◌*◌, ◌/◌, ◌%◌, ◌<◌, ◌≤◌, List, [], ◌∷◌, ◌++◌, Bool, true, false, cond, length, take, get_or, map, arith, le_refl, ext_get_or, mod-lt, take_all}
use Rattle.std.specs.Prelude.{Option, ◌&&◌, nat_lt, IsTrue}
use Rattle.std.specs.List.{AllByRecursion, range_with_len}
use Rattle.std.proofs.lemmas.Bool.{lt-ltb, and_from, cond-true}
use Rattle.std.proofs.lemmas.Nat.{div-add-mod', div_below}
use Rattle.h265_model.specs.declared.leaf.Leaf.{Leaf}
use Rattle.h265_model.specs.Plain.{Size, Picture, coded, ctus, place_values, IsPicture, joined}
use Rattle.h265_model.specs.declared.rgb.Rgb.{Rgb}
use Rattle.h265_model.specs.Raster.{black}
use Rattle.h265_model.specs.Settings.{is_size}
use Rattle.h265_model.specs.Raster.{Raster, component, coded_picture, planes, stored_picture, crop}
use Rattle.h265_model.specs.Choice.{choice}
use Rattle.h265_model.specs.Tree.{samples_in, IsCopy}
use Rattle.h265_model.specs.Plain.{leaf_side}
use Rattle.h265_model.specs.Raster.{IsColour, IsRaster}
use Rattle.h265_laws.specs.Laws.{EachRowIsWellFormed, EachRasterIsCropped}
use Rattle.h265_laws.proofs.LeafDecoding.{EachSliceIsRead, EachPictureIsRebuilt}
use Rattle.h265_laws.proofs.ParamLaws.{InLimits, in_limits}
use Rattle.h265_model.proofs.Squares.{length_places, at_places, same_places}
use Rattle.h265_laws.proofs.Coverage.{Covers, ArePlaced, CoversBlock}
use Rattle.h265_laws.proofs.RebuildLaw.{rebuilt}
use Rattle.h265_laws.proofs.ChoiceLaw.{IsFair, choice_is_fair}
use Rattle.h265_laws.proofs.RowForm.{row_form}
use Rattle.h265_laws.proofs.SliceLaw.{rows_values, slice_leaves, data_is_read}
use Rattle.h265_model.proofs.ListParts.{all_append}
use Rattle.h265_laws.proofs.CoverLaw.{sides_of, joined_cover}

-- ---- sizes

-- coding tree blocks of a size, at most 128 a side
pub record IsFit (size : Size) : Type 0 where
  pub wide : 0 < ctus size.w
  pub high : 0 < ctus size.h
  pub narrow : ctus size.w ≤ 128
  pub low : ctus size.h ≤ 128

pub size_fits : (size : Size) → IsTrue (is_size size) → IsFit size
size_fits size h =
    let l : InLimits size = in_limits size h in
    let w1 : 1 ≤ size.w = l.w_low in
    let w2 : size.w ≤ 4096 = l.w_high in
    let h1 : 1 ≤ size.h = l.h_low in
    let h2 : size.h ≤ 4096 = l.h_high in
    record { wide = omega arith; high = omega arith; narrow = omega arith; low = omega arith }

-- ---- rasters and pictures

colour_at : (raster : List Rgb) (i : ℕ) → AllByRecursion IsColour raster → IsColour (get_or raster i black)
colour_at [] i h = record { r = omega arith; g = omega arith; b = omega arith }
colour_at (c ∷ raster) zero h = h.0
colour_at (c ∷ raster) (suc i) h = colour_at raster i h.1

component_is : (c : ℕ) (colour : Rgb) → IsColour colour → component c colour < 256
component_is zero colour h = h.g
component_is (suc zero) colour h = h.b
component_is (suc (suc c)) colour h = h.r

pub picture_is : (size : Size) (raster : Raster) → IsRaster size raster → IsPicture (coded_picture size raster)
unfolding coded_picture
picture_is size raster is = record { each = λ c x y. go c x y (nat_lt x size.w && nat_lt y size.h) }
  where
    go : (c x y : ℕ) (b : Bool) → cond b (component c (get_or raster (y * size.w + x) black)) 0 < 256
    go c x y true = component_is c _ (colour_at raster (y * size.w + x) is.colours)
    go c x y false = omega arith

-- the planes of a picture store it
pub stored_is : (size : Size) (picture : Picture) (c x y : ℕ) → c < 3 → x < coded size.w → y < coded size.h → stored_picture size (planes size picture) c x y ≡ picture c x y
unfolding stored_picture
stored_is size picture zero x y h hx hy = at_places (coded size.w) (coded size.h) x y (picture 0) 0 hx hy
stored_is size picture (suc zero) x y h hx hy = at_places (coded size.w) (coded size.h) x y (picture 1) 0 hx hy
stored_is size picture (suc (suc zero)) x y h hx hy = at_places (coded size.w) (coded size.h) x y (picture 2) 0 hx hy
stored_is size picture (suc (suc (suc c))) x y h hx hy = absurd (omega arith)

within : (x w : ℕ) → x < w → x < coded w
within x w h = omega arith

same_colour : (a b : Rgb) → component 2 a ≡ component 2 b → component 0 a ≡ component 0 b → component 1 a ≡ component 1 b → a ≡ b
same_colour a b r g u = ap (λ (v : ℕ). record { r = v; g = a.g; b = a.b }) r ∙ (ap (λ (v : ℕ). record { r = b.r; g = v; b = a.b }) g ∙ ap (λ (v : ℕ). record { r = b.r; g = b.g; b = v }) u)

cropped_at : (size : Size) (raster : Raster) (x y : ℕ) → x < size.w → y < size.h → (c : ℕ) → c < 3
    → stored_picture size (planes size (coded_picture size raster)) c x y ≡ component c (get_or raster (y * size.w + x) black)
unfolding coded_picture
cropped_at size raster x y hx hy c h =
    stored_is size (coded_picture size raster) c x y h (within x size.w hx) (within y size.h hy)
    ∙ cond-true (nat_lt x size.w && nat_lt y size.h) _ _ (and_from _ _ (lt-ltb x size.w hx) (lt-ltb y size.h hy))

-- a list of the values of its places
places_back : (w h : ℕ) (raster : List Rgb) → length raster ≡ w * h → 0 < w → place_values w h (λ x y. get_or raster (y * w + x) black) ≡ raster
places_back w h raster long some =
    let f : ℕ → ℕ → Rgb = λ x y. get_or raster (y * w + x) black in
    let many : length (place_values w h f) ≡ h * w = length_places w h f in
    let turned : w * h ≡ h * w = omega arith in
    ext_get_or black (place_values w h f) raster (many ∙ sym (long ∙ turned))
    (λ i lt.
    let split : i / w * w + i % w ≡ i = div-add-mod' i w in
    let lt' : i < h * w = subst (λ (n : ℕ). i < n) many lt in
    ap (λ (k : ℕ). get_or (place_values w h f) k black) (sym split)
    ∙ (at_places w h (i % w) (i / w) f black (mod-lt i some) (div_below i w h some lt') ∙ ap (λ (k : ℕ). get_or raster k black) split))

-- the raster is cut out of its coded picture
pub cropped : (size : Size) (raster : Raster) → IsRaster size raster → 0 < size.w → crop size (stored_picture size (planes size (coded_picture size raster))) ≡ raster
unfolding crop
cropped size raster is some =
    let p : Picture = stored_picture size (planes size (coded_picture size raster)) in
    same_places size.w size.h (λ x y. record { r = p 2 x y; g = p 0 x y; b = p 1 x y }) (λ x y. get_or raster (y * size.w + x) black)
    (λ x y hx hy. same_colour (record { r = p 2 x y; g = p 0 x y; b = p 1 x y }) (get_or raster (y * size.w + x) black)
    (cropped_at size raster x y hx hy 2 (omega arith)) (cropped_at size raster x y hx hy 0 (omega arith)) (cropped_at size raster x y hx hy 1 (omega arith)))
    ∙ places_back size.w size.h raster is.places some

-- ---- leaves of a picture

pub fair_joined : (prev : Option Picture) (now : Picture) (size : Size) (effort a n : ℕ) → AllByRecursion (IsFair prev now) (joined (map (choice prev now size effort) (range_with_len a n)))
fair_joined prev now size effort a zero = tt
fair_joined prev now size effort a (suc n) =
    all_append (IsFair prev now) (choice prev now size effort a) (joined (map (choice prev now size effort) (range_with_len (a + 1) n))) (choice_is_fair prev now size effort a) (fair_joined prev now size effort (a + 1) n)

-- a copy of a picture is one of the picture that its planes store
copy_same : (size : Size) (prev : Picture) (leaf : Leaf) (c : ℕ) → c < 3 → leaf.block.x + leaf_side leaf ≤ coded size.w → leaf.block.y + leaf_side leaf ≤ coded size.h
    → samples_in (stored_picture size (planes size prev)) leaf c ≡ samples_in prev leaf c
copy_same size prev leaf c h right bottom =
    same_places (leaf_side leaf) (leaf_side leaf) (λ x y. stored_picture size (planes size prev) c (leaf.block.x + x) (leaf.block.y + y)) (λ x y. prev c (leaf.block.x + x) (leaf.block.y + y))
    (λ x y hx hy. stored_is size prev c (leaf.block.x + x) (leaf.block.y + y) h (under leaf.block.x x (leaf_side leaf) (coded size.w) hx right) (under leaf.block.y y (leaf_side leaf) (coded size.h) hy bottom))
  where
    under : (a x n w : ℕ) → x < n → a + n ≤ w → a + x < w
    under a x n w h k = omega arith

pub copies_stored : (size : Size) (prev now : Picture) (before leaves : List Leaf) → ArePlaced size before leaves → AllByRecursion (IsCopy prev now) leaves → AllByRecursion (IsCopy (stored_picture size (planes size prev)) now) leaves
copies_stored size prev now before [] placed h = tt
copies_stored size prev now before (leaf ∷ leaves) placed h =
    (λ k c small. copy_same size prev leaf c small placed.0.right placed.0.bottom ∙ h.0 k c small, copies_stored size prev now (before ++ leaf ∷ []) leaves placed.1 h.1)

-- ---- the laws of slices and pictures

pub each_row_is_well_formed : EachRowIsWellFormed
each_row_is_well_formed kind size source leaves row is less = row_form kind size source leaves row is.source_is (sides_of kind size source leaves is) is.wide less

pub each_slice_is_read : EachSliceIsRead
each_slice_is_read kind size source leaves is some =
    (rows_values kind size source leaves 0 (ctus size.h), data_is_read kind size source leaves is some, slice_leaves kind size source leaves is.many)

pub each_picture_is_rebuilt : EachPictureIsRebuilt
each_picture_is_rebuilt kind size prev now leaves is picture copies =
    let total : ℕ = ctus size.w * ctus size.h in
    let all : take total leaves ≡ leaves = take_all total leaves (let m : length leaves ≡ total = is.many in omega arith) in
    let block : CoversBlock size [] (joined leaves) 0 (total * 1024) =
    subst (λ (l : List (List Leaf)). CoversBlock size [] (joined l) 0 (total * 1024)) all (joined_cover kind size leaves total total is.wide is.lawful (le_refl total)) in
    let e : 0 + total * 1024 ≡ total * 1024 = omega arith in
    rebuilt size prev now (joined leaves) picture copies block.placed (subst (λ (n : ℕ). Covers size (joined leaves) n) e block.covers)

pub each_raster_is_cropped : EachRasterIsCropped
each_raster_is_cropped size raster is some = cropped size raster is some
