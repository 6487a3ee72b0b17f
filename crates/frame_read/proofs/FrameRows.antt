-- Rows of a frame that were read into a picture.
use Rattle.std.proofs.Common.{◌≡◌, ℕ, ◌+◌, ◌-◌, ◌*◌, ◌<◌, ◌≤◌, Bool, true, false, cond, List, [], ◌++◌, length, get_or, Option, refl, sym, ap, subst, ◌∙◌, ◌⊎◌, inl, inr, arith, append_assoc, length-append}
use Rattle.std.specs.Prelude.{nat_lt, ◌&&◌}
use Rattle.std.proofs.lemmas.List.{get_or_append_left, get_or-append-add}
use Rattle.std.proofs.lemmas.Bool.{cases_lt, cond-false, lt-ltb}
use Rattle.std.proofs.lemmas.Bool.Decides.{nat_tests}
use Rattle.h265_model.specs.Plain.{Size, Picture, coded}
use Rattle.h265_model.specs.Raster.{Raster, component, black, paints}
use Rattle.h265_model.specs.declared.rect.Rect.{Rect}
use Rattle.h265_model.specs.declared.rgb.Rgb.{Rgb}
use Rattle.h265_model.proofs.Squares.{same_places}
use Rattle.px_plane.specs.Planes.{Planes, picture_of, blitted, covers, pixel_at, repainted, Stores, Shows, ShowsColours}
use Rattle.px_plane.proofs.Rows.{rows_apart}
use Rattle.frame_read.specs.Sources.{StillTold}
use Rattle.frame_read.specs.Pixels.{colours, strip, PaintsStrip}
use Rattle.frame_read.proofs.Calls.{told_on, told_same}
use Rattle.frame_read.proofs.Colours.{length-colours, colours-append}

-- the colour of a place in rows of pixels
abbrev colour_in : List ℕ → ℕ → ℕ → ℕ → Rgb
colour_in taken w i j = get_or (colours taken) (j * w + i) black

-- the samples, and the colours, after the rows above y were put into a picture
abbrev pub laid_to : Planes → List ℕ → ℕ → Picture
laid_to old taken y c i j = cond (nat_lt i old.size.w && nat_lt j y) (component c (colour_in taken old.size.w i j)) (picture_of old c i j)

abbrev pub shown_to : Size → List ℕ → ℕ → (ℕ → ℕ → Rgb) → ℕ → ℕ → Rgb
shown_to size taken y before i j = cond (nat_lt i size.w && nat_lt j y) (colour_in taken size.w i j) (before i j)

-- the rows above y were read
pub record AreRead (old : Planes) (y : ℕ) (picture : Planes) (before now : Option (List ℕ)) (faults_before faults : ℕ) : Type 0 where
  pub taken : List ℕ
  pub long : length taken ≡ 3 * (old.size.w * y)
  pub within : y ≤ old.size.h
  pub same_size : picture.size ≡ old.size
  pub stored : Stores picture (laid_to old taken y)
  pub shows : (colours : ℕ → ℕ → Rgb) → ShowsColours old colours → ShowsColours picture (shown_to old.size taken y colours)
  pub told : StillTold before now (λ was left. was ≡ taken ++ left)
  pub quiet : faults ≡ faults_before

-- ---- one more strip

-- a place lies in the rows above, in the strip, or elsewhere
abbrev Above : ℕ → ℕ → ℕ → ℕ → Type 0
Above w y i j = (i < w) × (j < y)

abbrev Within : ℕ → ℕ → ℕ → ℕ → ℕ → Type 0
Within w y n i j = (i < w) × (y ≤ j) × (j < y + n)

abbrev Beside : ℕ → ℕ → ℕ → ℕ → ℕ → Type 0
Beside w y n i j = (w ≤ i) ⊎ (y + n ≤ j)

where_is : (w y n i j : ℕ) → Above w y i j ⊎ (Within w y n i j ⊎ Beside w y n i j)
where_is w y n i j =
    elim (cases_lt i w) [
      | inr beside ↦ inr (inr (inl beside))
      | inl column ↦ elim (cases_lt j y) [
        | inl above ↦ inl (column, above)
        | inr low ↦ elim (cases_lt j (y + n)) [ inl within ↦ inr (inl (column, low, within)) | inr below ↦ inr (inr (inr below)) ]
      ]
    ]

module _ (w y n : ℕ) (taken bytes : List ℕ) (long : length taken ≡ 3 * (w * y)) where
  both : colours (taken ++ bytes) ≡ colours taken ++ colours bytes
  both = colours-append taken bytes (w * y) long

  many : length (colours taken) ≡ w * y
  many = length-colours taken (w * y) long

  -- the colour of a place in the rows above
  above_same : (i j : ℕ) → i < w → j < y → colour_in (taken ++ bytes) w i j ≡ colour_in taken w i j
  above_same i j column row =
      let h : j * w + i < y * w = rows_apart w i j y column row in
      let m : length (colours taken) ≡ w * y = many in
      ap (λ (l : List Rgb). get_or l (j * w + i) black) both ∙ get_or_append_left (colours taken) (colours bytes) black (j * w + i) (omega arith)

  -- and in the strip
  strip_same : (i j : ℕ) → i < w → y ≤ j → colour_in (taken ++ bytes) w i j ≡ pixel_at (strip w y n) (colours bytes) i j
  strip_same i j column low =
      let m : length (colours taken) ≡ w * y = many in
      let apart : j ≡ y + (j - y) = omega arith in
      let product : j * w ≡ (y + (j - y)) * w = ap (λ (k : ℕ). k * w) apart in
      let at : j * w + i ≡ length (colours taken) + ((j - y) * w + (i - 0)) = omega arith in
      ap (λ (l : List Rgb). get_or l (j * w + i) black) both
      ∙ (ap (λ (k : ℕ). get_or (colours taken ++ colours bytes) k black) at ∙ get_or-append-add (colours taken) (colours bytes) ((j - y) * w + (i - 0)) black)

  -- a strip on a picture with the rows above it
  strip_laid : {A : Type 0} (f : Rgb → A) (value : A) (h i j : ℕ) → y + n ≤ h
      → cond (covers (record { w = w; h = h }) (strip w y n) i j) (f (pixel_at (strip w y n) (colours bytes) i j)) (cond (nat_lt i w && nat_lt j y) (f (colour_in taken w i j)) value)
      ≡ cond (nat_lt i w && nat_lt j (y + n)) (f (colour_in (taken ++ bytes) w i j)) value
  strip_laid f value h i j fits = go (where_is w y n i j)
    where
      go : Above w y i j ⊎ (Within w y n i j ⊎ Beside w y n i j)
          → cond (covers (record { w = w; h = h }) (strip w y n) i j) (f (pixel_at (strip w y n) (colours bytes) i j)) (cond (nat_lt i w && nat_lt j y) (f (colour_in taken w i j)) value)
          ≡ cond (nat_lt i w && nat_lt j (y + n)) (f (colour_in (taken ++ bytes) w i j)) value
      go (inl t) =
          let column : i < w = t.0 in
          let row : j < y = t.1 in
          let none : covers (record { w = w; h = h }) (strip w y n) i j ≡ false = grind (arith, nat_tests) in
          let was : (nat_lt i w && nat_lt j y) ≡ true = grind (arith, nat_tests) in
          let is : (nat_lt i w && nat_lt j (y + n)) ≡ true = grind (arith, nat_tests) in
          rw (none, was, is) (ap f (sym (above_same i j column row)))
      go (inr (inl t)) =
          let column : i < w = t.0 in
          let low : y ≤ j = t.1 in
          let row : j < y + n = t.2 in
          let some : covers (record { w = w; h = h }) (strip w y n) i j ≡ true = grind (arith, nat_tests) in
          let is : (nat_lt i w && nat_lt j (y + n)) ≡ true = grind (arith, nat_tests) in
          rw (some, is) (ap f (sym (strip_same i j column low)))
      go (inr (inr (inl t))) =
          let beside : w ≤ i = t in
          let none : covers (record { w = w; h = h }) (strip w y n) i j ≡ false = grind (arith, nat_tests) in
          let was : (nat_lt i w && nat_lt j y) ≡ false = grind (arith, nat_tests) in
          let is : (nat_lt i w && nat_lt j (y + n)) ≡ false = grind (arith, nat_tests) in
          rw (none, was, is) refl
      go (inr (inr (inr t))) =
          let below : y + n ≤ j = t in
          let none : covers (record { w = w; h = h }) (strip w y n) i j ≡ false = grind (arith, nat_tests) in
          let was : (nat_lt i w && nat_lt j y) ≡ false = grind (arith, nat_tests) in
          let is : (nat_lt i w && nat_lt j (y + n)) ≡ false = grind (arith, nat_tests) in
          rw (none, was, is) refl

pub none_read : (old : Planes) (text : Option (List ℕ)) (faults : ℕ) → AreRead old 0 old text text faults faults
none_read old text faults = record {
  taken = [];
  long = omega arith;
  within = omega arith;
  same_size = refl;
  stored = record { each = λ c i j h hi hj. sym (nothing c i j) };
  shows = λ f shown. subst (λ (r : Raster). Shows old r) (same_places old.size.w old.size.h f (shown_to old.size [] 0 f) (λ i j hi hj. sym (unchanged f i j))) shown;
  told = told_same text (λ was left. was ≡ [] ++ left) (λ x. refl);
  quiet = refl;
}
  where
    none : (i j : ℕ) → (nat_lt i old.size.w && nat_lt j 0) ≡ false
    none i j = grind (arith, nat_tests)

    nothing : (c i j : ℕ) → laid_to old [] 0 c i j ≡ picture_of old c i j
    nothing c i j = cond-false (nat_lt i old.size.w && nat_lt j 0) _ _ (none i j)

    unchanged : (f : ℕ → ℕ → Rgb) (i j : ℕ) → shown_to old.size [] 0 f i j ≡ f i j
    unchanged f i j = cond-false (nat_lt i old.size.w && nat_lt j 0) _ _ (none i j)

covers_is : (size : Size) (r : Rect) (i j : ℕ) → i < size.w → j < size.h → covers size r i j ≡ paints r i j
covers_is size r i j column row = rw (lt-ltb i size.w column, lt-ltb j size.h row) refl

pub rows_more : (old picture new : Planes) (y n : ℕ) (bytes : List ℕ) (a b c : Option (List ℕ)) (faults_before faults now : ℕ)
    → AreRead old y picture a b faults_before faults → y + n ≤ old.size.h → length bytes ≡ 3 * (old.size.w * n) → new.size ≡ picture.size
    → Stores new (blitted picture (strip picture.size.w y n) (colours bytes)) → PaintsStrip picture new (strip picture.size.w y n) (colours bytes)
    → StillTold b c (λ was left. was ≡ bytes ++ left) → now ≡ faults → AreRead old (y + n) new a c faults_before now
rows_more old picture new y n bytes a b c faults_before faults now is fits long kept stores paints_it told same = record {
  taken = taken ++ bytes;
  long = (let front : length taken ≡ 3 * (w * y) = is.long in let all = length-append taken bytes in omega arith);
  within = fits;
  same_size = kept ∙ is.same_size;
  stored = record {
    each = λ k i j h hi hj.
        stored k i j h hi hj
        ∙ (ap (λ (v : ℕ). cond (covers old.size (strip w y n) i j) (component k (pixel_at (strip w y n) (colours bytes) i j)) v)
        (is.stored.each k i j h (subst (λ (s : Size). i < coded s.w) kept hi) (subst (λ (s : Size). j < coded s.h) kept hj))
        ∙ strip_laid w y n taken bytes is.long (component k) (picture_of old k i j) old.size.h i j fits);
  };
  shows = λ f shown.
      let before : ℕ → ℕ → Rgb = shown_to old.size taken y f in
      let painted : ShowsColours new (repainted (strip w y n) (pixel_at (strip w y n) (colours bytes)) before) = painted_now before (is.shows f shown) in
      let sized : new.size ≡ old.size = kept ∙ is.same_size in
      subst (λ (r : Raster). Shows new r) (same_places new.size.w new.size.h _ (shown_to old.size (taken ++ bytes) (y + n) f) (λ i j hi hj.
      let column : i < w = subst (λ (s : Size). i < s.w) sized hi in
      let row : j < old.size.h = subst (λ (s : Size). j < s.h) sized hj in
      ap (λ (t : Bool). cond t (pixel_at (strip w y n) (colours bytes) i j) (before i j)) (sym (covers_is old.size (strip w y n) i j column row))
      ∙ strip_laid w y n taken bytes is.long (λ (colour : Rgb). colour) (f i j) old.size.h i j fits)) painted;
  told = told_on a b c _ _ (λ was left. was ≡ (taken ++ bytes) ++ left) is.told told (λ x y z p q. p ∙ (ap (λ (l : List ℕ). taken ++ l) q ∙ sym (append_assoc taken bytes z)));
  quiet = same ∙ is.quiet;
}
  where
    w : ℕ
    w = old.size.w

    taken : List ℕ
    taken = is.taken

    stored : (k i j : ℕ) → k < 3 → i < coded new.size.w → j < coded new.size.h
        → picture_of new k i j ≡ cond (covers old.size (strip old.size.w y n) i j) (component k (pixel_at (strip old.size.w y n) (colours bytes) i j)) (picture_of picture k i j)
    stored = subst
        (λ (s : Size). (k i j : ℕ) → k < 3 → i < coded new.size.w → j < coded new.size.h
        → picture_of new k i j ≡ cond (covers s (strip s.w y n) i j) (component k (pixel_at (strip s.w y n) (colours bytes) i j)) (picture_of picture k i j))
        is.same_size stores.each

    painted_now : (before : ℕ → ℕ → Rgb) → ShowsColours picture before → ShowsColours new (repainted (strip old.size.w y n) (pixel_at (strip old.size.w y n) (colours bytes)) before)
    painted_now = subst (λ (s : Size). PaintsStrip picture new (strip s.w y n) (colours bytes)) is.same_size paints_it
