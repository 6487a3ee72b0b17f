-- One more coding tree unit of a row, and its end.
use Rattle.std.proofs.Common.{◌≡◌, refl, sym, ◌∙◌, ap, subst, ℕ, zero, suc, ◌+◌, ◌*◌, ◌<◌, ◌≤◌, List, [], ◌∷◌, ◌++◌, Bool, true, false, length, take, get_or, append_assoc, append-nil, arith, ⊎_elim}
use Rattle.std.specs.Prelude.{◌==◌, if◌then◌else◌, Option, Some, None}
use Rattle.std.proofs.lemmas.Bool.{eqb-true, eqb-false, eq-eqb, cond-true, cond-false, cases_lt}
use Rattle.std.specs.List.{AllByRecursion, flat_map}
use Rattle.std.proofs.lemmas.Grind.{flat_map-append}
use Rattle.std.proofs.lemmas.Nat.{mul-le}
use Rattle.h265_model.specs.declared.Item.{Item}
use Rattle.h265_model.specs.declared.Place.TheVariants.{Terminate}
use Rattle.h265_model.specs.declared.leaf.Leaf.{Leaf}
use Rattle.h265_model.specs.declared.leaf.SliceKind.{SliceKind}
use Rattle.h265_model.specs.Plain.{Size, ctus, below, joined, terminate_bin}
use Rattle.h265_model.specs.Code.{Plain, Ended, phase_after, code, contexts_after}
use Rattle.h265_model.specs.Tree.{leaf_units, Source, ctu_items, is_last, IsLawfulTree}
use Rattle.h265_model.specs.Tiles.{tile_count}
use Rattle.arrayvec.specs.ArrayVec.{ArrayVec}
use Rattle.px_plane.specs.Planes.{Planes, picture_of}
use Rattle.bin_items.specs.Growth.{Grew, IsOpen, Meaning}
use Rattle.bin_items.proofs.Growing.{open_as}
use Rattle.pu_code.specs.Cells.{Cells, StandsFor, IsUnit}
use Rattle.cabac_bytes.specs.State.{State, stands_for, phase_of}
use Rattle.h265_laws.proofs.RowLaw.{joined_take}
use Rattle.row_coder.specs.Sources.{picture_source}
use Rattle.row_coder.specs.Rows.{IsKept, IsCoded, IsUnderWay, coded_of, leaves_of, first_ctus, flagged_ctu, whole_row, first_contexts}
use Rattle.row_coder.proofs.Differences.{below_next}

pub no_ctus : (kind : SliceKind) (size : Size) (source : Source) (above : List Leaf) (plans : List (List Leaf)) (row : ℕ) → first_ctus kind size source above plans row 0 ≡ []
unfolding first_ctus
no_ctus kind size source above plans row = refl

pub one_ctu_more : (kind : SliceKind) (size : Size) (source : Source) (above : List Leaf) (plans : List (List Leaf)) (row n : ℕ)
    → first_ctus kind size source above plans row (suc n) ≡ first_ctus kind size source above plans row n ++ flagged_ctu kind size source above plans row n
unfolding first_ctus
one_ctu_more kind size source above plans row n =
    ap (λ (l : List ℕ). flat_map (flagged_ctu kind size source above plans row) l) (below_next n 0 n (omega arith))
    ∙ (flat_map-append (flagged_ctu kind size source above plans row) (below n) (n ∷ [])
    ∙ ap (λ (l : List Item). flat_map (flagged_ctu kind size source above plans row) (below n) ++ l) (append-nil (flagged_ctu kind size source above plans row n)))

-- a number of a coding tree unit is below that of all
pub in_picture : (row n w h : ℕ) → row < h → n < w → row * w + n < w * h
in_picture row n w h a b = let m : (row + 1) * w ≤ h * w = mul-le (row + 1) w h w (omega arith) (omega arith) in omega arith

-- a list of leaves among lists of them
pub leaves_at : (lists : List (ArrayVec Leaf)) (i : ℕ) (d : ArrayVec Leaf) → i < length lists → get_or (leaves_of lists) i [] ≡ (get_or lists i d).items
leaves_at [] i d h = absurd (omega arith)
leaves_at (l ∷ lists) zero d h = refl
leaves_at (l ∷ lists) (suc i) d h = leaves_at lists i d (omega arith)

pub length_leaves : (lists : List (ArrayVec Leaf)) → length (leaves_of lists) ≡ length lists
length_leaves [] = refl
length_leaves (l ∷ lists) = ap suc (length_leaves lists)

module _ (planes : Planes) (kind : SliceKind) (number : ℕ) (above : List Leaf) (plans : List (List Leaf)) (inherited : Option (List ℕ)) where
  abbrev w : ℕ
  w = ctus planes.size.w

  abbrev source : Source
  source = picture_source planes.size (picture_of planes)

  abbrev first : List ℕ
  first = first_contexts kind (ctus planes.size.w) number inherited

  abbrev so_far : ℕ → List Item
  so_far n = first_ctus kind planes.size source above plans number n

  one_leaf_list : (n : ℕ) (leaves : List Leaf) → leaves ≡ get_or plans n [] → (above ++ joined (take n plans)) ++ leaves ≡ above ++ joined (take (n + 1) plans)
  one_leaf_list n leaves here =
      let next : n + 1 ≡ suc n = omega arith in
      append_assoc above (joined (take n plans)) leaves
      ∙ ap (λ (l : List Leaf). above ++ l) (ap (λ (l : List Leaf). joined (take n plans) ++ l) here ∙ (sym (joined_take plans n) ∙ ap (λ (k : ℕ). joined (take k plans)) (sym next)))

  flagged : (n ctu : ℕ) (leaves : List Leaf) (last : Bool) → leaves ≡ get_or plans n [] → ctu ≡ number * ctus planes.size.w + n → last ≡ is_last planes.size ctu
      → ctu_items (leaf_units kind source) planes.size (above ++ joined (take n plans)) leaves ctu ++ terminate_bin last ∷ [] ≡ flagged_ctu kind planes.size source above plans number n
  flagged n ctu leaves last a b d =
      ap (λ (l : Bool). ctu_items (leaf_units kind source) planes.size (above ++ joined (take n plans)) leaves ctu ++ terminate_bin l ∷ []) d
      ∙ (ap (λ (k : ℕ). ctu_items (leaf_units kind source) planes.size (above ++ joined (take n plans)) leaves k ++ terminate_bin (is_last planes.size k) ∷ []) b
      ∙ ap (λ (l : List Leaf). ctu_items (leaf_units kind source) planes.size (above ++ joined (take n plans)) l (number * ctus planes.size.w + n) ++ terminate_bin (is_last planes.size (number * ctus planes.size.w + n)) ∷ []) a)

  one_list : (n ctu : ℕ) (leaves : List Leaf) (last : Bool) → leaves ≡ get_or plans n [] → ctu ≡ number * ctus planes.size.w + n → last ≡ is_last planes.size ctu
      → (so_far n ++ ctu_items (leaf_units kind source) planes.size (above ++ joined (take n plans)) leaves ctu) ++ terminate_bin last ∷ [] ≡ so_far (n + 1)
  one_list n ctu leaves last a b d =
      let next : n + 1 ≡ suc n = omega arith in
      append_assoc (so_far n) (ctu_items (leaf_units kind source) planes.size (above ++ joined (take n plans)) leaves ctu) (terminate_bin last ∷ [])
      ∙ (ap (λ (l : List Item). so_far n ++ l) (flagged n ctu leaves last a b d)
      ∙ (sym (one_ctu_more kind planes.size source above plans number n) ∙ ap (λ (k : ℕ). so_far k) (sym next)))

  open_if : (n : ℕ) (b : Bool) → b ≡ is_last planes.size (number * ctus planes.size.w + n) → number * ctus planes.size.w + (n + 1) < ctus planes.size.w * ctus planes.size.h → IsOpen (phase_after Terminate b)
  open_if n false e more = tt
  open_if n true e more = absurd (let k = eqb-true _ _ (sym e) in omega arith)

  -- one more unit is coded
  pub coded_more : (grid : Option Cells) (used next : Cells) (coder mid new : State) (n ctu : ℕ) (leaves : List Leaf) (last : Bool) → n < ctus planes.size.w → ctu ≡ number * ctus planes.size.w + n
      → leaves ≡ get_or plans n [] → last ≡ is_last planes.size ctu → IsCoded planes kind number above plans inherited grid coder n
      → IsKept planes.size (above ++ joined (take n plans)) n (Some used) → next.size ≡ used.size
      → ((before : List Leaf) → StandsFor used before → Grew (ctu_items (leaf_units kind source) planes.size before leaves ctu) (stands_for coder) (stands_for mid))
      → Grew (terminate_bin last ∷ []) (stands_for mid) (stands_for new)
      → phase_of new ≡ phase_after Terminate last
      → ((before : List Leaf) → StandsFor used before → StandsFor next (before ++ leaves))
      → IsCoded planes kind number above plans inherited (Some next) new (n + 1)
  coded_more grid used next coder mid new n ctu leaves last less place here is so kept size taken flag phase set =
      let at : last ≡ is_last planes.size (number * ctus planes.size.w + n) = is ∙ ap (is_last planes.size) place in
      let before : List Leaf = above ++ joined (take n plans) in
      let list : List Item = ctu_items (leaf_units kind source) planes.size before leaves ctu in
      record {
        within = omega arith;
        units = so.units;
        kept = (size ∙ kept.0, subst (StandsFor next) (one_leaf_list n leaves here) (set before kept.1));
        coder_is = subst (λ (l : List Item). stands_for new l first) (one_list n ctu leaves last here place is) (flag.from (so_far n ++ list) first ((taken before kept.1).from (so_far n) first so.coder_is));
        is_open = λ more. open_as (phase_of new) (phase_after Terminate last) phase (open_if n last at more);
        ended = λ all. phase ∙ ap (phase_after Terminate) (at ∙ eq-eqb _ _ (let a = all in omega arith));
      }

  -- the grid for the next unit: the one that was kept, or else one of the row above
  pub kept_for : (kept : Option Cells) (grid : Cells) (n : ℕ) → IsKept planes.size (above ++ joined (take n plans)) n kept → (kept ≡ None → (grid.size ≡ planes.size) × StandsFor grid above)
      → ((before : Cells) → kept ≡ Some before → grid ≡ before) → IsKept planes.size (above ++ joined (take n plans)) n (Some grid)
  kept_for None grid n so made same =
      let new = made refl in
      (new.0, subst (StandsFor grid) (sym (append-nil above) ∙ ap (λ (k : ℕ). above ++ joined (take k plans)) (sym so)) new.1)
  kept_for (Some before) grid n so made same = subst (λ (g : Cells). IsKept planes.size (above ++ joined (take n plans)) n (Some g)) (sym (same before refl)) so

  -- nothing is coded yet
  pub coded_none : (grid : Option Cells) (coder : State) → 0 < ctus planes.size.w → number < ctus planes.size.h → AllByRecursion (IsUnit planes.size) above
      → IsKept planes.size (above ++ joined (take 0 plans)) 0 grid → stands_for coder [] first → IsOpen (phase_of coder)
      → IsCoded planes kind number above plans inherited grid coder 0
  coded_none grid coder some less units kept from open_now = record {
    within = omega arith;
    units = units;
    kept = kept;
    coder_is = subst (λ (l : List Item). stands_for coder l first) (sym (no_ctus kind planes.size source above plans number)) from;
    is_open = λ more. open_now;
    ended = λ all. absurd (let k : number * ctus planes.size.w + 0 < ctus planes.size.w * ctus planes.size.h = in_picture number 0 (ctus planes.size.w) (ctus planes.size.h) less some in omega arith);
  }

  -- the end of a row that isn't the last
  pub row_ended : (grid : Option Cells) (coder new : State) (n : ℕ) (bytes : List ℕ) → n ≡ ctus planes.size.w → IsCoded planes kind number above plans inherited grid coder n → (number + 1 == ctus planes.size.h) ≡ false
      → Grew (terminate_bin true ∷ []) (stands_for coder) (stands_for new) → ((list : List Item) (contexts : List ℕ) → stands_for new list contexts → bytes ≡ code list contexts)
      → bytes ≡ code (whole_row kind planes.size source above plans number) first
  row_ended grid coder new n bytes all so more flag f =
      f (so_far n ++ terminate_bin true ∷ []) first (flag.from (so_far n) first so.coder_is)
      ∙ ap (λ (l : List Item). code l first) (ap (λ (k : ℕ). so_far k ++ terminate_bin true ∷ []) all
      ∙ ap (λ (l : List Item). so_far (ctus planes.size.w) ++ l) (sym (cond-false (number + 1 == ctus planes.size.h) _ _ more)))

  -- the end of the last row
  pub slice_ended : (grid : Option Cells) (coder : State) (n : ℕ) (bytes : List ℕ) → n ≡ ctus planes.size.w → IsCoded planes kind number above plans inherited grid coder n → (number + 1 == ctus planes.size.h) ≡ true
      → ((list : List Item) (contexts : List ℕ) → stands_for coder list contexts → bytes ≡ code list contexts)
      → bytes ≡ code (whole_row kind planes.size source above plans number) first
  slice_ended grid coder n bytes all so last f =
      f (so_far n) first so.coder_is
      ∙ ap (λ (l : List Item). code l first) (ap (λ (k : ℕ). so_far k) all
      ∙ (sym (append-nil (so_far (ctus planes.size.w))) ∙ ap (λ (l : List Item). so_far (ctus planes.size.w) ++ l) (sym (cond-true (number + 1 == ctus planes.size.h) _ _ last))))

  -- the phase at the end of a row
  pub last_phase : (grid : Option Cells) (coder : State) (n : ℕ) → n ≡ ctus planes.size.w → IsCoded planes kind number above plans inherited grid coder n → (number + 1 == ctus planes.size.h) ≡ true → phase_of coder ≡ Ended
  last_phase grid coder n all so last =
      let h : number + 1 ≡ ctus planes.size.h = eqb-true _ _ last in
      so.ended (whole n (ctus planes.size.w) (ctus planes.size.h) all h)
    where
      whole : (n w h : ℕ) → n ≡ w → number + 1 ≡ h → number * w + n ≡ w * h
      whole n w h a b = rw (a, ← b) (omega arith)

  pub open_phase : (grid : Option Cells) (coder : State) (n : ℕ) → 0 < ctus planes.size.w → number < ctus planes.size.h → n ≡ ctus planes.size.w → IsCoded planes kind number above plans inherited grid coder n
      → (number + 1 == ctus planes.size.h) ≡ false → IsOpen (phase_of coder)
  open_phase grid coder n some less all so more =
      let ne = eqb-false _ _ more in
      let lower : number + 1 < ctus planes.size.h = strict (number + 1) (ctus planes.size.h) (omega arith) ne in
      let k : (number + 1) * ctus planes.size.w + 0 < ctus planes.size.w * ctus planes.size.h = in_picture (number + 1) 0 (ctus planes.size.w) (ctus planes.size.h) lower some in
      so.is_open (omega arith)
    where
      strict : (a b : ℕ) → a ≤ b → (a ≡ b → ⊥) → a < b
      strict a b h f = ⊎_elim (λ k. k) (λ k. absurd (f (omega arith))) (cases_lt a b)

  -- contexts after the second unit
  pub second_contexts : (grid : Option Cells) (coder : State) (o : Option ℕ) (contexts : List ℕ) → IsUnderWay planes kind number above plans inherited grid coder o → coded_of o ≡ 2
      → ((list : List Item) (from : List ℕ) → stands_for coder list from → contexts ≡ contexts_after list from) → contexts ≡ contexts_after (so_far 2) first
  second_contexts grid coder None contexts so two f = absurd (omega arith)
  second_contexts grid coder (Some n) contexts so two f = f (so_far 2) first (subst (λ (k : ℕ). stands_for coder (so_far k) first) two so.coder_is)

  -- all units
  pub all_coded : (grid : Option Cells) (coder : State) (o : Option ℕ) → IsUnderWay planes kind number above plans inherited grid coder o → coded_of o ≡ ctus planes.size.w → ctus planes.size.w ≤ 128
      → IsCoded planes kind number above plans inherited grid coder (ctus planes.size.w)
  all_coded grid coder None so all few = absurd (omega arith)
  all_coded grid coder (Some n) so all few = subst (λ (k : ℕ). IsCoded planes kind number above plans inherited grid coder k) all so

all-append : {A : Type 0} (T : A → Type 0) (xs ys : List A) → AllByRecursion T xs → AllByRecursion T ys → AllByRecursion T (xs ++ ys)
all-append T [] ys all more = more
all-append T (x ∷ xs) ys all more = (all.0, all-append T xs ys all.1 more)

-- some more were added, or none
added_all : {A : Type 0} (T : A → Type 0) (xs ys more : List A) (added : Bool) → more ≡ (if added then xs ++ ys else xs) → AllByRecursion T xs → AllByRecursion T ys → AllByRecursion T more
added_all T xs ys more true e all new = subst (AllByRecursion T) (sym e) (all-append T xs ys all new)
added_all T xs ys more false e all new = subst (AllByRecursion T) (sym e) all

-- leaves of the row above are added to a row without a grid, or none are
pub above_added : (planes : Planes) (kind : SliceKind) (number : ℕ) (above leaves more : List Leaf) (added : Bool) (plans : List (List Leaf)) (inherited : Option (List ℕ)) (grid : Option Cells) (coder : State) → 0 < ctus planes.size.w → number < ctus planes.size.h
    → IsCoded planes kind number above plans inherited grid coder 0 → grid ≡ None → more ≡ (if added then above ++ leaves else above) → AllByRecursion (IsUnit planes.size) leaves
    → IsCoded planes kind number more plans inherited grid coder 0
above_added planes kind number above leaves more added plans inherited grid coder some less so bare e units =
    coded_none planes kind number more plans inherited grid coder some less
    (added_all (IsUnit planes.size) above leaves more added e so.units units)
    (subst (λ (g : Option Cells). IsKept planes.size (more ++ joined (take 0 plans)) 0 g) (sym bare) refl)
    (subst (λ (l : List Item). stands_for coder l (first_contexts kind (ctus planes.size.w) number inherited)) (no_ctus kind planes.size (picture_source planes.size (picture_of planes)) above plans number) so.coder_is)
    (so.is_open (in_picture number 0 (ctus planes.size.w) (ctus planes.size.h) less some))

-- a row of which nothing is coded begins with other contexts
pub begun_with : (planes : Planes) (kind : SliceKind) (number : ℕ) (above : List Leaf) (plans : List (List Leaf)) (old inherited : Option (List ℕ)) (grid : Option Cells) (coder new : State) → 0 < ctus planes.size.w → number < ctus planes.size.h
    → IsCoded planes kind number above plans old grid coder 0 → (contexts : List ℕ) → contexts ≡ first_contexts kind (ctus planes.size.w) number inherited → stands_for new [] contexts → phase_of new ≡ Plain
    → IsCoded planes kind number above plans inherited grid new 0
begun_with planes kind number above plans old inherited grid coder new some less so contexts e from phase =
    coded_none planes kind number above plans inherited grid new some less so.units so.kept (subst (λ (l : List ℕ). stands_for new [] l) e from) (open_as (phase_of new) Plain phase tt)

-- ---- what a call is asked

pub unit_left : (o : Option ℕ) (n : ℕ) (lists : List (ArrayVec Leaf)) → o ≡ Some n → coded_of o < length (leaves_of lists) → n < length lists
unit_left o n lists e h = let k : n < length (leaves_of lists) = subst (λ (p : Option ℕ). coded_of p < length (leaves_of lists)) e h in let l = length_leaves lists in omega arith

pub tree_as : (a b : Size) (i j : ℕ) (l m : List Leaf) → a ≡ b → i ≡ j → l ≡ m → IsLawfulTree b j m → IsLawfulTree a i l
tree_as a b i j l m e f g t = subst (λ (z : Size). IsLawfulTree z i l) (sym e) (subst (λ (k : ℕ). IsLawfulTree b k l) (sym f) (subst (λ (x : List Leaf). IsLawfulTree b j x) (sym g) t))

pub taken_as : (kind : SliceKind) (a b : Size) (p q : Planes) (before leaves : List Leaf) (ctu : ℕ) (x y : Meaning) → a ≡ b → p ≡ q
    → Grew (ctu_items (leaf_units kind (picture_source p.size (picture_of p))) a before leaves ctu) x y → Grew (ctu_items (leaf_units kind (picture_source q.size (picture_of q))) b before leaves ctu) x y
taken_as kind a b p q before leaves ctu x y e f g =
    subst (λ (z : Planes). Grew (ctu_items (leaf_units kind (picture_source z.size (picture_of z))) b before leaves ctu) x y) f
    (subst (λ (z : Size). Grew (ctu_items (leaf_units kind (picture_source p.size (picture_of p))) z before leaves ctu) x y) e g)

pub last_is : (ctu a b : ℕ) (size : Size) → a ≡ ctus size.w → b ≡ ctus size.h → (ctu + 1 == a * b) ≡ is_last size ctu
last_is ctu a b size e f = rw (e, f) refl

pub in_tiles : (a : Size) (b : Size) (i j : ℕ) → a ≡ b → i ≡ j → j < tile_count b → i < tile_count a
in_tiles a b i j e f h = subst (λ (z : Size). i < tile_count z) (sym e) (subst (λ (k : ℕ). k < tile_count b) (sym f) h)
