-- Units, read part by part, and what is done with them.
use Rattle.std.proofs.Common.{◌≡◌, refl, sym, ◌∙◌, ap, subst, ℕ, Bool, true, false, Some, None, Option, List, [], ◌∷◌, ◌++◌}
use Rattle.std.specs.Prelude.{ℤ, if◌then◌else◌, ◌&&◌, IfSome, ◌^◌}
use Rattle.std.specs.Bool.{beq}
use Rattle.std.proofs.lemmas.List.{map-append}
use Rattle.h265_model.specs.declared.Place.TheVariants.{Context}
use Rattle.h265_model.specs.declared.leaf.SliceKind.{SliceKind}
use Rattle.h265_model.specs.declared.leaf.SliceKind.TheVariants.{P}
use Rattle.h265_model.specs.declared.leaf.Leaf.{Leaf}
use Rattle.h265_model.specs.declared.moves.Vector.{Vector}
use Rattle.h265_model.proofs.ListParts.{all_append}
use Rattle.h265_model.specs.Bits.{◌>>=◌ as and_then}
use Rattle.h265_model.specs.Engine.{Engine, Reader, context_read, give, refuse}
use Rattle.h265_model.specs.Plain.{block_at, Size, coded, leaf_with}
use Rattle.h265_model.specs.Motion.{Moving, leaves, merge, predictors, vector_read, has_source, reaches}
use Rattle.h265_model.specs.Tree.{Content, Copied, Moved, ReadUnit, expect, skip_read, coded_read, own_read, move_read, coding_unit_read, is_in_picture, vector_of, IsMode, AreModes, unit_with, leaf_of, moving_of, units_after}
use Rattle.leaf_sink.specs.Units.{unit}
use Rattle.pu_code.specs.Cells.{StandsFor}
use Rattle.pu_code.specs.Cells as modes
use Rattle.motion_grid.specs.Cells.{HasMotion, coded_unit}
use Rattle.motion_grid.specs.Cells as motions
use Rattle.residual_read.proofs.Steps.{then_some, then_none}
use Rattle.unit_read.specs.Units.{kept_of, placed, placed_after, rest_read, Hands, Takes, AreKept, AreTaken}
use Rattle.unit_read.specs.declared.kept.Kept.{Kept}

-- ---- copies

abbrev place_then : Size → ℕ → ℕ → ℕ → Content × Engine → Option (Content × Engine)
place_then size x y log2 found = placed size (block_at x y log2) found.0 found.1

pub placed_there : (size : Size) (x y log2 : ℕ) (content : Content) (v : Vector) (e : Engine) → vector_of content ≡ Some v → has_source size (block_at x y log2) v ≡ true → placed size (block_at x y log2) content e ≡ Some (content, e)
placed_there size x y log2 content v e h i = go (is_in_picture size (block_at x y log2) (vector_of content)) (ap (is_in_picture size (block_at x y log2)) h ∙ i)
  where
    go : (b : Bool) → b ≡ true → (if b then give content else refuse) e ≡ Some (content, e)
    go b h = rw h refl

pub source_is : (size : Size) (x y log2 wide tall n : ℕ) (v : Vector) (vx vy : ℤ) (a b : Bool) → wide ≡ coded size.w → tall ≡ coded size.h → n ≡ 2 ^ log2 → vx ≡ v.x → vy ≡ v.y
    → a ≡ reaches wide n x vx → b ≡ reaches tall n y vy → (a && b) ≡ has_source size (block_at x y log2) v
unfolding has_source
source_is size x y log2 wide tall n v vx vy a b hw ht hn hx hy ha hb = rw (ha, hb, hw, ht, hn, hx, hy) refl

pub placed_outside : (size : Size) (x y log2 : ℕ) (content : Content) (v : Vector) (e : Engine) → vector_of content ≡ Some v → has_source size (block_at x y log2) v ≡ false → placed size (block_at x y log2) content e ≡ None
placed_outside size x y log2 content v e h i = go (is_in_picture size (block_at x y log2) (vector_of content)) (ap (is_in_picture size (block_at x y log2)) h ∙ i)
  where
    go : (b : Bool) → b ≡ false → (if b then give content else refuse) e ≡ None
    go b h = rw h refl

-- a moved unit's flags and vector
abbrev pub end_then : Vector × Engine → Option (Content × Engine)
end_then found = expect (Context 129) false (give (Moved found.0)) found.1

abbrev pub vector_then : Vector × Vector → Reader Content
vector_then both e = and_then (vector_read both e) end_then

abbrev pub merge_then : Vector × Vector → Reader Content
merge_then both = expect (Context 125) false (vector_then both)

pub move_open : (before : List Moving) (x y log2 : ℕ) (both : Vector × Vector) (e : Engine) → both ≡ predictors before (block_at x y log2) → move_read before (block_at x y log2) e ≡ expect (Context 8) true (merge_then both) e
move_open before x y log2 both e h = ap (λ (ps : Vector × Vector). expect (Context 8) true (merge_then ps) e) (sym h)

pub moved_none : (size : Size) (before : List Moving) (x y log2 : ℕ) (e : Engine) → move_read before (block_at x y log2) e ≡ None → placed_after (move_read before (block_at x y log2)) size (block_at x y log2) e ≡ None
moved_none size before x y log2 e h = then_none (move_read before (block_at x y log2) e) (place_then size x y log2) h

pub moved_some : (size : Size) (before : List Moving) (x y log2 : ℕ) (content : Content) (e d : Engine) → move_read before (block_at x y log2) e ≡ Some (content, d) → placed_after (move_read before (block_at x y log2)) size (block_at x y log2) e ≡ placed size (block_at x y log2) content d
moved_some size before x y log2 content e d h = then_some (move_read before (block_at x y log2) e) (content, d) (place_then size x y log2) h

-- ---- units that aren't copied

place_still : (size : Size) (x y log2 : ℕ) (content : Content) (d : Engine) → vector_of content ≡ None → placed size (block_at x y log2) content d ≡ Some (content, d)
place_still size x y log2 content d h = go (is_in_picture size (block_at x y log2) (vector_of content)) (ap (is_in_picture size (block_at x y log2)) h)
  where
    go : (b : Bool) → b ≡ true → (if b then give content else refuse) d ≡ Some (content, d)
    go b h = rw h refl

pub still : (r : Option Kept) (read : Reader Content) (size : Size) (x y log2 : ℕ) (e new : Engine) (Holds : Content → Type 0) → IfSome r (λ (kept : Kept). kept.vector ≡ None)
    → Hands r (read e) new Holds → Hands r (placed_after read size (block_at x y log2) e) new Holds
still None read size x y log2 e new Holds h hands = then_none (read e) (place_then size x y log2) hands
still (Some kept) read size x y log2 e new Holds h (content, is, done, holds) =
    (content, is, then_some (read e) (content, new) (place_then size x y log2) done ∙ place_still size x y log2 content new (sym (ap (λ (k : Kept). k.vector) is) ∙ h), holds)

-- ---- P slices

abbrev mode_then : List Moving → ℕ → ℕ → ℕ → Bool × Engine → Option (Content × Engine)
mode_then before x y log2 found = (if found.0 then own_read before (block_at x y log2) else move_read before (block_at x y log2)) found.1

inter_of : (before : List Moving) (x y log2 : ℕ) (b : Bool) (e d : Engine) → context_read 7 e ≡ Some (b, d) → coded_read P before (block_at x y log2) e ≡ (if b then own_read before (block_at x y log2) else move_read before (block_at x y log2)) d
inter_of before x y log2 b e d h = then_some (context_read 7 e) (b, d) (mode_then before x y log2) h

pub inter_none : (size : Size) (before : List Moving) (x y log2 : ℕ) (e : Engine) → context_read 7 e ≡ None → placed_after (coded_read P before (block_at x y log2)) size (block_at x y log2) e ≡ None
inter_none size before x y log2 e h = then_none (coded_read P before (block_at x y log2) e) (place_then size x y log2) (then_none (context_read 7 e) (mode_then before x y log2) h)

pub inter_own : (size : Size) (before : List Moving) (x y log2 : ℕ) (e d : Engine) → context_read 7 e ≡ Some (true, d) → placed_after (own_read before (block_at x y log2)) size (block_at x y log2) d ≡ placed_after (coded_read P before (block_at x y log2)) size (block_at x y log2) e
inter_own size before x y log2 e d h = ap (λ (o : Option (Content × Engine)). and_then o (place_then size x y log2)) (sym (inter_of before x y log2 true e d h))

pub inter_moved : (size : Size) (before : List Moving) (x y log2 : ℕ) (e d : Engine) → context_read 7 e ≡ Some (false, d) → placed_after (move_read before (block_at x y log2)) size (block_at x y log2) d ≡ placed_after (coded_read P before (block_at x y log2)) size (block_at x y log2) e
inter_moved size before x y log2 e d h = ap (λ (o : Option (Content × Engine)). and_then o (place_then size x y log2)) (sym (inter_of before x y log2 false e d h))

-- ---- from cu_skip_flag on

abbrev rest_then : SliceKind → Size → List Moving → ℕ → ℕ → ℕ → Bool × Engine → Option (Content × Engine)
rest_then kind size before x y log2 found = (if found.0 then placed size (block_at x y log2) (Copied (merge before (block_at x y log2))) else placed_after (coded_read kind before (block_at x y log2)) size (block_at x y log2)) found.1

rest_open : (kind : SliceKind) (size : Size) (before : List Moving) (x y log2 : ℕ) (e : Engine) → rest_read kind size before (block_at x y log2) e ≡ and_then (skip_read kind (leaves before) x y e) (rest_then kind size before x y log2)
unfolding rest_read
rest_open kind size before x y log2 e = refl

pub rest_none : (kind : SliceKind) (size : Size) (before : List Moving) (x y log2 : ℕ) (e : Engine) → skip_read kind (leaves before) x y e ≡ None → rest_read kind size before (block_at x y log2) e ≡ None
rest_none kind size before x y log2 e h = rest_open kind size before x y log2 e ∙ then_none (skip_read kind (leaves before) x y e) (rest_then kind size before x y log2) h

pub rest_copied : (kind : SliceKind) (size : Size) (before : List Moving) (x y log2 : ℕ) (v : Vector) (e d : Engine) → skip_read kind (leaves before) x y e ≡ Some (true, d) → v ≡ merge before (block_at x y log2)
    → placed size (block_at x y log2) (Copied v) d ≡ rest_read kind size before (block_at x y log2) e
rest_copied kind size before x y log2 v e d h is =
    ap (λ (w : Vector). placed size (block_at x y log2) (Copied w) d) is ∙ sym (rest_open kind size before x y log2 e ∙ then_some (skip_read kind (leaves before) x y e) (true, d) (rest_then kind size before x y log2) h)

pub rest_coded : (kind : SliceKind) (size : Size) (before : List Moving) (x y log2 : ℕ) (e d : Engine) → skip_read kind (leaves before) x y e ≡ Some (false, d)
    → placed_after (coded_read kind before (block_at x y log2)) size (block_at x y log2) d ≡ rest_read kind size before (block_at x y log2) e
rest_coded kind size before x y log2 e d h = sym (rest_open kind size before x y log2 e ∙ then_some (skip_read kind (leaves before) x y e) (false, d) (rest_then kind size before x y log2) h)

-- ---- the unit

abbrev listed : ℕ → ℕ → ℕ → Content × Engine → Option (List ReadUnit × Engine)
listed x y log2 found = Some (unit (block_at x y log2) found.0 ∷ [], found.1)

list_by : (x y log2 : ℕ) (content : Content) (e : Engine) (b : Bool)
    → (if b then give (unit (block_at x y log2) content ∷ []) else refuse) e ≡ and_then ((if b then give content else refuse) e) (listed x y log2)
list_by x y log2 content e true = refl
list_by x y log2 content e false = refl

listed_unit : (size : Size) (x y log2 : ℕ) (content : Content) (e : Engine) → unit_with size (block_at x y log2) content e ≡ and_then (placed size (block_at x y log2) content e) (listed x y log2)
listed_unit size x y log2 content e = list_by x y log2 content e (is_in_picture size (block_at x y log2) (vector_of content))

listed_after : (size : Size) (x y log2 : ℕ) (o : Option (Content × Engine))
    → and_then o (λ found. unit_with size (block_at x y log2) found.0 found.1) ≡ and_then (and_then o (place_then size x y log2)) (listed x y log2)
listed_after size x y log2 None = refl
listed_after size x y log2 (Some (content, d)) = listed_unit size x y log2 content d

abbrev skipped_then : SliceKind → Size → List Moving → ℕ → ℕ → ℕ → Bool × Engine → Option (List ReadUnit × Engine)
skipped_then kind size before x y log2 found =
    and_then ((if found.0 then give (Copied (merge before (block_at x y log2))) else coded_read kind before (block_at x y log2)) found.1) (λ found. unit_with size (block_at x y log2) found.0 found.1)

listed_rest : (kind : SliceKind) (size : Size) (before : List Moving) (x y log2 : ℕ) (o : Option (Bool × Engine))
    → and_then o (skipped_then kind size before x y log2) ≡ and_then (and_then o (rest_then kind size before x y log2)) (listed x y log2)
listed_rest kind size before x y log2 None = refl
listed_rest kind size before x y log2 (Some (true, d)) = listed_unit size x y log2 (Copied (merge before (block_at x y log2))) d
listed_rest kind size before x y log2 (Some (false, d)) = listed_after size x y log2 (coded_read kind before (block_at x y log2) d)

bypassed : (read : Reader (List ReadUnit)) (rest : Reader Content) (x y log2 : ℕ) (o : Option (Bool × Engine)) → ((d : Engine) → read d ≡ and_then (rest d) (listed x y log2))
    → and_then o (λ found. (if beq found.0 true then read else refuse) found.1) ≡ and_then (and_then o (λ found. (if beq found.0 true then rest else refuse) found.1)) (listed x y log2)
bypassed read rest x y log2 None h = refl
bypassed read rest x y log2 (Some (true, d)) h = h d
bypassed read rest x y log2 (Some (false, d)) h = refl

pub unit_open : (kind : SliceKind) (size : Size) (before : List Moving) (x y log2 : ℕ) (e : Engine)
    → coding_unit_read kind size before (block_at x y log2) e ≡ and_then (expect (Context 0) true (rest_read kind size before (block_at x y log2)) e) (listed x y log2)
unfolding coding_unit_read
unit_open kind size before x y log2 e = bypassed _ (rest_read kind size before (block_at x y log2)) x y log2 (context_read 0 e)
    (λ d. listed_rest kind size before x y log2 (skip_read kind (leaves before) x y d) ∙ ap (λ (o : Option (Content × Engine)). and_then o (listed x y log2)) (sym (rest_open kind size before x y log2 d)))

pub unit_none : (kind : SliceKind) (size : Size) (before : List Moving) (x y log2 : ℕ) (e : Engine) → expect (Context 0) true (rest_read kind size before (block_at x y log2)) e ≡ None → coding_unit_read kind size before (block_at x y log2) e ≡ None
unit_none kind size before x y log2 e h = unit_open kind size before x y log2 e ∙ then_none _ (listed x y log2) h

pub unit_some : (kind : SliceKind) (size : Size) (before : List Moving) (x y log2 : ℕ) (content : Content) (e d : Engine) → expect (Context 0) true (rest_read kind size before (block_at x y log2)) e ≡ Some (content, d)
    → coding_unit_read kind size before (block_at x y log2) e ≡ Some (unit (block_at x y log2) content ∷ [], d)
unit_some kind size before x y log2 content e d h = unit_open kind size before x y log2 e ∙ then_some _ (content, d) (listed x y log2) h

-- ---- what is done with it

kept_leaf : (before : List Moving) (u : ReadUnit) → leaves (units_after before (u ∷ [])) ≡ leaves before ++ leaf_of u ∷ []
kept_leaf before u = map-append (λ (unit : Moving). unit.leaf) before (moving_of u ∷ [])

pub kept_after : (cells : modes.Cells) (motions : motions.Cells) (before : List Moving) (x y log2 : ℕ) (content : Content) (kept : Kept) → kept ≡ kept_of content → AreModes (leaves before) → IsMode kept.kind
    → StandsFor cells (leaves before ++ leaf_with (block_at x y log2) kept.kind ∷ []) → HasMotion motions (before ++ coded_unit (block_at x y log2) kept.kind kept.vector ∷ []) → AreKept cells motions (units_after before (unit (block_at x y log2) content ∷ []))
kept_after cells motions before x y log2 content kept is modes mode stands has = record {
  modes = subst (λ (l : List Leaf). StandsFor cells l) (ap (λ (k : Kept). leaves before ++ leaf_with (block_at x y log2) k.kind ∷ []) is ∙ sym (kept_leaf before (unit (block_at x y log2) content))) stands;
  vectors = subst (λ (k : Kept). HasMotion motions (before ++ coded_unit (block_at x y log2) k.kind k.vector ∷ [])) is has;
  lawful = subst (λ (l : List Leaf). AreModes l) (ap (λ (k : Kept). leaves before ++ leaf_with (block_at x y log2) k.kind ∷ []) is ∙ sym (kept_leaf before (unit (block_at x y log2) content)))
      (all_append (λ (leaf : Leaf). IsMode leaf.kind) (leaves before) (leaf_with (block_at x y log2) kept.kind ∷ []) modes (mode, tt));
}

pub unit_taken : (kind : SliceKind) (size : Size) (before : List Moving) (x y log2 : ℕ) (kept : Kept) (e d new : Engine) (stood stands : List ReadUnit → Type 0) (cells : modes.Cells) (motions : motions.Cells)
    → ((after : Reader Content) → expect (Context 0) true after e ≡ after d) → Hands (Some kept) (rest_read kind size before (block_at x y log2) d) new (Takes stood stands size (block_at x y log2)) → AreModes (leaves before) → IsMode kept.kind
    → StandsFor cells (leaves before ++ leaf_with (block_at x y log2) kept.kind ∷ []) → HasMotion motions (before ++ coded_unit (block_at x y log2) kept.kind kept.vector ∷ [])
    → (units : List ReadUnit) × (coding_unit_read kind size before (block_at x y log2) e ≡ Some (units, new)) × AreTaken stood stands size x y cells motions before units
unit_taken kind size before x y log2 kept e d new stood stands cells motions passed (content, is, done, takes) modes mode stands_for has = (
  unit (block_at x y log2) content ∷ [],
  unit_some kind size before x y log2 content e new (passed (rest_read kind size before (block_at x y log2)) ∙ done),
  record {
    taken = takes;
    kept = kept_after cells motions before x y log2 content kept is modes mode stands_for has;
  },
)

pub hands_as : (r : Option Kept) (read other : Option (Content × Engine)) (new : Engine) (Holds : Content → Type 0) → read ≡ other → Hands r read new Holds → Hands r other new Holds
hands_as r read other new Holds h hands = subst (λ (o : Option (Content × Engine)). Hands r o new Holds) h hands
