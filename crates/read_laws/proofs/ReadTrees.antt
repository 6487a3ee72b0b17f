-- The units that are read of a coding tree unit are a lawful tree.
use Rattle.std.proofs.Common.{◌≡◌, refl, sym, ◌∙◌, ap, subst, ℕ, zero, suc, ◌+◌, ◌*◌, ◌^◌, ◌<◌, List, [], ◌∷◌, ◌++◌, Bool, true, false, cond, not, map, inl, inr}
use Rattle.std.specs.Prelude.{None, MatchBool, ◌⊎◌, ◌==◌}
use Rattle.std.specs.List.{AllByRecursion}
use Rattle.h265_model.specs.declared.Place.TheVariants.{Context, Terminate}
use Rattle.h265_model.specs.declared.leaf.SliceKind.{SliceKind}
use Rattle.h265_model.specs.declared.leaf.SliceKind.TheVariants.{I, P}
use Rattle.h265_model.specs.declared.leaf.Leaf.{Leaf}
use Rattle.h265_model.specs.Plain.{block_at, Size, ctu_x, ctu_y}
use Rattle.h265_model.specs.Engine.{Reader, ◌>>=◌, give, refuse, bin, samples}
use Rattle.h265_model.specs.Predict.{is_inside}
use Rattle.h265_model.specs.Modes.{mode_read}
use Rattle.h265_model.specs.Tree.{IsTree, IsCodingUnit, AreQuarters, IsMode, AreModes, is_whole, split_context, candidates_at, expect, thirds, component_read, skip_read}
use Rattle.h265_model.specs.Motion.{Moving, leaves, merge, predictors, vector_read}
use Rattle.h265_model.specs.Tree.{ReadUnit, Content, Copied, Moved, Samples, Levels, kind_of, vector_of, leaf_of, moving_of, units_after, intra_read, pcm_read, content_read, own_read, move_read, coded_read, is_in_picture, unit_with, coding_unit_read, quarters_read, tree_read, ctu_read}
use Rattle.h265_model.proofs.Candidates.{candidates_at_are}
use Rattle.h265_model.proofs.ListParts.{all_append}
use Rattle.read_laws.specs.Laws.{IsNoCopy, IsSound, EachReadTreeIsLawful}
use Rattle.read_laws.proofs.Yields.{Yields, yields_any, yields_give, yields_refuse, yields_more, yields_bind, yields_after, yields_cond, yields_expect, yields_mode}

-- ---- contents

-- what is read of a unit, but for its source
pub record IsSoundContent (kind : SliceKind) (c : Content) : Type 0 where
  copies : IsNoCopy kind (vector_of c)
  mode : IsMode (kind_of c)

no_copy : (kind : SliceKind) → IsNoCopy kind None
no_copy I = refl
no_copy P = tt

yields_intra : (kind : SliceKind) (before : List Moving) (x y log2 : ℕ) → AreModes (leaves before) → Yields (IsSoundContent kind) (intra_read before (block_at x y log2))
yields_intra kind before x y log2 modes =
    yields_bind (λ m. m < 35) (IsSoundContent kind) (mode_read (candidates_at (leaves before) x y)) _ (yields_mode (candidates_at (leaves before) x y) (candidates_at_are (leaves before) x y modes)) (λ mode h.
    yields_expect (IsSoundContent kind) (Context 10) false _
    (yields_after (IsSoundContent kind) (bin (Context 12)) _ (λ cb.
    yields_after (IsSoundContent kind) (bin (Context 12)) _ (λ cr.
    yields_after (IsSoundContent kind) (bin (Context 11)) _ (λ luma.
    yields_after (IsSoundContent kind) (component_read log2 mode 0 luma) _ (λ first.
    yields_after (IsSoundContent kind) (component_read log2 mode 1 cb) _ (λ second.
    yields_after (IsSoundContent kind) (component_read log2 mode 2 cr) _ (λ third.
    yields_give (IsSoundContent kind) (Levels mode (first ∷ second ∷ third ∷ [])) (record { copies = no_copy kind; mode = h })))))))))

yields_content : (kind : SliceKind) (before : List Moving) (x y log2 : ℕ) → AreModes (leaves before) → Yields (IsSoundContent kind) (content_read before (block_at x y log2))
yields_content kind before x y log2 modes =
    let n : ℕ = 2 ^ log2 * 2 ^ log2 in
    yields_after (IsSoundContent kind) (bin Terminate) _ (λ pcm.
    yields_cond (IsSoundContent kind) pcm (pcm_read n) (intra_read before (block_at x y log2))
    (yields_after (IsSoundContent kind) (samples (n + n + n)) _ (λ list. yields_give (IsSoundContent kind) (Samples (thirds n list)) (record { copies = no_copy kind; mode = tt })))
    (yields_intra kind before x y log2 modes))

yields_own : (kind : SliceKind) (before : List Moving) (x y log2 : ℕ) → AreModes (leaves before) → Yields (IsSoundContent kind) (own_read before (block_at x y log2))
yields_own kind before x y log2 modes =
    yields_cond (IsSoundContent kind) (log2 == 3) (expect (Context 8) true (content_read before (block_at x y log2))) (content_read before (block_at x y log2))
    (yields_expect (IsSoundContent kind) (Context 8) true _ (yields_content kind before x y log2 modes)) (yields_content kind before x y log2 modes)

yields_move : (before : List Moving) (x y log2 : ℕ) → Yields (IsSoundContent P) (move_read before (block_at x y log2))
yields_move before x y log2 =
    yields_expect (IsSoundContent P) (Context 8) true _ (yields_expect (IsSoundContent P) (Context 125) false _
    (yields_after (IsSoundContent P) (vector_read (predictors before (block_at x y log2))) _ (λ v.
    yields_expect (IsSoundContent P) (Context 129) false _ (yields_give (IsSoundContent P) (Moved v) (record { copies = tt; mode = tt })))))

yields_coded : (kind : SliceKind) (before : List Moving) (x y log2 : ℕ) → AreModes (leaves before) → Yields (IsSoundContent kind) (coded_read kind before (block_at x y log2))
yields_coded I before x y log2 modes = yields_own I before x y log2 modes
yields_coded P before x y log2 modes =
    yields_after (IsSoundContent P) (bin (Context 7)) _ (λ intra.
    yields_cond (IsSoundContent P) intra (own_read before (block_at x y log2)) (move_read before (block_at x y log2)) (yields_own P before x y log2 modes) (yields_move before x y log2))

-- ---- units

-- one unit, which is sound
record IsOneRead (kind : SliceKind) (size : Size) (x y log2 : ℕ) (us : List ReadUnit) : Type 0 where
  content : Content
  one : us ≡ record { block = block_at x y log2; content = content } ∷ []
  sound : IsSound kind size (record { block = block_at x y log2; content = content })

yields_with : (kind : SliceKind) (size : Size) (x y log2 : ℕ) (c : Content) → IsSoundContent kind c → Yields (IsOneRead kind size x y log2) (unit_with size (block_at x y log2) c)
yields_with kind size x y log2 c s = go (is_in_picture size (block_at x y log2) (vector_of c)) refl
  where
    unit : ReadUnit
    unit = record { block = block_at x y log2; content = c }

    go : (b : Bool) → is_in_picture size (block_at x y log2) (vector_of c) ≡ b → Yields (IsOneRead kind size x y log2) (cond b (give (unit ∷ [])) refuse)
    go true e = yields_give (IsOneRead kind size x y log2) (unit ∷ []) (record { content = c; one = refl; sound = record { copies = s.copies; mode = s.mode; source = e } })
    go false e = yields_refuse (IsOneRead kind size x y log2)

-- an I slice has no skips
abbrev IsSkip : SliceKind → Bool → Type 0
IsSkip I b = b ≡ false
IsSkip P b = Unit {0}

yields_skip : (kind : SliceKind) (before : List Moving) (x y : ℕ) → Yields (IsSkip kind) (skip_read kind (leaves before) x y)
yields_skip I before x y = yields_give (IsSkip I) false refl
yields_skip P before x y = yields_any (skip_read P (leaves before) x y)

yields_unit : (kind : SliceKind) (size : Size) (before : List Moving) (x y log2 : ℕ) → AreModes (leaves before) → Yields (IsOneRead kind size x y log2) (coding_unit_read kind size before (block_at x y log2))
unfolding coding_unit_read
yields_unit kind size before x y log2 modes =
    yields_expect (IsOneRead kind size x y log2) (Context 0) true _
    (yields_bind (IsSkip kind) (IsOneRead kind size x y log2) (skip_read kind (leaves before) x y) _ (yields_skip kind before x y) (λ skipped s.
    yields_bind (IsSoundContent kind) (IsOneRead kind size x y log2) (cond skipped (give (Copied (merge before (block_at x y log2)))) (coded_read kind before (block_at x y log2))) _
    (go kind skipped s)
    (λ c h. yields_with kind size x y log2 c h)))
  where
    go : (k : SliceKind) (b : Bool) → IsSkip k b → Yields (IsSoundContent k) (cond b (give (Copied (merge before (block_at x y log2)))) (coded_read k before (block_at x y log2)))
    go I true s = absurd (cc)
    go P true s = yields_give (IsSoundContent P) (Copied (merge before (block_at x y log2))) (record { copies = tt; mode = tt })
    go k false s = yields_coded k before x y log2 modes

-- ---- what stands before

leaves-append : (a b : List Moving) → leaves (a ++ b) ≡ leaves a ++ leaves b
leaves-append [] b = refl
leaves-append (u ∷ a) b = ap (λ (l : List Leaf). u.leaf ∷ l) (leaves-append a b)

leaves_read : (us : List ReadUnit) → leaves (map moving_of us) ≡ map leaf_of us
leaves_read [] = refl
leaves_read (u ∷ us) = ap (λ (l : List Leaf). leaf_of u ∷ l) (leaves_read us)

sound_modes : (kind : SliceKind) (size : Size) (us : List ReadUnit) → AllByRecursion (IsSound kind size) us → AreModes (map leaf_of us)
sound_modes kind size [] h = tt
sound_modes kind size (u ∷ us) h = (h.0.mode, sound_modes kind size us h.1)

pub modes_after : (kind : SliceKind) (size : Size) (before : List Moving) (us : List ReadUnit) → AreModes (leaves before) → AllByRecursion (IsSound kind size) us → AreModes (leaves (units_after before us))
modes_after kind size before us modes h =
    subst AreModes (sym (leaves-append before (map moving_of us) ∙ ap (λ (l : List Leaf). leaves before ++ l) (leaves_read us)))
    (all_append (λ leaf. IsMode leaf.kind) (leaves before) (map leaf_of us) modes (sound_modes kind size us h))

pub map-append : (a b : List ReadUnit) → map leaf_of (a ++ b) ≡ map leaf_of a ++ map leaf_of b
map-append [] b = refl
map-append (u ∷ a) b = ap (λ (l : List Leaf). leaf_of u ∷ l) (map-append a b)

-- ---- trees

-- a tree of sound units
abbrev pub IsReadTree : SliceKind → Size → ℕ → ℕ → ℕ → List ReadUnit → Type 0
IsReadTree kind size depth x y us = IsTree size depth x y (map leaf_of us) × AllByRecursion (IsSound kind size) us

one_leaf : (kind : SliceKind) (size : Size) (x y log2 : ℕ) (us : List ReadUnit) → IsOneRead kind size x y log2 us → IsCodingUnit (block_at x y log2) (map leaf_of us)
one_leaf kind size x y log2 us h = record { kind = kind_of h.content; one = ap (map leaf_of) h.one; mode = h.sound.mode }

one_sound : (kind : SliceKind) (size : Size) (x y log2 : ℕ) (us : List ReadUnit) → IsOneRead kind size x y log2 us → AllByRecursion (IsSound kind size) us
one_sound kind size x y log2 us h = subst (AllByRecursion (IsSound kind size)) (sym h.one) (h.sound, tt)

-- four trees in order
record AreReadQuarters (kind : SliceKind) (size : Size) (depth half x y : ℕ) (us : List ReadUnit) : Type 0 where
  quarters : AreQuarters (IsTree size depth) half x y (map leaf_of us)
  sound : AllByRecursion (IsSound kind size) us

yields_quarters : (kind : SliceKind) (size : Size) (depth half x y : ℕ) (before : List Moving) → AreModes (leaves before)
    → ((px py : ℕ) (b : List Moving) → AreModes (leaves b) → Yields (IsReadTree kind size depth px py) (tree_read kind size depth px py b))
    → Yields (AreReadQuarters kind size depth half x y) (quarters_read (tree_read kind size depth) half x y before)
yields_quarters kind size depth half x y before modes lower =
    let T : List ReadUnit → Type 0 = AreReadQuarters kind size depth half x y in
    yields_bind (IsReadTree kind size depth x y) T (tree_read kind size depth x y before) _ (lower x y before modes) (λ a ha.
    yields_bind (IsReadTree kind size depth (x + half) y) T (tree_read kind size depth (x + half) y (units_after before a)) _ (lower (x + half) y (units_after before a) (modes_after kind size before a modes ha.1)) (λ b hb.
    let ab : AllByRecursion (IsSound kind size) (a ++ b) = all_append (IsSound kind size) a b ha.1 hb.1 in
    yields_bind (IsReadTree kind size depth x (y + half)) T (tree_read kind size depth x (y + half) (units_after before (a ++ b))) _ (lower x (y + half) (units_after before (a ++ b)) (modes_after kind size before (a ++ b) modes ab)) (λ c hc.
    let abc : AllByRecursion (IsSound kind size) ((a ++ b) ++ c) = all_append (IsSound kind size) (a ++ b) c ab hc.1 in
    yields_bind (IsReadTree kind size depth (x + half) (y + half)) T (tree_read kind size depth (x + half) (y + half) (units_after before ((a ++ b) ++ c))) _
    (lower (x + half) (y + half) (units_after before ((a ++ b) ++ c)) (modes_after kind size before ((a ++ b) ++ c) modes abc)) (λ d hd.
    yields_give T (((a ++ b) ++ c) ++ d)
    (record {
      quarters = record {
        first = map leaf_of a;
        second = map leaf_of b;
        third = map leaf_of c;
        fourth = map leaf_of d;
        together =
            map-append ((a ++ b) ++ c) d
            ∙ ap (λ (l : List Leaf). l ++ map leaf_of d) (map-append (a ++ b) c ∙ ap (λ (l : List Leaf). l ++ map leaf_of c) (map-append a b));
        top_left = ha.0;
        top_right = hb.0;
        bottom_left = hc.0;
        bottom_right = hd.0;
      };
      sound = all_append (IsSound kind size) ((a ++ b) ++ c) d abc hd.1;
    })))))

pub yields_tree : (kind : SliceKind) (size : Size) (depth x y : ℕ) (before : List Moving) → AreModes (leaves before) → Yields (IsReadTree kind size depth x y) (tree_read kind size depth x y before)
yields_tree kind size zero x y before modes = go (is_inside size x y)
  where
    T : Bool → List ReadUnit → Type 0
    T b us = MatchBool b (IsCodingUnit (block_at x y 3) (map leaf_of us)) (map leaf_of us ≡ []) × AllByRecursion (IsSound kind size) us

    go : (b : Bool) → Yields (T b) (cond b (coding_unit_read kind size before (block_at x y 3)) (give []))
    go true = yields_more (IsOneRead kind size x y 3) (T true) (coding_unit_read kind size before (block_at x y 3)) (λ us h. (one_leaf kind size x y 3 us h, one_sound kind size x y 3 us h)) (yields_unit kind size before x y 3 modes)
    go false = yields_give (T false) [] (refl, tt)
yields_tree kind size (suc depth) x y before modes =
    go (is_inside size x y) (is_whole size (2 * half) x y)
    (yields_quarters kind size depth half x y before modes (λ px py b m. yields_tree kind size depth px py b m))
  where
    half : ℕ
    half = 2 ^ (3 + depth)

    T : Bool → Bool → List ReadUnit → Type 0
    T a b us =
        MatchBool a (MatchBool b (IsCodingUnit (block_at x y (4 + depth)) (map leaf_of us) ⊎ AreQuarters (IsTree size depth) half x y (map leaf_of us)) (AreQuarters (IsTree size depth) half x y (map leaf_of us))) (map leaf_of us ≡ [])
        × AllByRecursion (IsSound kind size) us

    split : Reader (List ReadUnit)
    split = quarters_read (tree_read kind size depth) half x y before

    flag : ℕ
    flag = split_context (leaves before) (block_at x y (4 + depth))

    flagged : Reader (List ReadUnit)
    flagged = bin (Context flag) >>= λ f. cond f split (coding_unit_read kind size before (block_at x y (4 + depth)))

    go : (a b : Bool) → Yields (AreReadQuarters kind size depth half x y) split → Yields (T a b) (cond (not a) (give []) (cond (not b) split flagged))
    go false b q = yields_give (T false b) [] (refl, tt)
    go true false q = yields_more (AreReadQuarters kind size depth half x y) (T true false) split (λ us h. (h.quarters, h.sound)) q
    go true true q =
        yields_after (T true true) (bin (Context flag)) _ (λ f.
        yields_cond (T true true) f split (coding_unit_read kind size before (block_at x y (4 + depth)))
        (yields_more (AreReadQuarters kind size depth half x y) (T true true) split (λ us h. (inr h.quarters, h.sound)) q)
        (yields_more (IsOneRead kind size x y (4 + depth)) (T true true) (coding_unit_read kind size before (block_at x y (4 + depth))) (λ us h. (inl (one_leaf kind size x y (4 + depth) us h), one_sound kind size x y (4 + depth) us h))
        (yields_unit kind size before x y (4 + depth) modes)))

pub yields_ctu : (kind : SliceKind) (size : Size) (before : List Moving) (ctu : ℕ) → AreModes (leaves before) → Yields (IsReadTree kind size 2 (ctu_x size ctu) (ctu_y size ctu)) (ctu_read kind size before ctu)
unfolding ctu_read
yields_ctu kind size before ctu modes = yields_tree kind size 2 (ctu_x size ctu) (ctu_y size ctu) before modes

pub trees_are_lawful : EachReadTreeIsLawful
trees_are_lawful kind size before ctu e left units modes h = (yields_ctu kind size before ctu modes).from e left units h
