-- A coding tree that was written is read.
use Rattle.std.proofs.Common.{◌≡◌, refl, sym, ◌∙◌, ap, subst, ℕ, zero, suc, ◌+◌, ◌*◌, ◌^◌, ◌<◌, ◌≤◌, List, [], ◌∷◌, ◌++◌, Bool, true, false, cond, not, length, take, drop, replicate, append_assoc, append-nil, arith, ⊎_elim, length-append}
use Rattle.std.specs.Prelude.{Some, get_or, map, ◌==◌, ◌⊎◌, ℤ, pos, negsuc, MatchBool}
use Rattle.std.specs.Bool.{beq}
use Rattle.std.proofs.lemmas.Bool.{cond-true, cond-false, eq-eqb, ne_eqb}
use Rattle.h265_model.specs.declared.Place.{Place}
use Rattle.h265_model.specs.declared.Item.{Item}
use Rattle.h265_model.specs.declared.Place.TheVariants.{Context, Terminate}
use Rattle.h265_model.specs.declared.Item.TheVariants as items
use Rattle.h265_model.specs.declared.leaf.SliceKind.{SliceKind}
use Rattle.h265_model.specs.declared.leaf.SliceKind.TheVariants.{I, P}
use Rattle.h265_model.specs.declared.leaf.Kind.{Kind}
use Rattle.h265_model.specs.declared.leaf.Kind.TheVariants.{Skip, Pcm, Intra}
use Rattle.h265_model.specs.declared.leaf.Leaf.{Leaf}
use Rattle.h265_model.specs.Plain.{block_at, Size, context_bin, leaf_with, ctu_x, ctu_y}
use Rattle.h265_model.specs.Engine.{Engine, bin, samples, Part, Run, sample_first, parts_of, Gives, Reader, ◌>>=◌, give, refuse, Reads}
use Rattle.h265_model.specs.Residual.{cbf, residual_items, residual_read, IsSide, eight, sixteen, thirty_two, AreLevels}
use Rattle.h265_model.specs.Binarise.{tr, fl, bypass_bins}
use Rattle.h265_model.specs.Modes.{mode_items, mode_read, index_items, remainder_of, AreThree}
use Rattle.h265_model.proofs.Candidates.{candidates_at_are}
use Rattle.h265_model.specs.Predict.{square, is_inside}
use Rattle.h265_model.specs.Tree
use Rattle.h265_model.specs.Tree.{leaf_block, leaf_units, IsLawfulTree, ctu_items, Walk, walk_on, and_walk, quarters, coding_unit_walk, no_walk, is_whole, is_next, tree_walk, IsCodingUnit, AreQuarters, IsTree, IsMode, Source, shape_of, residual_if, content_items, in_P, coding_unit_items, is_skipped, skip_context, split_context, candidates_at, expect, thirds, skip_read, IsSource, AreModes, IsAllowed, AreAllowed}
use Rattle.h265_laws.proofs.LeafReading.{ctu_read, quarters_read, leaves_after, tree_read, Content, Copied, Samples, Levels, ReadLeaf, kind_of, leaf_of, intra_read, pcm_read, content_read, part_mode_read, coded_read, coding_unit_read, content_of, read_of, reads_of}
use Rattle.h265_laws.proofs.Parts.{BeginsWithBin}
use Rattle.h265_laws.proofs.Reading.{reads_as, reads_bin, reads_bind, reads_map, reads_give}
use Rattle.h265_laws.proofs.ModesLaw.{mode_law}
use Rattle.h265_laws.proofs.ResidualLaw.{AreBins, reads_then, bypass_are}
use Rattle.h265_laws.proofs.ResidualRows.{residual_law, residual_are}
use Rattle.h265_model.proofs.ListParts.{all_append, all_front, all_back, take_front, drop_front}

-- ---- bins that are fixed

reads_expect : {A : Type 0} (place : Place) (value : Bool) (read : Reader A) (list : List Item) (a : A)
    → Reads read list a → Reads (expect place value read) (items.Bin (record { value = value; place = place }) ∷ list) a
reads_expect place true read list a r = reads_bin place true (λ b. cond (beq b true) read refuse) list a r
reads_expect place false read list a r = reads_bin place false (λ b. cond (beq b false) read refuse) list a r

-- ---- residuals

-- a block without levels
zero_rows : (log2 : ℕ) → IsSide log2 → square (2 ^ log2) (λ x y. pos 0) ≡ replicate (2 ^ log2 * 2 ^ log2) (pos 0)
zero_rows _ eight = refl
zero_rows _ sixteen = refl
zero_rows _ thirty_two = refl

no_cbf : (levels : List ℤ) → cbf levels ≡ false → levels ≡ replicate (length levels) (pos 0)
unfolding cbf
no_cbf [] h = refl
no_cbf (pos zero ∷ levels) h = ap (λ (l : List ℤ). pos 0 ∷ l) (no_cbf levels h)
no_cbf (pos (suc n) ∷ levels) h = absurd (cc)
no_cbf (negsuc n ∷ levels) h = absurd (cc)

reads_residual : (log2 mode component : ℕ) (levels : List ℤ) → IsSide log2 → length levels ≡ 2 ^ log2 * 2 ^ log2 → AreLevels levels
    → Reads (Tree.component_read log2 mode component (cbf levels)) (residual_if log2 mode component levels) levels
reads_residual log2 mode component levels side long bounds = go (cbf levels) refl
  where
    go : (b : Bool) → cbf levels ≡ b → Reads (cond b (residual_read (shape_of log2 mode component)) (give (square (2 ^ log2) (λ x y. pos 0))))
        (cond b (residual_items (shape_of log2 mode component) levels) []) levels
    go true e = residual_law component log2 _ levels side long bounds e
    go false e = reads_as (give (square (2 ^ log2) (λ x y. pos 0))) [] [] _ levels refl
        (zero_rows log2 side ∙ (ap (λ (n : ℕ). replicate n (pos 0)) (sym long) ∙ sym (no_cbf levels e))) (reads_give _)

residual_if_are : (log2 mode component : ℕ) (levels : List ℤ) → AreBins (residual_if log2 mode component levels)
residual_if_are log2 mode component levels = go (cbf levels)
  where
    go : (b : Bool) → AreBins (cond b (residual_items (shape_of log2 mode component) levels) [])
    go true = residual_are (shape_of log2 mode component) levels
    go false = tt

-- ---- candidates

reads_mode : (l : List ℕ) (mode : ℕ) → mode < 35 → AreThree l → Reads (mode_read l) (mode_items mode l) mode
reads_mode l mode h t = subst (λ (c : List ℕ). Reads (mode_read c) (mode_items mode c) mode) (sym t.is) (mode_law mode t.first t.second t.third h t.are)

mode_are : (mode : ℕ) (l : List ℕ) → AreBins (mode_items mode l)
unfolding mode_items
mode_are mode l = go (mode == get_or l 0 0) (mode == get_or l 1 0) (mode == get_or l 2 0)
  where
    other : List Item
    other = context_bin false 9 ∷ bypass_bins (fl 5 (remainder_of mode l))

    go : (a b c : Bool) → AreBins (cond a (index_items 0) (cond b (index_items 1) (cond c (index_items 2) other)))
    go true b c = bypass_are (tr 2 0)
    go false true c = bypass_are (tr 2 1)
    go false false true = bypass_are (tr 2 2)
    go false false false = bypass_are (fl 5 (remainder_of mode l))

-- ---- units

reads_intra : (source : Source) (before : List Leaf) (x y log2 mode : ℕ) → IsSide log2 → IsSource source → AreModes before → mode < 35
    → (let leaf : Leaf = leaf_with (block_at x y log2) (Intra mode) in
    Reads (intra_read before (block_at x y log2))
    (mode_items mode (candidates_at before x y)
    ++ (context_bin false 10 ∷ context_bin (cbf (source.levels leaf 1)) 12 ∷ context_bin (cbf (source.levels leaf 2)) 12 ∷ context_bin (cbf (source.levels leaf 0)) 11
    ∷ (residual_if log2 mode 0 (source.levels leaf 0) ++ (residual_if log2 mode 1 (source.levels leaf 1) ++ residual_if log2 mode 2 (source.levels leaf 2)))))
    (content_of source leaf (Intra mode)))
reads_intra source before x y log2 mode side is modes small =
    let leaf : Leaf = leaf_with (block_at x y log2) (Intra mode) in
    let l0 : List ℤ = source.levels leaf 0 in
    let l1 : List ℤ = source.levels leaf 1 in
    let l2 : List ℤ = source.levels leaf 2 in
    let c : Content = Levels mode (l0 ∷ l1 ∷ l2 ∷ []) in
    let third : ℕ → Bool → List ℤ → List ℤ → Reader Content = λ m cr a b. Tree.component_read log2 m 2 cr >>= λ d. give (Levels m (a ∷ b ∷ d ∷ [])) in
    let second : ℕ → Bool → Bool → List ℤ → Reader Content = λ m cb cr a. Tree.component_read log2 m 1 cb >>= λ b. third m cr a b in
    let first : ℕ → Bool → Bool → Bool → Reader Content = λ m cb cr luma. Tree.component_read log2 m 0 luma >>= λ a. second m cb cr a in
    let r2 : Reads (third mode (cbf l2) l0 l1) (residual_if log2 mode 2 l2) c =
    reads_map (Tree.component_read log2 mode 2 (cbf l2)) (λ d. Levels mode (l0 ∷ l1 ∷ d ∷ [])) _ l2 (reads_residual log2 mode 2 l2 side (is.levels_long leaf 2) (is.levels_fit leaf 2)) in
    let r1 : Reads (second mode (cbf l1) (cbf l2) l0) (residual_if log2 mode 1 l1 ++ residual_if log2 mode 2 l2) c =
    reads_then (Tree.component_read log2 mode 1 (cbf l1)) (λ b. third mode (cbf l2) l0 b) _ _ l1 c (residual_if_are log2 mode 1 l1) (reads_residual log2 mode 1 l1 side (is.levels_long leaf 1) (is.levels_fit leaf 1)) r2 in
    let r0 : Reads (first mode (cbf l1) (cbf l2) (cbf l0)) (residual_if log2 mode 0 l0 ++ (residual_if log2 mode 1 l1 ++ residual_if log2 mode 2 l2)) c =
    reads_then (Tree.component_read log2 mode 0 (cbf l0)) (λ a. second mode (cbf l1) (cbf l2) a) _ _ l0 c (residual_if_are log2 mode 0 l0) (reads_residual log2 mode 0 l0 side (is.levels_long leaf 0) (is.levels_fit leaf 0)) r1 in
    let after_cr : ℕ → Bool → Bool → Reader Content = λ m cb cr. bin (Context 11) >>= λ luma. first m cb cr luma in
    let after_cb : ℕ → Bool → Reader Content = λ m cb. bin (Context 12) >>= λ cr. after_cr m cb cr in
    let flags : ℕ → Reader Content = λ m. bin (Context 12) >>= λ cb. after_cb m cb in
    let r_luma : Reads (after_cr mode (cbf l1) (cbf l2)) (context_bin (cbf l0) 11 ∷ (residual_if log2 mode 0 l0 ++ (residual_if log2 mode 1 l1 ++ residual_if log2 mode 2 l2))) c =
    reads_bin (Context 11) (cbf l0) (λ luma. first mode (cbf l1) (cbf l2) luma) _ c r0 in
    let r_cr : Reads (after_cb mode (cbf l1)) (context_bin (cbf l2) 12 ∷ context_bin (cbf l0) 11 ∷ (residual_if log2 mode 0 l0 ++ (residual_if log2 mode 1 l1 ++ residual_if log2 mode 2 l2))) c =
    reads_bin (Context 12) (cbf l2) (λ cr. after_cr mode (cbf l1) cr) _ c r_luma in
    let r_cb : Reads (flags mode) (context_bin (cbf l1) 12 ∷ context_bin (cbf l2) 12 ∷ context_bin (cbf l0) 11 ∷ (residual_if log2 mode 0 l0 ++ (residual_if log2 mode 1 l1 ++ residual_if log2 mode 2 l2))) c =
    reads_bin (Context 12) (cbf l1) (λ cb. after_cb mode cb) _ c r_cr in
    reads_then (mode_read (candidates_at before x y)) (λ m. expect (Context 10) false (flags m)) _ _ mode c
    (mode_are mode (candidates_at before x y)) (reads_mode (candidates_at before x y) mode small (candidates_at_are before x y modes))
    (reads_expect (Context 10) false (flags mode) _ c r_cb)

-- ---- samples

one_run : (x : ℕ) (xs : List ℕ) → parts_of (map items.Sample (x ∷ xs)) ≡ Run (x ∷ xs) ∷ []
one_run x [] = refl
one_run x (y ∷ xs) = ap (sample_first x) (one_run y xs)

reads_samples : (xs : List ℕ) → 0 < length xs → Reads (samples (length xs)) (map items.Sample xs) xs
reads_samples [] h = absurd (omega arith)
reads_samples (x ∷ xs) h = record {
  from = λ e left g.
      let r : Gives (Run (x ∷ xs) ∷ []) e left = subst (λ (ps : List Part). Gives ps e left) (one_run x xs) g in
      r.1 ∙ ap (λ (d : Engine). Some (x ∷ xs, d)) r.2;
}

thirds_of : (n : ℕ) (a b c : List ℕ) → length a ≡ n → length b ≡ n → length c ≡ n → thirds n ((a ++ b) ++ c) ≡ a ∷ b ∷ c ∷ []
thirds_of n a b c ha hb hc =
    let flat : (a ++ b) ++ c ≡ a ++ (b ++ c) = append_assoc a b c in
    let first : take n ((a ++ b) ++ c) ≡ a = ap (take n) flat ∙ (ap (λ (k : ℕ). take k (a ++ (b ++ c))) (sym ha) ∙ take_front a (b ++ c)) in
    let after_a : drop n ((a ++ b) ++ c) ≡ b ++ c = ap (drop n) flat ∙ (ap (λ (k : ℕ). drop k (a ++ (b ++ c))) (sym ha) ∙ drop_front a (b ++ c)) in
    let second : take n (drop n ((a ++ b) ++ c)) ≡ b = ap (take n) after_a ∙ (ap (λ (k : ℕ). take k (b ++ c)) (sym hb) ∙ take_front b c) in
    let both : length (a ++ b) ≡ n + n = length-append a b ∙ omega arith in
    let after_b : drop (n + n) ((a ++ b) ++ c) ≡ c = ap (λ (k : ℕ). drop k ((a ++ b) ++ c)) (sym both) ∙ drop_front (a ++ b) c in
    let third : take n (drop (n + n) ((a ++ b) ++ c)) ≡ c = ap (take n) after_b ∙ (ap (λ (k : ℕ). take k c) (sym hc) ∙ (ap (take (length c)) (sym (append-nil c)) ∙ take_front c [])) in
    ap (λ (l : List ℕ). l ∷ take n (drop n ((a ++ b) ++ c)) ∷ take n (drop (n + n) ((a ++ b) ++ c)) ∷ []) first
    ∙ (ap (λ (l : List ℕ). a ∷ l ∷ take n (drop (n + n) ((a ++ b) ++ c)) ∷ []) second
    ∙ ap (λ (l : List ℕ). a ∷ b ∷ l ∷ []) third)

side_positive : (log2 : ℕ) → IsSide log2 → 0 < 2 ^ log2 * 2 ^ log2
side_positive _ eight = omega arith
side_positive _ sixteen = omega arith
side_positive _ thirty_two = omega arith

reads_pcm : (source : Source) (leaf : Leaf) → IsSide leaf.block.log2 → IsSource source
    → Reads (pcm_read (2 ^ leaf.block.log2 * 2 ^ leaf.block.log2)) (map items.Sample (source.samples leaf 0 ++ source.samples leaf 1 ++ source.samples leaf 2)) (content_of source leaf Pcm)
reads_pcm source leaf side is =
    let n : ℕ = 2 ^ leaf.block.log2 * 2 ^ leaf.block.log2 in
    let a : List ℕ = source.samples leaf 0 in
    let b : List ℕ = source.samples leaf 1 in
    let c : List ℕ = source.samples leaf 2 in
    let ha : length a ≡ n = is.samples_long leaf 0 in
    let hb : length b ≡ n = is.samples_long leaf 1 in
    let hc : length c ≡ n = is.samples_long leaf 2 in
    let long : length ((a ++ b) ++ c) ≡ n + n + n = length-append (a ++ b) c ∙ omega (arith, length-append a b) in
    let some : 0 < n = side_positive leaf.block.log2 side in
    let r : Reads (samples (n + n + n)) (map items.Sample ((a ++ b) ++ c)) ((a ++ b) ++ c) =
    subst (λ (k : ℕ). Reads (samples k) (map items.Sample ((a ++ b) ++ c)) ((a ++ b) ++ c)) long (reads_samples ((a ++ b) ++ c) (omega arith)) in
    reads_as (pcm_read n) _ _ (Samples (thirds n ((a ++ b) ++ c))) _ refl (ap Samples (thirds_of n a b c ha hb hc))
    (reads_map (samples (n + n + n)) (λ l. Samples (thirds n l)) _ ((a ++ b) ++ c) r)

-- pcm_flag and what follows
pub reads_content : (source : Source) (before : List Leaf) (x y log2 : ℕ) (k : Kind) → IsSide log2 → IsSource source → AreModes before → IsMode k → is_skipped k ≡ false
    → Reads (content_read before (block_at x y log2)) (content_items source before (leaf_with (block_at x y log2) k) k) (content_of source (leaf_with (block_at x y log2) k) k)
reads_content source before x y log2 Skip side is modes mode plain = absurd (cc)
reads_content source before x y log2 Pcm side is modes mode plain =
    reads_bin Terminate true (λ pcm. cond pcm (pcm_read (2 ^ log2 * 2 ^ log2)) (intra_read before (block_at x y log2))) _ _ (reads_pcm source (leaf_with (block_at x y log2) Pcm) side is)
reads_content source before x y log2 (Intra mode) side is modes small plain =
    reads_bin Terminate false (λ pcm. cond pcm (pcm_read (2 ^ log2 * 2 ^ log2)) (intra_read before (block_at x y log2))) _ _ (reads_intra source before x y log2 mode side is modes small)

pub reads_part_mode : (log2 : ℕ) (read : Reader Content) (list : List Item) (c : Content) → Reads read list c
    → Reads (part_mode_read log2 read) (cond (log2 == 3) (context_bin true 8 ∷ []) [] ++ list) c
reads_part_mode log2 read list c r = go (log2 == 3)
  where
    go : (b : Bool) → Reads (cond b (expect (Context 8) true read) read) (cond b (context_bin true 8 ∷ []) [] ++ list) c
    go true = reads_expect (Context 8) true read list c r
    go false = r

-- the law of units
pub unit_law : (kind : SliceKind) (source : Source) (before : List Leaf) (x y log2 : ℕ) (k : Kind) → IsSide log2 → IsSource source → AreModes before → IsMode k → IsAllowed kind k
    → Reads (coding_unit_read kind before (block_at x y log2)) (coding_unit_items kind source before (leaf_with (block_at x y log2) k)) (read_of source (leaf_with (block_at x y log2) k) ∷ [])
unfolding coding_unit_read coding_unit_items
unit_law kind source before x y log2 k side is modes mode allowed = reads_expect (Context 0) true _ _ _ (go kind (is_skipped k) refl allowed)
  where
    leaf : Leaf
    leaf = leaf_with (block_at x y log2) k

    made : Content → List ReadLeaf
    made c = record { block = block_at x y log2; content = c } ∷ []

    coded : (s : SliceKind) → is_skipped k ≡ false → Reads (coded_read s before (block_at x y log2)) (in_P s (context_bin true 7 ∷ []) ++ (cond (log2 == 3) (context_bin true 8 ∷ []) [] ++ content_items source before leaf k)) (content_of source leaf k)
    coded I plain = reads_part_mode log2 _ _ _ (reads_content source before x y log2 k side is modes mode plain)
    coded P plain = reads_expect (Context 7) true _ _ _ (reads_part_mode log2 _ _ _ (reads_content source before x y log2 k side is modes mode plain))

    skipped_content : is_skipped k ≡ true → Copied ≡ content_of source leaf k
    skipped_content e = skip_case k e
      where
        skip_case : (j : Kind) → is_skipped j ≡ true → Copied ≡ content_of source leaf j
        skip_case Skip f = refl
        skip_case Pcm f = absurd (cc)
        skip_case (Intra m) f = absurd (cc)

    go : (s : SliceKind) (b : Bool) → is_skipped k ≡ b → IsAllowed s k
        → Reads (skip_read s before x y >>= λ skipped. (cond skipped (give Copied) (coded_read s before (block_at x y log2)) >>= λ c. give (made c)))
        (in_P s (context_bin b (skip_context before x y) ∷ []) ++ cond b [] (in_P s (context_bin true 7 ∷ []) ++ (cond (log2 == 3) (context_bin true 8 ∷ []) [] ++ content_items source before leaf k)))
        (made (content_of source leaf k))
    go I true e a = absurd (cc)
    go I false e a = let r : Reads (coded_read I before (block_at x y log2) >>= λ c. give (made c)) _ (made (content_of source leaf k)) = reads_map (coded_read I before (block_at x y log2)) made _ _ (coded I e) in record { from = r.from }
    go P true e a = reads_bin (Context (skip_context before x y)) true _ [] _
        (let r : Reads (give (made Copied)) [] (made (content_of source leaf k)) = reads_as (give (made Copied)) [] [] _ _ refl (ap made (skipped_content e)) (reads_give (made Copied)) in record { from = r.from })
    go P false e a = reads_bin (Context (skip_context before x y)) false _ _ _ (reads_map (coded_read P before (block_at x y log2)) made _ _ (coded P e))

-- ---- trees

kind_back : (source : Source) (leaf : Leaf) (k : Kind) → kind_of (content_of source leaf k) ≡ k
kind_back source leaf Skip = refl
kind_back source leaf Pcm = refl
kind_back source leaf (Intra mode) = refl

pub leaf_back : (source : Source) (leaf : Leaf) → leaf_of (read_of source leaf) ≡ leaf
leaf_back source leaf = ap (λ (k : Kind). leaf_with leaf.block k) (kind_back source leaf leaf.kind)

pub leaves_back : (source : Source) (leaves : List Leaf) → map leaf_of (reads_of source leaves) ≡ leaves
leaves_back source [] = refl
leaves_back source (leaf ∷ leaves) = ap (λ (l : Leaf). l ∷ map leaf_of (reads_of source leaves)) (leaf_back source leaf) ∙ ap (λ (l : List Leaf). leaf ∷ l) (leaves_back source leaves)

pub reads_of-append : (source : Source) (a b : List Leaf) → reads_of source (a ++ b) ≡ reads_of source a ++ reads_of source b
reads_of-append source [] b = refl
reads_of-append source (x ∷ a) b = ap (λ (l : List ReadLeaf). read_of source x ∷ l) (reads_of-append source a b)

pub after_is : (source : Source) (before leaves : List Leaf) → leaves_after before (reads_of source leaves) ≡ before ++ leaves
after_is source before leaves = ap (λ (l : List Leaf). before ++ l) (leaves_back source leaves)

pub begins-append : (a b : List Item) → BeginsWithBin a → BeginsWithBin b → BeginsWithBin (a ++ b)
begins-append [] b ha hb = hb
begins-append (items.Bin x ∷ a) b ha hb = tt
begins-append (items.Sample x ∷ a) b ha hb = elim ha [ ]

-- the walk takes these leaves, and the reader reads what it writes
pub record Takes (walk : List Leaf → List Leaf → Walk Leaf Leaf) (read : List Leaf → Reader (List ReadLeaf)) (source : Source) (before leaves : List Leaf) : Type 0 where
  pub list : List Item
  pub walks : (rest : List Leaf) → walk before (leaves ++ rest) ≡ record { list = list; before = before ++ leaves; left = rest }
  pub reads : Reads (read before) list (reads_of source leaves)
  pub begins : BeginsWithBin list

takes_quarters : (go : ℕ → ℕ → List Leaf → List Leaf → Walk Leaf Leaf) (read : ℕ → ℕ → List Leaf → Reader (List ReadLeaf)) (source : Source) (half x y : ℕ) (before a b c d : List Leaf)
    → Takes (go x y) (read x y) source before a
    → Takes (go (x + half) y) (read (x + half) y) source (before ++ a) b
    → Takes (go x (y + half)) (read x (y + half)) source ((before ++ a) ++ b) c
    → Takes (go (x + half) (y + half)) (read (x + half) (y + half)) source (((before ++ a) ++ b) ++ c) d
    → Takes (quarters go half x y) (quarters_read read half x y) source before (((a ++ b) ++ c) ++ d)
takes_quarters go read source half x y before a b c d ta tb tc td = record {
  list = ((ta.list ++ tb.list) ++ tc.list) ++ td.list;
  walks = λ rest.
      let w1 : go x y before ((((a ++ b) ++ c) ++ d) ++ rest) ≡ record { list = ta.list; before = before ++ a; left = b ++ (c ++ (d ++ rest)) } =
      ap (go x y before) (append_assoc ((a ++ b) ++ c) d rest ∙ (append_assoc (a ++ b) c (d ++ rest) ∙ append_assoc a b (c ++ (d ++ rest)))) ∙ ta.walks (b ++ (c ++ (d ++ rest))) in
      let second : Walk Leaf Leaf → Walk Leaf Leaf = λ w. and_walk w (go (x + half) y) in
      let third : Walk Leaf Leaf → Walk Leaf Leaf = λ w. and_walk w (go x (y + half)) in
      let fourth : Walk Leaf Leaf → Walk Leaf Leaf = λ w. and_walk w (go (x + half) (y + half)) in
      let end : (((before ++ a) ++ b) ++ c) ++ d ≡ before ++ (((a ++ b) ++ c) ++ d) =
      ap (λ (l : List Leaf). (l ++ c) ++ d) (append_assoc before a b) ∙ (ap (λ (l : List Leaf). l ++ d) (append_assoc before (a ++ b) c) ∙ append_assoc before ((a ++ b) ++ c) d) in
      ap (λ (w : Walk Leaf Leaf). fourth (third (second w))) w1
      ∙ (ap (λ (w : Walk Leaf Leaf). fourth (third (walk_on ta.list w))) (tb.walks (c ++ (d ++ rest)))
      ∙ (ap (λ (w : Walk Leaf Leaf). fourth (walk_on (ta.list ++ tb.list) w)) (tc.walks (d ++ rest))
      ∙ (ap (λ (w : Walk Leaf Leaf). walk_on ((ta.list ++ tb.list) ++ tc.list) w) (td.walks rest)
      ∙ ap (λ (l : List Leaf). record { list = ((ta.list ++ tb.list) ++ tc.list) ++ td.list; before = l; left = rest }) end)));
  reads =
      let r : List Leaf → List ReadLeaf = reads_of source in
      let all : List ReadLeaf = ((r a ++ r b) ++ r c) ++ r d in
      let f4 : List ReadLeaf → List ReadLeaf → List ReadLeaf → Reader (List ReadLeaf) = λ p q s. read (x + half) (y + half) (leaves_after before ((p ++ q) ++ s)) >>= λ t. give (((p ++ q) ++ s) ++ t) in
      let f3 : List ReadLeaf → List ReadLeaf → Reader (List ReadLeaf) = λ p q. read x (y + half) (leaves_after before (p ++ q)) >>= λ s. f4 p q s in
      let f2 : List ReadLeaf → Reader (List ReadLeaf) = λ p. read (x + half) y (leaves_after before p) >>= λ q. f3 p q in
      let b1 : before ++ a ≡ leaves_after before (r a) = sym (after_is source before a) in
      let b2 : (before ++ a) ++ b ≡ leaves_after before (r a ++ r b) = append_assoc before a b ∙ (sym (after_is source before (a ++ b)) ∙ ap (leaves_after before) (reads_of-append source a b)) in
      let b3 : ((before ++ a) ++ b) ++ c ≡ leaves_after before ((r a ++ r b) ++ r c) =
      ap (λ (l : List Leaf). l ++ c) (append_assoc before a b) ∙ (append_assoc before (a ++ b) c ∙ (sym (after_is source before ((a ++ b) ++ c))
      ∙ ap (leaves_after before) (reads_of-append source (a ++ b) c ∙ ap (λ (l : List ReadLeaf). l ++ r c) (reads_of-append source a b)))) in
      let r4 : Reads (f4 (r a) (r b) (r c)) td.list all =
      reads_map (read (x + half) (y + half) (leaves_after before ((r a ++ r b) ++ r c))) (λ t. ((r a ++ r b) ++ r c) ++ t) _ (r d)
      (subst (λ (l : List Leaf). Reads (read (x + half) (y + half) l) td.list (r d)) b3 td.reads) in
      let r3 : Reads (f3 (r a) (r b)) (tc.list ++ td.list) all =
      reads_bind (read x (y + half) (leaves_after before (r a ++ r b))) (λ s. f4 (r a) (r b) s) tc.list td.list (r c) all td.begins
      (subst (λ (l : List Leaf). Reads (read x (y + half) l) tc.list (r c)) b2 tc.reads) r4 in
      let r2 : Reads (f2 (r a)) (tb.list ++ (tc.list ++ td.list)) all =
      reads_bind (read (x + half) y (leaves_after before (r a))) (λ q. f3 (r a) q) tb.list (tc.list ++ td.list) (r b) all (begins-append tc.list td.list tc.begins td.begins)
      (subst (λ (l : List Leaf). Reads (read (x + half) y l) tb.list (r b)) b1 tb.reads) r3 in
      let r1 : Reads (quarters_read read half x y before) (ta.list ++ (tb.list ++ (tc.list ++ td.list))) all =
      reads_bind (read x y before) f2 ta.list (tb.list ++ (tc.list ++ td.list)) (r a) all (begins-append tb.list (tc.list ++ td.list) tb.begins (begins-append tc.list td.list tc.begins td.begins)) ta.reads r2 in
      reads_as (quarters_read read half x y before) _ _ all _
      (sym (append_assoc ta.list tb.list (tc.list ++ td.list)) ∙ sym (append_assoc (ta.list ++ tb.list) tc.list td.list))
      (sym (reads_of-append source ((a ++ b) ++ c) d ∙ ap (λ (l : List ReadLeaf). l ++ r d) (reads_of-append source (a ++ b) c ∙ ap (λ (l : List ReadLeaf). l ++ r c) (reads_of-append source a b))))
      r1;
  begins = begins-append ((ta.list ++ tb.list) ++ tc.list) td.list (begins-append (ta.list ++ tb.list) tc.list (begins-append ta.list tb.list ta.begins tb.begins) tc.begins) td.begins;
}

-- the leaves of a tree have modes
pub tree_modes : (size : Size) (depth x y : ℕ) (leaves : List Leaf) → IsTree size depth x y leaves → AreModes leaves
tree_modes size zero x y leaves t = go (is_inside size x y) t
  where
    go : (b : Bool) → MatchBool b (IsCodingUnit (block_at x y 3) leaves) (leaves ≡ []) → AreModes leaves
    go true u = subst AreModes (sym u.one) (u.mode, tt)
    go false e = subst AreModes (sym e) tt
tree_modes size (suc depth) x y leaves t = go (is_inside size x y) (is_whole size (2 * half) x y) t (tree_modes size depth)
  where
    half : ℕ
    half = 2 ^ (3 + depth)

    Modes : Type 0
    Modes = (px py : ℕ) (ls : List Leaf) → IsTree size depth px py ls → AreModes ls

    four : AreQuarters (IsTree size depth) half x y leaves → Modes → AreModes leaves
    four q m = subst AreModes (sym q.together)
        (all_append (λ leaf. IsMode leaf.kind) ((q.first ++ q.second) ++ q.third) q.fourth
        (all_append (λ leaf. IsMode leaf.kind) (q.first ++ q.second) q.third
        (all_append (λ leaf. IsMode leaf.kind) q.first q.second (m _ _ _ q.top_left) (m _ _ _ q.top_right)) (m _ _ _ q.bottom_left)) (m _ _ _ q.bottom_right))

    go : (a b : Bool) → MatchBool a (MatchBool b (IsCodingUnit (block_at x y (4 + depth)) leaves ⊎ AreQuarters (IsTree size depth) half x y leaves) (AreQuarters (IsTree size depth) half x y leaves)) (leaves ≡ []) → Modes → AreModes leaves
    go true true u m = ⊎_elim (λ (v : IsCodingUnit (block_at x y (4 + depth)) leaves). subst AreModes (sym v.one) (v.mode, tt)) (λ q. four q m) u
    go true false q m = four q m
    go false b e m = subst AreModes (sym e) tt

-- a tree that begins in the picture has a first leaf, no larger than its block
record HasFirst (log2 : ℕ) (leaves : List Leaf) : Type 0 where
  first : Leaf
  more : List Leaf
  is : leaves ≡ first ∷ more
  small : first.block.log2 ≤ log2

tree_first : (size : Size) (depth x y : ℕ) (leaves : List Leaf) → IsTree size depth x y leaves → is_inside size x y ≡ true → HasFirst (3 + depth) leaves
tree_first size zero x y leaves t inside = go (is_inside size x y) inside t
  where
    go : (b : Bool) → b ≡ true → MatchBool b (IsCodingUnit (block_at x y 3) leaves) (leaves ≡ []) → HasFirst 3 leaves
    go true e u = record { first = leaf_with (block_at x y 3) u.kind; more = []; is = u.one; small = omega arith }
    go false e u = absurd (cc)
tree_first size (suc depth) x y leaves t inside = go (is_inside size x y) inside (is_whole size (2 * half) x y) t (λ ls q. tree_first size depth x y ls q inside)
  where
    half : ℕ
    half = 2 ^ (3 + depth)

    First : Type 0
    First = (ls : List Leaf) → IsTree size depth x y ls → HasFirst (3 + depth) ls

    four : AreQuarters (IsTree size depth) half x y leaves → First → HasFirst (3 + suc depth) leaves
    four q f = let h : HasFirst (3 + depth) q.first = f q.first q.top_left in
        record {
          first = h.first;
          more = ((h.more ++ q.second) ++ q.third) ++ q.fourth;
          is = q.together ∙ ap (λ (l : List Leaf). ((l ++ q.second) ++ q.third) ++ q.fourth) h.is;
          small = let s : h.first.block.log2 ≤ 3 + depth = h.small in omega arith;
        }

    go : (a : Bool) → a ≡ true → (b : Bool) → MatchBool a (MatchBool b (IsCodingUnit (block_at x y (4 + depth)) leaves ⊎ AreQuarters (IsTree size depth) half x y leaves) (AreQuarters (IsTree size depth) half x y leaves)) (leaves ≡ []) → First → HasFirst (3 + suc depth) leaves
    go true e true u f = ⊎_elim (λ (v : IsCodingUnit (block_at x y (4 + depth)) leaves). record { first = leaf_with (block_at x y (4 + depth)) v.kind; more = []; is = v.one; small = omega arith }) (λ q. four q f) u
    go true e false q f = four q f
    go false e b u f = absurd (cc)

unit_begins : (kind : SliceKind) (source : Source) (before : List Leaf) (leaf : Leaf) → BeginsWithBin (coding_unit_items kind source before leaf)
unfolding coding_unit_items
unit_begins kind source before leaf = tt

-- one unit, after a flag or none
takes_unit : (kind : SliceKind) (source : Source) (x y log2 : ℕ) (before leaves : List Leaf) (u : IsCodingUnit (block_at x y log2) leaves) → IsSide log2 → IsSource source → AreModes before → AreAllowed kind leaves
    → Takes (coding_unit_walk (leaf_units kind source)) (λ b. coding_unit_read kind b (block_at x y log2)) source before leaves
takes_unit kind source x y log2 before leaves u side is modes allowed =
    let leaf : Leaf = leaf_with (block_at x y log2) u.kind in
    let may : IsAllowed kind u.kind = (subst (AreAllowed kind) u.one allowed).0 in
    record {
      list = coding_unit_items kind source before leaf;
      walks = λ rest. ap (λ (l : List Leaf). coding_unit_walk (leaf_units kind source) before (l ++ rest)) u.one ∙ ap (λ (l : List Leaf). record { list = coding_unit_items kind source before leaf; before = before ++ l; left = rest }) (sym u.one);
      reads = reads_as (coding_unit_read kind before (block_at x y log2)) _ _ _ _ refl (ap (reads_of source) (sym u.one)) (unit_law kind source before x y log2 u.kind side is modes u.mode may);
      begins = unit_begins kind source before leaf;
    }

takes_none : (read : List Leaf → Reader (List ReadLeaf)) (source : Source) (before leaves : List Leaf) → leaves ≡ [] → read before ≡ give [] → Takes no_walk read source before leaves
takes_none read source before leaves none gives = record {
  list = [];
  walks = λ rest. ap (λ (l : List Leaf). no_walk before (l ++ rest)) none ∙ ap (λ (l : List Leaf). record { list = []; before = l; left = rest }) (sym (append-nil before) ∙ ap (λ (l : List Leaf). before ++ l) (sym none));
  reads = subst (λ (m : Reader (List ReadLeaf)). Reads m [] (reads_of source leaves)) (sym gives) (reads_as (give []) [] [] [] _ refl (ap (reads_of source) (sym none)) (reads_give []));
  begins = tt;
}

-- how a walk and a reader may be written otherwise
takes_as : (walk walk' : List Leaf → List Leaf → Walk Leaf Leaf) (read read' : List Leaf → Reader (List ReadLeaf)) (source : Source) (before leaves : List Leaf)
    → ((rest : List Leaf) → walk' before (leaves ++ rest) ≡ walk before (leaves ++ rest)) → read' before ≡ read before
    → Takes walk read source before leaves → Takes walk' read' source before leaves
takes_as walk walk' read read' source before leaves same_walk same_read t = record {
  list = t.list;
  walks = λ rest. same_walk rest ∙ t.walks rest;
  reads = subst (λ (m : Reader (List ReadLeaf)). Reads m t.list (reads_of source leaves)) (sym same_read) t.reads;
  begins = t.begins;
}

-- a flag in front
takes_flag : (walk : List Leaf → List Leaf → Walk Leaf Leaf) (read other : List Leaf → Reader (List ReadLeaf)) (source : Source) (before leaves : List Leaf) (context : ℕ) (value : Bool)
    → Takes walk (λ b. cond value (read b) (other b)) source before leaves
    → Takes (λ b left. walk_on (context_bin value context ∷ []) (walk b left)) (λ b. bin (Context context) >>= λ flag. cond flag (read b) (other b)) source before leaves
takes_flag walk read other source before leaves context value t = record {
  list = context_bin value context ∷ t.list;
  walks = λ rest. ap (walk_on (context_bin value context ∷ [])) (t.walks rest);
  reads = reads_bin (Context context) value (λ flag. cond flag (read before) (other before)) t.list _ t.reads;
  begins = tt;
}

-- 8, 16 or 32
pub depth_side : (depth : ℕ) → depth < 2 → IsSide (4 + depth)
depth_side zero h = sixteen
depth_side (suc zero) h = thirty_two
depth_side (suc (suc depth)) h = absurd (omega arith)

pub tree_law : (kind : SliceKind) (size : Size) (source : Source) (depth x y : ℕ) (before leaves : List Leaf) → depth < 3 → IsSource source
    → IsTree size depth x y leaves → AreModes before → AreAllowed kind leaves
    → Takes (tree_walk (leaf_units kind source) size depth x y) (tree_read kind size depth x y) source before leaves
tree_law kind size source zero x y before leaves small is t modes allowed = go (is_inside size x y) refl t
  where
    go : (b : Bool) → is_inside size x y ≡ b → MatchBool b (IsCodingUnit (block_at x y 3) leaves) (leaves ≡ []) → Takes (tree_walk (leaf_units kind source) size zero x y) (tree_read kind size zero x y) source before leaves
    go true e u = takes_as (coding_unit_walk (leaf_units kind source)) (tree_walk (leaf_units kind source) size zero x y) (λ b. coding_unit_read kind b (block_at x y 3)) (tree_read kind size zero x y) source before leaves
        (λ rest. cond-true (is_inside size x y) _ _ e) (cond-true (is_inside size x y) _ _ e) (takes_unit kind source x y 3 before leaves u eight is modes allowed)
    go false e none = takes_as no_walk (tree_walk (leaf_units kind source) size zero x y) (λ b. give []) (tree_read kind size zero x y) source before leaves
        (λ rest. cond-false (is_inside size x y) _ _ e) (cond-false (is_inside size x y) _ _ e) (takes_none (λ b. give []) source before leaves none refl)
tree_law kind size source (suc depth) x y before leaves small is t modes allowed =
    go (is_inside size x y) refl (is_whole size (2 * half) x y) refl t (λ px py b ls. tree_law kind size source depth px py b ls (omega arith) is)
  where
    half : ℕ
    half = 2 ^ (3 + depth)

    Lower : Type 0
    Lower = (px py : ℕ) (b ls : List Leaf) → IsTree size depth px py ls → AreModes b → AreAllowed kind ls → Takes (tree_walk (leaf_units kind source) size depth px py) (tree_read kind size depth px py) source b ls

    flag : ℕ
    flag = split_context before (block_at x y (4 + depth))

    split_walk : List Leaf → List Leaf → Walk Leaf Leaf
    split_walk = quarters (tree_walk (leaf_units kind source) size depth) half x y

    split_read : List Leaf → Reader (List ReadLeaf)
    split_read = quarters_read (tree_read kind size depth) half x y

    four : AreQuarters (IsTree size depth) half x y leaves → Lower → Takes split_walk split_read source before leaves
    four q lower =
        let may : AreAllowed kind (((q.first ++ q.second) ++ q.third) ++ q.fourth) = subst (AreAllowed kind) q.together allowed in
        let may123 : AreAllowed kind ((q.first ++ q.second) ++ q.third) = all_front (λ leaf. IsAllowed kind leaf.kind) ((q.first ++ q.second) ++ q.third) q.fourth may in
        let may12 : AreAllowed kind (q.first ++ q.second) = all_front (λ leaf. IsAllowed kind leaf.kind) (q.first ++ q.second) q.third may123 in
        let m1 : AreModes (before ++ q.first) = all_append (λ leaf. IsMode leaf.kind) before q.first modes (tree_modes size depth x y q.first q.top_left) in
        let m2 : AreModes ((before ++ q.first) ++ q.second) = all_append (λ leaf. IsMode leaf.kind) (before ++ q.first) q.second m1 (tree_modes size depth (x + half) y q.second q.top_right) in
        let m3 : AreModes (((before ++ q.first) ++ q.second) ++ q.third) = all_append (λ leaf. IsMode leaf.kind) ((before ++ q.first) ++ q.second) q.third m2 (tree_modes size depth x (y + half) q.third q.bottom_left) in
        subst (λ (l : List Leaf). Takes split_walk split_read source before l) (sym q.together)
        (takes_quarters (tree_walk (leaf_units kind source) size depth) (tree_read kind size depth) source half x y before q.first q.second q.third q.fourth
        (lower x y before q.first q.top_left modes (all_front (λ leaf. IsAllowed kind leaf.kind) q.first q.second may12))
        (lower (x + half) y (before ++ q.first) q.second q.top_right m1 (all_back (λ leaf. IsAllowed kind leaf.kind) q.first q.second may12))
        (lower x (y + half) ((before ++ q.first) ++ q.second) q.third q.bottom_left m2 (all_back (λ leaf. IsAllowed kind leaf.kind) (q.first ++ q.second) q.third may123))
        (lower (x + half) (y + half) (((before ++ q.first) ++ q.second) ++ q.third) q.fourth q.bottom_right m3 (all_back (λ leaf. IsAllowed kind leaf.kind) ((q.first ++ q.second) ++ q.third) q.fourth may)))

    not_of : (b c : Bool) → b ≡ c → not b ≡ not c
    not_of b c e = ap not e

    go : (a : Bool) → is_inside size x y ≡ a → (b : Bool) → is_whole size (2 * half) x y ≡ b
        → MatchBool a (MatchBool b (IsCodingUnit (block_at x y (4 + depth)) leaves ⊎ AreQuarters (IsTree size depth) half x y leaves) (AreQuarters (IsTree size depth) half x y leaves)) (leaves ≡ [])
        → Lower → Takes (tree_walk (leaf_units kind source) size (suc depth) x y) (tree_read kind size (suc depth) x y) source before leaves
    go false e b f none lower = takes_as no_walk _ (λ b'. give []) _ source before leaves
        (λ rest. cond-true (not (is_inside size x y)) _ _ (ap not e)) (cond-true (not (is_inside size x y)) _ _ (ap not e)) (takes_none (λ b'. give []) source before leaves none refl)
    go true e false f q lower = takes_as split_walk _ split_read _ source before leaves
        (λ rest. cond-false (not (is_inside size x y)) _ _ (ap not e) ∙ cond-true (not (is_whole size (2 * half) x y)) _ _ (ap not f))
        (cond-false (not (is_inside size x y)) _ _ (ap not e) ∙ cond-true (not (is_whole size (2 * half) x y)) _ _ (ap not f))
        (four q lower)
    go true e true f u lower = ⊎_elim
        (λ (v : IsCodingUnit (block_at x y (4 + depth)) leaves). takes_as (λ b left. walk_on (context_bin false flag ∷ []) (coding_unit_walk (leaf_units kind source) b left)) _
        (λ b. bin (Context flag) >>= λ c. cond c (split_read b) (coding_unit_read kind b (block_at x y (4 + depth)))) _ source before leaves
        (λ rest. at_whole rest ∙ cond-true (is_next leaf_block (4 + depth) (leaves ++ rest)) _ _ (ap (λ (l : List Leaf). is_next leaf_block (4 + depth) (l ++ rest)) v.one ∙ eq-eqb (4 + depth) (4 + depth) refl))
        read_whole
        (takes_flag (coding_unit_walk (leaf_units kind source)) split_read (λ b. coding_unit_read kind b (block_at x y (4 + depth))) source before leaves flag false
        (takes_unit kind source x y (4 + depth) before leaves v (depth_side depth (omega arith)) is modes allowed)))
        (λ (q : AreQuarters (IsTree size depth) half x y leaves). takes_as (λ b left. walk_on (context_bin true flag ∷ []) (split_walk b left)) _
        (λ b. bin (Context flag) >>= λ c. cond c (split_read b) (coding_unit_read kind b (block_at x y (4 + depth)))) _ source before leaves
        (λ rest. at_whole rest ∙ cond-false (is_next leaf_block (4 + depth) (leaves ++ rest)) _ _ (not_leaf q rest))
        read_whole
        (takes_flag split_walk split_read (λ b. coding_unit_read kind b (block_at x y (4 + depth))) source before leaves flag true (four q lower)))
        u
      where
        at_whole : (rest : List Leaf) → tree_walk (leaf_units kind source) size (suc depth) x y before (leaves ++ rest)
            ≡ cond (is_next leaf_block (4 + depth) (leaves ++ rest)) (walk_on (context_bin false flag ∷ []) (coding_unit_walk (leaf_units kind source) before (leaves ++ rest))) (walk_on (context_bin true flag ∷ []) (split_walk before (leaves ++ rest)))
        at_whole rest = cond-false (not (is_inside size x y)) _ _ (ap not e) ∙ cond-false (not (is_whole size (2 * half) x y)) _ _ (ap not f)

        read_whole : tree_read kind size (suc depth) x y before ≡ (bin (Context flag) >>= λ c. cond c (split_read before) (coding_unit_read kind before (block_at x y (4 + depth))))
        read_whole = cond-false (not (is_inside size x y)) _ _ (ap not e) ∙ cond-false (not (is_whole size (2 * half) x y)) _ _ (ap not f)

        not_leaf : (q : AreQuarters (IsTree size depth) half x y leaves) (rest : List Leaf) → is_next leaf_block (4 + depth) (leaves ++ rest) ≡ false
        not_leaf q rest =
            let h : HasFirst (3 + depth) q.first = tree_first size depth x y q.first q.top_left e in
            let s : h.first.block.log2 ≤ 3 + depth = h.small in
            let differs_there : (h.first.block.log2 == 4 + depth) ≡ false = ne_eqb h.first.block.log2 (4 + depth) (λ k. omega arith) in
            ap (λ (l : List Leaf). is_next leaf_block (4 + depth) (l ++ rest)) (q.together ∙ ap (λ (l : List Leaf). ((l ++ q.second) ++ q.third) ++ q.fourth) h.is) ∙ differs_there

-- the law of coding tree units
pub ctu_law : (kind : SliceKind) (size : Size) (source : Source) (ctu : ℕ) (before leaves : List Leaf) → IsSource source
    → IsLawfulTree size ctu leaves → AreModes before → AreAllowed kind leaves
    → Reads (ctu_read kind size before ctu) (ctu_items (leaf_units kind source) size before leaves ctu) (reads_of source leaves)
unfolding ctu_read ctu_items
ctu_law kind size source ctu before leaves is t modes allowed =
    let r : Takes (tree_walk (leaf_units kind source) size 2 (ctu_x size ctu) (ctu_y size ctu)) (tree_read kind size 2 (ctu_x size ctu) (ctu_y size ctu)) source before leaves =
    tree_law kind size source 2 (ctu_x size ctu) (ctu_y size ctu) before leaves (omega arith) is t modes allowed in
    let same : tree_walk (leaf_units kind source) size 2 (ctu_x size ctu) (ctu_y size ctu) before leaves ≡ record { list = r.list; before = before ++ leaves; left = [] } =
    ap (tree_walk (leaf_units kind source) size 2 (ctu_x size ctu) (ctu_y size ctu) before) (sym (append-nil leaves)) ∙ r.walks [] in
    reads_as _ r.list _ _ _ (sym (ap (λ (w : Walk Leaf Leaf). w.list) same)) refl r.reads
