-- Pictures and streams without moves, segments and hashes are decoded as before.
use Rattle.std.proofs.Common.{◌≡◌, refl, ◌∙◌, ap, ℕ, ◌+◌, ◌*◌, ◌-◌, List, [], ◌∷◌, ◌++◌, cond, add-zero}
use Rattle.std.specs.Prelude.{map, get_or}
use Rattle.std.specs.List.{flat_map}
use Rattle.h265_model.specs.declared.leaf.Leaf.{Leaf}
use Rattle.h265_model.specs.Plain.{block_at, covers, Size, Picture, leaf_with, below, place_values}
use Rattle.h265_model.specs.Raster.{planes, blank}
use Rattle.h265_laws.proofs.LeafReading as Tree
use Rattle.h265_model.specs.Tree.{samples_in}
use Rattle.h265_model.specs.Plain.{leaf_side}
use Rattle.h265_laws.proofs.LeafDecoding as Rebuild
use Rattle.h265_model.specs.Motion.{no_motion}
use Rattle.h265_model.specs.Tree.{kind_of}
use Rattle.h265_model.specs.Rebuild.{moved_samples, block_of, with_unit, with_units, rebuild}
use Rattle.stream_laws.proofs.OldTree.{content_as, unit_as, units_as}

-- ---- samples

map_same : {A : Type 0} (f g : ℕ → A) → ((i : ℕ) → f i ≡ g i) → (ns : List ℕ) → map f ns ≡ map g ns
map_same f g e [] = refl
map_same f g e (n ∷ ns) = ap (λ x. x ∷ map f ns) (e n) ∙ ap (λ l. g n ∷ l) (map_same f g e ns)

flat_same : {A : Type 0} (f g : ℕ → List A) → ((i : ℕ) → f i ≡ g i) → (ns : List ℕ) → flat_map f ns ≡ flat_map g ns
flat_same f g e [] = refl
flat_same f g e (n ∷ ns) = ap (λ l. l ++ flat_map f ns) (e n) ∙ ap (λ l. g n ++ l) (flat_same f g e ns)

places_same : (w h : ℕ) (f g : ℕ → ℕ → ℕ) → ((x y : ℕ) → f x y ≡ g x y) → place_values w h f ≡ place_values w h g
places_same w h f g e = flat_same (λ y. map (λ x. f x y) (below w)) (λ y. map (λ x. g x y) (below w)) (λ y. map_same (λ x. f x y) (λ x. g x y) (λ x. e x y) (below w)) (below h)

-- a block copied without motion
copied_same : (prev : Picture) (leaf : Leaf) (component : ℕ) → moved_samples prev leaf no_motion component ≡ samples_in prev leaf component
unfolding moved_samples
copied_same prev leaf component =
    places_same (leaf_side leaf) (leaf_side leaf) _ _ (λ x y.
    ap (λ (n : ℕ). prev component n (leaf.block.y + y + 0)) (add-zero (leaf.block.x + x)) ∙ ap (λ (n : ℕ). prev component (leaf.block.x + x) n) (add-zero (leaf.block.y + y)))

block_same : (size : Size) (prev now : Picture) (x y log2 : ℕ) (c : Tree.Content) (component : ℕ)
    → block_of size prev now (leaf_with (block_at x y log2) (kind_of (content_as c))) (content_as c) component ≡ Rebuild.block_of size prev now (leaf_with (block_at x y log2) (Tree.kind_of c)) c component
unfolding block_of Rebuild.block_of
block_same size prev now x y log2 Tree.Copied component = copied_same prev (leaf_with (block_at x y log2) (Tree.kind_of Tree.Copied)) component
block_same size prev now x y log2 (Tree.Samples planes) component = refl
block_same size prev now x y log2 (Tree.Levels mode planes) component = refl

unit_same : (size : Size) (prev now : Picture) (read : Tree.ReadLeaf) → with_unit size prev now (unit_as read) ≡ Rebuild.with_leaf size prev now read
unit_same size prev now read = λ i component x y. cond (covers x y (Tree.leaf_of read)) (get_or (block_same size prev now read.block.x read.block.y read.block.log2 read.content component i) ((y - read.block.y) * leaf_side (Tree.leaf_of read) + (x - read.block.x)) 0) (now component x y)

units_same : (size : Size) (prev now : Picture) (reads : List Tree.ReadLeaf) → with_units size prev now (units_as reads) ≡ Rebuild.with_leaves size prev now reads
units_same size prev now [] = refl
units_same size prev now (read ∷ reads) =
    ap (λ (p : Picture). with_units size prev p (units_as reads)) (unit_same size prev now read) ∙ units_same size prev (Rebuild.with_leaf size prev now read) reads

pub rebuild_same : (size : Size) (prev : Picture) (reads : List Tree.ReadLeaf) → rebuild size prev (units_as reads) ≡ Rebuild.rebuild size prev reads
unfolding rebuild Rebuild.rebuild
rebuild_same size prev reads = ap (planes size) (units_same size prev blank reads)
