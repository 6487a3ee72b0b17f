-- A block is a copy by the definition where it is moved.
use Rattle.std.proofs.Common.{◌≡◌, refl, sym, ap, ◌∙◌, ℕ, zero, suc, ◌+◌, ◌*◌, ◌<◌, ◌≤◌, Bool, true, false, List, [], ◌∷◌, get_or, length, arith}
use Rattle.std.specs.Prelude.{◌==◌, ◌&&◌, ◌↔◌, IsTrue, Option, Some, None}
use Rattle.std.specs.List.{find}
use Rattle.std.proofs.lemmas.Bool.{and_parts, and_from, eqb-true, eq-eqb, false≢true}
use Rattle.h265_model.proofs.Squares.{same_places, at_places}
use Rattle.h265_model.specs.declared.block.CodingBlock.{CodingBlock}
use Rattle.h265_model.specs.declared.leaf.Kind.{Kind}
use Rattle.h265_model.specs.declared.leaf.Kind.TheVariants.{Pcm}
use Rattle.h265_model.specs.declared.moves.Vector.{Vector}
use Rattle.h265_model.specs.Plain.{Size, Picture, coded, side, leaf_with}
use Rattle.h265_model.specs.Tree.{samples_in}
use Rattle.h265_model.specs.Choice.{same}
use Rattle.h265_model.specs.Motion.{no_motion, moved, reaches, has_source}
use Rattle.h265_model.specs.Rebuild.{moved_samples}
use Rattle.h265_model.specs.MotionChoice.{tried_vectors, is_copy_by}
use Rattle.vector_search.specs.Copies.{tried, IsMoved, TellsFirst, IsFirst}
use Rattle.vector_search.proofs.Tried.{tried_long}
use Rattle.vector_search.proofs.Moves.{moved_part, all_moved, moved_all}

same_refl : (xs : List ℕ) → same xs xs ≡ true
same_refl [] = refl
same_refl (x ∷ xs) = and_from (x == x) (same xs xs) (eq-eqb x x refl) (same_refl xs)

same_is : (xs ys : List ℕ) → same xs ys ≡ true → xs ≡ ys
same_is [] [] h = refl
same_is [] (y ∷ ys) h = absurd (false≢true h)
same_is (x ∷ xs) [] h = absurd (false≢true h)
same_is (x ∷ xs) (y ∷ ys) h =
    let p = and_parts (x == y) (same xs ys) h in
    let e : x ≡ y = eqb-true x y p.0 in
    rw (e, same_is xs ys p.1) refl

-- the samples of a component
samples_same : (p q : Picture) (size : Size) (block : CodingBlock) (kind : Kind) (v : Vector) (c : ℕ) → c < 3 → IsMoved p q size block.x block.y (side block) v
    → same (moved_samples p (leaf_with block kind) v c) (samples_in q (leaf_with block kind) c) ≡ true
unfolding moved_samples
samples_same p q size block kind v c hc is =
    ap (λ (l : List ℕ). same l (samples_in q (leaf_with block kind) c))
    (same_places (side block) (side block) (λ i j. p c (moved (block.x + i) v.x) (moved (block.y + j) v.y)) (λ i j. q c (block.x + i) (block.y + j))
    (λ i j hi hj.
    let ex : moved (block.x + i) v.x ≡ moved block.x v.x + i = moved_part (coded size.w) (side block) block.x i v.x is.across in
    let ey : moved (block.y + j) v.y ≡ moved block.y v.y + j = moved_part (coded size.h) (side block) block.y j v.y is.down in
    rw (ex, ey) ((is.same c hc).each i j hi hj)))
    ∙ same_refl (samples_in q (leaf_with block kind) c)

pub copy_from : (p q : Picture) (size : Size) (block : CodingBlock) (kind : Kind) (v : Vector) → IsMoved p q size block.x block.y (side block) v
    → is_copy_by p q size (leaf_with block kind) v ≡ true
unfolding is_copy_by has_source
copy_from p q size block kind v is =
    and_from _ _ (and_from _ _ is.across is.down)
    (and_from _ _ (samples_same p q size block kind v 0 (omega arith) is)
    (and_from _ _ (samples_same p q size block kind v 1 (omega arith) is)
    (and_from _ _ (samples_same p q size block kind v 2 (omega arith) is) refl)))

pub from_copy : (p q : Picture) (size : Size) (block : CodingBlock) (kind : Kind) (v : Vector) → is_copy_by p q size (leaf_with block kind) v ≡ true
    → IsMoved p q size block.x block.y (side block) v
unfolding is_copy_by has_source moved_samples
from_copy p q size block kind v h =
    let parts = and_parts _ _ h in
    let source = and_parts _ _ parts.0 in
    record {
      across = source.0;
      down = source.1;
      same = λ c hc. record { each = λ i j hi hj. at source.0 source.1 c i j hi hj (list parts.1 c hc) };
    }
  where
    s : ℕ → Bool
    s c = same (moved_samples p (leaf_with block kind) v c) (samples_in q (leaf_with block kind) c)

    list : s 0 && (s 1 && (s 2 && true)) ≡ true → (c : ℕ) → c < 3 → moved_samples p (leaf_with block kind) v c ≡ samples_in q (leaf_with block kind) c
    list all zero hc = same_is _ _ (and_parts _ _ all).0
    list all (suc zero) hc = same_is _ _ (and_parts _ _ (and_parts _ _ all).1).0
    list all (suc (suc zero)) hc = same_is _ _ (and_parts _ _ (and_parts _ _ (and_parts _ _ all).1).1).0
    list all (suc (suc (suc c))) hc = absurd (omega arith)

    at : reaches (coded size.w) (side block) block.x v.x ≡ true → reaches (coded size.h) (side block) block.y v.y ≡ true
        → (c i j : ℕ) → i < side block → j < side block → moved_samples p (leaf_with block kind) v c ≡ samples_in q (leaf_with block kind) c
        → p c (moved block.x v.x + i) (moved block.y v.y + j) ≡ q c (block.x + i) (block.y + j)
    at across down c i j hi hj e =
        let ex : moved (block.x + i) v.x ≡ moved block.x v.x + i = moved_part (coded size.w) (side block) block.x i v.x across in
        let ey : moved (block.y + j) v.y ≡ moved block.y v.y + j = moved_part (coded size.h) (side block) block.y j v.y down in
        rw (ex, ey) at (
        sym (at_places (side block) (side block) i j (λ i j. p c (moved (block.x + i) v.x) (moved (block.y + j) v.y)) 0 hi hj)
        ∙ (ap (λ (l : List ℕ). get_or l (j * side block + i) 0) e ∙ at_places (side block) (side block) i j (λ i j. q c (block.x + i) (block.y + j)) 0 hi hj)
        )

-- an answer that is true exactly where the block is moved is the definition's
pub copy_is : (p q : Picture) (size : Size) (block : CodingBlock) (kind : Kind) (v : Vector) (b : Bool) → IsTrue b ↔ IsMoved p q size block.x block.y (side block) v
    → b ≡ is_copy_by p q size (leaf_with block kind) v
copy_is p q size block kind v true is = sym (copy_from p q size block kind v (is.0 refl))
copy_is p q size block kind v false is = go (is_copy_by p q size (leaf_with block kind) v) refl
  where
    go : (b : Bool) → is_copy_by p q size (leaf_with block kind) v ≡ b → false ≡ is_copy_by p q size (leaf_with block kind) v
    go true e = is.1 (from_copy p q size block kind v e) ∙ sym e
    go false e = sym e

pub not_copy : (p q : Picture) (size : Size) (block : CodingBlock) (kind : Kind) (v : Vector) → (IsMoved p q size block.x block.y (side block) v → ⊥)
    → is_copy_by p q size (leaf_with block kind) v ≡ false
not_copy p q size block kind v none = sym (copy_is p q size block kind v false (λ h. absurd (false≢true h), λ is. absurd (none is)))

-- ---- the first of a list

pub find_at : (test : Vector → Bool) (list : List Vector) (n : ℕ) (d : Vector) → n < length list → ((m : ℕ) → m < n → test (get_or list m d) ≡ false)
    → test (get_or list n d) ≡ true → find test list ≡ Some (get_or list n d)
find_at test [] n d within before is = absurd (omega arith)
find_at test (v ∷ list) zero d within before is = rw is refl
find_at test (v ∷ list) (suc n) d within before is = rw (before 0 (omega arith)) (find_at test list n d (omega arith) (λ m h. before (suc m) (omega arith)) is)

pub find_none : (test : Vector → Bool) (list : List Vector) (d : Vector) → ((m : ℕ) → m < length list → test (get_or list m d) ≡ false) → find test list ≡ None
find_none test [] d none = refl
find_none test (v ∷ list) d none = rw (none 0 (omega arith)) (find_none test list d (λ m h. none (suc m) (omega arith)))

-- the vector of this number, if any
abbrev pub vector_of : Option ℕ → Option Vector
vector_of None = None
vector_of (Some number) = Some (tried number)

-- the first vector by which all squares of a block are moved is the first by which the block is a copy
pub first_is : (equal : List Bool) (p q : Picture) (size : Size) (tx ty : ℕ) (block : CodingBlock) (i j n : ℕ) (r : Option ℕ)
    → TellsFirst equal p q size tx ty 4112 → block.x ≡ tx + i * 8 → block.y ≡ ty + j * 8 → side block ≡ n * 8 → 1 ≤ n → i + n ≤ 4 → j + n ≤ 4
    → block.x + side block ≤ coded size.w → block.y + side block ≤ coded size.h → IsFirst r equal i j n 257
    → vector_of r ≡ find (λ v. is_copy_by p q size (leaf_with block Pcm) v) tried_vectors
first_is equal p q size tx ty block i j n (Some number) tells ex ey en some hi hj hx hy is =
    sym (find_at (λ v. is_copy_by p q size (leaf_with block Pcm) v) tried_vectors number no_motion (let l : length tried_vectors ≡ 257 = tried_long in let b : number < 257 = is.0 in omega arith)
    (λ m h. not_copy p q size block Pcm (tried m) (λ moves. is.2 m h (moved_all equal p q size tx ty block.x block.y m i j n (side block) tells (let b : number < 257 = is.0 in omega arith) ex ey en hi hj hx hy moves)))
    (copy_from p q size block Pcm (tried number) (all_moved equal p q size tx ty block.x block.y number i j n (side block) tells is.0 ex ey en some hi hj hx hy is.1)))
first_is equal p q size tx ty block i j n None tells ex ey en some hi hj hx hy is =
    sym (find_none (λ v. is_copy_by p q size (leaf_with block Pcm) v) tried_vectors no_motion
    (λ m h. let few : m < 257 = (let l : length tried_vectors ≡ 257 = tried_long in omega arith) in
    not_copy p q size block Pcm (tried m) (λ moves. is m few (moved_all equal p q size tx ty block.x block.y m i j n (side block) tells few ex ey en hi hj hx hy moves))))
