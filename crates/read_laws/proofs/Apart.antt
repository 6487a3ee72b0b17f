-- No place of a picture is in two of the units that are read of it.
use Rattle.std.proofs.Common.{◌≡◌, refl, sym, ◌∙◌, ap, subst, pow-suc, ℕ, zero, suc, ◌+◌, ◌*◌, ◌/◌, ◌%◌, ◌^◌, ◌<◌, ◌≤◌, List, [], ◌∷◌, ◌++◌, Bool, true, false, ◌||◌, ⊎_elim, map, append_assoc, append-nil, arith}
use Rattle.std.specs.Prelude.{MatchBool, ◌⊎◌}
use Rattle.std.proofs.lemmas.Bool.{or_cases}
use Rattle.std.proofs.lemmas.List.Folds.{list_any-append}
use Rattle.std.proofs.lemmas.Nat.{div-add-mod'}
use Rattle.h265_model.specs.declared.leaf.SliceKind.{SliceKind}
use Rattle.h265_model.specs.declared.leaf.Leaf.{Leaf}
use Rattle.h265_model.specs.Plain.{block_at, Size, ctus, joined, leaf_with, ctu_x, ctu_y}
use Rattle.h265_model.specs.Predict.{is_inside}
use Rattle.h265_model.specs.Tree.{is_whole, IsTree, IsLawfulTree, IsCodingUnit, AreQuarters}
use Rattle.h265_model.specs.Plain.{covers}
use Rattle.h265_model.specs.Tree.{ReadUnit, leaf_of}
use Rattle.h265_laws.proofs.Coverage.{is_covered, covers_parts}
use Rattle.h265_laws.proofs.ZOrder.{IsWithin}
use Rattle.read_laws.proofs.ReadTrees.{map-append}
use Rattle.read_laws.specs.Laws.{AreTreesFrom, AreApart, EachPlaceIsDrawnOnce}

false_of : (b : Bool) → (b ≡ true → ⊥) → b ≡ false
false_of true h = absurd (h refl)
false_of false h = refl

neither : (b c : Bool) → b ≡ false → c ≡ false → (b || c) ≡ false
neither b c hb hc = ap (λ (x : Bool). x || c) hb ∙ hc

-- covered by two lists or by one
covered_by : (a b : List Leaf) (px py : ℕ) → is_covered (a ++ b) px py ≡ true → (is_covered a px py ≡ true) ⊎ (is_covered b px py ≡ true)
covered_by a b px py h = or_cases (is_covered a px py) (is_covered b px py) (sym (list_any-append (covers px py) a b) ∙ h)

clear_both : (a b : List Leaf) (px py : ℕ) → is_covered a px py ≡ false → is_covered b px py ≡ false → is_covered (a ++ b) px py ≡ false
clear_both a b px py ha hb = list_any-append (covers px py) a b ∙ neither (is_covered a px py) (is_covered b px py) ha hb

apart-append : (before a b : List Leaf) → AreApart before a → AreApart (before ++ a) b → AreApart before (a ++ b)
apart-append before [] b h k = subst (λ (l : List Leaf). AreApart l b) (append-nil before) k
apart-append before (leaf ∷ a) b h k = (h.0, apart-append (before ++ leaf ∷ []) a b h.1 (subst (λ (l : List Leaf). AreApart l b) (sym (append_assoc before (leaf ∷ []) a)) k))

-- ---- the leaves of a block lie in it

one_within : (x y log2 px py : ℕ) (leaves : List Leaf) → IsCodingUnit (block_at x y log2) leaves → is_covered leaves px py ≡ true → IsWithin x y (2 ^ log2) px py
one_within x y log2 px py leaves u h =
    let leaf : Leaf = leaf_with (block_at x y log2) u.kind in
    let one : (covers px py leaf || false) ≡ true = sym (ap (λ (l : List Leaf). is_covered l px py) u.one) ∙ h in
    covers_parts leaf px py (⊎_elim (λ k. k) (λ k. absurd (cc)) (or_cases (covers px py leaf) false one))

none_within : (x y n px py : ℕ) (leaves : List Leaf) → leaves ≡ [] → is_covered leaves px py ≡ true → IsWithin x y n px py
none_within x y n px py leaves none h = absurd (let f : is_covered [] px py ≡ true = sym (ap (λ (l : List Leaf). is_covered l px py) none) ∙ h in cc)

larger : (depth : ℕ) → 2 ^ (3 + suc depth) ≡ 2 * 2 ^ (3 + depth)
larger depth = let e : 3 + suc depth ≡ suc (3 + depth) = omega arith in ap (λ (n : ℕ). 2 ^ n) e ∙ (pow-suc 2 (3 + depth) ∙ turned (2 ^ (3 + depth)))
  where
    turned : (p : ℕ) → p * 2 ≡ 2 * p
    turned p = omega arith

one_more : (depth : ℕ) → 2 ^ (4 + depth) ≡ 2 ^ (3 + suc depth)
one_more depth = let e : 4 + depth ≡ 3 + suc depth = omega arith in ap (λ (n : ℕ). 2 ^ n) e

-- a quarter lies in its block
quarter_in : (x y n half dx dy px py : ℕ) → n ≡ 2 * half → dx ≤ half → dy ≤ half → IsWithin (x + dx) (y + dy) half px py → IsWithin x y n px py
quarter_in x y n half dx dy px py e hx hy w =
    let a : x + dx ≤ px = w.left in
    let b : px < x + dx + half = w.right in
    let c : y + dy ≤ py = w.top in
    let d : py < y + dy + half = w.bottom in
    record { left = omega arith; right = omega arith; top = omega arith; bottom = omega arith }

within_as : (x y x' y' n px py : ℕ) → x ≡ x' → y ≡ y' → IsWithin x y n px py → IsWithin x' y' n px py
within_as x y x' y' n px py ex ey w = subst (λ (u : ℕ). IsWithin u y' n px py) ex (subst (λ (v : ℕ). IsWithin x v n px py) ey w)

tree_within : (size : Size) (depth x y : ℕ) (leaves : List Leaf) → IsTree size depth x y leaves → (px py : ℕ) → is_covered leaves px py ≡ true → IsWithin x y (2 ^ (3 + depth)) px py
tree_within size zero x y leaves t px py h = go (is_inside size x y) t
  where
    go : (b : Bool) → MatchBool b (IsCodingUnit (block_at x y 3) leaves) (leaves ≡ []) → IsWithin x y (2 ^ 3) px py
    go true u = one_within x y 3 px py leaves u h
    go false none = none_within x y (2 ^ 3) px py leaves none h
tree_within size (suc depth) x y leaves t px py h = go (is_inside size x y) (is_whole size (2 * half) x y) t (λ qx qy l q k. tree_within size depth qx qy l q px py k)
  where
    half : ℕ
    half = 2 ^ (3 + depth)

    n : ℕ
    n = 2 ^ (3 + suc depth)

    double : n ≡ 2 * half
    double = larger depth

    Lower : Type 0
    Lower = (qx qy : ℕ) (l : List Leaf) → IsTree size depth qx qy l → is_covered l px py ≡ true → IsWithin qx qy half px py

    same : (a : ℕ) → a ≡ a + 0
    same a = omega arith

    four : AreQuarters (IsTree size depth) half x y leaves → Lower → IsWithin x y n px py
    four q lower =
        let all : is_covered (((q.first ++ q.second) ++ q.third) ++ q.fourth) px py ≡ true = sym (ap (λ (l : List Leaf). is_covered l px py) q.together) ∙ h in
        ⊎_elim
        (λ abc. ⊎_elim
        (λ ab. ⊎_elim
        (λ a. quarter_in x y n half 0 0 px py double (omega arith) (omega arith) (within_as x y (x + 0) (y + 0) half px py (same x) (same y) (lower x y q.first q.top_left a)))
        (λ b. quarter_in x y n half half 0 px py double (omega arith) (omega arith) (within_as (x + half) y (x + half) (y + 0) half px py refl (same y) (lower (x + half) y q.second q.top_right b)))
        (covered_by q.first q.second px py ab))
        (λ c. quarter_in x y n half 0 half px py double (omega arith) (omega arith) (within_as x (y + half) (x + 0) (y + half) half px py (same x) refl (lower x (y + half) q.third q.bottom_left c)))
        (covered_by (q.first ++ q.second) q.third px py abc))
        (λ d. quarter_in x y n half half half px py double (omega arith) (omega arith) (lower (x + half) (y + half) q.fourth q.bottom_right d))
        (covered_by ((q.first ++ q.second) ++ q.third) q.fourth px py all)

    unit : IsCodingUnit (block_at x y (4 + depth)) leaves → IsWithin x y n px py
    unit u = subst (λ (m : ℕ). IsWithin x y m px py) (one_more depth) (one_within x y (4 + depth) px py leaves u h)

    go : (a b : Bool) → MatchBool a (MatchBool b (IsCodingUnit (block_at x y (4 + depth)) leaves ⊎ AreQuarters (IsTree size depth) half x y leaves) (AreQuarters (IsTree size depth) half x y leaves)) (leaves ≡ []) → Lower → IsWithin x y n px py
    go false b none lower = none_within x y n px py leaves none h
    go true false q lower = four q lower
    go true true u lower = ⊎_elim unit (λ q. four q lower) u

-- ---- they are apart

-- none of a block's places is in these
abbrev IsClear : List Leaf → ℕ → ℕ → ℕ → Type 0
IsClear before x y n = (px py : ℕ) → IsWithin x y n px py → is_covered before px py ≡ false

one_apart : (x y log2 : ℕ) (before leaves : List Leaf) → IsCodingUnit (block_at x y log2) leaves → IsClear before x y (2 ^ log2) → AreApart before leaves
one_apart x y log2 before leaves u clear =
    subst (AreApart before) (sym u.one) ((λ px py c. clear px py (covers_parts (leaf_with (block_at x y log2) u.kind) px py c)), tt)

tree_apart : (size : Size) (depth x y : ℕ) (before leaves : List Leaf) → IsTree size depth x y leaves → IsClear before x y (2 ^ (3 + depth)) → AreApart before leaves
tree_apart size zero x y before leaves t clear = go (is_inside size x y) t
  where
    go : (b : Bool) → MatchBool b (IsCodingUnit (block_at x y 3) leaves) (leaves ≡ []) → AreApart before leaves
    go true u = one_apart x y 3 before leaves u clear
    go false none = subst (AreApart before) (sym none) tt
tree_apart size (suc depth) x y before leaves t clear = go (is_inside size x y) (is_whole size (2 * half) x y) t (λ qx qy b l q k. tree_apart size depth qx qy b l q k)
  where
    half : ℕ
    half = 2 ^ (3 + depth)

    n : ℕ
    n = 2 ^ (3 + suc depth)

    double : n ≡ 2 * half
    double = larger depth

    Lower : Type 0
    Lower = (qx qy : ℕ) (b l : List Leaf) → IsTree size depth qx qy l → IsClear b qx qy half → AreApart b l

    same : (a : ℕ) → a ≡ a + 0
    same a = omega arith

    -- a quarter's places are in none of the leaves before the block
    first_clear : (dx dy : ℕ) → dx ≤ half → dy ≤ half → IsClear before (x + dx) (y + dy) half
    first_clear dx dy hx hy px py w = clear px py (quarter_in x y n half dx dy px py double hx hy w)

    -- and in none of another quarter's
    other_clear : (l : List Leaf) (ax ay bx by : ℕ) → IsTree size depth ax ay l → ((px py : ℕ) → IsWithin ax ay half px py → IsWithin bx by half px py → ⊥) → IsClear l bx by half
    other_clear l ax ay bx by tree differ px py w = false_of (is_covered l px py) (λ c. differ px py (tree_within size depth ax ay l tree px py c) w)

    beside : (a b c d px py : ℕ) → a + half ≤ b → IsWithin a c half px py → IsWithin b d half px py → ⊥
    beside a b c d px py h v w = let p : px < a + half = v.right in let q : b ≤ px = w.left in absurd (omega arith)

    below : (a b c d px py : ℕ) → c + half ≤ d → IsWithin a c half px py → IsWithin b d half px py → ⊥
    below a b c d px py h v w = let p : py < c + half = v.bottom in let q : d ≤ py = w.top in absurd (omega arith)

    beside_back : (a b c d px py : ℕ) → b + half ≤ a → IsWithin a c half px py → IsWithin b d half px py → ⊥
    beside_back a b c d px py h v w = beside b a d c px py h w v

    at_x : IsClear before x y half
    at_x px py w = first_clear 0 0 (omega arith) (omega arith) px py (within_as x y (x + 0) (y + 0) half px py (same x) (same y) w)

    at_right : IsClear before (x + half) y half
    at_right px py w = first_clear half 0 (omega arith) (omega arith) px py (within_as (x + half) y (x + half) (y + 0) half px py refl (same y) w)

    at_below : IsClear before x (y + half) half
    at_below px py w = first_clear 0 half (omega arith) (omega arith) px py (within_as x (y + half) (x + 0) (y + half) half px py (same x) refl w)

    at_across : IsClear before (x + half) (y + half) half
    at_across px py w = first_clear half half (omega arith) (omega arith) px py w

    four : AreQuarters (IsTree size depth) half x y leaves → Lower → AreApart before leaves
    four q lower =
        let a : List Leaf = q.first in
        let b : List Leaf = q.second in
        let c : List Leaf = q.third in
        let b_clear : IsClear (before ++ a) (x + half) y half =
        λ px py w. clear_both before a px py (at_right px py w) (other_clear a x y (x + half) y q.top_left (λ u v h k. beside x (x + half) y y u v (omega arith) h k) px py w) in
        let c_clear : IsClear (before ++ (a ++ b)) x (y + half) half =
        λ px py w. clear_both before (a ++ b) px py (at_below px py w)
        (clear_both a b px py (other_clear a x y x (y + half) q.top_left (λ u v h k. below x x y (y + half) u v (omega arith) h k) px py w)
        (other_clear b (x + half) y x (y + half) q.top_right (λ u v h k. below (x + half) x y (y + half) u v (omega arith) h k) px py w)) in
        let d_clear : IsClear (before ++ ((a ++ b) ++ c)) (x + half) (y + half) half =
        λ px py w. clear_both before ((a ++ b) ++ c) px py (at_across px py w)
        (clear_both (a ++ b) c px py
        (clear_both a b px py (other_clear a x y (x + half) (y + half) q.top_left (λ u v h k. below x (x + half) y (y + half) u v (omega arith) h k) px py w)
        (other_clear b (x + half) y (x + half) (y + half) q.top_right (λ u v h k. below (x + half) (x + half) y (y + half) u v (omega arith) h k) px py w))
        (other_clear c x (y + half) (x + half) (y + half) q.bottom_left (λ u v h k. beside x (x + half) (y + half) (y + half) u v (omega arith) h k) px py w)) in
        subst (AreApart before) (sym q.together)
        (apart-append before ((a ++ b) ++ c) q.fourth
        (apart-append before (a ++ b) c
        (apart-append before a b (lower x y before a q.top_left at_x) (lower (x + half) y (before ++ a) b q.top_right b_clear))
        (lower x (y + half) (before ++ (a ++ b)) c q.bottom_left c_clear))
        (lower (x + half) (y + half) (before ++ ((a ++ b) ++ c)) q.fourth q.bottom_right d_clear))

    unit : IsCodingUnit (block_at x y (4 + depth)) leaves → AreApart before leaves
    unit u = one_apart x y (4 + depth) before leaves u (λ px py w. clear px py (subst (λ (m : ℕ). IsWithin x y m px py) (one_more depth) w))

    go : (a b : Bool) → MatchBool a (MatchBool b (IsCodingUnit (block_at x y (4 + depth)) leaves ⊎ AreQuarters (IsTree size depth) half x y leaves) (AreQuarters (IsTree size depth) half x y leaves)) (leaves ≡ []) → Lower → AreApart before leaves
    go false b none lower = subst (AreApart before) (sym none) tt
    go true false q lower = four q lower
    go true true u lower = ⊎_elim unit (λ q. four q lower) u

-- ---- coding tree units

-- the number of the coding tree unit that a place is in
abbrev number_of : Size → ℕ → ℕ → ℕ
number_of size px py = py / 32 * ctus size.w + px / 32

number_in : (size : Size) (ctu px py : ℕ) → IsWithin (ctu_x size ctu) (ctu_y size ctu) 32 px py → number_of size px py ≡ ctu
number_in size ctu px py w =
    let line : py / 32 ≡ ctu / ctus size.w = row_of (ctu / ctus size.w) py w.top w.bottom in
    let column : px / 32 ≡ ctu % ctus size.w = row_of (ctu % ctus size.w) px w.left w.right in
    ap (λ (k : ℕ). k * ctus size.w + px / 32) line ∙ (ap (λ (k : ℕ). ctu / ctus size.w * ctus size.w + k) column ∙ div-add-mod' ctu (ctus size.w))
  where
    row_of : (a p : ℕ) → a * 32 ≤ p → p < a * 32 + 32 → p / 32 ≡ a
    row_of a p h k = omega arith

abbrev leaves_from : List ReadUnit → List Leaf
leaves_from us = map leaf_of us

trees_apart : (kind : SliceKind) (size : Size) (ctu : ℕ) (before : List Leaf) (trees : List (List ReadUnit)) → AreTreesFrom kind size ctu trees
    → ((px py : ℕ) → is_covered before px py ≡ true → number_of size px py < ctu) → AreApart before (leaves_from (joined trees))
trees_apart kind size ctu before [] h lower = tt
trees_apart kind size ctu before (us ∷ trees) h lower =
    let here : List Leaf = leaves_from us in
    let tree : IsLawfulTree size ctu here = h.0 in
    let clear : IsClear before (ctu_x size ctu) (ctu_y size ctu) 32 =
    λ px py w. false_of (is_covered before px py) (λ c. let e : number_of size px py ≡ ctu = number_in size ctu px py w in let l : number_of size px py < ctu = lower px py c in absurd (omega arith)) in
    let next : (px py : ℕ) → is_covered (before ++ here) px py ≡ true → number_of size px py < suc ctu =
    λ px py c. ⊎_elim
    (λ b. let l : number_of size px py < ctu = lower px py b in omega arith)
    (λ k. let e : number_of size px py ≡ ctu = number_in size ctu px py (tree_within size 2 (ctu_x size ctu) (ctu_y size ctu) here tree px py k) in omega arith)
    (covered_by before here px py c) in
    subst (AreApart before) (sym (map-append us (joined trees)))
    (apart-append before here (leaves_from (joined trees)) (tree_apart size 2 (ctu_x size ctu) (ctu_y size ctu) before here tree clear) (trees_apart kind size (suc ctu) (before ++ here) trees h.2 next))

pub places_are_apart : EachPlaceIsDrawnOnce
places_are_apart kind size n units is =
    subst (λ (us : List ReadUnit). AreApart [] (leaves_from us)) is.together (trees_apart kind size 0 [] is.trees is.lawful (λ px py c. absurd (cc)))
