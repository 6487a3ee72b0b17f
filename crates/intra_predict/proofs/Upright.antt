-- What the modes without a slant predict.
use Rattle.std.proofs.Common.{◌≡◌, ℕ, zero, suc, ◌+◌, ◌-◌, ◌<◌, ◌≤◌, Bool, true, false, List, length, get_or, set, take, drop, replicate, map, pos, ◌*ℤ◌, refl, sym, ap, ◌∙◌, arith, ◌^◌, inl, inr, ◌⊎◌}
use Rattle.std.proofs.lemmas.Bool.{ne_eqb}
use Rattle.std.proofs.lemmas.List.{get_or-replicate, get_or-set_same, get_or-set_other, length-set, length-replicate, get_or-take, get_or-drop}
use Rattle.h265_model.specs.Plain.{below}
use Rattle.intra_predict.proofs.Squares.{row_is}
use Rattle.h265_model.specs.Predict.{dc, dc_edge, mean, directed, angular, angular_from, angle, straight_edge, across, down, has_edges}

pub directed_straight : (main other : ℕ → ℕ) (mode x y : ℕ) → angle mode ≡ pos 0 → directed main other mode x y ≡ main (x + 1)
directed_straight main other mode x y e =
    let w : pos (y + 1) *ℤ angle mode ≡ pos 0 = rw e (ap pos (omega arith)) in
    rw w (ap main (omega arith))

angle_26 : angle 26 ≡ pos 0
unfolding angle
angle_26 = refl

angle_10 : angle 10 ≡ pos 0
unfolding angle
angle_10 = refl

pub straight_from : (main other : ℕ → ℕ) (mode x y : ℕ) → angle mode ≡ pos 0 → angular_from main other false mode x y ≡ main (x + 1)
straight_from main other mode x y e = directed_straight main other mode x y e

pub upright_plain : (component log2 : ℕ) (refs : List ℕ) (x y : ℕ) → has_edges component log2 ≡ false → angular 26 component log2 refs x y ≡ across refs (2 ^ log2) (x + 1)
upright_plain component log2 refs x y e = rw e (directed_straight (across refs (2 ^ log2)) (down refs (2 ^ log2)) 26 x y angle_26)

pub upright_inner : (component log2 : ℕ) (refs : List ℕ) (x y : ℕ) → has_edges component log2 ≡ true → angular 26 component log2 refs (suc x) y ≡ across refs (2 ^ log2) (suc x + 1)
upright_inner component log2 refs x y e = rw (e, ne_eqb (suc x) 0 (λ h. omega arith)) (directed_straight (across refs (2 ^ log2)) (down refs (2 ^ log2)) 26 (suc x) y angle_26)

pub upright_edge : (component log2 : ℕ) (refs : List ℕ) (y : ℕ) → has_edges component log2 ≡ true
    → angular 26 component log2 refs 0 y ≡ straight_edge (across refs (2 ^ log2)) (down refs (2 ^ log2)) y
upright_edge component log2 refs y e = rw e refl

pub level_plain : (component log2 : ℕ) (refs : List ℕ) (x y : ℕ) → has_edges component log2 ≡ false → angular 10 component log2 refs x y ≡ down refs (2 ^ log2) (y + 1)
level_plain component log2 refs x y e = rw e (directed_straight (down refs (2 ^ log2)) (across refs (2 ^ log2)) 10 y x angle_10)

pub level_inner : (component log2 : ℕ) (refs : List ℕ) (x y : ℕ) → has_edges component log2 ≡ true → angular 10 component log2 refs x (suc y) ≡ down refs (2 ^ log2) (suc y + 1)
level_inner component log2 refs x y e = rw (e, ne_eqb (suc y) 0 (λ h. omega arith)) (directed_straight (down refs (2 ^ log2)) (across refs (2 ^ log2)) 10 (suc y) x angle_10)

pub level_edge : (component log2 : ℕ) (refs : List ℕ) (x : ℕ) → has_edges component log2 ≡ true
    → angular 10 component log2 refs x 0 ≡ straight_edge (down refs (2 ^ log2)) (across refs (2 ^ log2)) x
level_edge component log2 refs x e = rw e refl

-- ---- rows

pub part_read : (refs part : List ℕ) (a b k i : ℕ) → part ≡ take (b - a) (drop a refs) → a + k < b → a + k ≡ i → get_or part k 0 ≡ get_or refs i 0
part_read refs part a b k i is within place =
    ap (λ (xs : List ℕ). get_or xs k 0) is ∙ (get_or-take (b - a) (drop a refs) k 0 (omega arith) ∙ (get_or-drop a refs k 0 ∙ ap (λ (j : ℕ). get_or refs j 0) place))

pub upright_row_plain : (row refs : List ℕ) (component log2 y : ℕ) → length row ≡ 2 ^ log2 → ((k : ℕ) → k < 2 ^ log2 → get_or row k 0 ≡ across refs (2 ^ log2) (k + 1))
    → has_edges component log2 ≡ false → row ≡ map (λ x. angular 26 component log2 refs x y) (below (2 ^ log2))
upright_row_plain row refs component log2 y long each e =
    row_is row (λ x. angular 26 component log2 refs x y) (2 ^ log2) (2 ^ log2) refl long (λ k h. each k h ∙ sym (upright_plain component log2 refs k y e))

upright_at : (row refs : List ℕ) (component log2 y v : ℕ) → 0 < length row → ((k : ℕ) → k < 2 ^ log2 → get_or row k 0 ≡ across refs (2 ^ log2) (k + 1))
    → has_edges component log2 ≡ true → v ≡ straight_edge (across refs (2 ^ log2)) (down refs (2 ^ log2)) y
    → (k : ℕ) → k < 2 ^ log2 → get_or (set row 0 v) k 0 ≡ angular 26 component log2 refs k y
upright_at row refs component log2 y v some each e is zero h = get_or-set_same row 0 v 0 some ∙ (is ∙ sym (upright_edge component log2 refs y e))
upright_at row refs component log2 y v some each e is (suc k) h =
    get_or-set_other row 0 (suc k) v 0 (λ q. omega arith) ∙ (each (suc k) h ∙ sym (upright_inner component log2 refs k y e))

pub upright_row_edge : (row refs : List ℕ) (component log2 y v : ℕ) → length row ≡ 2 ^ log2 → 0 < length row → ((k : ℕ) → k < 2 ^ log2 → get_or row k 0 ≡ across refs (2 ^ log2) (k + 1))
    → has_edges component log2 ≡ true → v ≡ straight_edge (across refs (2 ^ log2)) (down refs (2 ^ log2)) y
    → set row 0 v ≡ map (λ x. angular 26 component log2 refs x y) (below (2 ^ log2))
upright_row_edge row refs component log2 y v long some each e is =
    row_is (set row 0 v) (λ x. angular 26 component log2 refs x y) (2 ^ log2) (2 ^ log2) refl (length-set row 0 v ∙ long) (upright_at row refs component log2 y v some each e is)

pub level_row_edge : (row refs : List ℕ) (component log2 y m : ℕ) → m ≡ 2 ^ log2 → y ≡ 0 → length row ≡ 2 ^ log2
    → ((k : ℕ) → k < m → get_or row k 0 ≡ straight_edge (down refs (2 ^ log2)) (across refs (2 ^ log2)) k)
    → has_edges component log2 ≡ true → row ≡ map (λ x. angular 10 component log2 refs x y) (below (2 ^ log2))
level_row_edge row refs component log2 y m same top long each e =
    rw top (row_is row (λ x. angular 10 component log2 refs x 0) (2 ^ log2) m same long (λ k h. each k h ∙ sym (level_edge component log2 refs k e)))

level_at : (component log2 : ℕ) (refs : List ℕ) (x y : ℕ) (edges : Bool) → edges ≡ has_edges component log2 → (edges ≡ false) ⊎ (0 < y)
    → angular 10 component log2 refs x y ≡ down refs (2 ^ log2) (y + 1)
level_at component log2 refs x y edges e (inl h) = level_plain component log2 refs x y (sym e ∙ h)
level_at component log2 refs x zero edges e (inr h) = absurd (omega arith)
level_at component log2 refs x (suc y) true e (inr h) = level_inner component log2 refs x y (sym e)
level_at component log2 refs x (suc y) false e (inr h) = level_plain component log2 refs x (suc y) (sym e)

pub level_row_plain : (row refs : List ℕ) (component log2 y v : ℕ) (edges : Bool) → edges ≡ has_edges component log2 → (edges ≡ false) ⊎ (0 < y)
    → row ≡ replicate (2 ^ log2) v → v ≡ down refs (2 ^ log2) (y + 1) → row ≡ map (λ x. angular 10 component log2 refs x y) (below (2 ^ log2))
level_row_plain row refs component log2 y v edges e which is here =
    row_is row (λ x. angular 10 component log2 refs x y) (2 ^ log2) (2 ^ log2) refl (ap length is ∙ length-replicate (2 ^ log2) v)
    (λ k h. ap (λ (xs : List ℕ). get_or xs k 0) is ∙ (get_or-replicate (2 ^ log2) k v 0 h ∙ (here ∙ sym (level_at component log2 refs k y edges e which))))

dc_top_at : (row refs : List ℕ) (component log2 d v : ℕ) → 0 < length row → ((k : ℕ) → 1 ≤ k → k < 2 ^ log2 → get_or row k 0 ≡ dc_edge d (2 ^ log2) refs k 0)
    → has_edges component log2 ≡ true → d ≡ mean log2 refs → v ≡ dc_edge d (2 ^ log2) refs 0 0
    → (k : ℕ) → k < 2 ^ log2 → get_or (set row 0 v) k 0 ≡ dc component log2 refs k 0
dc_top_at row refs component log2 d v some each e m is zero h = get_or-set_same row 0 v 0 some ∙ rw (e, ← m) is
dc_top_at row refs component log2 d v some each e m is (suc k) h =
    get_or-set_other row 0 (suc k) v 0 (λ q. omega arith) ∙ rw (e, ← m) (each (suc k) (omega arith) h)

pub dc_row_top : (row refs : List ℕ) (component log2 d v y : ℕ) → y ≡ 0 → length row ≡ 2 ^ log2 → 0 < length row
    → ((k : ℕ) → 1 ≤ k → k < 2 ^ log2 → get_or row k 0 ≡ dc_edge d (2 ^ log2) refs k 0)
    → has_edges component log2 ≡ true → d ≡ mean log2 refs → v ≡ dc_edge d (2 ^ log2) refs 0 0
    → set row 0 v ≡ map (λ x. dc component log2 refs x y) (below (2 ^ log2))
dc_row_top row refs component log2 d v y top long some each e m is =
    rw top (row_is (set row 0 v) (λ x. dc component log2 refs x 0) (2 ^ log2) (2 ^ log2) refl (length-set row 0 v ∙ long) (dc_top_at row refs component log2 d v some each e m is))
