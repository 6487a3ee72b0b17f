-- What marks say after a block is drawn or copied.
use Rattle.std.proofs.Common.{◌≡◌, refl, sym, ◌∙◌, ap, subst, ℕ, ◌+◌, ◌*◌, ◌-◌, ◌/◌, ◌%◌, ◌^◌, ◌<◌, ◌≤◌, List, [], ◌∷◌, ◌++◌, Bool, true, false, cond, get_or, length, inl, inr, ◌⊎◌, arith}
use Rattle.std.specs.Prelude.{IsTrue, Some, eqb}
use Rattle.std.proofs.lemmas.Bool.{cases_lt, cases_order, eqb-true, eqb-false}
use Rattle.std.proofs.lemmas.Bool.Decides.{nat_tests}
use Rattle.h265_model.specs.declared.block.CodingBlock.{CodingBlock}
use Rattle.h265_model.specs.declared.moves.Vector.{Vector}
use Rattle.h265_model.specs.Plain.{Size, coded, ctus}
use Rattle.h265_model.specs.Settings.{is_size}
use Rattle.h265_model.specs.Motion.{has_source, moved}
use Rattle.h265_model.specs.Tree.{ReadUnit, Content, Copied, Moved, Samples, Levels, vector_of}
use Rattle.px_plane.specs.Planes.{Planes, Stores, picture_of}
use Rattle.px_plane.specs.Rows.{is_in_square, with_copy}
use Rattle.px_plane.proofs.Rows.{rows_apart}
use Rattle.leaf_sink.specs.Units.{unit}
use Rattle.canvas.specs.Drawing.{Pictures, Draws}
use Rattle.canvas.specs.Marks.{ctu_at, IsMarked, AreMarked}
use Rattle.canvas.proofs.Units.{IsAt, is_at, CopiesBy, copied_by, moved_by, copied_as, copy_drawn, unit_drawn}
use Rattle.canvas.proofs.Components.{AreDrawn, all_drawn}

-- ---- blocks and their coding tree units

-- a side of 8, 16 or 32
abbrev IsSide : ℕ → Type 0
IsSide log2 = (log2 ≡ 3) ⊎ ((log2 ≡ 4) ⊎ (log2 ≡ 5))

sides : (log2 : ℕ) → 3 ≤ log2 → log2 ≤ 5 → IsSide log2
sides log2 low high = elim (cases_lt log2 4) [ inl a ↦ inl (omega arith) | inr a ↦ elim (cases_lt log2 5) [ inl b ↦ inr (inl (omega arith)) | inr b ↦ inr (inr (omega arith)) ] ]

-- what holds of the three sides holds of a block's
each_side : (P : ℕ → Type 0) (log2 : ℕ) → 3 ≤ log2 → log2 ≤ 5 → P 8 → P 16 → P 32 → P (2 ^ log2)
each_side P log2 low high a b c = go log2 (sides log2 low high)
  where
    go : (n : ℕ) → IsSide n → P (2 ^ n)
    go n (inl e) = subst (λ (k : ℕ). P (2 ^ k)) (sym e) a
    go n (inr (inl e)) = subst (λ (k : ℕ). P (2 ^ k)) (sym e) b
    go n (inr (inr e)) = subst (λ (k : ℕ). P (2 ^ k)) (sym e) c

in_tile : (at log2 p : ℕ) → 3 ≤ log2 → log2 ≤ 5 → at % 2 ^ log2 ≡ 0 → at ≤ p → p < at + 2 ^ log2 → p / 32 ≡ at / 32
in_tile at log2 p low high =
    each_side (λ (s : ℕ). at % s ≡ 0 → at ≤ p → p < at + s → p / 32 ≡ at / 32) log2 low high (λ m a b. omega arith) (λ m a b. omega arith) (λ m a b. omega arith)

-- a block in the coded picture, at multiples of its side
pub record IsBlock (size : Size) (b : CodingBlock) : Type 0 where
  pub low : 3 ≤ b.log2
  pub high : b.log2 ≤ 5
  pub column : b.x % 2 ^ b.log2 ≡ 0
  pub row : b.y % 2 ^ b.log2 ≡ 0
  pub across : b.x + 2 ^ b.log2 ≤ coded size.w

-- the places of a block are in one coding tree unit
ctu_in : (size : Size) (b : CodingBlock) (x y : ℕ) → IsBlock size b → is_in_square b.x b.y (2 ^ b.log2) x y ≡ true → ctu_at size x y ≡ ctu_at size b.x b.y
ctu_in size b x y is inside =
    let at : IsAt b.x b.y (2 ^ b.log2) x y = is_at b.x b.y (2 ^ b.log2) x y inside in
    let ex : x / 32 ≡ b.x / 32 = in_tile b.x b.log2 x is.low is.high is.column at.left at.right in
    let ey : y / 32 ≡ b.y / 32 = in_tile b.y b.log2 y is.low is.high is.row at.top at.bottom in
    ap (λ (k : ℕ). k * ctus size.w + x / 32) ey ∙ ap (λ (k : ℕ). b.y / 32 * ctus size.w + k) ex

-- a number in rows tells its row and column
same_number : (columns a b x y : ℕ) → a < columns → x < columns → y * columns + x ≡ b * columns + a → (x ≡ a) × (y ≡ b)
same_number columns a b x y ha hx e =
    elim (cases_order y b) [
      | inr (inl less) ↦ let h = rows_apart columns x y b hx less in absurd (omega arith)
      | inr (inr more) ↦ let h = rows_apart columns a b y ha more in absurd (omega arith)
      | inl same ↦ let k : y * columns ≡ b * columns = ap (λ (n : ℕ). n * columns) same in (omega arith, same)
    ]

whole_square : (left top x y : ℕ) → left % 32 ≡ 0 → top % 32 ≡ 0 → x / 32 ≡ left / 32 → y / 32 ≡ top / 32 → is_in_square left top 32 x y ≡ true
whole_square left top x y a b c d =
    let left_is : left ≤ x = omega arith in
    let right_is : x < left + 32 = omega arith in
    let top_is : top ≤ y = omega arith in
    let bottom_is : y < top + 32 = omega arith in
    grind (arith, nat_tests)

-- a block of side 32 has all places of its coding tree unit
whole_ctu : (size : Size) (b : CodingBlock) (x y : ℕ) → IsBlock size b → 2 ^ b.log2 ≡ 32 → x < coded size.w → ctu_at size x y ≡ ctu_at size b.x b.y → is_in_square b.x b.y (2 ^ b.log2) x y ≡ true
whole_ctu size b x y is n wide same =
    let across : b.x + 32 ≤ coded size.w = subst (λ (k : ℕ). b.x + k ≤ coded size.w) n is.across in
    let one : b.x / 32 < ctus size.w = omega arith in
    let other : x / 32 < ctus size.w = omega arith in
    let p = same_number (ctus size.w) (b.x / 32) (b.y / 32) (x / 32) (y / 32) one other same in
    let column : b.x % 32 ≡ 0 = subst (λ (k : ℕ). b.x % k ≡ 0) n is.column in
    let row : b.y % 32 ≡ 0 = subst (λ (k : ℕ). b.y % k ≡ 0) n is.row in
    subst (λ (k : ℕ). is_in_square b.x b.y k x y ≡ true) (sym n) (whole_square b.x b.y x y column row p.0 p.1)

-- ---- marks

-- a place without a mark is where the mark was taken away, or had none before
unmarked : (before after : List Bool) (ctu i : ℕ) (mark : Bool) → IsMarked before after ctu mark → get_or after i true ≡ false → ((i ≡ ctu) × (mark ≡ false)) ⊎ ((i ≡ ctu → ⊥) × (get_or before i true ≡ false))
unmarked before after ctu i mark set clear = go (eqb i ctu) refl (sym (set i) ∙ clear)
  where
    go : (t : Bool) → eqb i ctu ≡ t → cond t mark (get_or before i true) ≡ false → ((i ≡ ctu) × (mark ≡ false)) ⊎ ((i ≡ ctu → ⊥) × (get_or before i true ≡ false))
    go true e h = inl (eqb-true i ctu e, h)
    go false e h = inr (eqb-false i ctu e, h)

-- beside a block a picture is as before
pub record IsElsewhere (size : Size) (d d2 : Planes) (b : CodingBlock) : Type 0 where
  pub others : (c x y : ℕ) → c < 3 → x < coded size.w → y < coded size.h → is_in_square b.x b.y (2 ^ b.log2) x y ≡ false → picture_of d2 c x y ≡ picture_of d c x y

-- in the block it is the last one
pub record IsMended (last d2 : Planes) (b : CodingBlock) : Type 0 where
  pub block : (c x y : ℕ) → c < 3 → x < coded last.size.w → y < coded last.size.h → is_in_square b.x b.y (2 ^ b.log2) x y ≡ true → picture_of d2 c x y ≡ picture_of last c x y

module _ (last d d2 : Planes) (marks after : List Bool) (b : CodingBlock) (ctu : ℕ) (is : IsBlock last.size b) (are : AreMarked (record { last = last; drawn = d }) marks) (e : ctu ≡ ctu_at last.size b.x b.y) where
  -- a block was drawn, and its coding tree unit marked
  pub marked_changed : length after ≡ length marks → IsMarked marks after ctu true → IsElsewhere last.size d d2 b → AreMarked (record { last = last; drawn = d2 }) after
  marked_changed long set elsewhere = record {
    long = long ∙ are.long;
    same = λ c x y small hx hy clear. go c x y small hx hy (unmarked marks after ctu (ctu_at last.size x y) true set clear);
  }
    where
      go : (c x y : ℕ) → c < 3 → x < coded last.size.w → y < coded last.size.h → ((ctu_at last.size x y ≡ ctu) × (true ≡ false)) ⊎ ((ctu_at last.size x y ≡ ctu → ⊥) × (get_or marks (ctu_at last.size x y) true ≡ false))
          → picture_of d2 c x y ≡ picture_of last c x y
      go c x y small hx hy (inl h) = absurd (cc)
      go c x y small hx hy (inr h) = beside (is_in_square b.x b.y (2 ^ b.log2) x y) refl
        where
          beside : (t : Bool) → is_in_square b.x b.y (2 ^ b.log2) x y ≡ t → picture_of d2 c x y ≡ picture_of last c x y
          beside true k = absurd (h.0 (ctu_in last.size b x y is k ∙ sym e))
          beside false k = elsewhere.others c x y small hx hy k ∙ are.same c x y small hx hy h.1

  -- a whole coding tree unit was copied from the last picture, and its mark taken away
  pub marked_mended : length after ≡ length marks → IsMarked marks after ctu false → 2 ^ b.log2 ≡ 32 → IsElsewhere last.size d d2 b → IsMended last d2 b → AreMarked (record { last = last; drawn = d2 }) after
  marked_mended long set n elsewhere mended = record {
    long = long ∙ are.long;
    same = λ c x y small hx hy clear. go c x y small hx hy (unmarked marks after ctu (ctu_at last.size x y) false set clear);
  }
    where
      go : (c x y : ℕ) → c < 3 → x < coded last.size.w → y < coded last.size.h → ((ctu_at last.size x y ≡ ctu) × (false ≡ false)) ⊎ ((ctu_at last.size x y ≡ ctu → ⊥) × (get_or marks (ctu_at last.size x y) true ≡ false))
          → picture_of d2 c x y ≡ picture_of last c x y
      go c x y small hx hy (inl h) = mended.block c x y small hx hy (whole_ctu last.size b x y is n hx (h.0 ∙ e))
      go c x y small hx hy (inr h) = beside (is_in_square b.x b.y (2 ^ b.log2) x y) refl
        where
          beside : (t : Bool) → is_in_square b.x b.y (2 ^ b.log2) x y ≡ t → picture_of d2 c x y ≡ picture_of last c x y
          beside true k = mended.block c x y small hx hy k
          beside false k = elsewhere.others c x y small hx hy k ∙ are.same c x y small hx hy h.1

  -- a part of one was copied, and its mark stays
  pub marked_kept : IsElsewhere last.size d d2 b → IsMended last d2 b → AreMarked (record { last = last; drawn = d2 }) marks
  marked_kept elsewhere mended = record { long = are.long; same = λ c x y small hx hy clear. go c x y small hx hy clear (is_in_square b.x b.y (2 ^ b.log2) x y) refl }
    where
      go : (c x y : ℕ) → c < 3 → x < coded last.size.w → y < coded last.size.h → get_or marks (ctu_at last.size x y) true ≡ false → (t : Bool) → is_in_square b.x b.y (2 ^ b.log2) x y ≡ t → picture_of d2 c x y ≡ picture_of last c x y
      go c x y small hx hy clear true k = mended.block c x y small hx hy k
      go c x y small hx hy clear false k = elsewhere.others c x y small hx hy k ∙ are.same c x y small hx hy clear

  -- where there is no mark, the block is as if it were copied
  pub copied_already : d.size ≡ last.size → get_or marks ctu true ≡ false → Stores d (with_copy (picture_of d) (picture_of last) b.x b.y b.x b.y (2 ^ b.log2))
  copied_already size clear = record { each = λ c x y small hx hy. go c x y small (subst (λ (s : Size). x < coded s.w) size hx) (subst (λ (s : Size). y < coded s.h) size hy) (is_in_square b.x b.y (2 ^ b.log2) x y) refl }
    where
      go : (c x y : ℕ) → c < 3 → x < coded last.size.w → y < coded last.size.h → (t : Bool) → is_in_square b.x b.y (2 ^ b.log2) x y ≡ t
          → picture_of d c x y ≡ cond t (picture_of last c (b.x + (x - b.x)) (b.y + (y - b.y))) (picture_of d c x y)
      go c x y small hx hy true k =
          let at : IsAt b.x b.y (2 ^ b.log2) x y = is_at b.x b.y (2 ^ b.log2) x y k in
          let left : b.x ≤ x = at.left in
          let top : b.y ≤ y = at.top in
          let ex : x ≡ b.x + (x - b.x) = omega arith in
          let ey : y ≡ b.y + (y - b.y) = omega arith in
          are.same c x y small hx hy (ap (λ (i : ℕ). get_or marks i true) (ctu_in last.size b x y is k ∙ sym e) ∙ clear)
          ∙ (ap (λ (i : ℕ). picture_of last c i y) ex ∙ ap (λ (i : ℕ). picture_of last c (b.x + (x - b.x)) i) ey)
      go c x y small hx hy false k = refl

-- ---- what was drawn

-- a block was copied
pub elsewhere_copied : (last d d2 : Planes) (from_x from_y n : ℕ) (b : CodingBlock) → n ≡ 2 ^ b.log2 → d2.size ≡ last.size → Stores d2 (with_copy (picture_of d) (picture_of last) from_x from_y b.x b.y n)
    → IsElsewhere last.size d d2 b
elsewhere_copied last d d2 from_x from_y n b en size stores = record {
  others = λ c x y small hx hy k.
      stores.each c x y small (subst (λ (s : Size). x < coded s.w) (sym size) hx) (subst (λ (s : Size). y < coded s.h) (sym size) hy)
      ∙ ap (λ (t : Bool). cond t (picture_of last c (from_x + (x - b.x)) (from_y + (y - b.y))) (picture_of d c x y)) (ap (λ (s : ℕ). is_in_square b.x b.y s x y) en ∙ k);
}

pub mended_copied : (last d d2 : Planes) (n : ℕ) (b : CodingBlock) → n ≡ 2 ^ b.log2 → d2.size ≡ last.size → Stores d2 (with_copy (picture_of d) (picture_of last) b.x b.y b.x b.y n) → IsMended last d2 b
mended_copied last d d2 n b en size stores = record {
  block = λ c x y small hx hy k.
      let at : IsAt b.x b.y (2 ^ b.log2) x y = is_at b.x b.y (2 ^ b.log2) x y k in
      let left : b.x ≤ x = at.left in
      let top : b.y ≤ y = at.top in
      let ex : b.x + (x - b.x) ≡ x = omega arith in
      let ey : b.y + (y - b.y) ≡ y = omega arith in
      stores.each c x y small (subst (λ (s : Size). x < coded s.w) (sym size) hx) (subst (λ (s : Size). y < coded s.h) (sym size) hy)
      ∙ (ap (λ (t : Bool). cond t (picture_of last c (b.x + (x - b.x)) (b.y + (y - b.y))) (picture_of d c x y)) (ap (λ (s : ℕ). is_in_square b.x b.y s x y) en ∙ k)
      ∙ (ap (λ (i : ℕ). picture_of last c i (b.y + (y - b.y))) ex ∙ ap (λ (i : ℕ). picture_of last c x i) ey));
}

-- three components of a block were put
pub elsewhere_drawn : (last d0 d1 d2 d3 : Planes) (b : CodingBlock) (b0 b1 b2 : List ℕ) → d0.size ≡ last.size → AreDrawn d0 d1 d2 d3 b.x b.y (2 ^ b.log2) b0 b1 b2 → IsElsewhere last.size d0 d3 b
elsewhere_drawn last d0 d1 d2 d3 b b0 b1 b2 size are = record {
  others = λ c x y small hx hy k.
      all_drawn d0 d1 d2 d3 b.x b.y (2 ^ b.log2) b0 b1 b2 are c x y small (subst (λ (s : Size). x < coded s.w) (sym size) hx) (subst (λ (s : Size). y < coded s.h) (sym size) hy)
      ∙ ap (λ (t : Bool). cond t (get_or (get_or (b0 ∷ b1 ∷ b2 ∷ []) c []) ((y - b.y) * 2 ^ b.log2 + (x - b.x)) 0) (picture_of d0 c x y)) k;
}

-- ---- units that are copied

copies_by : (content : Content) (v : Vector) → vector_of content ≡ Some v → CopiesBy content v
copies_by (Copied w) v e = let same : w ≡ v = cc in subst (λ (u : Vector). CopiesBy (Copied w) u) same (copied_by w)
copies_by (Moved w) v e = let same : w ≡ v = cc in subst (λ (u : Vector). CopiesBy (Moved w) u) same (moved_by w)
copies_by (Samples planes) v e = absurd (cc)
copies_by (Levels mode planes) v e = absurd (cc)

-- a unit whose block was copied is drawn
pub copy_draws : (old new : Pictures) (b : CodingBlock) (v : Vector) (from_x from_y n : ℕ) → IsTrue (is_size old.last.size) → old.drawn.size ≡ old.last.size → new.drawn.size ≡ old.last.size
    → IsTrue (has_source old.last.size b v) → from_x ≡ moved b.x v.x → from_y ≡ moved b.y v.y → n ≡ 2 ^ b.log2 → new.last ≡ old.last
    → Stores new.drawn (with_copy (picture_of old.drawn) (picture_of old.last) from_x from_y b.x b.y n)
    → (units : List ReadUnit) (content : Content) → vector_of content ≡ Some v → Draws old units → Draws new (units ++ unit b content ∷ [])
copy_draws old new b v from_x from_y n sized size_old size_new source ex ey en same stores units content by draws =
    unit_drawn old new units (unit b content) draws
    (copy_drawn old new units (unit b content) v sized size_old size_new source (copies_by content v by) (copied_as old new from_x from_y b.x b.y b.log2 n v ex ey en stores same))
