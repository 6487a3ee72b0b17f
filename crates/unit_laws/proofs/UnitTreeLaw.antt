-- A coding tree unit that was written where blocks may move is read.
use Rattle.std.proofs.Common.{◌≡◌, refl, sym, ◌∙◌, ap, subst, ℕ, zero, suc, ◌+◌, ◌*◌, ◌^◌, ◌<◌, ◌≤◌, List, [], ◌∷◌, ◌++◌, Bool, true, false, cond, not, append_assoc, append-nil, arith, ⊎_elim}
use Rattle.std.specs.Prelude.{map, ◌==◌, ◌⊎◌, MatchBool, IfSome}
use Rattle.std.proofs.lemmas.Bool.{cond-true, cond-false, eq-eqb, ne_eqb}
use Rattle.h265_model.specs.declared.Place.TheVariants.{Context}
use Rattle.h265_model.specs.declared.Item.{Item}
use Rattle.h265_model.specs.declared.leaf.SliceKind.{SliceKind}
use Rattle.h265_model.specs.declared.leaf.SliceKind.TheVariants.{I, P}
use Rattle.h265_model.specs.declared.moves.MoveLeaf.{MoveLeaf}
use Rattle.h265_model.specs.declared.moves.MoveKind.{MoveKind}
use Rattle.h265_model.specs.declared.moves.MoveKind.TheVariants as moves
use Rattle.h265_model.specs.Plain.{block_at, Size, context_bin, ctu_x, ctu_y}
use Rattle.h265_model.specs.Engine.{bin, Reader, ◌>>=◌, give, Reads}
use Rattle.h265_model.specs.Residual.{IsSide, eight}
use Rattle.h265_model.specs.Predict.{is_inside}
use Rattle.h265_model.specs.Tree.{moving, unit_block, Source, IsSource, IsMode, AreModes, split_context, is_whole, coding_unit_items}
use Rattle.h265_model.specs.Motion.{Moving, leaves, as_coded, coded_after, leaf_as_coded, kind_as_coded, kind_vector, merge}
use Rattle.h265_model.specs.Tree.{ReadUnit, moving_of, units_after, coding_unit_read, quarters_read, tree_read, ctu_read}
use Rattle.h265_model.specs.Tree.{Walk, walk_on, and_walk, quarters, no_walk, coding_unit_walk, is_next, tree_walk, ctu_items, moved_unit, unit_of_kind, move_unit}
use Rattle.h265_model.proofs.ListParts.{all_append}
use Rattle.h265_laws.proofs.Parts.{BeginsWithBin}
use Rattle.h265_laws.proofs.Reading.{reads_as, reads_bin, reads_bind, reads_map, reads_give}
use Rattle.h265_laws.proofs.TreeLaw.{begins-append, depth_side}
use Rattle.stream_laws.proofs.OldTree.{leaves-append}
use Rattle.unit_laws.specs.Laws.{IsShort, AreShort, CanStand, CanStandAll, unit_content, reads_after, IsOneUnit, AreFourParts, IsUnitTree, EachUnitTreeIsRead}
use Rattle.unit_laws.proofs.UnitLaw.{units_are_read, merge_short}

-- ---- units one after another

pub coded-append : (before : List Moving) (a b : List MoveLeaf) → coded_after before (a ++ b) ≡ coded_after (coded_after before a) b
coded-append before [] b = refl
coded-append before (u ∷ a) b = coded-append (before ++ as_coded before u ∷ []) a b

pub reads-append : (source : Source) (before : List Moving) (a b : List MoveLeaf) → reads_after source before (a ++ b) ≡ reads_after source before a ++ reads_after source (coded_after before a) b
reads-append source before [] b = refl
reads-append source before (u ∷ a) b =
    ap (λ (l : List ReadUnit). record { block = u.block; content = unit_content source before u u.kind } ∷ l) (reads-append source (before ++ as_coded before u ∷ []) a b)

moving_back : (source : Source) (before : List Moving) (u : MoveLeaf) (k : MoveKind)
    → moving_of (record { block = u.block; content = unit_content source before u k }) ≡ as_coded before (record { block = u.block; kind = k })
moving_back source before u moves.Skip = refl
moving_back source before u (moves.Move v) = refl
moving_back source before u moves.Pcm = refl
moving_back source before u (moves.Intra mode) = refl

pub after_reads : (source : Source) (before : List Moving) (us : List MoveLeaf) → units_after before (reads_after source before us) ≡ coded_after before us
after_reads source before [] = append-nil before
after_reads source before (u ∷ us) =
    let rest : List Moving = map moving_of (reads_after source (before ++ as_coded before u ∷ []) us) in
    ap (λ (m : Moving). before ++ m ∷ rest) (moving_back source before u u.kind)
    ∙ (sym (append_assoc before (as_coded before u ∷ []) rest) ∙ after_reads source (before ++ as_coded before u ∷ []) us)

-- what stands before: modes and short vectors
pub record AreFit (units : List Moving) : Type 0 where
  pub modes : AreModes (leaves units)
  pub short : AreShort units

fit_one : (kind : SliceKind) (size : Size) (before : List Moving) (u : MoveLeaf) → IsShort (merge before u.block) → CanStand kind size before u.block u.kind → AreFit before → AreFit (before ++ as_coded before u ∷ [])
fit_one kind size before u hm c f = record {
  modes = subst AreModes (sym (leaves-append before (as_coded before u ∷ []))) (all_append (λ leaf. IsMode leaf.kind) (leaves before) (leaf_as_coded u ∷ []) f.modes (mode kind u.kind c, tt));
  short = all_append (λ unit. IfSome unit.vector IsShort) before (as_coded before u ∷ []) f.short (vector kind u.kind c, tt);
}
  where
    mode : (s : SliceKind) (k : MoveKind) → CanStand s size before u.block k → IsMode (kind_as_coded k)
    mode s moves.Skip h = tt
    mode s (moves.Move v) h = tt
    mode s moves.Pcm h = tt
    mode I (moves.Intra m) h = h
    mode P (moves.Intra m) h = h

    vector : (s : SliceKind) (k : MoveKind) → CanStand s size before u.block k → IfSome (kind_vector (merge before u.block) k) IsShort
    vector I moves.Skip h = elim h [ ]
    vector P moves.Skip h = hm
    vector I (moves.Move v) h = elim h [ ]
    vector P (moves.Move v) h = h.0
    vector s moves.Pcm h = tt
    vector s (moves.Intra m) h = tt

pub fit_all : (kind : SliceKind) (size : Size) (before : List Moving) (us : List MoveLeaf) → CanStandAll kind size before us → AreFit before → AreFit (coded_after before us)
fit_all kind size before [] c f = f
fit_all kind size before (u ∷ us) c f =
    fit_all kind size (before ++ as_coded before u ∷ []) us c.1 (fit_one kind size before u (merge_short before u.block.x u.block.y u.block.log2 f.short) c.0 f)

stand-front : (kind : SliceKind) (size : Size) (before : List Moving) (a b : List MoveLeaf) → CanStandAll kind size before (a ++ b) → CanStandAll kind size before a
stand-front kind size before [] b c = tt
stand-front kind size before (u ∷ a) b c = (c.0, stand-front kind size (before ++ as_coded before u ∷ []) a b c.1)

stand-back : (kind : SliceKind) (size : Size) (before : List Moving) (a b : List MoveLeaf) → CanStandAll kind size before (a ++ b) → CanStandAll kind size (coded_after before a) b
stand-back kind size before [] b c = c
stand-back kind size before (u ∷ a) b c = stand-back kind size (before ++ as_coded before u ∷ []) a b c.1

-- ---- the walk takes these units, and the reader reads what it writes

pub record Takes (walk : List Moving → List MoveLeaf → Walk MoveLeaf Moving) (read : List Moving → Reader (List ReadUnit)) (source : Source) (before : List Moving) (units : List MoveLeaf) : Type 0 where
  pub list : List Item
  pub walks : (rest : List MoveLeaf) → walk before (units ++ rest) ≡ record { list = list; before = coded_after before units; left = rest }
  pub reads : Reads (read before) list (reads_after source before units)
  pub begins : BeginsWithBin list

takes_quarters : (go : ℕ → ℕ → List Moving → List MoveLeaf → Walk MoveLeaf Moving) (read : ℕ → ℕ → List Moving → Reader (List ReadUnit)) (source : Source) (half x y : ℕ) (before : List Moving) (a b c d : List MoveLeaf)
    → Takes (go x y) (read x y) source before a
    → Takes (go (x + half) y) (read (x + half) y) source (coded_after before a) b
    → Takes (go x (y + half)) (read x (y + half)) source (coded_after (coded_after before a) b) c
    → Takes (go (x + half) (y + half)) (read (x + half) (y + half)) source (coded_after (coded_after (coded_after before a) b) c) d
    → Takes (quarters go half x y) (quarters_read read half x y) source before (((a ++ b) ++ c) ++ d)
takes_quarters go read source half x y before a b c d ta tb tc td =
    let m1 : List Moving = coded_after before a in
    let m2 : List Moving = coded_after m1 b in
    let m3 : List Moving = coded_after m2 c in
    let ra : List ReadUnit = reads_after source before a in
    let rb : List ReadUnit = reads_after source m1 b in
    let rc : List ReadUnit = reads_after source m2 c in
    let rd : List ReadUnit = reads_after source m3 d in
    let ab : reads_after source before (a ++ b) ≡ ra ++ rb = reads-append source before a b in
    let c2 : coded_after before (a ++ b) ≡ m2 = coded-append before a b in
    let c3 : coded_after before ((a ++ b) ++ c) ≡ m3 = coded-append before (a ++ b) c ∙ ap (λ (m : List Moving). coded_after m c) c2 in
    let abc : reads_after source before ((a ++ b) ++ c) ≡ (ra ++ rb) ++ rc =
    reads-append source before (a ++ b) c ∙ (ap (λ (l : List ReadUnit). l ++ reads_after source (coded_after before (a ++ b)) c) ab ∙ ap (λ (m : List Moving). (ra ++ rb) ++ reads_after source m c) c2) in
    let abcd : reads_after source before (((a ++ b) ++ c) ++ d) ≡ ((ra ++ rb) ++ rc) ++ rd =
    reads-append source before ((a ++ b) ++ c) d
    ∙ (ap (λ (l : List ReadUnit). l ++ reads_after source (coded_after before ((a ++ b) ++ c)) d) abc ∙ ap (λ (m : List Moving). ((ra ++ rb) ++ rc) ++ reads_after source m d) c3) in
    record {
      list = ((ta.list ++ tb.list) ++ tc.list) ++ td.list;
      walks = λ rest.
          let w1 : go x y before ((((a ++ b) ++ c) ++ d) ++ rest) ≡ record { list = ta.list; before = m1; left = b ++ (c ++ (d ++ rest)) } =
          ap (go x y before) (append_assoc ((a ++ b) ++ c) d rest ∙ (append_assoc (a ++ b) c (d ++ rest) ∙ append_assoc a b (c ++ (d ++ rest)))) ∙ ta.walks (b ++ (c ++ (d ++ rest))) in
          let second : Walk MoveLeaf Moving → Walk MoveLeaf Moving = λ w. and_walk w (go (x + half) y) in
          let third : Walk MoveLeaf Moving → Walk MoveLeaf Moving = λ w. and_walk w (go x (y + half)) in
          let fourth : Walk MoveLeaf Moving → Walk MoveLeaf Moving = λ w. and_walk w (go (x + half) (y + half)) in
          let end : coded_after m3 d ≡ coded_after before (((a ++ b) ++ c) ++ d) = ap (λ (m : List Moving). coded_after m d) (sym c3) ∙ sym (coded-append before ((a ++ b) ++ c) d) in
          ap (λ (w : Walk MoveLeaf Moving). fourth (third (second w))) w1
          ∙ (ap (λ (w : Walk MoveLeaf Moving). fourth (third (walk_on ta.list w))) (tb.walks (c ++ (d ++ rest)))
          ∙ (ap (λ (w : Walk MoveLeaf Moving). fourth (walk_on (ta.list ++ tb.list) w)) (tc.walks (d ++ rest))
          ∙ (ap (λ (w : Walk MoveLeaf Moving). walk_on ((ta.list ++ tb.list) ++ tc.list) w) (td.walks rest)
          ∙ ap (λ (m : List Moving). record { list = ((ta.list ++ tb.list) ++ tc.list) ++ td.list; before = m; left = rest }) end)));
      reads =
          let all : List ReadUnit = ((ra ++ rb) ++ rc) ++ rd in
          let f4 : List ReadUnit → List ReadUnit → List ReadUnit → Reader (List ReadUnit) = λ p q s. read (x + half) (y + half) (units_after before ((p ++ q) ++ s)) >>= λ t. give (((p ++ q) ++ s) ++ t) in
          let f3 : List ReadUnit → List ReadUnit → Reader (List ReadUnit) = λ p q. read x (y + half) (units_after before (p ++ q)) >>= λ s. f4 p q s in
          let f2 : List ReadUnit → Reader (List ReadUnit) = λ p. read (x + half) y (units_after before p) >>= λ q. f3 p q in
          let b1 : m1 ≡ units_after before ra = sym (after_reads source before a) in
          let b2 : m2 ≡ units_after before (ra ++ rb) = sym c2 ∙ (sym (after_reads source before (a ++ b)) ∙ ap (units_after before) ab) in
          let b3 : m3 ≡ units_after before ((ra ++ rb) ++ rc) = sym c3 ∙ (sym (after_reads source before ((a ++ b) ++ c)) ∙ ap (units_after before) abc) in
          let r4 : Reads (f4 ra rb rc) td.list all =
          reads_map (read (x + half) (y + half) (units_after before ((ra ++ rb) ++ rc))) (λ t. ((ra ++ rb) ++ rc) ++ t) _ rd
          (subst (λ (m : List Moving). Reads (read (x + half) (y + half) m) td.list rd) b3 td.reads) in
          let r3 : Reads (f3 ra rb) (tc.list ++ td.list) all =
          reads_bind (read x (y + half) (units_after before (ra ++ rb))) (λ s. f4 ra rb s) tc.list td.list rc all td.begins
          (subst (λ (m : List Moving). Reads (read x (y + half) m) tc.list rc) b2 tc.reads) r4 in
          let r2 : Reads (f2 ra) (tb.list ++ (tc.list ++ td.list)) all =
          reads_bind (read (x + half) y (units_after before ra)) (λ q. f3 ra q) tb.list (tc.list ++ td.list) rb all (begins-append tc.list td.list tc.begins td.begins)
          (subst (λ (m : List Moving). Reads (read (x + half) y m) tb.list rb) b1 tb.reads) r3 in
          let r1 : Reads (quarters_read read half x y before) (ta.list ++ (tb.list ++ (tc.list ++ td.list))) all =
          reads_bind (read x y before) f2 ta.list (tb.list ++ (tc.list ++ td.list)) ra all (begins-append tb.list (tc.list ++ td.list) tb.begins (begins-append tc.list td.list tc.begins td.begins)) ta.reads r2 in
          reads_as (quarters_read read half x y before) _ _ all _ (sym (append_assoc ta.list tb.list (tc.list ++ td.list)) ∙ sym (append_assoc (ta.list ++ tb.list) tc.list td.list)) (sym abcd) r1;
      begins = begins-append ((ta.list ++ tb.list) ++ tc.list) td.list (begins-append (ta.list ++ tb.list) tc.list (begins-append ta.list tb.list ta.begins tb.begins) tc.begins) td.begins;
    }

-- ---- trees

-- a tree that begins in the picture has a first unit, no larger than its block
record HasFirst (log2 : ℕ) (units : List MoveLeaf) : Type 0 where
  first : MoveLeaf
  more : List MoveLeaf
  is : units ≡ first ∷ more
  small : first.block.log2 ≤ log2

tree_first : (size : Size) (depth x y : ℕ) (units : List MoveLeaf) → IsUnitTree size depth x y units → is_inside size x y ≡ true → HasFirst (3 + depth) units
tree_first size zero x y units t inside = go (is_inside size x y) inside t
  where
    go : (b : Bool) → b ≡ true → MatchBool b (IsOneUnit (block_at x y 3) units) (units ≡ []) → HasFirst 3 units
    go true e u = record { first = record { block = block_at x y 3; kind = u.kind }; more = []; is = u.one; small = omega arith }
    go false e u = absurd (cc)
tree_first size (suc depth) x y units t inside = go (is_inside size x y) inside (is_whole size (2 * half) x y) t (λ us q. tree_first size depth x y us q inside)
  where
    half : ℕ
    half = 2 ^ (3 + depth)

    First : Type 0
    First = (us : List MoveLeaf) → IsUnitTree size depth x y us → HasFirst (3 + depth) us

    four : AreFourParts (IsUnitTree size depth) half x y units → First → HasFirst (3 + suc depth) units
    four q f = let h : HasFirst (3 + depth) q.first = f q.first q.top_left in
        record {
          first = h.first;
          more = ((h.more ++ q.second) ++ q.third) ++ q.fourth;
          is = q.together ∙ ap (λ (l : List MoveLeaf). ((l ++ q.second) ++ q.third) ++ q.fourth) h.is;
          small = let s : h.first.block.log2 ≤ 3 + depth = h.small in omega arith;
        }

    go : (a : Bool) → a ≡ true → (b : Bool) → MatchBool a (MatchBool b (IsOneUnit (block_at x y (4 + depth)) units ⊎ AreFourParts (IsUnitTree size depth) half x y units) (AreFourParts (IsUnitTree size depth) half x y units)) (units ≡ []) → First → HasFirst (3 + suc depth) units
    go true e true u f = ⊎_elim (λ (v : IsOneUnit (block_at x y (4 + depth)) units). record { first = record { block = block_at x y (4 + depth); kind = v.kind }; more = []; is = v.one; small = omega arith }) (λ q. four q f) u
    go true e false q f = four q f
    go false e b u f = absurd (cc)

unit_begins : (kind : SliceKind) (source : Source) (before : List Moving) (u : MoveLeaf) → BeginsWithBin (move_unit kind source before u)
unfolding move_unit coding_unit_items moved_unit
unit_begins kind source before u = go u.kind
  where
    go : (k : MoveKind) → BeginsWithBin (unit_of_kind kind source before u k)
    go moves.Skip = tt
    go (moves.Move v) = tt
    go moves.Pcm = tt
    go (moves.Intra mode) = tt

takes_unit : (kind : SliceKind) (size : Size) (source : Source) (x y log2 : ℕ) (before : List Moving) (units : List MoveLeaf) (u : IsOneUnit (block_at x y log2) units) → IsSide log2 → IsSource source → AreFit before → CanStandAll kind size before units
    → Takes (coding_unit_walk (moving (move_unit kind source))) (λ b. coding_unit_read kind size b (block_at x y log2)) source before units
takes_unit kind size source x y log2 before units u side is fit stand =
    let unit : MoveLeaf = record { block = block_at x y log2; kind = u.kind } in
    let can : CanStand kind size before (block_at x y log2) u.kind = (subst (CanStandAll kind size before) u.one stand).0 in
    record {
      list = move_unit kind source before unit;
      walks = λ rest. ap (λ (l : List MoveLeaf). coding_unit_walk (moving (move_unit kind source)) before (l ++ rest)) u.one ∙ ap (λ (l : List MoveLeaf). record { list = move_unit kind source before unit; before = coded_after before l; left = rest }) (sym u.one);
      reads = reads_as (coding_unit_read kind size before (block_at x y log2)) _ _ _ _ refl (ap (reads_after source before) (sym u.one)) (units_are_read kind size source before x y log2 u.kind side is fit.modes fit.short can);
      begins = unit_begins kind source before unit;
    }

takes_none : (read : List Moving → Reader (List ReadUnit)) (source : Source) (before : List Moving) (units : List MoveLeaf) → units ≡ [] → read before ≡ give [] → Takes no_walk read source before units
takes_none read source before units none gives = record {
  list = [];
  walks = λ rest. ap (λ (l : List MoveLeaf). no_walk before (l ++ rest)) none ∙ ap (λ (l : List MoveLeaf). record { list = []; before = coded_after before l; left = rest }) (sym none);
  reads = subst (λ (m : Reader (List ReadUnit)). Reads m [] (reads_after source before units)) (sym gives) (reads_as (give []) [] [] [] _ refl (ap (reads_after source before) (sym none)) (reads_give []));
  begins = tt;
}

-- how a walk and a reader may be written otherwise
takes_as : (walk walk' : List Moving → List MoveLeaf → Walk MoveLeaf Moving) (read read' : List Moving → Reader (List ReadUnit)) (source : Source) (before : List Moving) (units : List MoveLeaf)
    → ((rest : List MoveLeaf) → walk' before (units ++ rest) ≡ walk before (units ++ rest)) → read' before ≡ read before
    → Takes walk read source before units → Takes walk' read' source before units
takes_as walk walk' read read' source before units same_walk same_read t = record {
  list = t.list;
  walks = λ rest. same_walk rest ∙ t.walks rest;
  reads = subst (λ (m : Reader (List ReadUnit)). Reads m t.list (reads_after source before units)) (sym same_read) t.reads;
  begins = t.begins;
}

-- a flag in front
takes_flag : (walk : List Moving → List MoveLeaf → Walk MoveLeaf Moving) (read other : List Moving → Reader (List ReadUnit)) (source : Source) (before : List Moving) (units : List MoveLeaf) (context : ℕ) (value : Bool)
    → Takes walk (λ b. cond value (read b) (other b)) source before units
    → Takes (λ b left. walk_on (context_bin value context ∷ []) (walk b left)) (λ b. bin (Context context) >>= λ flag. cond flag (read b) (other b)) source before units
takes_flag walk read other source before units context value t = record {
  list = context_bin value context ∷ t.list;
  walks = λ rest. ap (walk_on (context_bin value context ∷ [])) (t.walks rest);
  reads = reads_bin (Context context) value (λ flag. cond flag (read before) (other before)) t.list _ t.reads;
  begins = tt;
}

pub tree_is_read : (kind : SliceKind) (size : Size) (source : Source) (depth x y : ℕ) (before : List Moving) (units : List MoveLeaf) → depth < 3 → IsSource source
    → IsUnitTree size depth x y units → AreFit before → CanStandAll kind size before units
    → Takes (tree_walk (moving (move_unit kind source)) size depth x y) (tree_read kind size depth x y) source before units
tree_is_read kind size source zero x y before units small is t fit stand = go (is_inside size x y) refl t
  where
    go : (b : Bool) → is_inside size x y ≡ b → MatchBool b (IsOneUnit (block_at x y 3) units) (units ≡ []) → Takes (tree_walk (moving (move_unit kind source)) size zero x y) (tree_read kind size zero x y) source before units
    go true e u = takes_as (coding_unit_walk (moving (move_unit kind source))) (tree_walk (moving (move_unit kind source)) size zero x y) (λ b. coding_unit_read kind size b (block_at x y 3)) (tree_read kind size zero x y) source before units
        (λ rest. cond-true (is_inside size x y) _ _ e) (cond-true (is_inside size x y) _ _ e) (takes_unit kind size source x y 3 before units u eight is fit stand)
    go false e none = takes_as no_walk (tree_walk (moving (move_unit kind source)) size zero x y) (λ b. give []) (tree_read kind size zero x y) source before units
        (λ rest. cond-false (is_inside size x y) _ _ e) (cond-false (is_inside size x y) _ _ e) (takes_none (λ b. give []) source before units none refl)
tree_is_read kind size source (suc depth) x y before units small is t fit stand =
    go (is_inside size x y) refl (is_whole size (2 * half) x y) refl t (λ px py b us. tree_is_read kind size source depth px py b us (omega arith) is)
  where
    half : ℕ
    half = 2 ^ (3 + depth)

    Lower : Type 0
    Lower = (px py : ℕ) (b : List Moving) (us : List MoveLeaf) → IsUnitTree size depth px py us → AreFit b → CanStandAll kind size b us → Takes (tree_walk (moving (move_unit kind source)) size depth px py) (tree_read kind size depth px py) source b us

    flag : ℕ
    flag = split_context (leaves before) (block_at x y (4 + depth))

    split_walk : List Moving → List MoveLeaf → Walk MoveLeaf Moving
    split_walk = quarters (tree_walk (moving (move_unit kind source)) size depth) half x y

    split_read : List Moving → Reader (List ReadUnit)
    split_read = quarters_read (tree_read kind size depth) half x y

    four : AreFourParts (IsUnitTree size depth) half x y units → Lower → Takes split_walk split_read source before units
    four q lower =
        let c : CanStandAll kind size before (((q.first ++ q.second) ++ q.third) ++ q.fourth) = subst (CanStandAll kind size before) q.together stand in
        let c123 : CanStandAll kind size before ((q.first ++ q.second) ++ q.third) = stand-front kind size before ((q.first ++ q.second) ++ q.third) q.fourth c in
        let c12 : CanStandAll kind size before (q.first ++ q.second) = stand-front kind size before (q.first ++ q.second) q.third c123 in
        let c1 : CanStandAll kind size before q.first = stand-front kind size before q.first q.second c12 in
        let m1 : List Moving = coded_after before q.first in
        let m2 : List Moving = coded_after m1 q.second in
        let m3 : List Moving = coded_after m2 q.third in
        let e2 : coded_after before (q.first ++ q.second) ≡ m2 = coded-append before q.first q.second in
        let e3 : coded_after before ((q.first ++ q.second) ++ q.third) ≡ m3 = coded-append before (q.first ++ q.second) q.third ∙ ap (λ (m : List Moving). coded_after m q.third) e2 in
        let c2 : CanStandAll kind size m1 q.second = stand-back kind size before q.first q.second c12 in
        let c3 : CanStandAll kind size m2 q.third = subst (λ (m : List Moving). CanStandAll kind size m q.third) e2 (stand-back kind size before (q.first ++ q.second) q.third c123) in
        let c4 : CanStandAll kind size m3 q.fourth = subst (λ (m : List Moving). CanStandAll kind size m q.fourth) e3 (stand-back kind size before ((q.first ++ q.second) ++ q.third) q.fourth c) in
        let f1 : AreFit m1 = fit_all kind size before q.first c1 fit in
        let f2 : AreFit m2 = fit_all kind size m1 q.second c2 f1 in
        let f3 : AreFit m3 = fit_all kind size m2 q.third c3 f2 in
        subst (λ (l : List MoveLeaf). Takes split_walk split_read source before l) (sym q.together)
        (takes_quarters (tree_walk (moving (move_unit kind source)) size depth) (tree_read kind size depth) source half x y before q.first q.second q.third q.fourth
        (lower x y before q.first q.top_left fit c1) (lower (x + half) y m1 q.second q.top_right f1 c2) (lower x (y + half) m2 q.third q.bottom_left f2 c3) (lower (x + half) (y + half) m3 q.fourth q.bottom_right f3 c4))

    go : (a : Bool) → is_inside size x y ≡ a → (b : Bool) → is_whole size (2 * half) x y ≡ b
        → MatchBool a (MatchBool b (IsOneUnit (block_at x y (4 + depth)) units ⊎ AreFourParts (IsUnitTree size depth) half x y units) (AreFourParts (IsUnitTree size depth) half x y units)) (units ≡ [])
        → Lower → Takes (tree_walk (moving (move_unit kind source)) size (suc depth) x y) (tree_read kind size (suc depth) x y) source before units
    go false e b f none lower = takes_as no_walk _ (λ b'. give []) _ source before units
        (λ rest. cond-true (not (is_inside size x y)) _ _ (ap not e)) (cond-true (not (is_inside size x y)) _ _ (ap not e)) (takes_none (λ b'. give []) source before units none refl)
    go true e false f q lower = takes_as split_walk _ split_read _ source before units
        (λ rest. cond-false (not (is_inside size x y)) _ _ (ap not e) ∙ cond-true (not (is_whole size (2 * half) x y)) _ _ (ap not f))
        (cond-false (not (is_inside size x y)) _ _ (ap not e) ∙ cond-true (not (is_whole size (2 * half) x y)) _ _ (ap not f))
        (four q lower)
    go true e true f u lower = ⊎_elim
        (λ (v : IsOneUnit (block_at x y (4 + depth)) units). takes_as (λ b left. walk_on (context_bin false flag ∷ []) (coding_unit_walk (moving (move_unit kind source)) b left)) _
        (λ b. bin (Context flag) >>= λ c. cond c (split_read b) (coding_unit_read kind size b (block_at x y (4 + depth)))) _ source before units
        (λ rest. at_whole rest ∙ cond-true (is_next unit_block (4 + depth) (units ++ rest)) _ _ (ap (λ (l : List MoveLeaf). is_next unit_block (4 + depth) (l ++ rest)) v.one ∙ eq-eqb (4 + depth) (4 + depth) refl))
        read_whole
        (takes_flag (coding_unit_walk (moving (move_unit kind source))) split_read (λ b. coding_unit_read kind size b (block_at x y (4 + depth))) source before units flag false
        (takes_unit kind size source x y (4 + depth) before units v (depth_side depth (omega arith)) is fit stand)))
        (λ (q : AreFourParts (IsUnitTree size depth) half x y units). takes_as (λ b left. walk_on (context_bin true flag ∷ []) (split_walk b left)) _
        (λ b. bin (Context flag) >>= λ c. cond c (split_read b) (coding_unit_read kind size b (block_at x y (4 + depth)))) _ source before units
        (λ rest. at_whole rest ∙ cond-false (is_next unit_block (4 + depth) (units ++ rest)) _ _ (not_leaf q rest))
        read_whole
        (takes_flag split_walk split_read (λ b. coding_unit_read kind size b (block_at x y (4 + depth))) source before units flag true (four q lower)))
        u
      where
        at_whole : (rest : List MoveLeaf) → tree_walk (moving (move_unit kind source)) size (suc depth) x y before (units ++ rest)
            ≡ cond (is_next unit_block (4 + depth) (units ++ rest)) (walk_on (context_bin false flag ∷ []) (coding_unit_walk (moving (move_unit kind source)) before (units ++ rest))) (walk_on (context_bin true flag ∷ []) (split_walk before (units ++ rest)))
        at_whole rest = cond-false (not (is_inside size x y)) _ _ (ap not e) ∙ cond-false (not (is_whole size (2 * half) x y)) _ _ (ap not f)

        read_whole : tree_read kind size (suc depth) x y before ≡ (bin (Context flag) >>= λ c. cond c (split_read before) (coding_unit_read kind size before (block_at x y (4 + depth))))
        read_whole = cond-false (not (is_inside size x y)) _ _ (ap not e) ∙ cond-false (not (is_whole size (2 * half) x y)) _ _ (ap not f)

        not_leaf : (q : AreFourParts (IsUnitTree size depth) half x y units) (rest : List MoveLeaf) → is_next unit_block (4 + depth) (units ++ rest) ≡ false
        not_leaf q rest =
            let h : HasFirst (3 + depth) q.first = tree_first size depth x y q.first q.top_left e in
            let s : h.first.block.log2 ≤ 3 + depth = h.small in
            let differs_there : (h.first.block.log2 == 4 + depth) ≡ false = ne_eqb h.first.block.log2 (4 + depth) (λ k. omega arith) in
            ap (λ (l : List MoveLeaf). is_next unit_block (4 + depth) (l ++ rest)) (q.together ∙ ap (λ (l : List MoveLeaf). ((l ++ q.second) ++ q.third) ++ q.fourth) h.is) ∙ differs_there

-- the law of coding tree units
pub trees_are_read : EachUnitTreeIsRead
unfolding ctu_read ctu_items
trees_are_read kind size source ctu before units is modes short t stand =
    let x : ℕ = ctu_x size ctu in
    let y : ℕ = ctu_y size ctu in
    let walk : List Moving → List MoveLeaf → Walk MoveLeaf Moving = tree_walk (moving (move_unit kind source)) size 2 x y in
    let r : Takes walk (tree_read kind size 2 x y) source before units =
    tree_is_read kind size source 2 x y before units (omega arith) is t (record { modes = modes; short = short }) stand in
    let same : walk before units ≡ record { list = r.list; before = coded_after before units; left = [] } =
    ap (walk before) (sym (append-nil units)) ∙ r.walks [] in
    reads_as _ r.list _ _ _ (sym (ap (λ (w : Walk MoveLeaf Moving). w.list) same)) refl r.reads
