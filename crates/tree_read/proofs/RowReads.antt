-- Coding tree units of a row, read one after another.
use Rattle.std.proofs.Common.{◌≡◌, refl, sym, ◌∙◌, ap, subst, ℕ, suc, ◌+◌, ◌-◌, ◌*◌, ◌/◌, ◌%◌, ◌<◌, ◌≤◌, Bool, true, false, Some, None, Option, List, [], ◌∷◌, ◌++◌, length, map, length-append, append_assoc, append-nil, arith, le_refl}
use Rattle.std.specs.Prelude.{if◌then◌else◌, ◌==◌, ◌&&◌}
use Rattle.std.specs.Bool.{beq}
use Rattle.std.proofs.lemmas.Bool.{eqb-true, eqb-false, eq-eqb, ne_eqb}
use Rattle.std.proofs.lemmas.Grind.{flat_map-append}
use Rattle.std.proofs.lemmas.Nat.{div-add-mod', mod-mul-add, row_fits}
use Rattle.h265_model.specs.declared.Place.TheVariants.{Terminate}
use Rattle.h265_model.specs.declared.leaf.SliceKind.{SliceKind}
use Rattle.h265_model.specs.declared.leaf.Leaf.{Leaf}
use Rattle.h265_model.specs.Bits.{◌>>=◌ as and_then}
use Rattle.h265_model.specs.Engine.{Engine, Reader, bin, give, refuse, terminate_read}
use Rattle.h265_model.specs.Plain.{Size, ctus, ctu_x, ctu_y}
use Rattle.h265_model.specs.Predict.{coding_order}
use Rattle.h265_model.specs.Motion.{Moving, leaves}
use Rattle.h265_model.specs.Slice.{slice_row_read, segment_row_read, subset_end}
use Rattle.h265_model.specs.Tree.{ReadUnit, ReadCtu, AreModes, ctu_read, ctus_read, contexts_read, expect, is_last, ends_row, units_of, units_after, leaf_of}
use Rattle.h265_laws.proofs.Coverage.{Covers, ctu_covers}
use Rattle.read_laws.proofs.Yields.{Yields, yields_give, yields_bind, yields_after, yields_expect}
use Rattle.read_laws.proofs.ReadTrees.{IsReadTree, yields_ctu, map-append}
use Rattle.leaf_sink.specs.Units.{HasAvailable}
use Rattle.pu_code.specs.Cells as modes
use Rattle.motion_grid.specs.Cells as motions
use Rattle.residual_read.proofs.Steps.{then_some, then_none}
use Rattle.cabac_dec.specs.State.{IsOpen, IsOpenAfter}
use Rattle.unit_read.specs.Units.{AreKept, AreTaken}
use Rattle.tree_read.specs.Rows.{flagged_read, second_of, ends_at, AreEnds, ReadsCtu, ReadsRow}
use Rattle.tree_read.proofs.FlaggedReads.{units_then}
use Rattle.tree_read.proofs.TreeReads.{covers_from, available_from, after_twice}

-- ---- the first of several coding tree units

abbrev others_then : ReadCtu → List ReadCtu × Engine → Option (List ReadCtu × Engine)
others_then c found = Some (c ∷ found.0, found.1)

abbrev first_then : SliceKind → Size → (ℕ → Bool) → ℕ → ℕ → List Moving → ReadCtu × Engine → Option (List ReadCtu × Engine)
first_then kind size ends n ctu before found = and_then (ctus_read kind size ends n (suc ctu) (units_after before found.0.units) found.1) (others_then found.0)

pub ctus_open : (kind : SliceKind) (size : Size) (ends : ℕ → Bool) (n ctu : ℕ) (before : List Moving) (e : Engine)
    → ctus_read kind size ends (suc n) ctu before e ≡ and_then (flagged_read kind size before ctu (ends ctu) e) (first_then kind size ends n ctu before)
unfolding flagged_read
ctus_open kind size ends n ctu before e = go (ctu_read kind size before ctu e)
  where
    read_of : List ReadUnit → Engine → ReadCtu
    read_of units d = record { units = units; contexts = d.contexts }

    flag : List ReadUnit → Engine → Bool → Reader (List ReadCtu)
    flag units d b = if b then (λ f. first_then kind size ends n ctu before (read_of units d, f)) else refuse

    told : (units : List ReadUnit) (d f : Engine) (b : Bool) → flag units d b f ≡ and_then ((if b then give (read_of units d) else refuse) f) (first_then kind size ends n ctu before)
    told units d f true = refl
    told units d f false = refl

    past : (units : List ReadUnit) (d : Engine) (o : Option (Bool × Engine))
        → and_then o (λ found. flag units d (beq found.0 (ends ctu)) found.1)
        ≡ and_then (and_then o (λ found. (if beq found.0 (ends ctu) then give (read_of units d) else refuse) found.1)) (first_then kind size ends n ctu before)
    past units d None = refl
    past units d (Some found) = told units d found.1 (beq found.0 (ends ctu))

    go : (o : Option (List ReadUnit × Engine))
        → and_then o (λ found. and_then (terminate_read found.1) (λ b. flag found.0 found.1 (beq b.0 (ends ctu)) b.1)) ≡ and_then (and_then o (units_then (ends ctu))) (first_then kind size ends n ctu before)
    go None = refl
    go (Some found) = past found.0 found.1 (terminate_read found.1)

-- ---- what is read of a row so far

abbrev front_then : List ReadCtu → List ReadCtu × Engine → Option (List ReadCtu × Engine)
front_then front found = Some (front ++ found.0, found.1)

-- the first i coding tree units of a row were read and taken, and the contexts after the second are handed on
pub record IsReadTo (kind : SliceKind) (size : Size) (ends : ℕ → Bool) (row i : ℕ) (before : List Moving) (e d : Engine) (stood stands : List ReadUnit → Type 0) (cells : modes.Cells) (vectors : motions.Cells) (handed : Option (List ℕ)) : Type 0 where
  front : List ReadCtu
  many : length front ≡ i
  reads : ctus_read kind size ends (ctus size.w) (row * ctus size.w) before e ≡ and_then (ctus_read kind size ends (ctus size.w - i) (row * ctus size.w + i) (units_after before (units_of front)) d) (front_then front)
  second : handed ≡ second_of front
  kept : AreKept cells vectors (units_after before (units_of front))
  taken : (units : List ReadUnit) → stood units → HasAvailable size units 0 (row * 32) → stands (units ++ units_of front) × Covers size (map leaf_of (units ++ units_of front)) ((row * ctus size.w + i) * 1024)

-- what a coding tree unit does
abbrev pub Step : SliceKind → Size → ℕ → Bool → Option (List ℕ) → Engine → Engine → (List ReadUnit → Type 0) → (List ReadUnit → Type 0) → modes.Cells → motions.Cells → modes.Cells → motions.Cells → Type 0
Step kind size ctu ends result e d stood stands cells vectors new_cells new_vectors =
    (before : List Moving) → AreKept cells vectors before → ReadsCtu result (flagged_read kind size before ctu ends e) d (AreTaken stood stands size (ctu_x size ctu) (ctu_y size ctu) new_cells new_vectors before)

-- ---- places in the order of coding

row_order : (size : Size) (row : ℕ) → coding_order size 0 (row * 32) ≡ (row * ctus size.w + 0) * 1024
unfolding coding_order
row_order size row =
    let y1 : row * 32 / 32 ≡ row = omega arith in
    let y2 : row * 32 % 32 ≡ 0 = omega arith in
    rw (y1, y2) (omega arith)

ctu_order : (size : Size) (ctu : ℕ) → coding_order size (ctu_x size ctu) (ctu_y size ctu) ≡ ctu * 1024
unfolding coding_order
ctu_order size ctu =
    let x1 : ctu % ctus size.w * 32 / 32 ≡ ctu % ctus size.w = omega arith in
    let x2 : ctu % ctus size.w * 32 % 32 ≡ 0 = omega arith in
    let y1 : ctu / ctus size.w * 32 / 32 ≡ ctu / ctus size.w = omega arith in
    let y2 : ctu / ctus size.w * 32 % 32 ≡ 0 = omega arith in
    rw (x1, x2, y1, y2) (ap (λ (n : ℕ). n * 1024 + 0) (div-add-mod' ctu (ctus size.w)) ∙ omega arith)

-- ---- one more

units_more : (front : List ReadCtu) (c : ReadCtu) → units_of (front ++ c ∷ []) ≡ units_of front ++ c.units
units_more front c = flat_map-append (λ (ctu : ReadCtu). ctu.units) front (c ∷ []) ∙ ap (λ (l : List ReadUnit). units_of front ++ l) (append-nil c.units)

second_more : (front : List ReadCtu) (c : ReadCtu) → (if length front == 1 then Some c.contexts else second_of front) ≡ second_of (front ++ c ∷ [])
second_more [] c = refl
second_more (a ∷ []) c = refl
second_more (a ∷ b ∷ l) c = ap (λ (x : Bool). if x then Some c.contexts else Some b.contexts) (ne_eqb (suc (suc (length l))) 1 (λ e. omega arith))

fronts : (o : Option (List ReadCtu × Engine)) (front : List ReadCtu) (c : ReadCtu) → and_then (and_then o (others_then c)) (front_then front) ≡ and_then o (front_then (front ++ c ∷ []))
fronts None front c = refl
fronts (Some found) front c = ap (λ (l : List ReadCtu). Some (l, found.1)) (sym (append_assoc front (c ∷ []) found.0))

nothing_then : (o : Option (List ReadCtu × Engine)) → o ≡ and_then o (front_then [])
nothing_then None = refl
nothing_then (Some found) = refl

yields_flagged : (kind : SliceKind) (size : Size) (before : List Moving) (ctu : ℕ) (ends : Bool) → AreModes (leaves before)
    → Yields (λ (c : ReadCtu). IsReadTree kind size 2 (ctu_x size ctu) (ctu_y size ctu) c.units) (flagged_read kind size before ctu ends)
unfolding flagged_read
yields_flagged kind size before ctu ends modes =
    let T : ReadCtu → Type 0 = λ c. IsReadTree kind size 2 (ctu_x size ctu) (ctu_y size ctu) c.units in
    yields_bind (IsReadTree kind size 2 (ctu_x size ctu) (ctu_y size ctu)) T (ctu_read kind size before ctu) _ (yields_ctu kind size before ctu modes) (λ units h.
    yields_after T contexts_read _ (λ contexts.
    yields_expect T Terminate ends _ (yields_give T (record { units = units; contexts = contexts }) h)))

pub none_read : (kind : SliceKind) (size : Size) (ends : ℕ → Bool) (row : ℕ) (before : List Moving) (e : Engine) (stood : List ReadUnit → Type 0) (cells : modes.Cells) (vectors : motions.Cells) → AreKept cells vectors before
    → IsReadTo kind size ends row 0 before e e stood stood cells vectors None
none_read kind size ends row before e stood cells vectors are = record {
  front = [];
  many = refl;
  reads = nothing_then (ctus_read kind size ends (ctus size.w) (row * ctus size.w) before e)
      ∙ ap (λ (l : List Moving). and_then (ctus_read kind size ends (ctus size.w) (row * ctus size.w) l e) (front_then [])) (sym (append-nil before))
      ∙ ap (λ (n : ℕ). and_then (ctus_read kind size ends n (row * ctus size.w) (before ++ []) e) (front_then [])) all
      ∙ ap (λ (n : ℕ). and_then (ctus_read kind size ends (ctus size.w - 0) n (before ++ []) e) (front_then [])) first;
  second = refl;
  kept = subst (λ (l : List Moving). AreKept cells vectors l) (sym (append-nil before)) are;
  taken = λ units stands has. (
    subst stood (sym (append-nil units)) stands,
    subst (λ (l : List ReadUnit). Covers size (map leaf_of l) ((row * ctus size.w + 0) * 1024)) (sym (append-nil units))
        (subst (λ (n : ℕ). Covers size (map leaf_of units) n) (row_order size row) (covers_from size units 0 (row * 32) has)),
  );
}
  where
    all : ctus size.w ≡ ctus size.w - 0
    all = omega arith

    first : row * ctus size.w ≡ row * ctus size.w + 0
    first = omega arith

-- the rest begins with the next one
opened : (kind : SliceKind) (size : Size) (ends : ℕ → Bool) (n i ctu : ℕ) (before : List Moving) (d : Engine) → i < n
    → ctus_read kind size ends (n - i) ctu before d ≡ and_then (flagged_read kind size before ctu (ends ctu) d) (first_then kind size ends (n - (i + 1)) ctu before)
opened kind size ends n i ctu before d less =
    let q : n - i ≡ suc (n - (i + 1)) = omega arith in
    ap (λ (m : ℕ). ctus_read kind size ends m ctu before d) q ∙ ctus_open kind size ends (n - (i + 1)) ctu before d

pub one_fails : (kind : SliceKind) (size : Size) (ends : ℕ → Bool) (row i : ℕ) (last flag : Bool) (before : List Moving) (e d new : Engine) (stood stands next : List ReadUnit → Type 0) (cells : modes.Cells) (vectors : motions.Cells) (new_cells : modes.Cells) (new_vectors : motions.Cells) (handed : Option (List ℕ))
    → i < ctus size.w → AreEnds size row last ends → flag ≡ ends_at last (ctus size.w) i → IsReadTo kind size ends row i before e d stood stands cells vectors handed
    → Step kind size (row * ctus size.w + i) flag None d new stands next cells vectors new_cells new_vectors → ctus_read kind size ends (ctus size.w) (row * ctus size.w) before e ≡ None
one_fails kind size ends row i last flag before e d new stood stands next cells vectors new_cells new_vectors handed less are is t step =
    let now : List Moving = units_after before (units_of t.front) in
    t.reads ∙ ap (λ o. and_then o (front_then t.front)) (opened kind size ends (ctus size.w) i (row * ctus size.w + i) now d less
    ∙ then_none (flagged_read kind size now (row * ctus size.w + i) (ends (row * ctus size.w + i)) d) (first_then kind size ends (ctus size.w - (i + 1)) (row * ctus size.w + i) now)
    (subst (λ (b : Bool). flagged_read kind size now (row * ctus size.w + i) b d ≡ None) (is ∙ sym (are.each i less)) (step now t.kept)))

pub one_more : (kind : SliceKind) (size : Size) (ends : ℕ → Bool) (row i : ℕ) (last flag : Bool) (contexts : List ℕ) (before : List Moving) (e d new : Engine) (stood stands next : List ReadUnit → Type 0) (cells : modes.Cells) (vectors : motions.Cells) (new_cells : modes.Cells) (new_vectors : motions.Cells) (handed new_handed : Option (List ℕ))
    → i < ctus size.w → AreEnds size row last ends → flag ≡ ends_at last (ctus size.w) i → new_handed ≡ (if i == 1 then Some contexts else handed)
    → IsReadTo kind size ends row i before e d stood stands cells vectors handed → Step kind size (row * ctus size.w + i) flag (Some contexts) d new stands next cells vectors new_cells new_vectors
    → IsReadTo kind size ends row (i + 1) before e new stood next new_cells new_vectors new_handed
one_more kind size ends row i last flag contexts before e d new stood stands next cells vectors new_cells new_vectors handed new_handed less are is hands t step = go (step now t.kept)
  where
    w : ℕ
    w = ctus size.w

    ctu : ℕ
    ctu = row * ctus size.w + i

    now : List Moving
    now = units_after before (units_of t.front)

    go : (units : List ReadUnit) × (flagged_read kind size now ctu flag d ≡ Some (record { units = units; contexts = contexts }, new)) × AreTaken stands next size (ctu_x size ctu) (ctu_y size ctu) new_cells new_vectors now units
        → IsReadTo kind size ends row (i + 1) before e new stood next new_cells new_vectors new_handed
    go (us, read, t') = record {
      front = t.front ++ c ∷ [];
      many = length-append t.front (c ∷ []) ∙ ap (λ (n : ℕ). n + 1) t.many;
      reads = t.reads
          ∙ ap (λ o. and_then o (front_then t.front)) (opened kind size ends w i ctu now d less ∙ then_some (flagged_read kind size now ctu (ends ctu) d) (c, new) (first_then kind size ends (w - (i + 1)) ctu now) flagged)
          ∙ fronts (ctus_read kind size ends (w - (i + 1)) (suc ctu) (units_after now us) new) t.front c
          ∙ ap (λ (l : List Moving). and_then (ctus_read kind size ends (w - (i + 1)) (suc ctu) l new) (front_then (t.front ++ c ∷ []))) together
          ∙ ap (λ (n : ℕ). and_then (ctus_read kind size ends (w - (i + 1)) n (units_after before (units_of (t.front ++ c ∷ []))) new) (front_then (t.front ++ c ∷ []))) next_ctu;
      second = hands ∙ ap (λ (n : ℕ). if n == 1 then Some contexts else handed) (sym t.many) ∙ ap (λ (o : Option (List ℕ)). if length t.front == 1 then Some contexts else o) t.second ∙ second_more t.front c;
      kept = subst (λ (l : List Moving). AreKept new_cells new_vectors l) together t'.kept;
      taken = λ units stood' has. let p = t.taken units stood' has in
          let here = available_from size (units ++ units_of t.front) (ctu_x size ctu) (ctu_y size ctu) (ctu * 1024) (sym (ctu_order size ctu)) p.1 in
          let lawful = ((yields_flagged kind size now ctu flag t.kept.lawful).from d new c read).0 in
          let joined : (units ++ units_of t.front) ++ us ≡ units ++ units_of (t.front ++ c ∷ []) = append_assoc units (units_of t.front) us ∙ ap (λ (l : List ReadUnit). units ++ l) (sym (units_more t.front c)) in (
            subst next joined (t'.taken (units ++ units_of t.front) p.0 here),
            subst (λ (l : List ReadUnit). Covers size (map leaf_of l) ((row * ctus size.w + (i + 1)) * 1024)) joined
                (subst (λ (l : List Leaf). Covers size l ((row * ctus size.w + (i + 1)) * 1024)) (sym (map-append (units ++ units_of t.front) us))
                (subst (λ (n : ℕ). Covers size (map leaf_of (units ++ units_of t.front) ++ map leaf_of us) n) next_order
                (ctu_covers size ctu (map leaf_of (units ++ units_of t.front)) (map leaf_of us) wide lawful p.1).covers)),
          );
    }
      where
        c : ReadCtu
        c = record { units = us; contexts = contexts }

        flagged : flagged_read kind size now ctu (ends ctu) d ≡ Some (c, new)
        flagged = subst (λ (b : Bool). flagged_read kind size now ctu b d ≡ Some (c, new)) (is ∙ sym (are.each i less)) read

        together : units_after now us ≡ units_after before (units_of (t.front ++ c ∷ []))
        together = after_twice before (units_of t.front) us ∙ ap (λ (l : List ReadUnit). units_after before l) (sym (units_more t.front c))

        next_ctu : suc ctu ≡ row * ctus size.w + (i + 1)
        next_ctu = omega arith

        next_order : ctu * 1024 + 1024 ≡ (row * ctus size.w + (i + 1)) * 1024
        next_order = omega arith

        wide : 0 < ctus size.w
        wide = omega arith

pub all_read : (kind : SliceKind) (size : Size) (ends : ℕ → Bool) (row i : ℕ) (before : List Moving) (e d : Engine) (stood stands : List ReadUnit → Type 0) (cells : modes.Cells) (vectors : motions.Cells) (handed : Option (List ℕ))
    → i ≡ ctus size.w → IsReadTo kind size ends row i before e d stood stands cells vectors handed
    → (cs : List ReadCtu) × (ctus_read kind size ends (ctus size.w) (row * ctus size.w) before e ≡ Some (cs, d)) × (handed ≡ second_of cs) × AreTaken stood stands size 0 (row * 32) cells vectors before (units_of cs)
all_read kind size ends row i before e d stood stands cells vectors handed full t = (
  t.front,
  t.reads ∙ ap (λ (n : ℕ). and_then (ctus_read kind size ends n (row * ctus size.w + i) (units_after before (units_of t.front)) d) (front_then t.front)) none ∙ ap (λ (l : List ReadCtu). Some (l, d)) (append-nil t.front),
  t.second,
  record { taken = λ units stands' has. (t.taken units stands' has).0; kept = t.kept },
)
  where
    none : ctus size.w - i ≡ 0
    none = omega arith

-- ---- where a row ends

not_yet : (last : Bool) (n i : ℕ) → i < n → (last && (i == n)) ≡ false
not_yet true n i h = ne_eqb i n (λ e. omega arith)
not_yet false n i h = refl

-- before the first unit
pub begun : (last : Bool) (n : ℕ) (e : Engine) → 0 < n → IsOpen e → IsOpenAfter Terminate (last && (0 == n)) e
begun last n e h opened = subst (λ (b : Bool). IsOpenAfter Terminate b e) (sym (not_yet last n 0 h)) opened

pub segment_ends : (size : Size) (row : ℕ) → AreEnds size row true (ends_row size)
segment_ends size row = record { each = λ i less. go i less (i + 1 == ctus size.w) refl }
  where
    w : ℕ
    w = ctus size.w

    go : (i : ℕ) → i < w → (b : Bool) → (i + 1 == w) ≡ b → ((row * w + i + 1) % w == 0) ≡ b
    go i less true h =
        let q : i + 1 ≡ w = eqb-true _ _ h in
        let e : row * w + i + 1 ≡ (row + 1) * w + 0 = omega arith in
        let some : 0 < w = omega arith in
        eq-eqb ((row * w + i + 1) % w) 0 (ap (λ (n : ℕ). n % w) e ∙ mod-mul-add (row + 1) w 0 some)
    go i less false h =
        let q : i + 1 ≡ w → ⊥ = eqb-false _ _ h in
        let e : row * w + i + 1 ≡ row * w + (i + 1) = omega arith in
        let below : i + 1 < w = omega arith in
        let m : (row * w + i + 1) % w ≡ i + 1 = ap (λ (n : ℕ). n % w) e ∙ mod-mul-add row w (i + 1) below in
        ne_eqb ((row * w + i + 1) % w) 0 (λ z. omega arith)

pub slice_ends : (size : Size) (row : ℕ) (last : Bool) → row < ctus size.h → last ≡ (row + 1 == ctus size.h) → AreEnds size row last (is_last size)
slice_ends size row last low is = subst (λ (b : Bool). AreEnds size row b (is_last size)) (sym is) (record { each = λ i less. go i less (row + 1 == h) refl (i + 1 == w) refl })
  where
    w : ℕ
    w = ctus size.w

    h : ℕ
    h = ctus size.h

    turned : (a b : ℕ) → a * b ≡ b * a
    turned a b = omega arith

    go : (i : ℕ) → i < w → (a : Bool) → (row + 1 == h) ≡ a → (b : Bool) → (i + 1 == w) ≡ b → (row * w + i + 1 == w * h) ≡ (a && b)
    go i less true p true q =
        let e : row + 1 ≡ h = eqb-true _ _ p in
        let f : i + 1 ≡ w = eqb-true _ _ q in
        let g : (row + 1) * w ≡ w * h = ap (λ (n : ℕ). n * w) e ∙ turned h w in
        eq-eqb _ _ (omega arith)
    go i less true p false q =
        let e : row + 1 ≡ h = eqb-true _ _ p in
        let f : i + 1 ≡ w → ⊥ = eqb-false _ _ q in
        let g : (row + 1) * w ≡ w * h = ap (λ (n : ℕ). n * w) e ∙ turned h w in
        ne_eqb _ _ (λ z. omega arith)
    go i less false p b q =
        let e : row + 1 ≡ h → ⊥ = eqb-false _ _ p in
        let more : row + 1 < h = omega arith in
        let fits : (row + 1) * w + w ≤ h * w = row_fits (row + 1) w h w more (le_refl w) in
        let g : h * w ≡ w * h = turned h w in
        ne_eqb _ _ (λ z. omega arith)

-- ---- rows

pub segment_open : (kind : SliceKind) (size : Size) (row : ℕ) (before : List Moving) (e : Engine) → segment_row_read kind size row before e ≡ ctus_read kind size (ends_row size) (ctus size.w) (row * ctus size.w) before e
unfolding segment_row_read
segment_open kind size row before e = refl

pub row_as : (r : Option (Option (List ℕ))) (read other : Option (List ReadCtu × Engine)) (new : Engine) (Holds : List ReadUnit → Type 0) → read ≡ other → ReadsRow r read new Holds → ReadsRow r other new Holds
row_as r read other new Holds h reads = subst (λ (o : Option (List ReadCtu × Engine)). ReadsRow r o new Holds) h reads

abbrev subset_then : Size → ℕ → List ReadCtu × Engine → Option (List ReadCtu × Engine)
subset_then size row found = subset_end size row found.0 found.1

slice_open : (kind : SliceKind) (size : Size) (row : ℕ) (before : List Moving) (e : Engine) → slice_row_read kind size row before e ≡ and_then (ctus_read kind size (is_last size) (ctus size.w) (row * ctus size.w) before e) (subset_then size row)
unfolding slice_row_read
slice_open kind size row before e = refl

-- what the units of a row are read to
abbrev pub Rows : SliceKind → Size → ℕ → List Moving → Engine → Engine → Option (List ℕ) → (List ReadUnit → Type 0) → Type 0
Rows kind size row before e d handed Holds = (cs : List ReadCtu) × (ctus_read kind size (is_last size) (ctus size.w) (row * ctus size.w) before e ≡ Some (cs, d)) × (handed ≡ second_of cs) × Holds (units_of cs)

pub slice_none : (kind : SliceKind) (size : Size) (row : ℕ) (before : List Moving) (e : Engine) → ctus_read kind size (is_last size) (ctus size.w) (row * ctus size.w) before e ≡ None → slice_row_read kind size row before e ≡ None
slice_none kind size row before e h = slice_open kind size row before e ∙ then_none (ctus_read kind size (is_last size) (ctus size.w) (row * ctus size.w) before e) (subset_then size row) h

past_units : (kind : SliceKind) (size : Size) (row : ℕ) (before : List Moving) (e d : Engine) (cs : List ReadCtu) (b : Bool) → ctus_read kind size (is_last size) (ctus size.w) (row * ctus size.w) before e ≡ Some (cs, d) → (row + 1 == ctus size.h) ≡ b
    → slice_row_read kind size row before e ≡ (if b then give cs else expect Terminate true (give cs)) d
past_units kind size row before e d cs b h last =
    slice_open kind size row before e ∙ then_some (ctus_read kind size (is_last size) (ctus size.w) (row * ctus size.w) before e) (cs, d) (subset_then size row) h
    ∙ ap (λ (b : Bool). (if b then give cs else expect Terminate true (give cs)) d) last

pub slice_last : (kind : SliceKind) (size : Size) (row : ℕ) (before : List Moving) (e d : Engine) (handed : Option (List ℕ)) (Holds : List ReadUnit → Type 0) → (row + 1 == ctus size.h) ≡ true → Rows kind size row before e d handed Holds
    → (cs : List ReadCtu) × (slice_row_read kind size row before e ≡ Some (cs, d)) × (handed ≡ second_of cs) × Holds (units_of cs)
slice_last kind size row before e d handed Holds last (cs, read, hands, holds) = (cs, past_units kind size row before e d cs true read last, hands, holds)

abbrev end_then : List ReadCtu → Bool × Engine → Option (List ReadCtu × Engine)
end_then cs found = (if beq found.0 true then give cs else refuse) found.1

pub slice_ended : (kind : SliceKind) (size : Size) (row : ℕ) (before : List Moving) (e d : Engine) (handed : Option (List ℕ)) (Holds : List ReadUnit → Type 0) → (row + 1 == ctus size.h) ≡ false → Rows kind size row before e d handed Holds → terminate_read d ≡ None
    → slice_row_read kind size row before e ≡ None
slice_ended kind size row before e d handed Holds last (cs, read, hands, holds) ended = past_units kind size row before e d cs false read last ∙ then_none (terminate_read d) (end_then cs) ended

pub slice_goes_on : (kind : SliceKind) (size : Size) (row : ℕ) (before : List Moving) (e d f : Engine) (handed : Option (List ℕ)) (Holds : List ReadUnit → Type 0) → (row + 1 == ctus size.h) ≡ false → Rows kind size row before e d handed Holds → terminate_read d ≡ Some (false, f)
    → slice_row_read kind size row before e ≡ None
slice_goes_on kind size row before e d f handed Holds last (cs, read, hands, holds) bin = past_units kind size row before e d cs false read last ∙ then_some (terminate_read d) (false, f) (end_then cs) bin

pub slice_done : (kind : SliceKind) (size : Size) (row : ℕ) (before : List Moving) (e d f : Engine) (handed : Option (List ℕ)) (Holds : List ReadUnit → Type 0) → (row + 1 == ctus size.h) ≡ false → Rows kind size row before e d handed Holds → terminate_read d ≡ Some (true, f)
    → (cs : List ReadCtu) × (slice_row_read kind size row before e ≡ Some (cs, f)) × (handed ≡ second_of cs) × Holds (units_of cs)
slice_done kind size row before e d f handed Holds last (cs, read, hands, holds) bin = (cs, past_units kind size row before e d cs false read last ∙ then_some (terminate_read d) (true, f) (end_then cs) bin, hands, holds)
