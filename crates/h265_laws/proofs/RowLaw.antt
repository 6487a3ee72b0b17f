-- A row that was written is read, and the contexts after each of its coding tree units are those that the code names.
use Rattle.std.proofs.Common.{◌≡◌, refl, sym, ◌∙◌, ap, subst, ℕ, zero, suc, ◌+◌, ◌*◌, ◌≤◌, List, [], ◌∷◌, ◌++◌, Bool, true, false, cond, take, append_assoc, append-nil, arith, add-zero}
use Rattle.std.specs.Prelude.{Some, get_or, ◌==◌}
use Rattle.std.specs.List.{flat_map, range_with_len}
use Rattle.h265_model.specs.declared.Item.{Item}
use Rattle.h265_model.specs.declared.Place.TheVariants.{Terminate}
use Rattle.h265_model.specs.declared.leaf.SliceKind.{SliceKind}
use Rattle.h265_model.specs.declared.leaf.Leaf.{Leaf}
use Rattle.h265_model.specs.Plain.{Size, ctus, below, terminate_bin, joined}
use Rattle.h265_model.specs.Engine.{Engine, Part, parts_of, Gives, Reader, ◌>>=◌, give, refuse, Reads, ReadsWith}
use Rattle.std.specs.Bool.{beq}
use Rattle.h265_model.specs.Code.{contexts_after, put_bin}
use Rattle.h265_laws.proofs.TreeLaw.{ctu_law, after_is, tree_modes}
use Rattle.h265_model.specs.Tree.{leaf_units, IsMode, Source, expect, contexts_read, ctu_items, ctu_with_flag, is_last, items_of_row, IsSource, AreModes, AreLawfulTrees}
use Rattle.h265_laws.proofs.LeafReading.{ReadLeaf, ReadCtu, leaves_after, ctu_read, ctus_read, read_row, reads_of, values_from}
use Rattle.h265_laws.proofs.Parts.{BeginsWithBin, parts_of-append, GivesBoth, gives_both, named_contexts}
use Rattle.h265_model.specs.Bits.{◌>>=◌ as and_then}
use Rattle.h265_model.proofs.ListParts.{all_append}

pub with_any : {A : Type 0} (read : Reader A) (list : List Item) (value : A) → Reads read list value → ReadsWith read list (λ c. value)
with_any read list value r = record { from = r.from }

-- after a front, the contexts are those that the code names
pub with_bind : {A B : Type 0} (read : Reader A) (f : A → Reader B) (front back : List Item) (a : List ℕ → A) (b : List ℕ → List ℕ → B) → BeginsWithBin back
    → ReadsWith read front a → ((c : List ℕ) → ReadsWith (f (a c)) back (b c)) → ReadsWith (read >>= f) (front ++ back) (λ c. b c (contexts_after front c))
with_bind read f front back a b begins first second = record {
  from = λ e left h.
      let r : GivesBoth (parts_of front) (parts_of back) e left =
      gives_both (parts_of front) (parts_of back) e left (subst (λ (ps : List Part). Gives ps e left) (parts_of-append front back begins) h) in
      ap (λ o. and_then o (λ found. f found.0 found.1)) (first.from e r.between r.first)
      ∙ ((second e.contexts).from r.between left r.second
      ∙ ap (λ (c : List ℕ). Some (b e.contexts c, left)) (named_contexts front e r.between r.first));
}

pub same_after_flag : (value : Bool) (c : List ℕ) → contexts_after (terminate_bin value ∷ []) c ≡ c
unfolding contexts_after put_bin
same_after_flag true c = refl
same_after_flag false c = refl

same_bit : (b : Bool) → beq b b ≡ true
same_bit true = refl
same_bit false = refl

pub with_expect : {A : Type 0} (value : Bool) (read : Reader A) (list : List Item) (a : List ℕ → A) → ReadsWith read list a
    → ReadsWith (expect Terminate value read) (terminate_bin value ∷ list) a
with_expect value read list a r = record {
  from = λ e left h.
      let d : Engine = h.0 in
      let here : d.contexts ≡ e.contexts = named_contexts (terminate_bin value ∷ []) e d (d, h.1, refl) ∙ same_after_flag value e.contexts in
      ap (λ o. and_then o (λ (found : Bool × Engine). cond (beq found.0 value) read refuse found.1)) h.1
      ∙ (ap (λ (b : Bool). cond b read refuse d) (same_bit value)
      ∙ (r.from d left h.2 ∙ ap (λ (c : List ℕ). Some (a c, left)) here));
}

pub with_as : {A : Type 0} (read : Reader A) (list list' : List Item) (a : List ℕ → A) → list ≡ list' → ReadsWith read list a → ReadsWith read list' a
with_as read list list' a same r = subst (λ (l : List Item). ReadsWith read l a) same r

pub with_map : {A B : Type 0} (read : Reader A) (f : A → B) (list : List Item) (a : List ℕ → A) → ReadsWith read list a → ReadsWith (read >>= λ x. give (f x)) list (λ c. f (a c))
with_map read f list a r = record { from = λ e left h. ap (λ o. and_then o (λ found. Some (f found.0, found.1))) (r.from e left h) }

-- contexts_read in front
pub with_contexts : {A : Type 0} (f : List ℕ → Reader A) (list : List Item) (a : List ℕ → List ℕ → A) → ((c : List ℕ) → ReadsWith (f c) list (a c)) → ReadsWith (contexts_read >>= f) list (λ c. a c c)
with_contexts f list a r = record { from = λ e left h. (r e.contexts).from e left h }

-- ---- the coding tree units of a row

pub joined_take : (leaves : List (List Leaf)) (n : ℕ) → joined (take (suc n) leaves) ≡ joined (take n leaves) ++ get_or leaves n []
joined_take [] zero = refl
joined_take [] (suc n) = refl
joined_take (l ∷ leaves) zero = append-nil l
joined_take (l ∷ leaves) (suc n) = ap (λ (r : List Leaf). l ++ r) (joined_take leaves n) ∙ sym (append_assoc l (joined (take n leaves)) (get_or leaves n []))

pub lawful_modes : (kind : SliceKind) (size : Size) (leaves : List (List Leaf)) (total n : ℕ) → n ≤ total → AreLawfulTrees kind size leaves total → AreModes (joined (take n leaves))
lawful_modes kind size leaves total zero h are = tt
lawful_modes kind size leaves total (suc n) h are =
    subst AreModes (sym (joined_take leaves n))
    (all_append (λ leaf. IsMode leaf.kind) (joined (take n leaves)) (get_or leaves n []) (lawful_modes kind size leaves total n (omega arith) are) (tree_modes size 2 _ _ _ (are.tree n (omega arith))))

-- the items of n coding tree units from this one on, and what is read of them
abbrev pub items_from : SliceKind → Size → Source → List (List Leaf) → ℕ → ℕ → List Item
items_from kind size source leaves ctu zero = []
items_from kind size source leaves ctu (suc n) = ctu_with_flag (leaf_units kind source) size (is_last size) leaves ctu ++ items_from kind size source leaves (suc ctu) n

pub ctus_law : (kind : SliceKind) (size : Size) (source : Source) (leaves : List (List Leaf)) (total ctu n : ℕ) → ctu + n ≤ total → AreLawfulTrees kind size leaves total → IsSource source
    → ReadsWith (ctus_read kind size n ctu (joined (take ctu leaves))) (items_from kind size source leaves ctu n) (values_from kind size source leaves ctu n)
ctus_law kind size source leaves total ctu zero h are is = record { from = λ e left g. ap (λ (d : Engine). Some ([], d)) g }
ctus_law kind size source leaves total ctu (suc n) h are is =
    let before : List Leaf = joined (take ctu leaves) in
    let here : List Leaf = get_or leaves ctu [] in
    let made : List ReadLeaf → List ℕ → List ReadCtu → List ReadCtu = λ ls c others. record { leaves = ls; contexts = c } ∷ others in
    let rest : List Item = items_from kind size source leaves (suc ctu) n in
    let later : ReadsWith (ctus_read kind size n (suc ctu) (joined (take (suc ctu) leaves))) rest (values_from kind size source leaves (suc ctu) n) =
    ctus_law kind size source leaves total (suc ctu) n (omega arith) are is in
    let same : leaves_after before (reads_of source here) ≡ joined (take (suc ctu) leaves) = after_is source before here ∙ sym (joined_take leaves ctu) in
    let later_here : ReadsWith (ctus_read kind size n (suc ctu) (leaves_after before (reads_of source here))) rest (values_from kind size source leaves (suc ctu) n) =
    subst (λ (b : List Leaf). ReadsWith (ctus_read kind size n (suc ctu) b) rest (values_from kind size source leaves (suc ctu) n)) (sym same) later in
    let f : List ReadLeaf → Reader (List ReadCtu) = λ ls. contexts_read >>= λ c. expect Terminate (is_last size ctu) (ctus_read kind size n (suc ctu) (leaves_after before ls) >>= λ others. give (made ls c others)) in
    let first : Reads (ctu_read kind size before ctu) (ctu_items (leaf_units kind source) size before here ctu) (reads_of source here) =
    ctu_law kind size source ctu before here is (are.tree ctu (omega arith)) (lawful_modes kind size leaves total ctu (omega arith) are) (are.allowed ctu (omega arith)) in
    with_as (ctus_read kind size (suc n) ctu before) _ _ _ (sym (append_assoc (ctu_items (leaf_units kind source) size before here ctu) (terminate_bin (is_last size ctu) ∷ []) rest))
    (with_bind (ctu_read kind size before ctu) f (ctu_items (leaf_units kind source) size before here ctu) (terminate_bin (is_last size ctu) ∷ rest)
    (λ c. reads_of source here) (λ c d. made (reads_of source here) d (values_from kind size source leaves (suc ctu) n d)) tt (with_any _ _ _ first)
    (λ c. with_contexts _ _ (λ d d'. made (reads_of source here) d (values_from kind size source leaves (suc ctu) n d'))
    (λ d. with_expect (is_last size ctu) _ rest _ (with_map (ctus_read kind size n (suc ctu) (leaves_after before (reads_of source here))) (made (reads_of source here) d) rest _ later_here))))

-- ---- the row

pub in_order : (kind : SliceKind) (size : Size) (source : Source) (leaves : List (List Leaf)) (base n first : ℕ)
    → flat_map (λ i. ctu_with_flag (leaf_units kind source) size (is_last size) leaves (base + i)) (range_with_len first n) ≡ items_from kind size source leaves (base + first) n
in_order kind size source leaves base zero first = refl
in_order kind size source leaves base (suc n) first =
    let e : base + (first + 1) ≡ suc (base + first) = omega arith in
    ap (λ (l : List Item). ctu_with_flag (leaf_units kind source) size (is_last size) leaves (base + first) ++ l)
    (in_order kind size source leaves base n (first + 1) ∙ ap (λ (k : ℕ). items_from kind size source leaves k n) e)

pub row_law : (kind : SliceKind) (size : Size) (source : Source) (leaves : List (List Leaf)) (row total : ℕ) → row * ctus size.w + ctus size.w ≤ total → AreLawfulTrees kind size leaves total → IsSource source
    → ReadsWith (read_row kind size row (take (row * ctus size.w) leaves)) (items_of_row (leaf_units kind source) size leaves row) (values_from kind size source leaves (row * ctus size.w) (ctus size.w))
unfolding read_row items_of_row
row_law kind size source leaves row total h are is = go (row + 1 == ctus size.h)
  where
    wide : ℕ
    wide = ctus size.w

    first : ℕ
    first = row * ctus size.w

    values : List ℕ → List ReadCtu
    values = values_from kind size source leaves first wide

    front : List Item
    front = flat_map (λ i. ctu_with_flag (leaf_units kind source) size (is_last size) leaves (first + i)) (below wide)

    read : ReadsWith (ctus_read kind size wide first (joined (take first leaves))) front values
    read = with_as _ _ _ values (sym (in_order kind size source leaves first wide 0 ∙ ap (λ (k : ℕ). items_from kind size source leaves k wide) (add-zero first))) (ctus_law kind size source leaves total first wide h are is)

    go : (b : Bool) → ReadsWith (ctus_read kind size wide first (joined (take first leaves)) >>= λ r. cond b (give r) (expect Terminate true (give r))) (front ++ cond b [] (terminate_bin true ∷ [])) values
    go true = with_bind _ (λ r. give r) front [] values (λ c d. values c) tt read (λ c. record { from = λ e left g. ap (λ (x : Engine). Some (values c, x)) g })
    go false = with_bind _ (λ r. expect Terminate true (give r)) front (terminate_bin true ∷ []) values (λ c d. values c) tt read
        (λ c. with_expect true (give (values c)) [] (λ d. values c) (record { from = λ e left g. ap (λ (x : Engine). Some (values c, x)) g }))
