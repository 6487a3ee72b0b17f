-- Rows unit by unit, what may follow each, and what a row hands on.
use Rattle.std.proofs.Common.{◌≡◌, refl, sym, ◌∙◌, ap, subst, ℕ, zero, suc, ◌+◌, ◌*◌, ◌-◌, ◌%◌, ◌<◌, ◌≤◌, List, [], ◌∷◌, ◌++◌, Bool, true, false, not, cond, append_assoc, append-nil, map, arith, ⊎_elim}
use Rattle.std.specs.Prelude.{◌==◌, nat_le}
use Rattle.std.specs.List.{flat_map, range_with_len}
use Rattle.std.proofs.lemmas.Bool.{cond-true, cond-false, eq-eqb, ne_eqb, eqb-true, eqb-false, le-leb, lt-leb, cases_lt}
use Rattle.std.proofs.lemmas.Grind.{flat_map-append}
use Rattle.std.proofs.lemmas.List.FromFn.{map-range_with_len_more}
use Rattle.std.proofs.lemmas.Nat.{mul-le, mod-mul-add}
use Rattle.h265_model.specs.declared.Item.{Item}
use Rattle.h265_model.specs.declared.Place.TheVariants.{Terminate}
use Rattle.h265_model.specs.declared.leaf.SliceKind.{SliceKind}
use Rattle.h265_model.specs.Plain.{Size, ctus, below, terminate_bin}
use Rattle.h265_model.specs.Contexts.{start, row_start}
use Rattle.h265_model.specs.Code.{Phase, Plain, Ended, phase_after, code, contexts_after, put_bin}
use Rattle.h265_model.specs.Tree.{is_last, ends_row}
use Rattle.h265_laws.proofs.ContextsLaw.{after_both}
use Rattle.bin_items.specs.Growth.{Grew, IsOpen}
use Rattle.bin_items.proofs.Growing.{open_as}
use Rattle.cabac_bytes.specs.State.{State, stands_for, phase_of}
use Rattle.row_sequence.specs.declared.writer.Ending.{Ending}
use Rattle.row_sequence.specs.declared.writer.Ending.TheVariants.{Slice, Segment}
use Rattle.row_sequence.specs.Sequence.{CtuItems, ends_of, has_end, with_flag, flagged, row_of, handed_of, contexts_of, code_of, IsAfter}

-- ---- units

below_next : (n a k : ℕ) → a + n ≡ k → range_with_len a (suc n) ≡ range_with_len a n ++ k ∷ []
below_next zero a k e = let z : a ≡ k = omega arith in rw (← z) refl
below_next (suc n) a k e = ap (λ (xs : List ℕ). a ∷ xs) (below_next n (a + 1) k (omega arith))

module _ (ends : ℕ → Bool) (size : Size) (items : CtuItems) (row : ℕ) where
  pub none_flagged : flagged ends size items row 0 ≡ []
  unfolding flagged
  none_flagged = refl

  pub one_flagged : (n : ℕ) → flagged ends size items row (suc n) ≡ flagged ends size items row n ++ with_flag ends size items row n
  unfolding flagged
  one_flagged n =
      ap (λ (l : List ℕ). flat_map (with_flag ends size items row) l) (below_next n 0 n (omega arith))
      ∙ (flat_map-append (with_flag ends size items row) (below n) (n ∷ [])
      ∙ ap (λ (l : List Item). flat_map (with_flag ends size items row) (below n) ++ l) (append-nil (with_flag ends size items row n)))

-- one unit more is written, and its flag
pub one_written : (ends : ℕ → Bool) (size : Size) (items : CtuItems) (row n ctu : ℕ) (flag : Bool) (old mid new : State) → ctu ≡ row * ctus size.w + n → flag ≡ ends ctu
    → Grew (items ctu) (stands_for old) (stands_for mid) → Grew (terminate_bin flag ∷ []) (stands_for mid) (stands_for new)
    → (first : List ℕ) → stands_for old (flagged ends size items row n) first → stands_for new (flagged ends size items row (n + 1)) first
one_written ends size items row n ctu flag old mid new at is taken more first from =
    let next : n + 1 ≡ suc n = omega arith in
    let all : (flagged ends size items row n ++ items ctu) ++ terminate_bin flag ∷ [] ≡ flagged ends size items row (n + 1) =
    append_assoc (flagged ends size items row n) (items ctu) (terminate_bin flag ∷ [])
    ∙ (ap (λ (b : Bool). flagged ends size items row n ++ (items ctu ++ terminate_bin b ∷ [])) is
    ∙ (ap (λ (k : ℕ). flagged ends size items row n ++ (items k ++ terminate_bin (ends k) ∷ [])) at
    ∙ (sym (one_flagged ends size items row n) ∙ ap (flagged ends size items row) (sym next)))) in
    subst (λ (l : List Item). stands_for new l first) all (more.from (flagged ends size items row n ++ items ctu) first (taken.from (flagged ends size items row n) first from))

-- ---- what may follow

-- a row lies in the picture
pub row_fits : (row w h : ℕ) → row < h → row * w + w ≤ w * h
row_fits row w h less = let m : (row + 1) * w ≤ h * w = mul-le (row + 1) w h w (omega arith) (omega arith) in omega arith

pub unit_fits : (row n w h : ℕ) → row < h → n < w → row * w + n < w * h
unit_fits row n w h less inside = let m = row_fits row w h less in omega arith

inner_slice : (row n w h : ℕ) → row < h → n + 1 < w → (row * w + n + 1 == w * h) ≡ false
inner_slice row n w h less more = let m = row_fits row w h less in ne_eqb (row * w + n + 1) (w * h) (λ e. absurd (omega arith))

inner_segment : (row n w : ℕ) → n + 1 < w → ((row * w + n + 1) % w == 0) ≡ false
inner_segment row n w more =
    let e : row * w + n + 1 ≡ row * w + (n + 1) = omega arith in
    let r : (row * w + n + 1) % w ≡ n + 1 = ap (λ (k : ℕ). k % w) e ∙ mod-mul-add row w (n + 1) more in
    ne_eqb ((row * w + n + 1) % w) 0 (λ z. absurd (omega arith))

inner_flag : (ending : Ending) (size : Size) (row n : ℕ) → row < ctus size.h → n + 1 < ctus size.w → ends_of ending size (row * ctus size.w + n) ≡ false
inner_flag Slice size row n less more = inner_slice row n (ctus size.w) (ctus size.h) less more
inner_flag Segment size row n less more = inner_segment row n (ctus size.w) more

last_slice : (row w h : ℕ) → row < h → 0 < w → (row * w + (w - 1) + 1 == w * h) ≡ not (not (row + 1 == h))
last_slice row w h less some = go (row + 1 == h) refl
  where
    go : (b : Bool) → (row + 1 == h) ≡ b → (row * w + (w - 1) + 1 == w * h) ≡ not (not b)
    go true e =
        let h' : row + 1 ≡ h = eqb-true _ _ e in
        eq-eqb (row * w + (w - 1) + 1) (w * h) (rw (← h') (omega arith))
    go false e =
        let ne = eqb-false _ _ e in
        let strict : row + 1 < h = ⊎_elim (λ k. k) (λ k. absurd (ne (omega arith))) (cases_lt (row + 1) h) in
        let m = row_fits (row + 1) w h strict in
        ne_eqb (row * w + (w - 1) + 1) (w * h) (λ z. absurd (omega arith))

last_segment : (row w : ℕ) → 0 < w → ((row * w + (w - 1) + 1) % w == 0) ≡ true
last_segment row w some =
    let e : row * w + (w - 1) + 1 ≡ (row + 1) * w + 0 = omega arith in
    eq-eqb _ _ (ap (λ (k : ℕ). k % w) e ∙ mod-mul-add (row + 1) w 0 some)

last_flag : (ending : Ending) (size : Size) (row : ℕ) → row < ctus size.h → 0 < ctus size.w → ends_of ending size (row * ctus size.w + (ctus size.w - 1)) ≡ not (has_end ending size row)
last_flag Slice size row less some = last_slice row (ctus size.w) (ctus size.h) less some
last_flag Segment size row less some = last_segment row (ctus size.w) some

pub none_before : (ending : Ending) (size : Size) (row : ℕ) (phase : Phase) → 0 < ctus size.w → phase ≡ Plain → IsAfter ending size row 0 phase
none_before ending size row phase some e = record {
  is_open = λ more. open_as phase Plain e tt;
  is_last_one = λ all. absurd (omega arith);
}

pub after_flag : (ending : Ending) (size : Size) (row n ctu : ℕ) (flag : Bool) (phase : Phase) → row < ctus size.h → n < ctus size.w → ctu ≡ row * ctus size.w + n → flag ≡ ends_of ending size ctu
    → phase ≡ phase_after Terminate flag → IsAfter ending size row (n + 1) phase
after_flag ending size row n ctu flag phase less inside at is e =
    let here : flag ≡ ends_of ending size (row * ctus size.w + n) = is ∙ ap (ends_of ending size) at in
    record {
      is_open = λ more. open_as phase (phase_after Terminate false) (e ∙ ap (phase_after Terminate) (here ∙ inner_flag ending size row n less more)) tt;
      is_last_one = λ all.
          let k : n ≡ ctus size.w - 1 = omega arith in
          e ∙ ap (phase_after Terminate) (here ∙ ap (λ (i : ℕ). ends_of ending size (row * ctus size.w + i)) k);
    }

pub open_at_end : (ending : Ending) (size : Size) (row : ℕ) (phase : Phase) → row < ctus size.h → 0 < ctus size.w → IsAfter ending size row (ctus size.w) phase → has_end ending size row ≡ true → IsOpen phase
open_at_end ending size row phase less some after has =
    open_as phase (phase_after Terminate false) (after.is_last_one refl ∙ ap (phase_after Terminate) (last_flag ending size row less some ∙ ap not has)) tt

pub ended_at_end : (ending : Ending) (size : Size) (row : ℕ) (phase : Phase) → row < ctus size.h → 0 < ctus size.w → IsAfter ending size row (ctus size.w) phase → has_end ending size row ≡ false → phase ≡ Ended
ended_at_end ending size row phase less some after has = after.is_last_one refl ∙ ap (phase_after Terminate) (last_flag ending size row less some ∙ ap not has)

-- ---- the end of a row

pub closed : (ending : Ending) (size : Size) (items : CtuItems) (row : ℕ) (coder new : State) (bytes : List ℕ) (first : List ℕ) → has_end ending size row ≡ true
    → Grew (terminate_bin true ∷ []) (stands_for coder) (stands_for new) → ((list : List Item) (contexts : List ℕ) → stands_for new list contexts → bytes ≡ code list contexts)
    → stands_for coder (flagged (ends_of ending size) size items row (ctus size.w)) first → bytes ≡ code (row_of ending size items row) first
closed ending size items row coder new bytes first has flag known from =
    let units : List Item = flagged (ends_of ending size) size items row (ctus size.w) in
    known (units ++ terminate_bin true ∷ []) first (flag.from units first from) ∙ ap (λ (l : List Item). code (units ++ l) first) (sym (cond-true (has_end ending size row) _ _ has))

pub left_closed : (ending : Ending) (size : Size) (items : CtuItems) (row : ℕ) (coder : State) (bytes : List ℕ) (first : List ℕ) → has_end ending size row ≡ false
    → ((list : List Item) (contexts : List ℕ) → stands_for coder list contexts → bytes ≡ code list contexts)
    → stands_for coder (flagged (ends_of ending size) size items row (ctus size.w)) first → bytes ≡ code (row_of ending size items row) first
left_closed ending size items row coder bytes first has known from =
    let units : List Item = flagged (ends_of ending size) size items row (ctus size.w) in
    known units first from ∙ ap (λ (l : List Item). code l first) (sym (append-nil units) ∙ ap (λ (l : List Item). units ++ l) (sym (cond-false (has_end ending size row) _ _ has)))

-- ---- contexts

-- a flag between units has no context
flag_leaves : (flag : Bool) (contexts : List ℕ) → contexts_after (terminate_bin flag ∷ []) contexts ≡ contexts
unfolding contexts_after put_bin
flag_leaves true contexts = refl
flag_leaves false contexts = refl

-- so what a row hands on is the same whatever the flags
pub flags_alike : (e f : ℕ → Bool) (size : Size) (items : CtuItems) (row n : ℕ) (contexts : List ℕ) → contexts_after (flagged e size items row n) contexts ≡ contexts_after (flagged f size items row n) contexts
flags_alike e f size items row zero contexts = ap (λ (l : List Item). contexts_after l contexts) (none_flagged e size items row ∙ sym (none_flagged f size items row))
flags_alike e f size items row (suc n) contexts = one e ∙ (ap (λ (c : List ℕ). contexts_after (items (row * ctus size.w + n)) c) (flags_alike e f size items row n contexts) ∙ sym (one f))
  where
    one : (g : ℕ → Bool) → contexts_after (flagged g size items row (suc n)) contexts ≡ contexts_after (items (row * ctus size.w + n)) (contexts_after (flagged g size items row n) contexts)
    one g =
        ap (λ (l : List Item). contexts_after l contexts) (one_flagged g size items row n)
        ∙ (after_both (flagged g size items row n) (with_flag g size items row n) contexts
        ∙ (after_both (items (row * ctus size.w + n)) (terminate_bin (g (row * ctus size.w + n)) ∷ []) (contexts_after (flagged g size items row n) contexts)
        ∙ flag_leaves (g (row * ctus size.w + n)) (contexts_after (items (row * ctus size.w + n)) (contexts_after (flagged g size items row n) contexts))))

pub starts_first : (kind : SliceKind) (across : ℕ) (other : List ℕ) → start kind ≡ row_start kind across 0 other
unfolding row_start
starts_first kind across other = refl

pub starts_narrow : (kind : SliceKind) (across row : ℕ) (other : List ℕ) → across < 2 → start kind ≡ row_start kind across row other
unfolding row_start
starts_narrow kind across zero other h = refl
starts_narrow kind across (suc row) other h = sym (cond-false (nat_le 2 across) _ _ (lt-leb 2 across h))

pub starts_handed : (kind : SliceKind) (across row : ℕ) (handed other : List ℕ) → 0 < row → 2 ≤ across → handed ≡ other → handed ≡ row_start kind across row other
unfolding row_start
starts_handed kind across zero handed other h two e = absurd (omega arith)
starts_handed kind across (suc row) handed other h two e = e ∙ sym (cond-true (nat_le 2 across) _ _ (le-leb 2 across two))

pub first_handed : (kind : SliceKind) (size : Size) (items : CtuItems) → start kind ≡ handed_of kind size items 0
unfolding handed_of
first_handed kind size items = refl

pub next_handed : (ending : Ending) (kind : SliceKind) (size : Size) (items : CtuItems) (row n : ℕ) (coder : State) (second : List ℕ) → n ≡ 2 → stands_for coder (flagged (ends_of ending size) size items row n) (contexts_of kind size items row)
    → ((list : List Item) (contexts : List ℕ) → stands_for coder list contexts → second ≡ contexts_after list contexts) → second ≡ handed_of kind size items (row + 1)
unfolding handed_of
next_handed ending kind size items row n coder second two from known =
    let next : row + 1 ≡ suc row = omega arith in
    known (flagged (ends_of ending size) size items row n) (contexts_of kind size items row) from
    ∙ (ap (λ (k : ℕ). contexts_after (flagged (ends_of ending size) size items row k) (contexts_of kind size items row)) two
    ∙ (flags_alike (ends_of ending size) (is_last size) size items row 2 (contexts_of kind size items row) ∙ ap (handed_of kind size items) (sym next)))

pub coded : (ending : Ending) (kind : SliceKind) (size : Size) (items : CtuItems) (row : ℕ) (first : List ℕ) (bytes : List ℕ) → first ≡ contexts_of kind size items row
    → bytes ≡ code (row_of ending size items row) first → bytes ≡ code_of ending kind size items row
unfolding code_of
coded ending kind size items row first bytes is e = e ∙ ap (code (row_of ending size items row)) is

-- ---- a row in two parts

pub half_stands : (ending : Ending) (size : Size) (items : CtuItems) (row few : ℕ) (fresh half : State) (first : List ℕ) → stands_for fresh [] first
    → ((f : List ℕ) → stands_for fresh (flagged (ends_of ending size) size items row 0) f → stands_for half (flagged (ends_of ending size) size items row few) f)
    → stands_for half (flagged (ends_of ending size) size items row few) first
half_stands ending size items row few fresh half first none written =
    written first (subst (λ (l : List Item). stands_for fresh l first) (sym (none_flagged (ends_of ending size) size items row)) none)

pub whole_stands : (ending : Ending) (size : Size) (items mid : CtuItems) (row few across : ℕ) (half whole : State) (first : List ℕ) → mid ≡ items → across ≡ ctus size.w
    → stands_for half (flagged (ends_of ending size) size items row few) first
    → ((f : List ℕ) → stands_for half (flagged (ends_of ending size) size mid row few) f → stands_for whole (flagged (ends_of ending size) size mid row across) f)
    → stands_for whole (flagged (ends_of ending size) size items row (ctus size.w)) first
whole_stands ending size items mid row few across half whole first same all from written =
    subst (λ (i : CtuItems). stands_for whole (flagged (ends_of ending size) size i row (ctus size.w)) first) same
    (subst (λ (n : ℕ). stands_for whole (flagged (ends_of ending size) size mid row n) first) all
    (written first (subst (λ (i : CtuItems). stands_for half (flagged (ends_of ending size) size i row few) first) (sym same) from)))

-- ---- one row more

map_push : {X : Type 0} (f : X → List ℕ) (rows : List X) (x : X) → map f (rows ++ x ∷ []) ≡ map f rows ++ f x ∷ []
map_push f [] x = refl
map_push f (row ∷ rows) x = ap (λ (l : List (List ℕ)). f row ∷ l) (map_push f rows x)

pub row_more : {X : Type 0} (f : X → List ℕ) (g : ℕ → List ℕ) (rows all : List X) (x : X) (n : ℕ) → all ≡ rows ++ x ∷ [] → map f rows ≡ map g (below n) → f x ≡ g n → map f all ≡ map g (below (n + 1))
row_more f g rows all x n e before at =
    ap (λ (l : List _). map f l) e
    ∙ (map_push f rows x
    ∙ (ap (λ (l : List (List ℕ)). l ++ f x ∷ []) before ∙ (ap (λ (v : List ℕ). map g (below n) ++ v ∷ []) at ∙ sym (map-range_with_len_more g 0 n n (omega arith)))))
