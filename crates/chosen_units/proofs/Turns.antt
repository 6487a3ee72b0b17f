-- Chosen units are coded in turn.
use Rattle.std.proofs.Common.{◌≡◌, refl, sym, ◌∙◌, ap, subst, ℕ, zero, suc, ◌<◌, ◌+◌, List, [], ◌∷◌, ◌++◌, true, false, cond, take, drop, get_or, length, append_assoc, arith, inl, inr, ◌⊎◌}
use Rattle.std.specs.Prelude.{Option, Some, None, option_map}
use Rattle.std.specs.Option.{option_or}
use Rattle.std.proofs.lemmas.List.{append-nil, take-map, map-append}
use Rattle.std.proofs.lemmas.List.Folds.{find-append}
use Rattle.h265_model.proofs.ListParts.{all_append}
use Rattle.h265_model.specs.declared.moves.Vector.{Vector}
use Rattle.h265_model.specs.declared.moves.MoveLeaf.{MoveLeaf}
use Rattle.std.proofs.lemmas.Bool.{cond-true, cond-false}
use Rattle.h265_model.specs.declared.leaf.Kind.{Kind}
use Rattle.h265_model.specs.Plain.{covers, leaf_with}
use Rattle.h265_model.specs.Motion.{Moving, vector_in, vector_before, merge, leaf_as_coded, kind_vector, as_coded, coded_after}
use Rattle.motion_grid.specs.Cells.{Cells, HasMotion, unit_at}
use Rattle.chosen_units.specs.declared.chosen.Chosen.{Chosen}
use Rattle.chosen_units.specs.Chosen.{Choosing, IsCodedWith, IsSmall, AreSmall, AreInTurn, AreChosen, as_moving, movings, units_of}

-- a unit is coded with its vector
coded_is : (before : List Moving) (one : Chosen) → one.vector ≡ kind_vector (merge before one.unit.block) one.unit.kind → as_coded before one.unit ≡ as_moving one
coded_is before one e = ap (λ (v : Option Vector). record { leaf = leaf_as_coded one.unit; vector = v }) (sym e)

-- what is coded after some units
pub turn_is : (before : List Moving) (list : List Chosen) → AreInTurn before list → coded_after before (units_of list) ≡ before ++ movings list
turn_is before [] h = sym (append-nil before)
turn_is before (one ∷ list) h =
    turn_is (before ++ as_coded before one.unit ∷ []) list h.1
    ∙ (ap (λ (m : Moving). (before ++ m ∷ []) ++ movings list) (coded_is before one h.0) ∙ append_assoc before (as_moving one ∷ []) (movings list))

pub turn_take : (before : List Moving) (n : ℕ) (list : List Chosen) → AreInTurn before list → AreInTurn before (take n list)
turn_take before zero list h = tt
turn_take before (suc n) [] h = tt
turn_take before (suc n) (one ∷ list) h = (h.0, turn_take (before ++ as_coded before one.unit ∷ []) n list h.1)

pub turn_more : (before : List Moving) (list : List Chosen) (one : Chosen) → AreInTurn before list
    → one.vector ≡ kind_vector (merge (coded_after before (units_of list)) one.unit.block) one.unit.kind → AreInTurn before (list ++ one ∷ [])
turn_more before [] one h e = (e, tt)
turn_more before (other ∷ list) one h e = (h.0, turn_more (before ++ as_coded before other.unit ∷ []) list one h.1 e)

-- ---- one more, and fewer

small_take : (n : ℕ) (list : List Chosen) → AreSmall list → AreSmall (take n list)
small_take zero list h = tt
small_take (suc n) [] h = tt
small_take (suc n) (one ∷ list) h = (h.0, small_take n list h.1)

pub chosen_take : (motion : Cells) (n : ℕ) (list : List Chosen) → AreChosen motion list → AreChosen motion (take n list)
chosen_take motion n list h = record { small = small_take n list h.small; in_turn = λ before has. turn_take before n list (h.in_turn before has) }

pub chosen_more : (motion : Cells) (list : List Chosen) (one : Chosen) → AreChosen motion list → IsSmall one.unit.block
    → ((before : List Moving) → HasMotion motion before → one.vector ≡ kind_vector (merge (coded_after before (units_of list)) one.unit.block) one.unit.kind) → AreChosen motion (list ++ one ∷ [])
chosen_more motion list one h small vector = record {
  small = all_append (λ (c : Chosen). IsSmall c.unit.block) list (one ∷ []) h.small (small, tt);
  in_turn = λ before has. turn_more before list one (h.in_turn before has) (vector before has);
}

pub units_take : (n : ℕ) (list : List Chosen) → units_of (take n list) ≡ take n (units_of list)
units_take n list = sym (take-map (λ (one : Chosen). one.unit) n list)

pub units_more : (list : List Chosen) (one : Chosen) → units_of (list ++ one ∷ []) ≡ units_of list ++ one.unit ∷ []
units_more list one = map-append (λ (c : Chosen). c.unit) list (one ∷ [])

pub next_unit : (i : ℕ) (list : List Chosen) (d : Chosen) → i < length list → units_of (take (suc i) list) ≡ units_of (take i list) ++ (get_or list i d).unit ∷ []
next_unit i [] d h = absurd (omega arith)
next_unit zero (one ∷ list) d h = refl
next_unit (suc i) (one ∷ list) d h = ap (λ (us : List MoveLeaf). one.unit ∷ us) (next_unit i list d (omega arith))

-- ---- where they are

pub small_at : (i : ℕ) (list : List Chosen) (d : Chosen) → i < length list → AreSmall list → IsSmall (get_or list i d).unit.block
small_at i [] d h all = absurd (omega arith)
small_at zero (one ∷ list) d h all = all.0
small_at (suc i) (one ∷ list) d h all = small_at i list d (omega arith) all.1

-- the first that covers a place, one by one
pub found_here : (x y i : ℕ) (list : List Chosen) (d : Chosen) → i < length list
    → unit_at (movings (drop i list)) x y ≡ cond (covers x y (leaf_as_coded (get_or list i d).unit)) (Some (as_moving (get_or list i d))) (unit_at (movings (drop (suc i) list)) x y)
found_here x y i [] d h = absurd (omega arith)
found_here x y zero (one ∷ list) d h = refl
found_here x y (suc i) (one ∷ list) d h = found_here x y i list d (omega arith)

-- what is found at a place: a unit of the grid, or else a chosen one
record IsPlace (motion : Cells) (list : List Chosen) (units : List Moving) (x y : ℕ) (kept : Option (Option Vector)) : Type 0 where
  before : List Moving
  grid : kept ≡ option_map (λ (u : Moving). u.vector) (unit_at before x y)
  found : unit_at units x y ≡ option_or (unit_at before x y) (unit_at (movings list) x y)

place_is : (motion : Cells) (list : List Chosen) (choosing : Choosing) (x y : ℕ) (kept : Option (Option Vector)) (units : List Moving)
    → (record { motion = motion; units = units_of list }) ≡ choosing → AreChosen motion list
    → ((before : List Moving) → HasMotion motion before → kept ≡ option_map (λ (u : Moving). u.vector) (unit_at before x y))
    → IsCodedWith choosing units → IsPlace motion list units x y kept
place_is motion list choosing x y kept units same are grid with =
    let w : IsCodedWith (record { motion = motion; units = units_of list }) units = subst (λ (k : Choosing). IsCodedWith k units) (sym same) with in
    let all : units ≡ w.before ++ movings list = w.after ∙ turn_is w.before list (are.in_turn w.before w.has) in
    record {
      before = w.before;
      grid = grid w.before w.has;
      found = ap (λ (us : List Moving). unit_at us x y) all ∙ find-append (λ (u : Moving). covers x y u.leaf) w.before (movings list);
    }

kept_there : (o : Option Moving) (vector : Option Vector) (other : Option Moving) → Some vector ≡ option_map (λ (u : Moving). u.vector) o → vector ≡ vector_in (option_or o other)
kept_there None vector other e = absurd (cc)
kept_there (Some u) vector other e = cc

none_there : (o other : Option Moving) → None ≡ option_map (λ (u : Moving). u.vector) o → vector_in other ≡ vector_in (option_or o other)
none_there None other e = refl
none_there (Some u) other e = absurd (cc)

-- the vector of the units of a grid and the chosen ones, at a place
pub kept_place : (motion : Cells) (list : List Chosen) (choosing : Choosing) (x y : ℕ) (kept : Option (Option Vector)) (vector : Option Vector)
    → (record { motion = motion; units = units_of list }) ≡ choosing → AreChosen motion list
    → ((before : List Moving) → HasMotion motion before → kept ≡ option_map (λ (u : Moving). u.vector) (unit_at before x y))
    → kept ≡ Some vector → (units : List Moving) → IsCodedWith choosing units → vector ≡ vector_in (unit_at units x y)
kept_place motion list choosing x y kept vector same are grid some units with =
    let p = place_is motion list choosing x y kept units same are grid with in
    kept_there (unit_at p.before x y) vector (unit_at (movings list) x y) (sym some ∙ p.grid) ∙ sym (ap (λ (u : Option Moving). vector_in u) p.found)

pub chosen_place : (motion : Cells) (list : List Chosen) (choosing : Choosing) (x y : ℕ) (kept : Option (Option Vector)) (vector : Option Vector)
    → (record { motion = motion; units = units_of list }) ≡ choosing → AreChosen motion list
    → ((before : List Moving) → HasMotion motion before → kept ≡ option_map (λ (u : Moving). u.vector) (unit_at before x y))
    → kept ≡ None → vector ≡ vector_in (unit_at (movings list) x y) → (units : List Moving) → IsCodedWith choosing units → vector ≡ vector_in (unit_at units x y)
chosen_place motion list choosing x y kept vector same are grid none is units with =
    let p = place_is motion list choosing x y kept units same are grid with in
    is ∙ (none_there (unit_at p.before x y) (unit_at (movings list) x y) (sym none ∙ p.grid) ∙ sym (ap (λ (u : Option Moving). vector_in u) p.found))

-- the place before another one
pub none_before : (units : List Moving) (x y : ℕ) → (x ≡ 0) ⊎ (y ≡ 0) → None ≡ vector_before units x y
unfolding vector_before
none_before units zero y h = refl
none_before units (suc x) zero h = refl
none_before units (suc x) (suc y) (inl h) = absurd (omega arith)
none_before units (suc x) (suc y) (inr h) = absurd (omega arith)

pub some_before : (units : List Moving) (x y a b : ℕ) → x ≡ a + 1 → y ≡ b + 1 → vector_in (unit_at units a b) ≡ vector_before units x y
unfolding vector_before
some_before units zero y a b e f = absurd (omega arith)
some_before units (suc x) zero a b e f = absurd (omega arith)
some_before units (suc x) (suc y) a b e f =
    let ex : a ≡ x = omega arith in
    let ey : b ≡ y = omega arith in
    rw (ex, ey) refl

-- looking at one after another
pub here_is : (x y i : ℕ) (list : List Chosen) (d : Chosen) → i < length list → unit_at (movings list) x y ≡ unit_at (movings (drop i list)) x y
    → ((kind : Kind) → true ≡ covers x y (leaf_with (get_or list i d).unit.block kind)) → (get_or list i d).vector ≡ vector_in (unit_at (movings list) x y)
here_is x y i list d h so_far there =
    let one : Chosen = get_or list i d in
    let e : unit_at (movings list) x y ≡ Some (as_moving one) = so_far ∙ (found_here x y i list d h ∙ cond-true _ _ _ (sym (there (leaf_as_coded one.unit).kind))) in
    sym (ap (λ (u : Option Moving). vector_in u) e)

pub next_is : (x y i k : ℕ) (list : List Chosen) (d : Chosen) → i < length list → unit_at (movings list) x y ≡ unit_at (movings (drop i list)) x y
    → ((kind : Kind) → false ≡ covers x y (leaf_with (get_or list i d).unit.block kind)) → k ≡ i + 1 → unit_at (movings list) x y ≡ unit_at (movings (drop k list)) x y
next_is x y i k list d h so_far apart e =
    let one : Chosen = get_or list i d in
    let after : suc i ≡ k = omega arith in
    so_far ∙ (found_here x y i list d h ∙ (cond-false _ _ _ (sym (apart (leaf_as_coded one.unit).kind)) ∙ ap (λ (n : ℕ). unit_at (movings (drop n list)) x y) after))
