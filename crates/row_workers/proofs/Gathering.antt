-- Rows that workers coded, and the places that they take.
use Rattle.std.proofs.Common.{◌≡◌, ◌≢◌, refl, sym, ◌∙◌, ap, subst, ℕ, ◌+◌, ◌<◌, Bool, true, false, ◌||◌, List, [], ◌∷◌, ◌++◌, length, map, set, arith, ne_eqb}
use Rattle.std.specs.Prelude.{slice_index_or, ◌==◌, if◌then◌else◌}
use Rattle.std.specs.Global.{Vec}
use Rattle.std.specs.List.{All}
use Rattle.std.proofs.lemmas.List.{length-map, map-set, get_or-set_same, get_or-set_other, ext_get_or}
use Rattle.std.proofs.lemmas.List.Elements.{All-nil, All-cons, All-head, All-tail, All-push}
use mathlib.Core.Logic.{dite}
use native.Mathlib.Decide.{ℕ_discrete}
use Rattle.atomic_table.specs.Seated.{TableId}
use Rattle.h265_model.specs.Board.{give_of}
use Rattle.row_core.specs.Plan.{Plan}
use Rattle.row_core.specs.Plans.{jobs_of, HaveWidth, rows_of}
use Rattle.row_board.specs.declared.knowledge.Claimed.{Claimed}
use Rattle.row_board.specs.declared.knowledge.Knowledge.{Knowledge}
use Rattle.row_board.specs.Rows.{times, opened, width_of, AllClaimed}
use Rattle.row_board.specs.Standing.{has_claimed}
use Rattle.row_board.proofs.Opening.{length-give}
use Rattle.row_workers.specs.declared.at_once.CodedRow.{CodedRow}
use Rattle.row_workers.specs.declared.at_once.Worker.{Worker}
use Rattle.row_workers.specs.AtOnce.{KeepsRows, coded_times, row_at, IsRowOf, HasCoded, IsMoreBy, HavePlaced, AreGathered, HasWorked, HaveWorked, IsNewcomer, IsDone}

-- what holds of a list of parts holds of each
pub all_parts : {A : Type 0} (P : A → Type 0) (xs ys : List A) → All P (xs ++ ys) → All P xs × All P ys
all_parts P [] ys h = (All-nil P, h)
all_parts P (x ∷ xs) ys h =
    let rest = all_parts P xs ys (All-tail P x (xs ++ ys) h) in
    (All-cons P x xs (All-head P x (xs ++ ys) h) rest.0, rest.1)

coded_times-append : (r : ℕ) (xs ys : List CodedRow) → coded_times r (xs ++ ys) ≡ coded_times r xs + coded_times r ys
coded_times-append r [] ys = omega arith
coded_times-append r (x ∷ xs) ys = let t = coded_times-append r xs ys in omega arith

times-append : (r : ℕ) (xs ys : List Claimed) → times r (xs ++ ys) ≡ times r xs + times r ys
times-append r [] ys = omega arith
times-append r (x ∷ xs) ys = let t = times-append r xs ys in omega arith

-- a row more was claimed and coded
pub one_more : (u v w : Knowledge) (r : ℕ) (before after : List CodedRow) → HasCoded u before → v ≡ has_claimed u r → r < length u.want → KeepsRows v w
    → IsMoreBy before r (slice_index_or v.give r []) after → HasCoded w after
one_more u v w r before after coded claims inside kept more =
    let row = more.0 in
    let want : w.want ≡ u.want = kept.same.want ∙ ap (λ (k : Knowledge). k.want) claims in
    let give : w.give ≡ u.give = kept.same.give ∙ ap (λ (k : Knowledge). k.give) claims in
    let here : IsRowOf u.want u.give row = (
      subst (λ (n : ℕ). n < length u.want) (sym more.2) inside,
      more.3 ∙ (ap (λ (k : Knowledge). slice_index_or k.give r []) claims ∙ ap (λ (n : ℕ). slice_index_or u.give n []) (sym more.2)),
    ) in
    record {
      each = λ q.
          let old = coded.each q in
          let claim : times q v.rows ≡ times q (opened r ∷ u.rows) = ap (λ (k : Knowledge). times q k.rows) claims in
          let same = kept.rows q in
          let long : coded_times q after ≡ coded_times q (before ++ row ∷ []) = ap (coded_times q) more.1 in
          let number : coded_times q (row ∷ []) ≡ (if q == r then 1 else 0) + 0 = ap (λ (n : ℕ). (if q == n then 1 else 0) + 0) more.2 in
          omega (arith, coded_times-append q before (row ∷ []));
      bytes = subst (λ (l : List (List ℕ)). All (IsRowOf l w.give) after) (sym want)
          (subst (λ (l : List (List ℕ)). All (IsRowOf u.want l) after) (sym give)
          (subst (λ (l : List CodedRow). All (IsRowOf u.want u.give) l) (sym more.1) (All-push (IsRowOf u.want u.give) before row coded.bytes here)));
    }

row_at_here : (rows : List (Vec ℕ)) (i : ℕ) (bytes : Vec ℕ) → i < length rows → row_at (set rows i bytes) i ≡ bytes.items
row_at_here rows i bytes less =
    let fits : i < length (map (λ (row : Vec ℕ). row.items) rows) = omega (arith, length-map rows (λ (row : Vec ℕ). row.items)) in
    ap (λ (l : List (List ℕ)). slice_index_or l i []) (map-set (λ (row : Vec ℕ). row.items) rows i bytes) ∙ get_or-set_same (map (λ (row : Vec ℕ). row.items) rows) i bytes.items [] fits

row_at_else : (rows : List (Vec ℕ)) (i : ℕ) (bytes : Vec ℕ) (r : ℕ) → r ≢ i → row_at (set rows i bytes) r ≡ row_at rows r
row_at_else rows i bytes r apart =
    ap (λ (l : List (List ℕ)). slice_index_or l r []) (map-set (λ (row : Vec ℕ). row.items) rows i bytes) ∙ get_or-set_other (map (λ (row : Vec ℕ). row.items) rows) i r bytes.items [] apart

pub none_placed : (give : List (List ℕ)) (rows : List (Vec ℕ)) → HavePlaced give rows [] rows
none_placed give rows = record { kept = λ r is. is; placed = λ r some. absurd (omega arith) }

-- one row more takes its place
pub placed_more : (want give : List (List ℕ)) (before rows : List (Vec ℕ)) (done : List CodedRow) (row : CodedRow) → row.number < length rows → IsRowOf want give row
    → HavePlaced give before done rows → HavePlaced give before (done ++ row ∷ []) (set rows row.number row.bytes)
placed_more want give before rows done row fits right placed =
    let i = row.number in
    let here : row_at (set rows i row.bytes) i ≡ slice_index_or give i [] = row_at_here rows i row.bytes fits ∙ right.1 in
    let there : (r : ℕ) → r ≡ i → row_at (set rows i row.bytes) r ≡ slice_index_or give r [] =
    λ r is. subst (λ (n : ℕ). row_at (set rows i row.bytes) n ≡ slice_index_or give n []) (sym is) here in
    record {
      kept = λ r was. dite (ℕ_discrete r i) (there r) (λ apart. row_at_else rows i row.bytes r apart ∙ placed.kept r was);
      placed = λ r some. dite (ℕ_discrete r i) (there r) (λ apart.
          row_at_else rows i row.bytes r apart
          ∙ placed.placed r (let other : coded_times r (row ∷ []) ≡ 0 + 0 = rw (ne_eqb r i apart) refl in omega (arith, coded_times-append r done (row ∷ []))));
    }

pub or_true : (a b : Bool) → b ≡ true → (a || b) ≡ true
or_true true b e = refl
or_true false b e = e

-- the rows of one worker more are there
pub gathered_more : (v w u : Knowledge) (coded : List CodedRow) (before after : List (Vec ℕ)) → AreGathered v before → HasCoded w coded → w.give ≡ v.give
    → u.rows ≡ v.rows ++ w.rows → u.give ≡ v.give → HavePlaced v.give before coded after → AreGathered u after
gathered_more v w u coded before after done has give rows same placed r some =
    let both : times r u.rows ≡ times r (v.rows ++ w.rows) = ap (times r) rows in
    let counted = has.each r in
    let so : row_at after r ≡ slice_index_or v.give r [] = dite (ℕ_discrete (coded_times r coded) 0)
    (λ none. placed.kept r (done r (omega (arith, times-append r v.rows w.rows))))
    (λ found. placed.placed r (omega arith)) in
    so ∙ ap (λ (l : List (List ℕ)). slice_index_or l r []) (sym same)

width_is : (width : ℕ) (plans : List Plan) → 0 < length plans → HaveWidth width plans → width_of plans ≡ width
width_is width [] some widths = absurd (omega arith)
width_is width (plan ∷ plans) some widths = widths.0

-- all rows are there
pub all_gathered : (width : ℕ) (plans : List Plan) (v : Knowledge) (rows : List (Vec ℕ)) → 0 < length plans → HaveWidth width plans
    → v.give ≡ give_of (jobs_of (width_of plans) plans) (length plans) → length v.want ≡ length plans → AllClaimed v → length rows ≡ length plans → AreGathered v rows
    → map (λ (row : Vec ℕ). row.items) rows ≡ rows_of width plans
all_gathered width plans v rows some widths give want all long done =
    let given : v.give ≡ rows_of width plans = give ∙ ap (λ (n : ℕ). give_of (jobs_of n plans) (length plans)) (width_is width plans some widths) in
    ext_get_or [] (map (λ (row : Vec ℕ). row.items) rows) v.give
    (length-map rows (λ (row : Vec ℕ). row.items) ∙ (long ∙ sym (ap length give ∙ length-give (jobs_of (width_of plans) plans) (length plans))))
    (λ r less. done r (let one = all.once r (omega (arith, length-map rows (λ (row : Vec ℕ). row.items))) in omega arith))
    ∙ given

module _ {J : Type 0} where
  pub is_done : (board : TableId) (v s : Knowledge) (n : ℕ) (before after : Worker J) → s ≡ record v { weight = n } → IsNewcomer board v before → HasWorked board before after
      → after.failed ≡ false → IsDone board s after
  is_done board v s n before after rest new worked whole = record {
    table = worked.table;
    weight = worked.weight ∙ ap (λ (k : Knowledge). k.weight) new.knows;
    want = worked.want ∙ (ap (λ (k : Knowledge). k.want) new.knows ∙ sym (ap (λ (k : Knowledge). k.want) rest));
    give = worked.give ∙ (ap (λ (k : Knowledge). k.give) new.knows ∙ sym (ap (λ (k : Knowledge). k.give) rest));
    met = worked.met;
    coded = worked.coded whole;
  }

  pub all_done : (board : TableId) (v s : Knowledge) (n : ℕ) (before after : List (Worker J)) → s ≡ record v { weight = n } → length after ≡ length before → All (IsNewcomer board v) before
      → HaveWorked board before after → All (λ worker. worker.failed ≡ false) after → All (IsDone board s) after
  all_done board v s n before after rest many new worked whole = λ k d less.
      let within : k < length before = omega arith in
      is_done board v s n (slice_index_or before k d) (slice_index_or after k d) rest (new k d within) (worked k d within) (whole k d less)
