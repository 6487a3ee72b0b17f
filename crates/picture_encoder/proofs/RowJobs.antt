-- The rows of a picture: what each is made of, and what each gives.
use Rattle.std.proofs.Common.{◌≡◌, refl, sym, ◌∙◌, ap, subst, ℕ, zero, suc, ◌+◌, ◌*◌, ◌-◌, ◌<◌, ◌≤◌, List, [], ◌∷◌, ◌++◌, false, cond, length, length-append, get_or, map, reverse, arith}
use Rattle.std.specs.Prelude.{Option, Some, None, slice_index_or, ◌==◌}
use Rattle.std.specs.List.{All, range_with_len}
use Rattle.std.proofs.lemmas.List.{length-map, get_or-map, map_push}
use Rattle.std.proofs.lemmas.Grind.{reverse_onto}
use Rattle.std.proofs.lemmas.List.FromFn.{length-map-range_with_len, get_or-map-range_with_len, map-range_with_len_more}
use Rattle.h265_model.specs.declared.leaf.Leaf.{Leaf}
use Rattle.h265_model.specs.declared.leaf.SliceKind.{SliceKind}
use Rattle.h265_model.specs.Plain.{ctus, below, joined}
use Rattle.h265_model.specs.NalUnits.{escape}
use Rattle.h265_model.specs.Slice.{IsSlice, row_code}
use Rattle.h265_model.specs.Tree.{leaf_units, source_of}
use Rattle.h265_model.specs.Wave.{Jobs, inherited, row_bytes}
use Rattle.h265_laws.proofs.SubstreamLaw.{each_row_is_substream}
use Rattle.px_plane.specs.Planes.{Planes, picture_of}
use Rattle.row_core.specs.Plan.{Plan}
use Rattle.row_coder.specs.Rows.{Row, plan_of, AreTrees, AreAbove}
use Rattle.row_coder.specs.Laws.{row_leaves, leaves_above, ArePictureLeaves}
use Rattle.row_coder.proofs.Linked.{each_job_is_coded}
use Rattle.row_core.specs.Plans.{no_plan, jobs_of, HaveWidth, rows_of}
use Rattle.slice_assembly.specs.Substreams.{IsSubstream}
use Rattle.picture_encoder.specs.declared.planning.Task.{Task}
use Rattle.picture_encoder.specs.Planning.{planes_of_task, size_of_task, kind_of_task, reference_of_task, chosen, all_chosen, row_chosen, job_row, row_of_task, code_of_task}
use Rattle.picture_encoder.proofs.Choices.{row_of_all, trees_are, above_are, lawful_are}

-- ---- lists

module _ {A : Type 0} where
  -- the last of a list and those before it
  pub last_and_front : (xs ys : List A) (a b : A) → xs ++ a ∷ [] ≡ ys ++ b ∷ [] → (xs ≡ ys) × (a ≡ b)
  last_and_front [] [] a b e = let s : a ≡ b = cc in (refl, s)
  last_and_front [] (y ∷ ys) a b e = absurd (let l : length (a ∷ []) ≡ length ((y ∷ ys) ++ b ∷ []) = ap length e in omega (arith, length-append ys (b ∷ [])))
  last_and_front (x ∷ xs) [] a b e = absurd (let l : length ((x ∷ xs) ++ a ∷ []) ≡ length (b ∷ []) = ap length e in omega (arith, length-append xs (a ∷ [])))
  last_and_front (x ∷ xs) (y ∷ ys) a b e =
      let h : x ≡ y = cc in
      let t : xs ++ a ∷ [] ≡ ys ++ b ∷ [] = cc in
      let r = last_and_front xs ys a b t in
      (ap (λ (v : A). v ∷ xs) h ∙ ap (λ (l : List A). y ∷ l) r.0, r.1)

  same_below : (f g : ℕ → A) (a n : ℕ) → ((i : ℕ) → i < a + n → f i ≡ g i) → map f (range_with_len a n) ≡ map g (range_with_len a n)
  same_below f g a zero h = refl
  same_below f g a (suc n) h = ap (λ (v : A). v ∷ map f (range_with_len (a + 1) n)) (h a (omega arith)) ∙ ap (λ (l : List A). g a ∷ l) (same_below f g (a + 1) n (λ i k. h i (omega arith)))

pub map_twice : {A B C : Type 0} (f : A → B) (g : B → C) (xs : List A) → map g (map f xs) ≡ map (λ x. g (f x)) xs
map_twice f g [] = refl
map_twice f g (x ∷ xs) = ap (λ l. g (f x) ∷ l) (map_twice f g xs)

module _ {X Y : Type 0} (f : X → Y) (g : ℕ → Y) where
  -- one more at the end
  pub one_more_of : (xs all : List X) (x : X) (a n j : ℕ) → all ≡ xs ++ x ∷ [] → map f xs ≡ map g (range_with_len a n) → f x ≡ g j → a + n ≡ j → map f all ≡ map g (range_with_len a (n + 1))
  one_more_of xs all x a n j e before at next =
      ap (λ (l : List X). map f l) e
      ∙ (map_push f xs x
      ∙ (ap (λ (l : List Y). l ++ f x ∷ []) before ∙ (ap (λ (v : Y). map g (range_with_len a n) ++ v ∷ []) at ∙ sym (map-range_with_len_more g a n j next))))

  -- what is left without the last, and the last
  pub record IsPopped (front : List X) (last : X) (n : ℕ) : Type 0 where
    pub some : 0 < n
    pub count : length front ≡ n - 1
    pub others : map f front ≡ map g (below (n - 1))
    pub last_is : f last ≡ g (n - 1)

  pub popped : (all front : List X) (last : X) (n : ℕ) → all ≡ front ++ last ∷ [] → length all ≡ n → map f all ≡ map g (below n) → IsPopped front last n
  popped all front last n is long known =
      let sum : length all ≡ length front + 1 = ap length is ∙ length-append front (last ∷ []) in
      let m : ℕ = n - 1 in
      let more : n ≡ m + 1 = omega arith in
      let parts = last_and_front (map f front) (map g (below m)) (f last) (g m)
      (sym (map_push f front last) ∙ (ap (λ (l : List X). map f l) (sym is) ∙ (known ∙ (ap (λ (k : ℕ). map g (below k)) more ∙ map-range_with_len_more g 0 m m (omega arith))))) in
      record { some = omega arith; count = omega arith; others = parts.0; last_is = parts.1 }

module _ {Y : Type 0} (f : ℕ → Y) where
  pub none_left : (row n : ℕ) → row ≡ n → [] ≡ reverse (map f (range_with_len row (n - row)))
  none_left row n e = let z : 0 ≡ n - row = omega arith in ap (λ (k : ℕ). reverse (map f (range_with_len row k))) z

  one_before : (r n : ℕ) → r < n → reverse (map f (range_with_len (r + 1) (n - (r + 1)))) ++ f r ∷ [] ≡ reverse (map f (range_with_len r (n - r)))
  one_before r n less =
      let more : suc (n - (r + 1)) ≡ n - r = omega arith in
      sym (reverse_onto (map f (range_with_len (r + 1) (n - (r + 1)))) (f r) []) ∙ ap (λ (k : ℕ). reverse (map f (range_with_len r k))) more

  pub next_before : (row n : ℕ) (before all : List Y) (y : Y) → 0 < row → row ≤ n → before ≡ reverse (map f (range_with_len row (n - row))) → y ≡ f (row - 1) → all ≡ before ++ y ∷ []
      → all ≡ reverse (map f (range_with_len (row - 1) (n - (row - 1))))
  next_before row n before all y some few known at e =
      let more : row ≡ row - 1 + 1 = omega arith in
      e
      ∙ (ap (λ (l : List Y). l ++ y ∷ []) (known ∙ ap (λ (k : ℕ). reverse (map f (range_with_len k (n - k)))) more)
      ∙ (ap (λ (v : Y). reverse (map f (range_with_len (row - 1 + 1) (n - (row - 1 + 1)))) ++ v ∷ []) at ∙ one_before (row - 1) n (omega arith)))

-- ---- making the rows

abbrev made : Planes → SliceKind → ℕ → List Leaf → List (List Leaf) → Row
made planes kind row above plans = record { planes = planes; kind = kind; number = row; above = above; plans = plans; begun = false; inherited = None; coded = Some 0 }

module _ (t : Task) where
  abbrev height : ℕ
  height = ctus (size_of_task t).h

  row_is : (row : ℕ) → row < height → row_leaves (size_of_task t) (all_chosen t) row ≡ row_chosen t row
  row_is row less = row_of_all (chosen t) (ctus (size_of_task t).w) height row less

  above_none : (row : ℕ) → row ≡ 0 → [] ≡ leaves_above (size_of_task t) (all_chosen t) row
  above_none zero e = refl
  above_none (suc row) e = absurd (omega arith)

  above_some : (row : ℕ) → row < height → 0 < row → joined (row_chosen t (row - 1)) ≡ leaves_above (size_of_task t) (all_chosen t) row
  above_some zero less some = absurd (omega arith)
  above_some (suc row) less some =
      let e : suc row - 1 ≡ row = omega arith in
      ap (λ (r : ℕ). joined (row_chosen t r)) e ∙ ap (λ (l : List (List Leaf)). joined l) (sym (row_is row (omega arith)))

  pub job_trees : (planes : Planes) (kind : SliceKind) (row : ℕ) (plans : List (List Leaf)) → planes ≡ planes_of_task t → kind ≡ kind_of_task t → plans ≡ row_chosen t row
      → AreTrees kind planes.size row plans
  job_trees planes kind row plans ep ek el = rw (ep, ek, el) (trees_are (picture_of (planes_of_task t)) (size_of_task t) t.effort (reference_of_task t) row)

  pub job_above : (job : Row) (planes : Planes) (kind : SliceKind) (row : ℕ) (plans : List (List Leaf)) (above : List (List Leaf)) → job ≡ made planes kind row [] plans → planes ≡ planes_of_task t
      → above ≡ row_chosen t (row - 1) → AreAbove job.planes.size (job.number - 1) above
  job_above job planes kind row plans above is ep ea = rw (is, ep, ea) (above_are (picture_of (planes_of_task t)) (size_of_task t) t.effort (reference_of_task t) (row - 1))

  made_is : (planes : Planes) (kind : SliceKind) (row : ℕ) (above : List Leaf) (plans : List (List Leaf)) → row < height → planes ≡ planes_of_task t → kind ≡ kind_of_task t → plans ≡ row_chosen t row
      → above ≡ leaves_above (size_of_task t) (all_chosen t) row → made planes kind row above plans ≡ row_of_task t row
  made_is planes kind row above plans less ep ek el ea =
      ap (λ (p : Planes). made p kind row above plans) ep
      ∙ (ap (λ (k : SliceKind). made (planes_of_task t) k row above plans) ek
      ∙ (ap (λ (l : List (List Leaf)). made (planes_of_task t) (kind_of_task t) row above l) (el ∙ sym (row_is row less))
      ∙ ap (λ (l : List Leaf). made (planes_of_task t) (kind_of_task t) row l (row_leaves (size_of_task t) (all_chosen t) row)) ea))

  pub first_job : (job : Row) (planes : Planes) (kind : SliceKind) (row : ℕ) (plans : List (List Leaf)) → job ≡ made planes kind row [] plans → row < height → row ≡ 0
      → planes ≡ planes_of_task t → kind ≡ kind_of_task t → plans ≡ row_chosen t row → job ≡ row_of_task t row
  first_job job planes kind row plans is less first ep ek el = is ∙ made_is planes kind row [] plans less ep ek el (above_none row first)

  pub next_job : (job after : Row) (planes : Planes) (kind : SliceKind) (row : ℕ) (plans above : List (List Leaf)) → job ≡ made planes kind row [] plans → row < height → 0 < row
      → planes ≡ planes_of_task t → kind ≡ kind_of_task t → plans ≡ row_chosen t row → above ≡ row_chosen t (row - 1) → after ≡ record job { above = job.above ++ joined above } → after ≡ row_of_task t row
  next_job job after planes kind row plans above is less some ep ek el ea then =
      then ∙ (ap (λ (j : Row). record j { above = j.above ++ joined above }) is
      ∙ made_is planes kind row (joined above) plans less ep ek el (ap (λ (l : List (List Leaf)). joined l) ea ∙ above_some row less some))

-- the leaves of one row of those above
pub row_above : {X : Type 0} (f : X → List (List Leaf)) (g : ℕ → List (List Leaf)) (rows : List X) (n : ℕ) (d : X) → length rows ≡ n → map f rows ≡ map g (below n) → 0 < n → f (get_or rows (n - 1) d) ≡ g (n - 1)
row_above f g rows n d long e some =
    sym (get_or-map f rows (n - 1) d [] (omega arith)) ∙ (ap (λ (l : List (List (List Leaf))). get_or l (n - 1) []) e ∙ get_or-map-range_with_len g 0 n (n - 1) (n - 1) [] (omega arith) (omega arith))

-- ---- what the rows give

module _ (planes : Planes) (kind : SliceKind) (leaves : List (List Leaf)) (are : ArePictureLeaves planes kind leaves) where
  abbrev rows_at : ℕ → Row
  rows_at = job_row planes kind leaves

  abbrev high : ℕ
  high = ctus planes.size.h

  abbrev wide : ℕ
  wide = ctus planes.size.w

  abbrev plans : List Plan
  plans = map plan_of (map rows_at (below high))

  abbrev as_rows : Jobs
  as_rows = record { width = wide; second = λ r. (plan_of (rows_at r)).second; bytes = λ r. (plan_of (rows_at r)).bytes }

  plan_at : (r : ℕ) → r < high → slice_index_or plans r no_plan ≡ plan_of (rows_at r)
  plan_at r less =
      get_or-map plan_of (map rows_at (below high)) r (rows_at 0) no_plan (let e : length (map rows_at (below high)) ≡ high = length-map-range_with_len rows_at 0 high in omega arith)
      ∙ ap plan_of (get_or-map-range_with_len rows_at 0 high r r (rows_at 0) less (omega arith))

  same_inherited : (r : ℕ) → r < high → inherited (jobs_of wide plans) r ≡ inherited as_rows r
  unfolding inherited
  same_inherited zero less = refl
  same_inherited (suc r) less =
      ap (λ (c : List ℕ). cond (wide == 1) None (Some c))
      (ap (λ (p : Plan). p.second (inherited (jobs_of wide plans) r)) (plan_at r (omega arith)) ∙ ap (λ (i : Option (List ℕ)). (plan_of (rows_at r)).second i) (same_inherited r (omega arith)))

  bytes_at : (r : ℕ) → r < high → row_bytes (jobs_of wide plans) r ≡ row_code kind (leaf_units kind (source_of planes.size (picture_of planes))) planes.size leaves r
  bytes_at r less =
      ap (λ (p : Plan). p.bytes (inherited (jobs_of wide plans) r)) (plan_at r less)
      ∙ (ap (λ (i : Option (List ℕ)). (plan_of (rows_at r)).bytes i) (same_inherited r less)
      ∙ (each_job_is_coded planes kind leaves rows_at are (λ row h. record { planes_are = refl; kind_is = refl; number_is = refl; above_is = refl; plans_are = refl }) r less).gives)

  many : length plans ≡ high
  many = length-map (map rows_at (below high)) plan_of ∙ length-map-range_with_len rows_at 0 high

  pub rows_give : rows_of wide plans ≡ map (row_code kind (leaf_units kind (source_of planes.size (picture_of planes))) planes.size leaves) (below high)
  rows_give =
      ap (λ (n : ℕ). map (row_bytes (jobs_of wide plans)) (below n)) many
      ∙ same_below (row_bytes (jobs_of wide plans)) (row_code kind (leaf_units kind (source_of planes.size (picture_of planes))) planes.size leaves) 0 high (λ i h. bytes_at i (omega arith))

-- ---- rows of one width

width_of : (r : Row) → (plan_of r).width ≡ length r.plans
unfolding plan_of
width_of r = refl

widths_are : (t : Task) (a n : ℕ) → a + n ≤ ctus (size_of_task t).h → HaveWidth (ctus (size_of_task t).w) (map plan_of (map (row_of_task t) (range_with_len a n)))
widths_are t a zero h = tt
widths_are t a (suc n) h = (
  width_of (row_of_task t a) ∙ (ap length (row_is t a (omega arith)) ∙ length-map-range_with_len (chosen t) (a * ctus (size_of_task t).w) (ctus (size_of_task t).w)),
  widths_are t (a + 1) n (omega arith),
)

pub have_width : (t : Task) → HaveWidth (ctus (size_of_task t).w) (map plan_of (map (row_of_task t) (below (ctus (size_of_task t).h))))
have_width t = widths_are t 0 (ctus (size_of_task t).h) (omega arith)

pub leaves_are : (t : Task) → 0 < ctus (size_of_task t).w → ArePictureLeaves (planes_of_task t) (kind_of_task t) (all_chosen t)
leaves_are t some = record {
  wide = some;
  lawful = lawful_are (picture_of (planes_of_task t)) (size_of_task t) t.effort (reference_of_task t) (ctus (size_of_task t).w * ctus (size_of_task t).h);
}

pub task_rows : (t : Task) → 0 < ctus (size_of_task t).w → rows_of (ctus (size_of_task t).w) (map plan_of (map (row_of_task t) (below (ctus (size_of_task t).h)))) ≡ map (code_of_task t) (below (ctus (size_of_task t).h))
task_rows t some = rows_give (planes_of_task t) (kind_of_task t) (all_chosen t) (leaves_are t some)

-- ---- substreams

pub are_substreams : {X : Type 0} (f : X → List ℕ) (rows : List X) (kind : SliceKind) (planes : Planes) (leaves : List (List Leaf)) → IsSlice kind planes.size (source_of planes.size (picture_of planes)) leaves
    → ctus planes.size.w ≤ 128 → map f rows ≡ map (row_code kind (leaf_units kind (source_of planes.size (picture_of planes))) planes.size leaves) (below (ctus planes.size.h)) → All (λ row. IsSubstream (f row)) rows
are_substreams f rows kind planes leaves is narrow e = λ k d less.
    let code : ℕ → List ℕ = row_code kind (leaf_units kind (source_of planes.size (picture_of planes))) planes.size leaves in
    let long : length rows ≡ ctus planes.size.h = sym (length-map rows f) ∙ (ap length e ∙ length-map-range_with_len code 0 (ctus planes.size.h)) in
    let at : f (get_or rows k d) ≡ code k =
    sym (get_or-map f rows k d [] less) ∙ (ap (λ (l : List (List ℕ)). get_or l k []) e ∙ get_or-map-range_with_len code 0 (ctus planes.size.h) k k [] (omega arith) (omega arith)) in
    subst IsSubstream (sym at) (each_row_is_substream kind planes.size (source_of planes.size (picture_of planes)) leaves k is narrow (omega arith))

-- ---- a picture's rows

module _ (t : Task) (jobs : List Row) (e : jobs ≡ map (row_of_task t) (below (ctus (size_of_task t).h))) where
  pub jobs_long : length jobs ≡ ctus (size_of_task t).h
  jobs_long = ap length e ∙ length-map-range_with_len (row_of_task t) 0 (ctus (size_of_task t).h)

  pub jobs_fresh : All (λ job. job.begun ≡ false) jobs
  jobs_fresh = λ k d less.
      let at : get_or jobs k d ≡ row_of_task t k =
      ap (λ (l : List Row). get_or l k d) e ∙ get_or-map-range_with_len (row_of_task t) 0 (ctus (size_of_task t).h) k k d (let long = jobs_long in omega arith) (omega arith) in
      ap (λ (r : Row). r.begun) at

  pub jobs_width : HaveWidth (ctus (size_of_task t).w) (map plan_of jobs)
  jobs_width = subst (λ (l : List Row). HaveWidth (ctus (size_of_task t).w) (map plan_of l)) (sym e) (have_width t)

  pub jobs_give : 0 < ctus (size_of_task t).w → rows_of (ctus (size_of_task t).w) (map plan_of jobs) ≡ map (code_of_task t) (below (ctus (size_of_task t).h))
  jobs_give some = ap (λ (l : List Row). rows_of (ctus (size_of_task t).w) (map plan_of l)) e ∙ task_rows t some

pub rows_long : {X Y : Type 0} (f : X → Y) (rows : List X) (code : ℕ → Y) (n : ℕ) → map f rows ≡ map code (below n) → length rows ≡ n
rows_long f rows code n e = sym (length-map rows f) ∙ (ap length e ∙ length-map-range_with_len code 0 n)

pub escaped_are : {X : Type 0} (f : X → List ℕ) (rows : List X) (code : ℕ → List ℕ) (n : ℕ) → map f rows ≡ map code (below n) → map (λ row. escape (f row)) rows ≡ map (λ row. escape (code row)) (below n)
escaped_are f rows code n e = sym (map_twice f escape rows) ∙ (ap (λ (l : List (List ℕ)). map escape l) e ∙ map_twice code escape (below n))
