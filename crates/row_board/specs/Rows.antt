-- The rule of the board, over its words, its slots and what all seats know, and what each step tells.
-- Word 0 counts the claims. Word r + 1 is that of row r: 0, or 1 once its contexts are shown, 2 once they were taken, 3 where the row is lost.
use Rattle.std.specs.Prelude.{◌≡◌, ◌≢◌, ◌⊎◌, ℕ, ◌+◌, ◌-◌, ◌^◌, ◌<◌, ◌≤◌, ◌==◌, ◌||◌, List, [], ◌∷◌, ◌++◌, length, slice_index, slice_index_or, Bool, true, false, if◌then◌else◌, Option, Some, None}
use mathlib.Core.Option.{some, none}
use lib.ListN.{get_elem?}
use Rattle.atomic_table.specs.Table.{State, Me, Step}
use Rattle.h265_model.specs.Board.{JobView, IsPlan, Fits, want_of, give_of}
use Rattle.row_core.specs.Plan.{Plan}
use Rattle.row_core.specs.Plans.{jobs_of}
use Rattle.row_board.specs.declared.piece.Piece.{Piece}
use Rattle.row_board.specs.declared.piece.Piece.TheVariants.{Nothing, Job, Shown}
use Rattle.row_board.specs.declared.knowledge.Stage.{Stage}
use Rattle.row_board.specs.declared.knowledge.Stage.TheVariants.{Open, Published, Lost}
use Rattle.row_board.specs.declared.knowledge.Claimed.{Claimed}
use Rattle.row_board.specs.declared.knowledge.Knowledge.{Knowledge}

abbrev pub total : (Knowledge → ℕ) → List Knowledge → ℕ
total f [] = 0
total f (v ∷ vs) = f v + total f vs

-- how often the row is among these
abbrev pub times : ℕ → List Claimed → ℕ
times r [] = 0
times r (c ∷ cs) = (if r == c.row then 1 else 0) + times r cs

-- the claim of the row, if it is among these
abbrev pub claim_of : ℕ → List Claimed → Option Claimed
claim_of r [] = None
claim_of r (c ∷ cs) = if r == c.row then Some c else claim_of r cs

-- the row's claim becomes another
abbrev pub change : ℕ → (Claimed → Claimed) → List Claimed → List Claimed
change r f [] = []
change r f (c ∷ cs) = if r == c.row then (f c ∷ cs) else (c ∷ change r f cs)

abbrev pub at_stage : Stage → Claimed → Claimed
at_stage stage c = record c { stage = stage }

abbrev pub in_sync : Claimed → Claimed
in_sync c = record c { synced = true }

-- the contexts that the row is to show
abbrev pub wanted : List (List ℕ) → ℕ → List ℕ
wanted want r = slice_index_or want r []

-- what the words and slots are at a claimed row. The slot of an open row is at home and empty, unless the seat has it in hand; that of a lost
-- row is empty
pub record ClaimIs {J : Type 0} (words : List ℕ) (homes : List (mathlib.Core.Option.Option (Piece J))) (rows picked : ℕ) (c : Claimed) : Type 0 where
  pub inside : c.row < rows
  pub taken : c.row < slice_index words 0
  pub open_word : c.stage ≡ Open → slice_index words (c.row + 1) ≡ 0
  pub open_slot : c.stage ≡ Open → picked ≢ c.row + 1 → get_elem? homes c.row ≡ some (some Nothing)
  pub in_hand : c.stage ≡ Open → picked ≡ c.row + 1 → get_elem? homes c.row ≡ some none
  pub published : c.stage ≡ Published → (0 < slice_index words (c.row + 1)) × (slice_index words (c.row + 1) < 3) × (0 < c.row → c.synced ≡ true)
  pub lost : c.stage ≡ Lost → slice_index words (c.row + 1) ≡ 3
  pub lost_slot : c.stage ≡ Lost → get_elem? homes c.row ≡ some (some Nothing)
  pub synced : c.synced ≡ true → (0 < c.row) × (slice_index words c.row ≡ 2)
  pub unsynced : c.synced ≡ false → 0 < c.row → slice_index words c.row ≢ 2

pub record SeatFits {J : Type 0} (words : List ℕ) (homes : List (mathlib.Core.Option.Option (Piece J))) (rows width : ℕ) (want give : List (List ℕ)) (v : Knowledge) : Type 0 where
  pub same_width : v.width ≡ width
  pub same_want : v.want ≡ want
  pub same_give : v.give ≡ give
  pub met : v.met_none ≡ true → rows ≤ slice_index words 0
  pub claims : (r : ℕ) (c : Claimed) → claim_of r v.rows ≡ Some c → (c.row ≡ r) × ClaimIs words homes rows v.picked c

-- a row's word. Only rows of two units or more show contexts
pub record IsWord (width n : ℕ) : Type 0 where
  pub low : n ≤ 3
  pub wide : 0 < n → n < 3 → 2 ≤ width

-- a slot whose contexts the row below took: that row's seat has it, or put it back empty
abbrev pub IsTaken : {J : Type 0} → mathlib.Core.Option.Option (mathlib.Core.Option.Option (Piece J)) → Type 0
IsTaken slot = (slot ≡ some none) ⊎ (slot ≡ some (some Nothing))

-- the weight of the seats that met the end of the rows
abbrev pub met_weight : Knowledge → ℕ
met_weight v = if v.met_none then v.weight else 0

-- `fits` says of a width, the two lists and a row which jobs fit it
pub record Kept {J : Type 0} (fits : ℕ → List (List ℕ) → List (List ℕ) → ℕ → J → Type 0) (s : State (Piece J) Knowledge) : Type 0 where
  pub rows : ℕ
  pub width : ℕ
  pub want : List (List ℕ)
  pub give : List (List ℕ)
  pub made : IsPlan rows want give
  pub wide : length s.words ≡ rows + 1
  pub deep : length s.homes ≡ rows
  pub each : (j : ℕ) (v : Knowledge) → get_elem? s.views j ≡ some v → 0 < v.weight → SeatFits s.words s.homes rows width want give v
  pub gone : (j : ℕ) (v : Knowledge) → get_elem? s.views j ≡ some v → v.weight ≡ 0 → v.rows ≡ []
  pub once : (r : ℕ) → r < rows → r < slice_index s.words 0 → total (λ v. times r v.rows) s.views ≡ 1
  pub not_yet : (r : ℕ) → slice_index s.words 0 ≤ r → total (λ v. times r v.rows) s.views ≡ 0
  pub outside : (r : ℕ) → rows ≤ r → total (λ v. times r v.rows) s.views ≡ 0
  pub waiting : (r : ℕ) → r < rows → slice_index s.words 0 ≤ r → (slice_index s.words (r + 1) ≡ 0) × (0 < r → slice_index s.words r ≢ 2) × ((j : J) × (get_elem? s.homes r ≡ some (some (Job j))) × fits width want give r j)
  pub shown : (r : ℕ) → r < rows → slice_index s.words (r + 1) ≡ 1 → (x : List ℕ) × (get_elem? s.homes r ≡ some (some (Shown x))) × (x ≡ wanted want r)
  pub taken : (r : ℕ) → r < rows → slice_index s.words (r + 1) ≡ 2 → (r + 1 < rows) × IsTaken (get_elem? s.homes r)
  pub each_word : (r : ℕ) → r < rows → IsWord width (slice_index s.words (r + 1))
  pub weighs : total (λ v. v.weight) s.views ≡ 2 ^ 32
  pub over : slice_index s.words 0 ≤ rows + total met_weight s.views

-- a word was found at a place
abbrev pub finds : Knowledge → ℕ → ℕ → Knowledge
finds v place n = record v { found = v.found + 1; place = place; last = n }

-- a row that was just claimed
abbrev pub opened : ℕ → Claimed
opened r = record { row = r; stage = Open; synced = false }

abbrev pub claims : Knowledge → ℕ → Knowledge
claims v r = record v { rows = opened r ∷ v.rows; picked = r + 1 }

abbrev pub meets_none : Knowledge → Knowledge
meets_none v = record v { met_none = true }

module _ {J : Type 0} where
  abbrev pub claimed : (ℕ → List (List ℕ) → List (List ℕ) → ℕ → J → Type 0) → Step (Piece J) → Me (Piece J) Knowledge → ℕ → Me (Piece J) Knowledge → Type 0
  claimed fits st m n m' = (n < st.slots → (j : J) × (m' ≡ (claims (finds m.0 0 n) n, (n, Job j) ∷ m.1)) × fits m.0.width m.0.want m.0.give n j)
      × (st.slots ≤ n → m' ≡ (meets_none (finds m.0 0 n), m.1))

  abbrev pub laid : Step (Piece J) → Me (Piece J) Knowledge → ℕ → Me (Piece J) Knowledge → Type 0
  laid st m n m' = m' ≡ (record m.0 { picked = 0 }, Rattle.atomic_table.specs.Table.rest m.1)

  -- word r + 1 is loaded, and the slot of row r taken
  abbrev pub picked_up : Step (Piece J) → Me (Piece J) Knowledge → ℕ → Me (Piece J) Knowledge → Type 0
  picked_up st m n m' = (r : ℕ) → st.word ≡ r + 1 → m' ≡ (record m.0 { picked = r + 1 }, (r, Nothing) ∷ m.1)

  -- word r + 1 is stored
  abbrev pub published : Step (Piece J) → Me (Piece J) Knowledge → ℕ → Me (Piece J) Knowledge → Type 0
  published st m n m' = (r : ℕ) → st.word ≡ r + 1 → m' ≡ (record m.0 { rows = change r (at_stage Published) m.0.rows; picked = 0 }, Rattle.atomic_table.specs.Table.rest m.1)

  abbrev pub lost : Step (Piece J) → Me (Piece J) Knowledge → ℕ → Me (Piece J) Knowledge → Type 0
  lost st m n m' = (r : ℕ) → st.word ≡ r + 1 → m' ≡ (record m.0 { rows = change r (at_stage Lost) m.0.rows }, m.1)

  -- the row st.word takes the contexts of the row above it
  abbrev pub synced : Step (Piece J) → Me (Piece J) Knowledge → ℕ → Me (Piece J) Knowledge → Type 0
  synced st m n m' = (n ≡ 1 → (x : List ℕ) × (m' ≡ (record (finds m.0 st.word n) { rows = change st.word in_sync m.0.rows }, (st.word - 1, Shown x) ∷ m.1)) × (x ≡ wanted m.0.want (st.word - 1)))
      × (n ≢ 1 → (m' ≡ (finds m.0 st.word n, m.1)) × ((n ≡ 0) ⊎ (n ≡ 3)))

abbrev pub newcomer : Knowledge → Knowledge
newcomer v = record {
  weight = 1;
  width = v.width;
  want = v.want;
  give = v.give;
  rows = [];
  met_none = v.met_none;
  found = 0;
  place = 0;
  last = 0;
  picked = 0;
}

abbrev pub lighter : Knowledge → Knowledge
lighter v = record v { weight = v.weight - 1 }

abbrev pub merged : Knowledge → Knowledge → Knowledge
merged v w = record v { weight = v.weight + w.weight; rows = v.rows ++ w.rows; met_none = v.met_none || w.met_none; found = v.found + w.found }

abbrev pub spent : Knowledge
spent = record {
  weight = 0;
  width = 0;
  want = [];
  give = [];
  rows = [];
  met_none = false;
  found = 0;
  place = 0;
  last = 0;
  picked = 0;
}

-- the seat that has all the weight claimed all rows, each once
pub record AllClaimed (v : Knowledge) : Type 0 where
  pub once : (r : ℕ) → r < length v.want → times r v.rows ≡ 1
  pub no_other : (r : ℕ) → length v.want ≤ r → times r v.rows ≡ 0

-- ---- what rows want and give

-- a job as the rule sees it
abbrev pub job_view : {J : Type 0} → (J → Plan) → (J → Bool) → J → JobView
job_view plan begun j = record { begun = begun j; width = (plan j).width; second = (plan j).second; bytes = (plan j).bytes }

abbrev pub job_fits : {J : Type 0} → (J → Plan) → (J → Bool) → ℕ → List (List ℕ) → List (List ℕ) → ℕ → J → Type 0
job_fits plan begun width want give r j = Fits width want give r (job_view plan begun j)

-- the width of rows of one width
abbrev pub width_of : List Plan → ℕ
width_of [] = 0
width_of (plan ∷ plans) = plan.width

-- the one seat of a new board
abbrev pub opening_view : List Plan → Knowledge
opening_view plans = record {
  weight = 2 ^ 32;
  width = width_of plans;
  want = want_of (jobs_of (width_of plans) plans) (length plans);
  give = give_of (jobs_of (width_of plans) plans) (length plans);
  rows = [];
  met_none = false;
  found = 0;
  place = 0;
  last = 0;
  picked = 0;
}
