-- The rule of the turn, over its word, its slot and what all passes know, and what each step tells.
use Rattle.std.specs.Prelude.{◌≡◌, ◌≢◌, ◌⊎◌, ℕ, zero, suc, ◌+◌, ◌-◌, ◌*◌, ◌^◌, ◌%◌, ◌<◌, ◌≤◌, ◌==◌, ◌&&◌, ◌||◌, not, nat_lt, List, [], ◌∷◌, ◌++◌, length, slice_index, Bool, true, false, if◌then◌else◌, Option, Some, None}
use mathlib.Core.Option.{some, none}
use lib.ListN.{get_elem?}
use Rattle.atomic_table.specs.Table.{State, Me, Step}
use Rattle.recorder_model.specs.declared.entry.Entry.{Entry}
use Rattle.recorder_model.specs.Setting.{Setting}
use Rattle.recorder_model.specs.Turn.{author, entries_by, StartsWith}
use Rattle.turn_lock.specs.Settings.{no_setting}
use Rattle.turn_lock.specs.declared.knowledge.Knowledge.{Knowledge}

-- the history begins with `front`
abbrev pub Begins : List Entry → List Entry → Type 0
Begins front whole = StartsWith whole front

-- how many entries were made under the number a, if it is one of these
abbrev pub made_by : ℕ → List (ℕ × ℕ) → Option ℕ
made_by a [] = None
made_by a (x ∷ xs) = if a == x.0 then Some x.1 else made_by a xs

-- one entry more under the number a
abbrev pub one_more : ℕ → List (ℕ × ℕ) → List (ℕ × ℕ)
one_more a [] = []
one_more a (x ∷ xs) = if a == x.0 then ((x.0, x.1 + 1) ∷ xs) else (x ∷ one_more a xs)

-- n numbers from a on, with no entry made
abbrev pub none_made : ℕ → ℕ → List (ℕ × ℕ)
none_made a zero = []
none_made a (suc n) = (a, 0) ∷ none_made (suc a) n

abbrev pub total_weight : List Knowledge → ℕ
total_weight [] = 0
total_weight (v ∷ vs) = v.weight + total_weight vs

-- how often the number a stands in these, and in all of what passes and notes know
abbrev pub times_in : ℕ → List (ℕ × ℕ) → ℕ
times_in a [] = 0
times_in a (x ∷ xs) = (if a == x.0 then 1 else 0) + times_in a xs

abbrev pub times : ℕ → List Knowledge → ℕ
times a [] = 0
times a (v ∷ vs) = times_in a v.made + times a vs

abbrev pub longer : List Entry → List Entry → List Entry
longer xs ys = if nat_lt (length xs) (length ys) then ys else xs

abbrev pub shorter : List Entry → List Entry → List Entry
shorter xs ys = if nat_lt (length xs) (length ys) then xs else ys

-- what the pass or note number j knows, where `log` is the history at hand
pub record Fits (setting : Setting) (passes : ℕ) (log : List Entry) (mark held : Bool) (holder : ℕ) (owner : ℕ → ℕ) (j : ℕ) (v : Knowledge) : Type 0 where
  pub same_setting : v.setting ≡ setting
  pub same_passes : v.passes ≡ passes
  pub has_seen : Begins v.seen log
  pub has_heard : Begins v.heard log
  pub own : (a k : ℕ) → made_by a v.made ≡ Some k → (owner a ≡ j) × (entries_by passes a log ≡ k) × (entries_by passes a v.seen ≡ k)
  pub saw_mark : v.saw ≡ true → mark ≡ true
  pub holding : v.holds ≡ true → (held ≡ true) × (holder ≡ j) × (v.base ≡ log) × (v.base_mark ≡ mark)

-- what all passes and notes know fits one history. Those with no weight were joined into others, and are left out
pub record Agree (setting : Setting) (passes : ℕ) (log : List Entry) (mark held : Bool) (holder : ℕ) (owner : ℕ → ℕ) (views : List Knowledge) : Type 0 where
  pub each : (j : ℕ) (v : Knowledge) → get_elem? views j ≡ some v → 0 < v.weight → Fits setting passes log mark held holder owner j v
  pub owned : (a : ℕ) → a < passes → (v : Knowledge) × (k : ℕ) × (get_elem? views (owner a) ≡ some v) × (0 < v.weight) × (made_by a v.made ≡ Some k)
  pub out : held ≡ true → (v : Knowledge) × (get_elem? views holder ≡ some v) × (0 < v.weight) × (v.holds ≡ true)
  pub marked : mark ≡ true → (j : ℕ) × (v : Knowledge) × (get_elem? views j ≡ some v) × (0 < v.weight) × (v.raised ≡ true)
  pub weighs : total_weight views ≡ 2 ^ 32 * passes
  pub gone : (j : ℕ) (v : Knowledge) → get_elem? views j ≡ some v → v.weight ≡ 0 → v.made ≡ []
  pub once : (a : ℕ) → times a views ≡ (if nat_lt a passes then 1 else 0)

pub record Kept {S : Type 0} (setting_of : S → Setting) (history_of : S → List Entry) (mark_of : S → Bool) (s : State (Option S) Knowledge) : Type 0 where
  pub setting : Setting
  pub passes : ℕ
  pub log : List Entry
  pub mark : Bool
  pub held : Bool
  pub holder : ℕ
  pub owner : ℕ → ℕ
  pub one_word : length s.words ≡ 1
  pub one_slot : length s.homes ≡ 1
  pub word : slice_index s.words 0 ≡ 2 * length log + (if held then 1 else 0)
  pub away : held ≡ true → get_elem? s.homes 0 ≡ some none
  pub at_home : held ≡ false → (x : S) × (get_elem? s.homes 0 ≡ some (some (Some x))) × (setting_of x ≡ setting) × (history_of x ≡ log) × (mark_of x ≡ mark)
  pub agree : Agree setting passes log mark held holder owner s.views

-- a pass with these numbers, before any turn
abbrev pub starting : Setting → ℕ → List (ℕ × ℕ) → ℕ → Knowledge
starting setting passes made weight = record {
  weight = weight;
  setting = setting;
  passes = passes;
  made = made;
  seen = [];
  heard = [];
  saw = false;
  raised = false;
  found = 0;
  last = 0;
  before = 0;
  turns = 0;
  holds = false;
  base = [];
  base_mark = false;
}

-- the one pass that all passes are cut from
abbrev pub opening_view : Setting → ℕ → Knowledge
opening_view setting passes = starting setting passes (none_made 0 passes) (2 ^ 32 * passes)

-- the pass number a, as the turn is made
abbrev pub fresh_view : Setting → ℕ → ℕ → Knowledge
fresh_view setting passes a = starting setting passes ((a, 0) ∷ []) (2 ^ 32)

abbrev pub spent : Knowledge
spent = starting no_setting 0 [] 0

abbrev pub tail_of : List (ℕ × ℕ) → List (ℕ × ℕ)
tail_of [] = []
tail_of (x ∷ xs) = xs

abbrev pub head_of : List (ℕ × ℕ) → List (ℕ × ℕ)
head_of [] = []
head_of (x ∷ xs) = x ∷ []

abbrev pub without_first : Knowledge → Knowledge
without_first v = record v { made = tail_of v.made; weight = v.weight - 2 ^ 32 }

abbrev pub only_first : Knowledge → Knowledge
only_first v = starting v.setting v.passes (head_of v.made) (2 ^ 32)

abbrev pub lighter : Knowledge → Knowledge
lighter v = record v { weight = v.weight - 1 }

abbrev pub noted : Knowledge → Knowledge
noted v = record (starting v.setting v.passes [] 1) { seen = v.seen; saw = v.saw }

abbrev pub merged : Knowledge → Knowledge → Knowledge
merged v w = record v {
  weight = v.weight + w.weight;
  made = v.made ++ w.made;
  seen = longer v.seen w.seen;
  heard = shorter v.seen w.seen;
  saw = v.saw || w.saw;
  raised = v.raised || w.raised;
  found = v.found + w.found;
  turns = v.turns + w.turns;
}

abbrev pub finds : Knowledge → ℕ → Knowledge
finds v n = record v { found = v.found + 1; before = v.last; last = n }

abbrev pub holding : Knowledge → List Entry → Bool → Knowledge
holding v base mark = record v { holds = true; base = base; base_mark = mark; turns = v.turns + 1 }

-- what a pass knows after it gave the turn back: the history `seen`, and this mark
abbrev pub gives_back : Knowledge → List Entry → Bool → Knowledge
gives_back v seen mark = record v { holds = false; base = []; base_mark = false; seen = seen; saw = mark; raised = v.raised || (mark && not v.base_mark) }

abbrev pub gives_entry : Knowledge → Entry → Bool → Knowledge
gives_entry v e mark = record (gives_back v (v.base ++ e ∷ []) mark) { made = one_more (author v.passes e) v.made }

-- of each of its numbers the history has the entries that the pass made
abbrev pub OwnExact : Knowledge → List Entry → Type 0
OwnExact v log = (a k : ℕ) → made_by a v.made ≡ Some k → entries_by v.passes a log ≡ k

module _ {S : Type 0} (setting_of : S → Setting) (history_of : S → List Entry) (mark_of : S → Bool) where
  -- the pass took the state x at the word n
  pub record Enters (v : Knowledge) (n : ℕ) (x : S) (w : Knowledge) : Type 0 where
    pub after : w ≡ holding (finds v n) (history_of x) (mark_of x)
    pub word : n ≡ 2 * length (history_of x)
    pub setting : setting_of x ≡ v.setting
    pub begins : Begins v.seen (history_of x)
    pub own : OwnExact v (history_of x)
    pub mark : v.saw ≡ true → mark_of x ≡ true

  -- a load, and then a taking exchange at the word that was loaded
  abbrev pub HasEntered : Knowledge → S → Knowledge → Type 0
  HasEntered v x w = (n : ℕ) × Enters (finds v n) n x w

  abbrev pub taken : Step (Option S) → Me (Option S) Knowledge → ℕ → Me (Option S) Knowledge → Type 0
  taken st m n m' = (n ≡ st.first → (x : S) × (m'.1 ≡ (0, Some x) ∷ m.1) × Enters m.0 n x m'.0) × (n ≢ st.first → m' ≡ (finds m.0 n, m.1))

module _ {S : Type 0} where
  abbrev pub looked : Step (Option S) → Me (Option S) Knowledge → ℕ → Me (Option S) Knowledge → Type 0
  looked st m n m' = m' ≡ (finds m.0 n, m.1)

  -- both histories of the last join begin the longer one
  abbrev pub compared : Step (Option S) → Me (Option S) Knowledge → ℕ → Me (Option S) Knowledge → Type 0
  compared st m n m' = (m' ≡ (record (finds m.0 n) { heard = [] }, m.1)) × (length m.0.heard ≤ length m.0.seen → Begins m.0.heard m.0.seen)

  abbrev pub returned : (S → Bool) → Step (Option S) → Me (Option S) Knowledge → ℕ → Me (Option S) Knowledge → Type 0
  returned mark_of st m n m' = (x : S) → m.1 ≡ (0, Some x) ∷ [] → m' ≡ (gives_back m.0 m.0.base (mark_of x), [])

  abbrev pub added : (S → List Entry) → (S → Bool) → Step (Option S) → Me (Option S) Knowledge → ℕ → Me (Option S) Knowledge → Type 0
  added history_of mark_of st m n m' = (x : S) (e : Entry) → m.1 ≡ (0, Some x) ∷ [] → history_of x ≡ m.0.base ++ e ∷ [] → m' ≡ (gives_entry m.0 e (mark_of x), [])

-- exactly one word was found, which is odd, or exactly two, an even one and then another
abbrev pub IsBusy : Knowledge → ℕ → ℕ → Knowledge → Type 0
IsBusy v loaded found w = ((loaded % 2 ≡ 1) × (found ≡ loaded) × (w ≡ finds v loaded)) ⊎ ((loaded % 2 ≡ 0) × (found ≢ loaded) × (w ≡ finds (finds v loaded) found))

-- one pass took in what the other knew, and a load found the word n. Both histories begin the new one
pub record HasJoined (v w after : Knowledge) : Type 0 where
  pub found : ℕ
  pub is : after ≡ record (finds (merged v w) found) { heard = [] }
  pub mine : Begins v.seen after.seen
  pub theirs : Begins w.seen after.seen

-- the pass that has every share, once the turn is closed with the state x
pub record HasClosed {S : Type 0} (setting_of : S → Setting) (history_of : S → List Entry) (mark_of : S → Bool) (v : Knowledge) (x : S) : Type 0 where
  pub setting : setting_of x ≡ v.setting
  pub begins : Begins v.seen (history_of x)
  pub own : (a : ℕ) → a < v.passes → made_by a v.made ≡ Some (entries_by v.passes a (history_of x))
  pub saw : v.saw ≡ true → mark_of x ≡ true
  pub raised : mark_of x ≡ true → v.raised ≡ true

abbrev pub Owns : Knowledge → ℕ → Type 0
Owns v a = (k : ℕ) × (made_by a v.made ≡ Some k)

-- the same knowledge, but for the words that were found
abbrev pub IsSameButWords : Knowledge → Knowledge → Type 0
IsSameButWords v w = w ≡ record v { found = w.found; last = w.last; before = w.before }

-- some tries, and then the turn
abbrev pub HasWaited : {S : Type 0} → (S → Setting) → (S → List Entry) → (S → Bool) → Knowledge → S → Knowledge → Type 0
HasWaited setting_of history_of mark_of v x w = (u : Knowledge) × IsSameButWords v u × HasEntered setting_of history_of mark_of u x w
