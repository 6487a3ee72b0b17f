-- What each kind of step on a board's table keeps. A step is allowed where, whatever the table is, the rule holds after it and it tells what it says.
use Rattle.std.specs.Prelude.{◌≡◌, ℕ, ◌+◌, ◌-◌, ◌^◌, ◌%◌, ◌<◌, ◌≤◌, ◌==◌, if◌then◌else◌, List, ◌∷◌, map, length, replicate, Bool, true, false, Some}
use Rattle.std.specs.List.{All}
use mathlib.Core.Option.{none}
use Rattle.atomic_table.specs.Table.{State, Me, step, Allows, Splits, Joins, opening}
use Rattle.row_core.specs.Plan.{Plan}
use Rattle.row_core.specs.Plans.{HaveWidth}
use Rattle.row_board.specs.declared.piece.Piece.{Piece}
use Rattle.row_board.specs.declared.piece.Piece.TheVariants.{Nothing, Job, Shown}
use Rattle.row_board.specs.declared.knowledge.Stage.TheVariants.{Open}
use Rattle.row_board.specs.declared.knowledge.Claimed.{Claimed}
use Rattle.row_board.specs.declared.knowledge.Knowledge.{Knowledge}
use Rattle.row_board.specs.Rows.{Kept, job_fits, opening_view, claim_of, wanted, claimed, laid, picked_up, published, lost, synced, lighter, newcomer, merged, spent}

-- the seat claimed the row, which is open
pub record IsOpen (v : Knowledge) (r : ℕ) (c : Claimed) : Type 0 where
  pub live : 0 < v.weight
  pub mine : claim_of r v.rows ≡ Some c
  pub open_yet : c.stage ≡ Open

module _ {J : Type 0} (plan : J → Plan) (begun : J → Bool) where
  abbrev pub Rule : State (Piece J) Knowledge → Type 0
  Rule = Kept (job_fits plan begun)

  -- a board as it is made
  abbrev pub HoldsAtFirst : Type 0
  HoldsAtFirst = (jobs : List J) → 0 < length jobs → length jobs < 2 ^ 32 → All (λ job. begun job ≡ false) jobs → (width : ℕ) × HaveWidth width (map plan jobs)
      → Rule (opening (0 ∷ replicate (length jobs) 0) (map Job jobs) (opening_view (map plan jobs)))

  -- an addition of 1 to word 0, which takes the job of the row along, or meets the end of the rows
  abbrev pub KeptByClaim : Type 0
  KeptByClaim = (slots id : ℕ) (me : Me (Piece J) Knowledge) → 0 < me.0.weight → me.0.met_none ≡ false → me.0.picked ≡ 0
      → Allows Rule slots id me 0 (λ n. (n + 1) % 2 ^ 64) (claimed (job_fits plan begun) (step slots 0 1 0 none) me)

  -- a load that puts the emptied slot of an open row back, and one that puts back the slot of the row above a synced one
  abbrev pub KeptByLayingDown : Type 0
  KeptByLayingDown = (slots id r : ℕ) (me : Me (Piece J) Knowledge) (c : Claimed) (cs : List (ℕ × Piece J)) → IsOpen me.0 r c → me.0.picked ≡ r + 1 → me.1 ≡ (r, Nothing) ∷ cs
      → Allows Rule slots id me 0 (λ n. n) (laid (step slots 0 0 0 none) me)

  abbrev pub KeptByLayingAbove : Type 0
  KeptByLayingAbove = (slots id r : ℕ) (me : Me (Piece J) Knowledge) (c : Claimed) (cs : List (ℕ × Piece J)) → 0 < me.0.weight → claim_of r me.0.rows ≡ Some c → c.synced ≡ true → me.0.picked ≡ 0 → me.1 ≡ (r - 1, Nothing) ∷ cs
      → Allows Rule slots id me 0 (λ n. n) (laid (step slots 0 0 0 none) me)

  -- a load that takes the empty slot of an open row, and the store that puts it back with the row's contexts
  abbrev pub KeptByPickingUp : Type 0
  KeptByPickingUp = (slots id r : ℕ) (me : Me (Piece J) Knowledge) (c : Claimed) → IsOpen me.0 r c → me.0.picked ≡ 0
      → Allows Rule slots id me (r + 1) (λ n. n) (picked_up (step slots (r + 1) 0 0 none) me)

  abbrev pub KeptByPublish : Type 0
  KeptByPublish = (slots id r : ℕ) (me : Me (Piece J) Knowledge) (c : Claimed) (x : List ℕ) (cs : List (ℕ × Piece J)) → IsOpen me.0 r c → me.0.picked ≡ r + 1 → me.1 ≡ (r, Shown x) ∷ cs
      → 2 ≤ me.0.width → x ≡ wanted me.0.want r → (0 < r → c.synced ≡ true)
      → Allows Rule slots id me (r + 1) (λ _. 1) (λ _. published (step slots (r + 1) 1 0 none) me 1)

  abbrev pub KeptByLose : Type 0
  KeptByLose = (slots id r : ℕ) (me : Me (Piece J) Knowledge) (c : Claimed) → IsOpen me.0 r c → me.0.picked ≡ 0
      → Allows Rule slots id me (r + 1) (λ _. 3) (λ _. lost (step slots (r + 1) 3 0 none) me 3)

  -- a compare and exchange from 1 to 2 at the word of the row above, which takes that row's contexts along
  abbrev pub KeptByTake : Type 0
  KeptByTake = (slots id r : ℕ) (me : Me (Piece J) Knowledge) (c : Claimed) → 0 < me.0.weight → claim_of r me.0.rows ≡ Some c → 0 < r → c.synced ≡ false
      → Allows Rule slots id me r (λ n. if n == 1 then 2 else n) (synced (step slots r 1 2 none) me)

  -- one seat becomes two, and two become one
  abbrev pub KeptBySplit : Type 0
  KeptBySplit = (id : ℕ) (v : Knowledge) → 2 ≤ v.weight → Splits Rule id v (lighter v) (newcomer v)

  abbrev pub KeptByJoin : Type 0
  KeptByJoin = (id other : ℕ) (v w : Knowledge) → 0 < v.weight → 0 < w.weight → v.picked ≡ 0 → w.picked ≡ 0 → Joins Rule id v other w (merged v w) spent
