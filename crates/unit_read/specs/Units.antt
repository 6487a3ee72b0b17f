-- Coding units, read and taken.
use Rattle.std.specs.Prelude.{◌≡◌, ℕ, ◌*◌, ◌^◌, ◌==◌, Bool, true, List, [], ◌∷◌, ◌++◌, Option, Some, None, if◌then◌else◌}
use Rattle.h265_model.specs.declared.Place.TheVariants.{Context}
use Rattle.h265_model.specs.declared.leaf.SliceKind.{SliceKind}
use Rattle.h265_model.specs.declared.moves.Vector.{Vector}
use Rattle.h265_model.specs.Plain.{Size}
use Rattle.h265_model.specs.SyntaxElements.{part_mode}
use Rattle.h265_model.specs.Engine.{Engine, Reader, ◌>>=◌, give, refuse}
use Rattle.h265_model.specs.Motion.{Moving, leaves, merge}
use Rattle.h265_model.specs.Tree.{AreModes, expect, skip_read, Content, Copied, Moved, ReadUnit, kind_of, vector_of, units_after, coded_read, is_in_picture}
use Rattle.leaf_sink.specs.Units.{unit, HasAvailable}
use Rattle.pu_code.specs.Cells.{StandsFor}
use Rattle.pu_code.specs.Cells as modes
use Rattle.motion_grid.specs.Cells.{HasMotion}
use Rattle.motion_grid.specs.Cells as motions
use Rattle.unit_read.specs.declared.kept.Kept.{Kept}
use Rattle.h265_model.specs.declared.block.CodingBlock.{CodingBlock}

-- ---- contents

-- what the grids keep of a unit
abbrev pub kept_of : Content → Kept
kept_of content = record { kind = kind_of content; vector = vector_of content }

-- a copy needs its source in the coded picture
abbrev pub placed : Size → CodingBlock → Content → Reader Content
placed size block content = if is_in_picture size block (vector_of content) then give content else refuse

abbrev pub placed_after : Reader Content → Size → CodingBlock → Reader Content
placed_after read size block = read >>= placed size block

-- what follows cu_transquant_bypass_flag
unfoldable pub rest_read : SliceKind → Size → List Moving → CodingBlock → Reader Content
rest_read kind size before block = do
  skipped ← skip_read kind (leaves before) block.x block.y
  if skipped then placed size block (Copied (merge before block)) else placed_after (coded_read kind before block) size block

-- part_mode, where a unit has one of its own
abbrev pub part_then : ℕ → Reader Content → Reader Content
part_then log2 after = if log2 == 3 then expect (Context part_mode) true after else after

-- nothing just where nothing is read, or what is read afterwards
abbrev pub Leads : Option (Unit {0}) → Option (Content × Engine) → Option (Content × Engine) → Type 0
Leads None read after = read ≡ None
Leads (Some _) read after = read ≡ after

-- the vector of a moved unit
abbrev pub Moves : Option Vector → Option (Content × Engine) → Engine → Type 0
Moves None read new = read ≡ None
Moves (Some v) read new = read ≡ Some (Moved v, new)

-- content that was read, of which this is kept and this holds
abbrev pub Hands : Option Kept → Option (Content × Engine) → Engine → (Content → Type 0) → Type 0
Hands None read new Holds = read ≡ None
Hands (Some kept) read new Holds = (content : Content) × (kept ≡ kept_of content) × (read ≡ Some (content, new)) × Holds content

-- what stood for lists of units now stands for them with the unit, if all that is available to it was taken
abbrev pub Takes : (List ReadUnit → Type 0) → (List ReadUnit → Type 0) → Size → CodingBlock → Content → Type 0
Takes stood stands size block content = (units : List ReadUnit) → stood units → HasAvailable size units block.x block.y → stands (units ++ unit block content ∷ [])

-- ---- units

-- units that were read, of which this holds, or nothing just where nothing is read
abbrev pub Reads : Option (Unit {0}) → Option (List ReadUnit × Engine) → Engine → (List ReadUnit → Type 0) → Type 0
Reads None read new Holds = read ≡ None
Reads (Some _) read new Holds = (units : List ReadUnit) × (read ≡ Some (units, new)) × Holds units

-- the grids stand for these units, whose modes are below 35
pub record AreKept (cells : modes.Cells) (motions : motions.Cells) (units : List Moving) : Type 0 where
  pub modes : StandsFor cells (leaves units)
  pub vectors : HasMotion motions units
  pub lawful : AreModes (leaves units)

-- the sink has taken these units, and the grids stand for them after those before
pub record AreTaken (stood stands : List ReadUnit → Type 0) (size : Size) (x y : ℕ) (cells : modes.Cells) (motions : motions.Cells) (before : List Moving) (read : List ReadUnit) : Type 0 where
  pub taken : (units : List ReadUnit) → stood units → HasAvailable size units x y → stands (units ++ read)
  pub kept : AreKept cells motions (units_after before read)
