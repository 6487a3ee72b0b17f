-- The levels of an intra unit, by its candidates for a mode.
use Rattle.std.specs.Prelude.{◌≡◌, ℕ, false, List, [], ◌∷◌, ℤ, Option, Some, None}
use Rattle.h265_model.specs.declared.Place.TheVariants.{Context}
use Rattle.h265_model.specs.SyntaxElements.{intra_chroma_pred_mode, cbf_cb, cbf_cr, cbf_luma}
use Rattle.h265_model.specs.Engine.{Engine, Reader, ◌>>=◌, give, bin}
use Rattle.h265_model.specs.Modes.{mode_read}
use Rattle.h265_model.specs.Tree.{component_read, expect, Content, Levels}
use Rattle.unit_read.specs.declared.intra.Flags.{Flags}

-- intra_chroma_pred_mode, which chooses the luma mode, and the flags
unfoldable pub flags_read : Reader Flags
flags_read = expect (Context intra_chroma_pred_mode) false (do
  cb ← bin (Context cbf_cb)
  cr ← bin (Context cbf_cr)
  luma ← bin (Context cbf_luma)
  give (record { cb = cb; cr = cr; luma = luma }))

-- the levels of the three components
unfoldable pub planes_read : ℕ → ℕ → Flags → Reader (List (List ℤ))
planes_read log2 mode flags = do
  first ← component_read log2 mode 0 flags.luma
  second ← component_read log2 mode 1 flags.cb
  third ← component_read log2 mode 2 flags.cr
  give (first ∷ second ∷ third ∷ [])

-- 7.3.8.10 without a split, by the candidates for the mode
unfoldable pub intra_of : List ℕ → ℕ → Reader Content
intra_of list log2 = do
  mode ← mode_read list
  flags ← flags_read
  planes ← planes_read log2 mode flags
  give (Levels mode planes)

-- three blocks that are filled, or nothing just where nothing is read
abbrev pub GivesThree : Option (Unit {0}) → List ℤ → List ℤ → List ℤ → Option (List (List ℤ) × Engine) → Engine → Type 0
GivesThree None first second third read new = read ≡ None
GivesThree (Some _) first second third read new = read ≡ Some (first ∷ second ∷ third ∷ [], new)

-- a mode, and three blocks
abbrev pub GivesIntra : Option ℕ → List ℤ → List ℤ → List ℤ → Option (Content × Engine) → Engine → Type 0
GivesIntra None first second third read new = read ≡ None
GivesIntra (Some mode) first second third read new = read ≡ Some (Levels mode (first ∷ second ∷ third ∷ []), new)
