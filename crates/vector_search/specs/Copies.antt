-- What a search of copies looks at, and where its blocks lie.
use Rattle.std.specs.Prelude.{◌≡◌, ◌<◌, ◌≤◌, ◌↔◌, IsTrue, ℕ, ◌+◌, ◌*◌, ◌/◌, ◌%◌, nat_abs, Bool, true, false, List, Option, Some, None, if◌then◌else◌, slice_index_or, ℤ}
use Rattle.h265_model.specs.declared.block.CodingBlock.{CodingBlock}
use Rattle.h265_model.specs.declared.moves.Vector.{Vector}
use Rattle.h265_model.specs.Plain.{Size, Picture, coded, side}
use Rattle.h265_model.specs.Motion.{no_motion, moved, reaches}
use Rattle.h265_model.specs.MotionChoice.{tried_vectors}
use Rattle.px_plane.specs.Planes.{Planes}
use Rattle.vector_search.specs.declared.squares.Squares.{Squares}

-- a picture, the one before it, and the place of a coding tree unit
pub record Search : Type 0 where
  pub last : Planes
  pub current : Planes
  pub x : ℕ
  pub y : ℕ

-- a coding block of the coding tree unit, which lies wholly in the coded picture
pub record IsBlockOf (s : Search) (block : CodingBlock) : Type 0 where
  pub low : 3 ≤ block.log2
  pub high : block.log2 ≤ 5
  pub whole_x : block.x % side block ≡ 0
  pub whole_y : block.y % side block ≡ 0
  pub left : s.x ≤ block.x
  pub right : block.x + side block ≤ s.x + 32
  pub top : s.y ≤ block.y
  pub bottom : block.y + side block ≤ s.y + 32
  pub across : block.x + side block ≤ coded s.current.size.w
  pub down : block.y + side block ≤ coded s.current.size.h

-- a vector of at most 64 samples each way
pub record IsNear (v : Vector) : Type 0 where
  pub x : nat_abs v.x ≤ 64
  pub y : nat_abs v.y ≤ 64

-- ---- the vectors that are tried

-- the one of this number
abbrev pub tried : ℕ → Vector
tried number = slice_index_or tried_vectors number no_motion

-- ---- copies

-- along one axis, where n places from x on come from by a part of a vector, if they lie in a picture of this side
abbrev pub source_of : ℕ → ℕ → ℕ → ℤ → Option ℕ
source_of limit n x v = if reaches limit n x v then Some (moved x v) else None

-- the first rows of a square of side n of one component are those of the picture before at another place
pub record AreSameRows (p q : Picture) (c from_x from_y x y n rows : ℕ) : Type 0 where
  pub each : (i j : ℕ) → i < n → j < rows → p c (from_x + i) (from_y + j) ≡ q c (x + i) (y + j)

-- a square of side n equals the one of the picture before that the vector names, wholly in the coded picture
pub record IsMoved (p q : Picture) (size : Size) (x y n : ℕ) (v : Vector) : Type 0 where
  pub across : reaches (coded size.w) n x v.x ≡ true
  pub down : reaches (coded size.h) n y v.y ≡ true
  pub same : (c : ℕ) → c < 3 → AreSameRows p q c (moved x v.x) (moved y v.y) x y n n

-- ---- the squares of 8 of a coding tree unit, in rows of four, by each vector that is tried

-- for the first n of them whether they are copies, where they lie in the coded picture
pub record TellsFirst (equal : List Bool) (p q : Picture) (size : Size) (x y n : ℕ) : Type 0 where
  pub each : (k : ℕ) → k < n → x + k % 4 * 8 < coded size.w → y + k / 4 % 4 * 8 < coded size.h
      → IsTrue (slice_index_or equal k false) ↔ IsMoved p q size (x + k % 4 * 8) (y + k / 4 % 4 * 8) 8 (tried (k / 16))

-- for all of them, where they were compared
pub record TellsMoves (s : Squares) (p q : Picture) (size : Size) (x y : ℕ) : Type 0 where
  pub made : s.is_made ≡ true → TellsFirst s.equal p q size x y 4112

-- the first rows of squares of a block are copies by the vector of this number
pub record AreAllMoved (equal : List Bool) (number i j side rows : ℕ) : Type 0 where
  pub each : (u v : ℕ) → u < side → v < rows → slice_index_or equal (16 * number + (4 * (j + v) + (i + u))) false ≡ true

-- the first number by whose vector a block is a copy, of those below n
abbrev pub IsFirst : Option ℕ → List Bool → ℕ → ℕ → ℕ → ℕ → Type 0
IsFirst None equal i j side n = (m : ℕ) → m < n → AreAllMoved equal m i j side side → ⊥
IsFirst (Some number) equal i j side n =
    (number < n) × AreAllMoved equal number i j side side × ((m : ℕ) → m < number → AreAllMoved equal m i j side side → ⊥)
