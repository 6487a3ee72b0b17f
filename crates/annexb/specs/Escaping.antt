-- Parts of an escaped payload (7.4.2.1).
use Rattle.std.specs.Prelude.{ℕ, List, [], ◌∷◌, ◌++◌, ◌≡◌}
use Rattle.h265_model.specs.NalUnits.{escape}

-- what is written from a byte on that needs a 03 before it; nothing at the end
abbrev pub from_mark : List ℕ → List ℕ
from_mark [] = []
from_mark (b ∷ bytes) = 3 ∷ escape (b ∷ bytes)

-- one list begins another
abbrev pub Begins : List ℕ → List ℕ → Type 0
Begins front whole = (back : List ℕ) × (whole ≡ front ++ back)
