-- Parts of a frame.
use Rattle.std.specs.Prelude.{ℕ, List, [], ◌∷◌, ◌++◌, ◌≡◌}

-- one list begins another
abbrev pub Begins : List ℕ → List ℕ → Type 0
Begins front whole = (back : List ℕ) × (whole ≡ front ++ back)

-- one of each, in turn
abbrev pub mixed : List ℕ → List ℕ → List ℕ → List ℕ
mixed (r ∷ rs) (g ∷ gs) (b ∷ bs) = r ∷ g ∷ b ∷ mixed rs gs bs
mixed _ _ _ = []
