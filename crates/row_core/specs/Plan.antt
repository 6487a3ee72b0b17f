-- What a job of a row is made to do.
use Rattle.std.specs.Prelude.{ℕ, List, Option, IfSome}
use Rattle.h265_model.specs.Contexts.{AreContexts}

-- how many units it has, and, by the contexts that it inherits, its contexts after the second unit and the bytes that it
-- finishes with
pub record Plan : Type 0 where
  pub width : ℕ
  pub second : Option (List ℕ) → List ℕ
  pub bytes : Option (List ℕ) → List ℕ

-- what it hands on is contexts, where what it inherits is
abbrev pub HandsOn : Plan → Type 0
HandsOn plan = (inherited : Option (List ℕ)) → IfSome inherited AreContexts → AreContexts (plan.second inherited)
