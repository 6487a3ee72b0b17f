-- What the grids keep, once a unit is set.
use Rattle.std.proofs.Common.{◌≡◌, sym, subst, List, [], ◌∷◌, ◌++◌}
use Rattle.std.specs.Prelude.{Option}
use Rattle.std.proofs.lemmas.List.{map-append}
use Rattle.h265_model.specs.declared.leaf.Kind.{Kind}
use Rattle.h265_model.specs.declared.leaf.Leaf.{Leaf}
use Rattle.h265_model.specs.declared.moves.Vector.{Vector}
use Rattle.h265_model.specs.declared.moves.MoveLeaf.{MoveLeaf}
use Rattle.h265_model.specs.Motion.{Moving, leaves, leaf_as_coded, kind_as_coded, kind_vector, merge, as_coded}
use Rattle.pu_code.specs.Cells.{StandsFor}
use Rattle.pu_code.specs.Cells as modes
use Rattle.motion_grid.specs.Cells.{HasMotion, coded_unit}
use Rattle.motion_grid.specs.Cells as motions
use Rattle.motion_code.specs.Moves.{AreKept}

leaves-append : (before : List Moving) (unit : Moving) → leaves (before ++ unit ∷ []) ≡ leaves before ++ unit.leaf ∷ []
leaves-append before unit = map-append (λ (u : Moving). u.leaf) before (unit ∷ [])

pub kept_more : (modes modes2 : modes.Cells) (motions motions2 : motions.Cells) (unit : MoveLeaf) (v : Option Vector) (before : List Moving)
    → ((ls : List Leaf) → StandsFor modes ls → StandsFor modes2 (ls ++ leaf_as_coded unit ∷ []))
    → ((units : List Moving) → HasMotion motions units → (k : Kind) → HasMotion motions2 (units ++ coded_unit unit.block k v ∷ []))
    → v ≡ kind_vector (merge before unit.block) unit.kind → AreKept modes motions before → AreKept modes2 motions2 (before ++ as_coded before unit ∷ [])
kept_more modes modes2 motions motions2 unit v before f g e at = record {
  modes = subst (StandsFor modes2) (sym (leaves-append before (as_coded before unit))) (f (leaves before) at.modes);
  vectors = subst (λ (o : Option Vector). HasMotion motions2 (before ++ coded_unit unit.block (kind_as_coded unit.kind) o ∷ [])) e (g before at.vectors (kind_as_coded unit.kind));
}
