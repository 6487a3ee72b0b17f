use Rattle.std.proofs.Common.{rules, ◌≡◌, sym, ap, ◌∙◌, ℕ, w32, ℤ, to_z, of_z, Some}
use Rattle.std.proofs.lemmas.Int.{to_z-of_z}
use Rattle.h265_model.specs.Plain.{Size, coded}
use Rattle.px_plane.specs.Planes.{picture_of}
use Rattle.vector_search.specs.Copies.{source_of}
use Rattle.vector_search.proofs.Moves.{moved_from}
use Rattle.vector_search.proofs.compare.is_moved.Goals as goal

pub returns : goal.returns
returns c =
    let size : Size = c.args.current.now.size in
    let ew : c.coded_side.result ≡ coded size.w = c.coded_side.ensures.value ∙ ap (λ (n : ℕ). coded n) (c.w.ensures.value ∙ ap (λ (s : Size). s.w) c.size-size.ensures.value) in
    let eh : c.coded_side-2.result ≡ coded size.h = c.coded_side-2.ensures.value ∙ ap (λ (n : ℕ). coded n) (c.h.ensures.value ∙ ap (λ (s : Size). s.h) c.size-size.ensures.value) in
    let tx : to_z w32 (of_z w32 c.args.vector.x) ≡ c.args.vector.x = to_z-of_z w32 c.args.vector.x (search rules) in
    let ty : to_z w32 (of_z w32 c.args.vector.y) ≡ c.args.vector.y = to_z-of_z w32 c.args.vector.y (search rules) in
    let sx : source_of c.coded_side.result c.args.n c.args.x c.args.vector.x ≡ Some c.in-Some.from_x =
    ap (λ (z : ℤ). source_of c.coded_side.result c.args.n c.args.x z) (sym tx) ∙ (sym c.source.ensures ∙ c.in-Some.is) in
    let sy : source_of c.coded_side-2.result c.args.n c.args.y c.args.vector.y ≡ Some c.in-Some-source.from_y =
    ap (λ (z : ℤ). source_of c.coded_side-2.result c.args.n c.args.y z) (sym ty) ∙ (sym c.source-2.ensures ∙ c.in-Some-source.is) in
    moved_from (picture_of c.args.last.now) (picture_of c.args.current.now) size c.args.x c.args.y c.args.n c.args.vector c.coded_side.result c.coded_side-2.result
    c.in-Some.from_x c.in-Some-source.from_y c.is_same_square.result ew eh sx sy c.is_same_square.ensures
