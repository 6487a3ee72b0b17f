use Rattle.std.proofs.Common.{◌≡◌, ap, sym, subst, ◌∙◌, ℕ, ◌+◌, ◌-◌, ◌*◌, ◌≤◌, length, arith}
use Rattle.std.specs.Vec.{with_items}
use Rattle.std.proofs.lemmas.List.{with_items_is}
use Rattle.h265_model.specs.Plain.{Size, coded}
use Rattle.px_plane.specs.Planes.{Planes}
use Rattle.px_plane.specs.Rows.{IsPut, IsPutInto}
use Rattle.px_plane.proofs.Rows.{tall_enough}
use Rattle.px_plane.proofs.Painted.{planes_put}
use Rattle.px_plane.proofs.Squares.{IsSquare, other_sample, square_copied}
use Rattle.px_plane.proofs.picture.Picture.copy_block.Goals as goal

pub copy_from_plane-requires-clause-tall : goal.copy_from_plane-requires-clause-tall
copy_from_plane-requires-clause-tall c =
    let low : c.of-part.result.bottom ≤ coded c.self.inside.h = rw (ap (λ (p : Planes). p.size.h) c.self.view_is) (omega arith) in
    tall_enough c.of-part.result.bottom c.self.inside.h c.coded_side-stride.result _ _ low c.coded_side-stride.ensures.value (ap length c.deref_mut.ensures.value ∙ c.self.invariant.g_long)

pub copy_from_plane-requires-2-clause-tall : goal.copy_from_plane-requires-2-clause-tall
copy_from_plane-requires-2-clause-tall c =
    let low : c.of-part.result.bottom ≤ coded c.self.inside.h = rw (ap (λ (p : Planes). p.size.h) c.self.view_is) (omega arith) in
    tall_enough c.of-part.result.bottom c.self.inside.h c.coded_side-stride.result _ _ low c.coded_side-stride.ensures.value (ap length c.deref_mut-2.ensures.value ∙ c.self.invariant.b_long)

pub copy_from_plane-requires-3-clause-tall : goal.copy_from_plane-requires-3-clause-tall
copy_from_plane-requires-3-clause-tall c =
    let low : c.of-part.result.bottom ≤ coded c.self.inside.h = rw (ap (λ (p : Planes). p.size.h) c.self.view_is) (omega arith) in
    tall_enough c.of-part.result.bottom c.self.inside.h c.coded_side-stride.result _ _ low c.coded_side-stride.ensures.value (ap length c.deref_mut-3.ensures.value ∙ c.self.invariant.r_long)

pub copy_from_plane-requires-clause-from_tall : goal.copy_from_plane-requires-clause-from_tall
copy_from_plane-requires-clause-from_tall c =
    let same : c.args.other.now.size ≡ record { w = c.self.inside.w; h = c.self.inside.h } = c.requires.sizes ∙ sym (ap (λ (p : Planes). p.size) c.self.view_is) in
    let low : c.args.from_y + (c.of-part.result.bottom - c.of-part.result.top) ≤ coded c.self.inside.h = rw (ap (λ (p : Planes). p.size.h) c.self.view_is) (omega arith) in
    tall_enough _ c.self.inside.h c.coded_side-stride.result _ _ low c.coded_side-stride.ensures.value (c.plane.ensures.area ∙ ap (λ (s : Size). coded s.w * coded s.h) same)

pub copy_from_plane-requires-2-clause-from_tall : goal.copy_from_plane-requires-2-clause-from_tall
copy_from_plane-requires-2-clause-from_tall c =
    let same : c.args.other.now.size ≡ record { w = c.self.inside.w; h = c.self.inside.h } = c.requires.sizes ∙ sym (ap (λ (p : Planes). p.size) c.self.view_is) in
    let low : c.args.from_y + (c.of-part.result.bottom - c.of-part.result.top) ≤ coded c.self.inside.h = rw (ap (λ (p : Planes). p.size.h) c.self.view_is) (omega arith) in
    tall_enough _ c.self.inside.h c.coded_side-stride.result _ _ low c.coded_side-stride.ensures.value (c.plane-2.ensures.area ∙ ap (λ (s : Size). coded s.w * coded s.h) same)

pub copy_from_plane-requires-3-clause-from_tall : goal.copy_from_plane-requires-3-clause-from_tall
copy_from_plane-requires-3-clause-from_tall c =
    let same : c.args.other.now.size ≡ record { w = c.self.inside.w; h = c.self.inside.h } = c.requires.sizes ∙ sym (ap (λ (p : Planes). p.size) c.self.view_is) in
    let low : c.args.from_y + (c.of-part.result.bottom - c.of-part.result.top) ≤ coded c.self.inside.h = rw (ap (λ (p : Planes). p.size.h) c.self.view_is) (omega arith) in
    tall_enough _ c.self.inside.h c.coded_side-stride.result _ _ low c.coded_side-stride.ensures.value (c.plane-3.ensures.area ∙ ap (λ (s : Size). coded s.w * coded s.h) same)

pub returns-clause-copied : goal.returns-clause-copied
returns-clause-copied c =
    let inside = c.self.inside in
    let stride : ℕ = c.coded_side-stride.result in
    let part = c.of-part.result in
    let other : Planes = c.args.other.now in
    let f = other_sample other stride part c.args.from_x c.args.from_y in
    let g : (with_items inside.g c.copy_from_plane.new.plane).items ≡ c.copy_from_plane.new.plane = with_items_is inside.g c.copy_from_plane.new.plane (omega (arith, inside.g.ok)) in
    let b : (with_items inside.b c.copy_from_plane-2.new.plane).items ≡ c.copy_from_plane-2.new.plane = with_items_is inside.b c.copy_from_plane-2.new.plane (omega (arith, inside.b.ok)) in
    let r : (with_items inside.r c.copy_from_plane-3.new.plane).items ≡ c.copy_from_plane-3.new.plane = with_items_is inside.r c.copy_from_plane-3.new.plane (omega (arith, inside.r.ok)) in
    let fg : IsPut inside.g.items c.copy_from_plane.new.plane stride part (f 0) = rw (← c.deref_mut.ensures.value, ← c.plane.ensures.plane) c.copy_from_plane.ensures in
    let fb : IsPut inside.b.items c.copy_from_plane-2.new.plane stride part (f 1) = rw (← c.deref_mut-2.ensures.value, ← c.plane-2.ensures.plane) c.copy_from_plane-2.ensures in
    let fr : IsPut inside.r.items c.copy_from_plane-3.new.plane stride part (f 2) = rw (← c.deref_mut-3.ensures.value, ← c.plane-3.ensures.plane) c.copy_from_plane-3.ensures in
    let old : Planes = record { size = record { w = inside.w; h = inside.h }; g = inside.g.items; b = inside.b.items; r = inside.r.items } in
    let new : Planes = record { size = record { w = inside.w; h = inside.h }; g = c.copy_from_plane.new.plane; b = c.copy_from_plane-2.new.plane; r = c.copy_from_plane-3.new.plane } in
    let is : IsSquare part c.args.x c.args.y c.args.n = record { left = c.of-part.ensures.left; right = c.of-part.ensures.right; top = c.of-part.ensures.top; bottom = c.of-part.ensures.bottom } in
    let put : IsPutInto old new part f = planes_put old c.copy_from_plane.new.plane c.copy_from_plane-2.new.plane c.copy_from_plane-3.new.plane stride part f
    c.self.invariant c.coded_side-stride.ensures.value (omega arith) (omega arith) (omega arith) fg fb fr in
    rw (g, b, r, ← c.self.view_is)
    (square_copied old new other stride part c.args.from_x c.args.from_y c.args.x c.args.y c.args.n (c.requires.sizes ∙ sym (ap (λ (p : Planes). p.size) c.self.view_is)) c.coded_side-stride.ensures.value is
    (subst (λ (p : Planes). c.args.from_x + c.args.n ≤ coded p.size.w) (sym c.self.view_is) c.requires.from_across)
    (subst (λ (p : Planes). c.args.from_y + c.args.n ≤ coded p.size.h) (sym c.self.view_is) c.requires.from_down) put)
