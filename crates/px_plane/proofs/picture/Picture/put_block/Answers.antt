use Rattle.std.proofs.Common.{◌≡◌, refl, ap, ◌∙◌, ◌≤◌, length, arith}
use Rattle.std.specs.Vec.{with_items}
use Rattle.std.proofs.lemmas.List.{with_items_is}
use Rattle.h265_model.specs.Plain.{coded}
use Rattle.px_plane.specs.Planes.{Planes}
use Rattle.px_plane.specs.Rows.{IsPut, row_sample}
use Rattle.px_plane.proofs.Rows.{tall_enough}
use Rattle.px_plane.proofs.Squares.{IsSquare, square_put, others_g, others_b, others_r}
use Rattle.px_plane.proofs.picture.Picture.put_block.Goals as goal

pub put_plane-requires-clause-tall : goal.put_plane-requires-clause-tall
put_plane-requires-clause-tall c =
    let low : c.of-part.result.bottom ≤ coded c.self.inside.h = rw (ap (λ (p : Planes). p.size.h) c.self.view_is) (omega arith) in
    tall_enough c.of-part.result.bottom c.self.inside.h c.coded_side-stride.result _ _ low c.coded_side-stride.ensures.value (ap length c.deref_mut.ensures.value ∙ c.self.invariant.g_long)

pub put_plane-requires-in-1-clause-tall : goal.put_plane-requires-in-1-clause-tall
put_plane-requires-in-1-clause-tall c =
    let low : c.of-part.result.bottom ≤ coded c.self.inside.h = rw (ap (λ (p : Planes). p.size.h) c.self.view_is) (omega arith) in
    tall_enough c.of-part.result.bottom c.self.inside.h c.coded_side-stride.result _ _ low c.coded_side-stride.ensures.value (ap length c.deref_mut-in-1.ensures.value ∙ c.self.invariant.b_long)

pub put_plane-requires-in_default-clause-tall : goal.put_plane-requires-in_default-clause-tall
put_plane-requires-in_default-clause-tall c =
    let low : c.of-part.result.bottom ≤ coded c.self.inside.h = rw (ap (λ (p : Planes). p.size.h) c.self.view_is) (omega arith) in
    tall_enough c.of-part.result.bottom c.self.inside.h c.coded_side-stride.result _ _ low c.coded_side-stride.ensures.value (ap length c.deref_mut-in_default.ensures.value ∙ c.self.invariant.r_long)

pub returns-in-0-clause-put : goal.returns-in-0-clause-put
returns-in-0-clause-put c =
    let inside = c.self.inside in
    let new : (with_items inside.g c.put_plane.new.plane).items ≡ c.put_plane.new.plane = with_items_is inside.g c.put_plane.new.plane (omega (arith, inside.g.ok)) in
    let put : IsPut inside.g.items c.put_plane.new.plane c.coded_side-stride.result c.of-part.result (row_sample c.of-part.result c.args.samples.now) = rw (← c.deref_mut.ensures.value) c.put_plane.ensures in
    let old : Planes = record { size = record { w = inside.w; h = inside.h }; g = inside.g.items; b = inside.b.items; r = inside.r.items } in
    let is : IsSquare c.of-part.result c.args.x c.args.y c.args.n = record { left = c.of-part.ensures.left; right = c.of-part.ensures.right; top = c.of-part.ensures.top; bottom = c.of-part.ensures.bottom } in
    rw (new, c.in-0.is, ← c.self.view_is)
    (square_put old (record old { g = c.put_plane.new.plane }) c.coded_side-stride.result c.of-part.result c.args.samples.now 0 c.args.x c.args.y c.args.n refl c.coded_side-stride.ensures.value is put (others_g old c.put_plane.new.plane))

pub returns-in-1-clause-put : goal.returns-in-1-clause-put
returns-in-1-clause-put c =
    let inside = c.self.inside in
    let new : (with_items inside.b c.put_plane-in-1.new.plane).items ≡ c.put_plane-in-1.new.plane = with_items_is inside.b c.put_plane-in-1.new.plane (omega (arith, inside.b.ok)) in
    let put : IsPut inside.b.items c.put_plane-in-1.new.plane c.coded_side-stride.result c.of-part.result (row_sample c.of-part.result c.args.samples.now) = rw (← c.deref_mut-in-1.ensures.value) c.put_plane-in-1.ensures in
    let old : Planes = record { size = record { w = inside.w; h = inside.h }; g = inside.g.items; b = inside.b.items; r = inside.r.items } in
    let is : IsSquare c.of-part.result c.args.x c.args.y c.args.n = record { left = c.of-part.ensures.left; right = c.of-part.ensures.right; top = c.of-part.ensures.top; bottom = c.of-part.ensures.bottom } in
    rw (new, c.in-1.is, ← c.self.view_is)
    (square_put old (record old { b = c.put_plane-in-1.new.plane }) c.coded_side-stride.result c.of-part.result c.args.samples.now 1 c.args.x c.args.y c.args.n refl c.coded_side-stride.ensures.value is put (others_b old c.put_plane-in-1.new.plane))

pub returns-in_default-clause-put : goal.returns-in_default-clause-put
returns-in_default-clause-put c =
    let inside = c.self.inside in
    let two : c.args.component ≡ 2 = omega arith in
    let new : (with_items inside.r c.put_plane-in_default.new.plane).items ≡ c.put_plane-in_default.new.plane = with_items_is inside.r c.put_plane-in_default.new.plane (omega (arith, inside.r.ok)) in
    let put : IsPut inside.r.items c.put_plane-in_default.new.plane c.coded_side-stride.result c.of-part.result (row_sample c.of-part.result c.args.samples.now) = rw (← c.deref_mut-in_default.ensures.value) c.put_plane-in_default.ensures in
    let old : Planes = record { size = record { w = inside.w; h = inside.h }; g = inside.g.items; b = inside.b.items; r = inside.r.items } in
    let is : IsSquare c.of-part.result c.args.x c.args.y c.args.n = record { left = c.of-part.ensures.left; right = c.of-part.ensures.right; top = c.of-part.ensures.top; bottom = c.of-part.ensures.bottom } in
    rw (new, two, ← c.self.view_is)
    (square_put old (record old { r = c.put_plane-in_default.new.plane }) c.coded_side-stride.result c.of-part.result c.args.samples.now 2 c.args.x c.args.y c.args.n refl c.coded_side-stride.ensures.value is put (others_r old c.put_plane-in_default.new.plane))
