use Rattle.std.proofs.Common.{◌≡◌, ap, ◌∙◌, ℕ, ◌≤◌, length, arith}
use Rattle.std.specs.Vec.{with_items}
use Rattle.std.proofs.lemmas.List.{with_items_is}
use Rattle.h265_model.specs.Plain.{coded}
use Rattle.h265_model.specs.Raster.{component}
use Rattle.px_plane.specs.Planes.{Planes, pixel_at}
use Rattle.px_plane.specs.Rows.{IsPut}
use Rattle.px_plane.proofs.Rows.{tall_enough}
use Rattle.px_plane.proofs.Painted.{planes_put}
use Rattle.px_plane.proofs.picture.Picture.blit_part.Goals as goal

pub blit_plane-requires-clause-tall : goal.blit_plane-requires-clause-tall
blit_plane-requires-clause-tall c =
    let low : c.args.part.bottom ≤ coded c.self.inside.h = rw (ap (λ (p : Planes). p.size.h) c.self.view_is) (omega arith) in
    tall_enough c.args.part.bottom c.self.inside.h c.coded_side-stride.result _ _ low c.coded_side-stride.ensures.value (ap length c.deref_mut.ensures.value ∙ c.self.invariant.g_long)

pub blit_plane-requires-2-clause-tall : goal.blit_plane-requires-2-clause-tall
blit_plane-requires-2-clause-tall c =
    let low : c.args.part.bottom ≤ coded c.self.inside.h = rw (ap (λ (p : Planes). p.size.h) c.self.view_is) (omega arith) in
    tall_enough c.args.part.bottom c.self.inside.h c.coded_side-stride.result _ _ low c.coded_side-stride.ensures.value (ap length c.deref_mut-2.ensures.value ∙ c.self.invariant.b_long)

pub blit_plane-requires-3-clause-tall : goal.blit_plane-requires-3-clause-tall
blit_plane-requires-3-clause-tall c =
    let low : c.args.part.bottom ≤ coded c.self.inside.h = rw (ap (λ (p : Planes). p.size.h) c.self.view_is) (omega arith) in
    tall_enough c.args.part.bottom c.self.inside.h c.coded_side-stride.result _ _ low c.coded_side-stride.ensures.value (ap length c.deref_mut-3.ensures.value ∙ c.self.invariant.r_long)

pub returns : goal.returns
returns c =
    let inside = c.self.inside in
    let stride : ℕ = c.coded_side-stride.result in
    let g : (with_items inside.g c.blit_plane.new.plane).items ≡ c.blit_plane.new.plane = with_items_is inside.g c.blit_plane.new.plane (omega (arith, inside.g.ok)) in
    let b : (with_items inside.b c.blit_plane-2.new.plane).items ≡ c.blit_plane-2.new.plane = with_items_is inside.b c.blit_plane-2.new.plane (omega (arith, inside.b.ok)) in
    let r : (with_items inside.r c.blit_plane-3.new.plane).items ≡ c.blit_plane-3.new.plane = with_items_is inside.r c.blit_plane-3.new.plane (omega (arith, inside.r.ok)) in
    let fg : IsPut inside.g.items c.blit_plane.new.plane stride c.args.part (λ x y. component 0 (pixel_at c.args.rect c.args.pixels.now x y)) = rw (← c.deref_mut.ensures.value) c.blit_plane.ensures in
    let fb : IsPut inside.b.items c.blit_plane-2.new.plane stride c.args.part (λ x y. component 1 (pixel_at c.args.rect c.args.pixels.now x y)) = rw (← c.deref_mut-2.ensures.value) c.blit_plane-2.ensures in
    let fr : IsPut inside.r.items c.blit_plane-3.new.plane stride c.args.part (λ x y. component 2 (pixel_at c.args.rect c.args.pixels.now x y)) = rw (← c.deref_mut-3.ensures.value) c.blit_plane-3.ensures in
    let old : Planes = record { size = record { w = inside.w; h = inside.h }; g = inside.g.items; b = inside.b.items; r = inside.r.items } in
    rw (g, b, r, ← c.self.view_is)
    (planes_put old c.blit_plane.new.plane c.blit_plane-2.new.plane c.blit_plane-3.new.plane stride c.args.part (λ i x y. component i (pixel_at c.args.rect c.args.pixels.now x y))
    c.self.invariant c.coded_side-stride.ensures.value (omega arith) (omega arith) (omega arith) fg fb fr)
