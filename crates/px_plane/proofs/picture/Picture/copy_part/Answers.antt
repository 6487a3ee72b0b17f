use Rattle.std.proofs.Common.{◌≡◌, ap, ◌∙◌, ℕ, ◌+◌, ◌-◌, ◌≤◌, length, arith}
use Rattle.std.specs.Vec.{with_items}
use Rattle.std.proofs.lemmas.List.{with_items_is}
use Rattle.h265_model.specs.Plain.{Picture, coded}
use Rattle.px_plane.specs.Planes.{Planes, picture_of}
use Rattle.px_plane.specs.Rows.{IsPut, sample_from}
use Rattle.px_plane.proofs.Rows.{tall_enough}
use Rattle.px_plane.proofs.Painted.{planes_put}
use Rattle.px_plane.proofs.Copies.{plane_copied}
use Rattle.px_plane.proofs.picture.Picture.copy_part.Goals as goal

pub copy_plane-requires-clause-tall : goal.copy_plane-requires-clause-tall
copy_plane-requires-clause-tall c =
    let low : c.args.part.bottom ≤ coded c.self.inside.h = rw (ap (λ (p : Planes). p.size.h) c.self.view_is) (omega arith) in
    tall_enough c.args.part.bottom c.self.inside.h c.coded_side-stride.result _ _ low c.coded_side-stride.ensures.value (ap length c.deref_mut.ensures.value ∙ c.self.invariant.g_long)

pub copy_plane-requires-clause-source_tall : goal.copy_plane-requires-clause-source_tall
copy_plane-requires-clause-source_tall c =
    let low : (c.args.y + (c.args.part.bottom - c.args.part.top)) ≤ coded c.self.inside.h = rw (ap (λ (p : Planes). p.size.h) c.self.view_is) (omega arith) in
    tall_enough (c.args.y + (c.args.part.bottom - c.args.part.top)) c.self.inside.h c.coded_side-stride.result _ _ low c.coded_side-stride.ensures.value (ap length c.deref_mut.ensures.value ∙ c.self.invariant.g_long)

pub copy_plane-requires-2-clause-tall : goal.copy_plane-requires-2-clause-tall
copy_plane-requires-2-clause-tall c =
    let low : c.args.part.bottom ≤ coded c.self.inside.h = rw (ap (λ (p : Planes). p.size.h) c.self.view_is) (omega arith) in
    tall_enough c.args.part.bottom c.self.inside.h c.coded_side-stride.result _ _ low c.coded_side-stride.ensures.value (ap length c.deref_mut-2.ensures.value ∙ c.self.invariant.b_long)

pub copy_plane-requires-2-clause-source_tall : goal.copy_plane-requires-2-clause-source_tall
copy_plane-requires-2-clause-source_tall c =
    let low : (c.args.y + (c.args.part.bottom - c.args.part.top)) ≤ coded c.self.inside.h = rw (ap (λ (p : Planes). p.size.h) c.self.view_is) (omega arith) in
    tall_enough (c.args.y + (c.args.part.bottom - c.args.part.top)) c.self.inside.h c.coded_side-stride.result _ _ low c.coded_side-stride.ensures.value (ap length c.deref_mut-2.ensures.value ∙ c.self.invariant.b_long)

pub copy_plane-requires-3-clause-tall : goal.copy_plane-requires-3-clause-tall
copy_plane-requires-3-clause-tall c =
    let low : c.args.part.bottom ≤ coded c.self.inside.h = rw (ap (λ (p : Planes). p.size.h) c.self.view_is) (omega arith) in
    tall_enough c.args.part.bottom c.self.inside.h c.coded_side-stride.result _ _ low c.coded_side-stride.ensures.value (ap length c.deref_mut-3.ensures.value ∙ c.self.invariant.r_long)

pub copy_plane-requires-3-clause-source_tall : goal.copy_plane-requires-3-clause-source_tall
copy_plane-requires-3-clause-source_tall c =
    let low : (c.args.y + (c.args.part.bottom - c.args.part.top)) ≤ coded c.self.inside.h = rw (ap (λ (p : Planes). p.size.h) c.self.view_is) (omega arith) in
    tall_enough (c.args.y + (c.args.part.bottom - c.args.part.top)) c.self.inside.h c.coded_side-stride.result _ _ low c.coded_side-stride.ensures.value (ap length c.deref_mut-3.ensures.value ∙ c.self.invariant.r_long)

pub returns : goal.returns
returns c =
    let inside = c.self.inside in
    let part = c.args.part in
    let stride : ℕ = c.coded_side-stride.result in
    let old : Planes = record { size = record { w = inside.w; h = inside.h }; g = inside.g.items; b = inside.b.items; r = inside.r.items } in
    let f : Picture = λ k i j. picture_of old k (c.args.x + (i - part.left)) (c.args.y + (j - part.top)) in
    let wide : c.args.x + (part.right - part.left) ≤ coded inside.w = rw (ap (λ (p : Planes). p.size.w) c.self.view_is) c.requires.wide in
    let tall : c.args.y + (part.bottom - part.top) ≤ coded inside.h = rw (ap (λ (p : Planes). p.size.h) c.self.view_is) c.requires.tall in
    let g : (with_items inside.g c.copy_plane.new.plane).items ≡ c.copy_plane.new.plane = with_items_is inside.g c.copy_plane.new.plane (omega (arith, inside.g.ok)) in
    let b : (with_items inside.b c.copy_plane-2.new.plane).items ≡ c.copy_plane-2.new.plane = with_items_is inside.b c.copy_plane-2.new.plane (omega (arith, inside.b.ok)) in
    let r : (with_items inside.r c.copy_plane-3.new.plane).items ≡ c.copy_plane-3.new.plane = with_items_is inside.r c.copy_plane-3.new.plane (omega (arith, inside.r.ok)) in
    let fg : IsPut inside.g.items c.copy_plane.new.plane stride part (sample_from inside.g.items stride part c.args.x c.args.y) = rw (← c.deref_mut.ensures.value) c.copy_plane.ensures in
    let fb : IsPut inside.b.items c.copy_plane-2.new.plane stride part (sample_from inside.b.items stride part c.args.x c.args.y) = rw (← c.deref_mut-2.ensures.value) c.copy_plane-2.ensures in
    let fr : IsPut inside.r.items c.copy_plane-3.new.plane stride part (sample_from inside.r.items stride part c.args.x c.args.y) = rw (← c.deref_mut-3.ensures.value) c.copy_plane-3.ensures in
    rw (g, b, r, ← c.self.view_is)
    (planes_put old c.copy_plane.new.plane c.copy_plane-2.new.plane c.copy_plane-3.new.plane stride part f
    c.self.invariant c.coded_side-stride.ensures.value (omega arith) (omega arith) (omega arith)
    (plane_copied old 0 c.copy_plane.new.plane stride part c.args.x c.args.y c.coded_side-stride.ensures.value wide tall fg)
    (plane_copied old 1 c.copy_plane-2.new.plane stride part c.args.x c.args.y c.coded_side-stride.ensures.value wide tall fb)
    (plane_copied old 2 c.copy_plane-3.new.plane stride part c.args.x c.args.y c.coded_side-stride.ensures.value wide tall fr))
