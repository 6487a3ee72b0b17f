use Rattle.std.proofs.Common.{rules, ◌≡◌, ℕ, ◌<◌, ◌^◌, false, map, flat_map, length, replicate, sym, ap, subst, ◌∙◌, arith}
use Rattle.h265_model.specs.Plain.{Size, Picture, below}
use Rattle.h265_model.specs.Raster.{coded_picture}
use Rattle.recorder_model.specs.Painting.{raster}
use Rattle.recorder_model.specs.Desk.{is_touched, touched_by}
use Rattle.h265_model.specs.Tiles.{tile_count, tile_samples, job_for}
use Rattle.px_plane.specs.Planes.{picture_of}
use Rattle.desk_surface.specs.Shown.{ShowsLines}
use Rattle.px_plane.proofs.Shown.{in_limits, shown_is_coded}
use Rattle.desk_surface.specs.Damage.{Painted, IsFlagged, raised}
use Rattle.desk_surface.proofs.Marks.{flagged_none}
use Rattle.desk_surface.proofs.Jobs.{few_tiles, raised_below, raised_touched}
use Rattle.desk_surface.proofs.surface.Surface.cut_job.Goals as goal

pub raised-requires : goal.raised-requires
raised-requires c =
    let limits = in_limits c.size-size.result c.size-size.ensures.within in
    let few : tile_count c.self.inside.picture.size < 2 ^ 32 = subst (λ (s : Size). tile_count s < 2 ^ 32) c.size-size.ensures.value (few_tiles c.size-size.result limits.w_high limits.h_high) in
    let long : length c.deref.result.now ≡ tile_count c.self.inside.picture.size = ap length c.deref.ensures.value ∙ c.self.invariant in
    omega arith

pub samples_of-requires : goal.samples_of-requires
samples_of-requires c =
    let long : length c.deref.result.now ≡ tile_count c.self.inside.picture.size = ap length c.deref.ensures.value ∙ c.self.invariant in
    let tiles : c.deref-2.result.now ≡ raised c.deref.result.now (length c.deref.result.now) = c.deref-2.ensures.value ∙ c.in_ok-tiles.ensures in
    rw tiles (rw (← long) (raised_below c.deref.result.now (length c.deref.result.now)))

pub returns-clause-job : goal.returns-clause-job
returns-clause-job c = λ lines since shows flagged.
    let inside : Painted = record { shown = c.self.inside.picture; flags = c.self.inside.flags.items } in
    let size : Size = c.self.inside.picture.size in
    let same : inside ≡ c.args.self.now = c.self.view_is in
    let marked : IsFlagged inside since = subst (λ (s : Painted). IsFlagged s since) (sym same) flagged in
    let shown : ShowsLines inside.shown lines = subst (λ (s : Painted). ShowsLines s.shown lines) (sym same) shows in
    let long : length c.deref.result.now ≡ tile_count size = ap length c.deref.ensures.value ∙ c.self.invariant in
    let flags : c.deref.result.now ≡ map (is_touched size since) (below (tile_count size)) = c.deref.ensures.value ∙ marked.flags in
    let tiles : c.in_ok-tiles.tiles.items ≡ touched_by size since =
    c.in_ok-tiles.ensures ∙ (ap (raised c.deref.result.now) long ∙ raised_touched size c.deref.result.now since flags) in
    let samples : c.in_ok-samples.samples.items ≡ flat_map (tile_samples size (coded_picture size (raster size lines))) (touched_by size since) =
    c.in_ok-samples.ensures ∙ (ap (flat_map (tile_samples size (picture_of inside.shown))) (c.deref-2.ensures.value ∙ tiles)
    ∙ ap (λ (p : Picture). flat_map (tile_samples size p) (touched_by size since)) (shown_is_coded inside.shown (raster size lines) shown)) in
    let listed : c.from_vec.result ≡ touched_by size since = c.from_vec.ensures ∙ tiles in
    let given : c.from_vec-2.result ≡ flat_map (tile_samples size (coded_picture size (raster size lines))) (touched_by size since) = c.from_vec-2.ensures ∙ samples in
    subst (λ (s : Painted). record { number = c.args.number; tiles = c.from_vec.result; samples = c.from_vec-2.result } ≡ job_for s.shown.size c.args.number (touched_by s.shown.size since) (raster s.shown.size lines)) same
    (λ i. record { number = c.args.number; tiles = listed i; samples = given i })

pub returns-clause-lowered : goal.returns-clause-lowered
returns-clause-lowered c =
    let size : Size = c.self.inside.picture.size in
    let lowered : c.fill.new.self.items ≡ replicate (length c.self.inside.flags.items) false = search rules in
    record { flags = lowered ∙ (ap (λ (n : ℕ). replicate n false) c.self.invariant ∙ flagged_none size) }
