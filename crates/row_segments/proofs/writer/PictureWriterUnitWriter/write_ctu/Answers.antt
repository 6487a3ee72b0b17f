use Rattle.std.proofs.Common.{◌≡◌, ap, ◌∙◌}
use Rattle.h265_model.specs.Plain.{Size}
use Rattle.px_plane.specs.Planes.{Planes, picture_of}
use Rattle.cabac_bytes.specs.State.{stands_for}
use Rattle.row_coder.specs.Sources.{picture_source}
use Rattle.picture_encoder.specs.Planning.{size_of_task}
use Rattle.row_segments.proofs.Writing.{tree_is, kinds_are, written, one_ready}
use Rattle.row_segments.proofs.writer.PictureWriterUnitWriter.write_ctu.Goals as goal

pub write_ctu-requires-clause-tree : goal.write_ctu-requires-clause-tree
write_ctu-requires-clause-tree g c =
    tree_is c.args.self.now.task c.args.ctu c.size-size.result c.as_slice.result.now (c.size-size.ensures.value ∙ ap (λ (p : Planes). p.size) c.deref.ensures) (c.as_slice.ensures.value ∙ c.plan_unit-leaves.ensures.choice)

pub write_ctu-requires-clause-allowed : goal.write_ctu-requires-clause-allowed
write_ctu-requires-clause-allowed g c =
    kinds_are c.args.self.now.task c.args.ctu c.kind-kind.result c.as_slice.result.now c.kind-kind.ensures (c.as_slice.ensures.value ∙ c.plan_unit-leaves.ensures.choice)

pub returns-clause-taken : goal.returns-clause-taken
returns-clause-taken g c =
    let levels = c.args.self.now.levels in
    written c.args.self.now.task c.args.ctu c.args.self.now.grid (picture_source levels.size (picture_of levels)) c.kind-kind.result c.size-size.result c.as_slice.result.now
    (stands_for c.args.sink.now) (stands_for c.write_ctu.new.sink) c.requires.next c.kind-kind.ensures (c.size-size.ensures.value ∙ ap (λ (p : Planes). p.size) c.deref.ensures)
    (c.as_slice.ensures.value ∙ c.plan_unit-leaves.ensures.choice) c.requires.inside c.in_ok-write_ctu.ensures.taken

pub returns-clause-next : goal.returns-clause-next
returns-clause-next g c =
    let levels = c.args.self.now.levels in
    let after = c.write_ctu.new.source in
    one_ready c.args.self.now.task c.args.ctu c.args.self.now.grid c.write_ctu.new.grid (picture_source levels.size (picture_of levels)) (picture_source after.size (picture_of after)) c.as_slice.result.now
    c.requires.next (c.as_slice.ensures.value ∙ c.plan_unit-leaves.ensures.choice) c.requires.inside c.write_ctu.ensures.size c.write_ctu.ensures.source c.in_ok-write_ctu.ensures.set
