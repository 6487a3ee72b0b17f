use Rattle.std.proofs.Common.{ap, sym, subst, ◌∙◌, List}
use Rattle.h265_model.specs.declared.moves.MoveLeaf.{MoveLeaf}
use Rattle.h265_model.specs.Tree.{IsLawfulTree}
use Rattle.px_plane.specs.Planes.{Planes, picture_of}
use Rattle.cabac_bytes.specs.State.{stands_for}
use Rattle.motion_code.specs.Moves.{coded_leaves}
use Rattle.row_coder.specs.Sources.{picture_source}
use Rattle.picture_encoder.specs.Planning.{size_of_task}
use Rattle.row_moves.proofs.Writing.{written, one_ready}
use Rattle.row_moves.proofs.writer.PictureWriterUnitWriter.write_ctu.Goals as goal

pub returns-clause-taken : goal.returns-clause-taken
returns-clause-taken g c =
    let levels = c.args.self.now.levels in
    written c.args.self.now.task c.args.ctu c.args.self.now.grid c.args.self.now.motion (picture_source levels.size (picture_of levels)) c.kind-kind.result c.size-size.result c.as_slice.result.now
    (stands_for c.args.sink.now) (stands_for c.write_ctu_moves.new.sink) c.requires.next c.kind-kind.ensures (c.size-size.ensures.value ∙ ap (λ (p : Planes). p.size) c.deref.ensures)
    (c.as_slice.ensures ∙ c.plan_ctu-units.ensures.chosen)
    (subst (λ (l : List MoveLeaf). IsLawfulTree (size_of_task c.args.self.now.task) c.args.ctu (coded_leaves l)) (sym c.as_slice.ensures) c.plan_ctu-units.ensures.tree) c.in_ok-write_ctu_moves.ensures.taken

pub returns-clause-next : goal.returns-clause-next
returns-clause-next g c =
    let levels = c.args.self.now.levels in
    let after = c.write_ctu_moves.new.source in
    one_ready c.args.self.now.task c.args.ctu c.args.self.now.grid c.write_ctu_moves.new.grid c.args.self.now.motion c.write_ctu_moves.new.motion
    (picture_source levels.size (picture_of levels)) (picture_source after.size (picture_of after)) c.size-size.result c.as_slice.result.now
    c.requires.next (c.size-size.ensures.value ∙ ap (λ (p : Planes). p.size) c.deref.ensures) (c.as_slice.ensures ∙ c.plan_ctu-units.ensures.chosen)
    c.write_ctu_moves.ensures.size c.write_ctu_moves.ensures.motion c.write_ctu_moves.ensures.short c.write_ctu_moves.ensures.source c.in_ok-write_ctu_moves.ensures.set
