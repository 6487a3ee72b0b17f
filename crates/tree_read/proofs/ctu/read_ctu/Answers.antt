use Rattle.std.proofs.Common.{◌≡◌, ap, subst, ℕ, ◌+◌, ◌*◌, ◌%◌, ◌/◌}
use Rattle.h265_model.specs.Plain.{ctus, ctu_x, ctu_y}
use Rattle.h265_model.specs.Tree.{tree_read}
use Rattle.unit_read.specs.Units.{Reads, AreTaken}
use Rattle.tree_read.proofs.TreeReads.{ctu_open, reads_as}
use Rattle.tree_read.proofs.ctu.read_ctu.Goals as goal

pub returns-clause-read : goal.returns-clause-read
returns-clause-read g c = λ before are.
    let across : (c.w.result + 31) / 32 ≡ ctus c.args.size.w = ap (λ w. (w + 31) / 32) c.w.ensures.value in
    reads_as c.read_block.result _ _ c.read_block.new.decoder (AreTaken (g.S.LeafSink.stands_for c.args.sink.now) (g.S.LeafSink.stands_for c.read_block.new.sink) c.args.size (ctu_x c.args.size c.args.ctu) (ctu_y c.args.size c.args.ctu) c.read_block.new.grid c.read_block.new.motion before)
    (ctu_open c.args.kind c.args.size before c.args.ctu c.args.decoder.now)
    (subst (λ (n : ℕ). Reads c.read_block.result (tree_read c.args.kind c.args.size 2 (c.args.ctu % n * 32) (c.args.ctu / n * 32) before c.args.decoder.now) c.read_block.new.decoder
    (AreTaken (g.S.LeafSink.stands_for c.args.sink.now) (g.S.LeafSink.stands_for c.read_block.new.sink) c.args.size (c.args.ctu % n * 32) (c.args.ctu / n * 32) c.read_block.new.grid c.read_block.new.motion before)) across (c.read_block.ensures.read before are))
