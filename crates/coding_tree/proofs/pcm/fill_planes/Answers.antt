use Rattle.coding_tree.proofs.SampleLaws.{room_left}
use Rattle.coding_tree.proofs.pcm.fill_planes.Goals as goal

pub append_samples-end-requires-clause-room : goal.append_samples-end-requires-clause-room
append_samples-end-requires-clause-room g c =
    room_left c.args.leaf.block.log2 c.loop-component.component c.loop-component.end c.requires.low c.requires.high c.loop-component.invariant.end c.loop-component-test.true
