use Rattle.coding_tree.proofs.leaf.write_content.Goals as goal

pub returns-in-Pcm-clause-taken : goal.returns-in-Pcm-clause-taken
returns-in-Pcm-clause-taken g c = λ before stands. rw c.in-Pcm.is (c.write_pcm.ensures.taken before)
