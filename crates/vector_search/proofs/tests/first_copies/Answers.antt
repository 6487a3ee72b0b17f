use Rattle.std.proofs.Common.{◌∙◌, ap}
use Rattle.vector_search.specs.Copies.{Search}
use Rattle.vector_search.proofs.tests.first_copies.Goals as goal

pub first_copy-requires : goal.first_copy-requires
first_copy-requires g c = record {
  block = c.block_of.ensures c.loop-n.search (ap (λ (s : Search). s.current.size) (c.loop-n.invariant ∙ c.new-search.ensures) ∙ c.in_ok-now.ensures)
      (ap (λ (s : Search). s.x) (c.loop-n.invariant ∙ c.new-search.ensures)) (ap (λ (s : Search). s.y) (c.loop-n.invariant ∙ c.new-search.ensures));
}
