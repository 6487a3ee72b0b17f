use Rattle.std.proofs.Common.{◌∙◌, ap}
use Rattle.vector_search.specs.Copies.{Search}
use Rattle.vector_search.proofs.tests.sources_at_the_end.Goals as goal

pub is_copy-copied-requires : goal.is_copy-copied-requires
is_copy-copied-requires g c = record {
  block = c.block_of.ensures c.new-search.result (ap (λ (s : Search). s.current.size) c.new-search.ensures ∙ c.in_ok-now.ensures)
      (ap (λ (s : Search). s.x) c.new-search.ensures) (ap (λ (s : Search). s.y) c.new-search.ensures);
}
