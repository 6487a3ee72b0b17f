use Rattle.px_plane.specs.Planes.{picture_of}
use Rattle.vector_search.proofs.Copy.{copy_is}
use Rattle.vector_search.proofs.search.VectorSearch.is_copy.Goals as goal

pub returns : goal.returns
returns c = record {
  copy = λ kind. rw (← c.self.view_is)
      (copy_is (picture_of c.self.inside.last.now) (picture_of c.self.inside.current.now) c.self.inside.current.now.size c.args.block kind c.args.vector c.is_moved.result
      (rw c.side_of.ensures.value at c.is_moved.ensures));
}
