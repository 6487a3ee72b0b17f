use Rattle.std.proofs.Common.{◌∙◌, sym, ap, Some}
use Rattle.annexb.specs.Walks.{first_header}
use Rattle.annexb.proofs.Walks.{header-is}
use Rattle.annexb.proofs.walk.Walk.header.Goals as goal

pub returns : goal.returns
returns c =
    let is = c.in_ok-start.ensures in
    sym (ap first_header (sym c.self.view_is ∙ is.units) ∙ ap Some (header-is c.in_ok-start.start c.self.inside.bytes.now is.two))
