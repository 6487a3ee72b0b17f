use Rattle.std.proofs.Common.{◌≡◌, ap, ◌∙◌, Some, rules}
use Rattle.cabac_bytes.specs.Pending.{Pending}
use Rattle.cabac_bytes.proofs.Numbers.{four_behind}
use Rattle.cabac_bytes.proofs.pending.PendingBytes.pass_quickly.Goals as goal

pub returns-clause-ok : goal.returns-clause-ok
returns-clause-ok c =
    let held : c.self.inside.held ≡ Some c.args.held = ap (λ (p : Pending). p.held) c.self.view_is ∙ c.requires.held in
    let run : c.self.inside.run ≡ 0 = ap (λ (p : Pending). p.run) c.self.view_is ∙ c.requires.run in
    rw (← c.self.view_is, held, run) (four_behind c.self.inside.out.items c.extend_from_slice.new.self.items c.args.held c.args.lead (search rules) c.requires.last (rw c.requires.held at c.requires.fits) c.in_ok-extend_from_slice.ensures.items)
