use Rattle.std.proofs.Common.{◌≡◌, ap, sym, ◌∙◌, subst, arith}
use Rattle.recorder_model.specs.Setting.{Setting}
use Rattle.turn_lock.specs.Standing.{Standing}
use Rattle.live_desk.specs.Desks.{IsOpened}
use Rattle.recorder.specs.Sessions.{all_cuts}
use Rattle.recorder.proofs.Orders.{few_cuts}
use Rattle.recorder.proofs.session.Session.new.Goals as goal

pub invariant_of-result : goal.invariant_of-result
invariant_of-result c =
    let setting : Setting = record { size = c.size.result; scripts = c.args.scripts } in
    let opened = c.in_ok-desk.ensures in
    let same : c.in_ok-desk.recorder.knows.setting ≡ setting = ap (λ (p : Standing). p.knows.setting) opened.last in (
      subst (λ (s : Setting). IsOpened s c.in_ok-desk.desk c.in_ok-desk.clients.items c.in_ok-desk.recorder) (sym same) opened,
      sym c.size.ensures ∙ ap (λ (s : Setting). s.size) (sym same),
      c.requires.sized,
      c.requires.fresh,
      c.cuts_of-cuts.ensures ∙ ap (λ (s : Setting). all_cuts s.scripts) (sym same),
      omega (arith, c.cuts_of-cuts.ensures, few_cuts c.args.scripts, c.requires.few),
    )
