use Rattle.std.proofs.Common.{◌≢◌, ◌∙◌, ap, subst, sym, arith}
use Rattle.row_board.specs.declared.knowledge.Stage.TheVariants.{Open, Published, Lost}
use Rattle.row_board.specs.Standing.{Standing}
use Rattle.row_core.specs.Plan.{Plan}
use Rattle.row_workers.specs.AtOnce.{KeepsRows}
use Rattle.row_workers.proofs.Claiming.{settled_keeps, is_settled}
use Rattle.row_workers.proofs.at_once.code_row.Goals.{then-width-ge-SHOWN, else-width-ge-SHOWN}
use Rattle.row_workers.proofs.at_once.code_row.Goals as goal

not_lost : Lost ≢ Open
not_lost e = cc

not_published : Published ≢ Open
not_published e = cc

pub returns-in-Err-clause-kept : goal.returns-in-Err-clause-kept
returns-in-Err-clause-kept g c = settled_keeps Lost c.begin_row.new.seat.knows c.lose.new.seat.knows c.args.row.now c.lose.ensures.lost c.args.seat.now.knows c.in-Err.ensures.kept

pub returns-in-Err-clause-settled : goal.returns-in-Err-clause-settled
returns-in-Err-clause-settled g c = λ wide. is_settled Lost c.begin_row.new.seat.knows c.lose.new.seat.knows c.args.row.now c.lose.ensures.lost not_lost c.in-Err.ensures.unsettled

pub returns-clause-kept : goal.returns-clause-kept
returns-clause-kept g c = elim c.if-width-ge-SHOWN.branch [
  | then-width-ge-SHOWN w ↦ settled_keeps Published c.begin_row.new.seat.knows c.if-width-ge-SHOWN.seat.knows c.args.row.now (ap (λ (s : Standing). s.knows) w.seat-is ∙ w.publish.ensures.shown)
      c.args.seat.now.knows c.in_default.ensures.kept
  | else-width-ge-SHOWN w ↦ subst (λ (s : Standing). KeepsRows c.args.seat.now.knows s.knows) (sym w.seat-is) c.in_default.ensures.kept
]

pub returns-clause-settled : goal.returns-clause-settled
returns-clause-settled g c = λ wide. elim c.if-width-ge-SHOWN.branch [
  | then-width-ge-SHOWN w ↦ is_settled Published c.begin_row.new.seat.knows c.if-width-ge-SHOWN.seat.knows c.args.row.now (ap (λ (s : Standing). s.knows) w.seat-is ∙ w.publish.ensures.shown)
      not_published c.in_default.ensures.unsettled
  | else-width-ge-SHOWN w ↦ absurd (
      let narrow = w.if-width-ge-SHOWN in
      let is = c.width.ensures.value in
      let kept = ap (λ (p : Plan). p.width) c.in_default.ensures.plan in
      let same = c.requires.fits.same_width in
      omega arith
      )
]
