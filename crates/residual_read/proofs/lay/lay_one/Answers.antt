use Rattle.std.proofs.Common.{sym, ◌∙◌, ◌+◌, ◌*◌, ap, set, rules, w16}
use Rattle.std.proofs.lemmas.Int.{to_z-of_z}
use Rattle.h265_model.specs.Residual.{place_at, scan}
use Rattle.bin_items.specs.Square.{Square, place}
use Rattle.residual_read.proofs.Laying.{laid_one, laid_none, laid_as}
use Rattle.residual_read.proofs.lay.lay_one.Goals as goal

pub returns-then-bit-clause-levels : goal.returns-then-bit-clause-levels
returns-then-bit-clause-levels c =
    laid_as c.args.scan c.args.out.now.log2 c.put.new.out.log2 (c.args.sub.x, c.args.sub.y) c.args.mask c.args.values.now (c.args.next + 1) c.args.number c.put.new.out.levels _ (ap (λ (b : Square). b.log2) c.put.ensures)
    (laid_one c.args.scan c.args.out.now.log2 (c.args.sub.x, c.args.sub.y) c.args.mask c.args.values.now c.args.next c.args.number c.args.out.now.levels c.put.new.out.levels (sym c.bit.ensures ∙ c.if-bit.true)
    (ap (λ (b : Square). b.levels) c.put.ensures ∙ ap (λ v. set c.args.out.now.levels (place c.args.out.now.log2 (4 * c.args.sub.x + (place_at (scan c.args.scan 2) c.args.number).0) (4 * c.args.sub.y + (place_at (scan c.args.scan 2) c.args.number).1)) v) (to_z-of_z w16 c.value_at.result (search rules) ∙ c.value_at.ensures)))

pub returns-else-bit-clause-levels : goal.returns-else-bit-clause-levels
returns-else-bit-clause-levels c = laid_none c.args.scan c.args.out.now.log2 (c.args.sub.x, c.args.sub.y) c.args.mask c.args.values.now c.args.next c.args.number c.args.out.now.levels (sym c.bit.ensures ∙ c.if-bit.false)
