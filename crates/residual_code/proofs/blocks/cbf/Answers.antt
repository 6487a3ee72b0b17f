use Rattle.std.proofs.Common.{◌≡◌, ◌∙◌, ◌*◌, ◌+◌, ◌-◌, ◌/◌, ap, sym, length, take, drop, length-drop, arith}
use Rattle.std.proofs.lemmas.List.{take_all}
use Rattle.h265_model.specs.Residual.{cbf}
use Rattle.residual_code.proofs.Zeros.{any_level, any_part, any_more, any_rest}
use Rattle.residual_code.proofs.blocks.cbf.Goals as goal

pub returns-then-any_level : goal.returns-then-any_level
unfolding cbf
returns-then-any_level c = sym (ap any_level (sym c.as_slice-levels.ensures) ∙ any_part c.as_slice-levels.result.now (64 * c.loop-part.part) (64 * c.loop-part.part + 64 - 64 * c.loop-part.part) (sym c.any_level.ensures ∙ c.if-any_level.true))

pub loop-part-preserved : goal.loop-part-preserved
unfolding cbf
loop-part-preserved c = any_more c.as_slice-levels.result.now (64 * c.loop-part.part) (64 * c.loop-part.part + 64 - 64 * c.loop-part.part) (64 * (c.loop-part.part + 1)) (omega arith) c.loop-part.invariant (sym c.any_level.ensures ∙ c.if-any_level.false)

pub returns : goal.returns
unfolding cbf
returns c =
    let levels = c.as_slice-levels.result.now in
    let e : c.loop-part.part ≡ length levels / 64 = omega arith in
    let at : 64 * c.loop-part.part ≡ length levels / 64 * 64 = omega arith in
    c.any_level-2.ensures ∙ (ap any_level (take_all (length levels - length levels / 64 * 64) (drop (length levels / 64 * 64) levels) (rw length-drop (omega arith))) ∙ any_rest levels (length levels / 64 * 64) (ap (λ n. any_level (take n levels)) (sym at) ∙ c.loop-part.invariant) ∙ ap any_level c.as_slice-levels.ensures)
