use Rattle.std.proofs.Common.{◌∙◌, ap, ◌-◌, Some, arith}
use Rattle.cabac_dec.specs.State.{Reading, engine}
use Rattle.cabac_dec.proofs.Engines.{not_begun, refused_start, started}
use Rattle.cabac_dec.proofs.Steps.{enough, missing, moved_on, not_below, first_below, first_offset}
use Rattle.cabac_dec.proofs.decoder.Decoder.start.Goals as goal

pub returns-then-not-has-clause-value : goal.returns-then-not-has-clause-value
returns-then-not-has-clause-value c = not_begun c.args.contexts c.args.window (missing c.has.result _ _ c.if-not-has.true c.has.ensures.there)

pub advance-requires-clause-most : goal.advance-requires-clause-most
advance-requires-clause-most c =
    first_below c.args.window c.has.new.self c.requires (enough c.has.result _ _ c.if-not-has.false c.has.ensures.there) c.has.ensures.same

pub returns-then-not-is_below-clause-value : goal.returns-then-not-is_below-clause-value
returns-then-not-is_below-clause-value c =
    let large = not_below c.is_below.result c.advance.new.self.offset 510 c.if-not-is_below.true c.is_below.ensures.1 in
    let offset = first_offset c.args.window c.has.new.self c.advance.new.self c.has.ensures.same c.advance.ensures in
    refused_start c.args.contexts c.args.window c.requires (enough c.has.result _ _ c.if-not-has.false c.has.ensures.there) (omega (arith, large, offset))

pub returns-clause-value : goal.returns-clause-value
returns-clause-value c =
    let small = c.is_below.ensures.0 c.if-not-is_below.false in
    let offset = first_offset c.args.window c.has.new.self c.advance.new.self c.has.ensures.same c.advance.ensures in
    ap (λ (r : Reading). Some (engine 510 c.args.contexts r)) (moved_on 9 0 c.args.window c.has.new.self c.advance.new.self c.has.ensures.same c.advance.ensures)
    ∙ started (c.has.new.self.ahead - 9) c.args.contexts c.args.window c.requires (enough c.has.result _ _ c.if-not-has.false c.has.ensures.there) (omega (arith, small, offset))
