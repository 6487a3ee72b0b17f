use Rattle.std.proofs.Common.{◌≡◌, ◌∷◌, [], ◌+◌, ◌-◌, ◌*◌, ◌≤◌, ◌++◌, Some, None, length, take, drop, arith, sym, ap, ◌∙◌}
use Rattle.std.proofs.lemmas.List.Elements.{All-push}
use Rattle.recorder_model.specs.Script.{colours, or_cause}
use Rattle.recorder_model.specs.declared.refusal.Cause.TheVariants.{BadColour}
use Rattle.paint_script.specs.Paint.{colour_of}
use Rattle.paint_script.specs.Spellable.{IsSpellableColour}
use Rattle.paint_script.proofs.Colours.{onto_colours, colours-more, colours-stop, colours-end, n_colours-some}
use Rattle.paint_script.proofs.line.pixels_of.Goals as goal

pub returns-in-None-clause-value : goal.returns-in-None-clause-value
returns-in-None-clause-value c =
    let w = c.args.word.now in
    let k = c.loop-k.k in
    let six : 6 * k + 6 - 6 * k ≡ 6 = omega arith in
    let fits : 6 * k + 6 ≤ length w = omega arith in
    let is : colour_of (take 6 (drop (6 * k) w)) ≡ None = ap (λ n. colour_of (take n (drop (6 * k) w))) (sym six) ∙ sym c.colour_of.ensures.value ∙ c.in-None.is in
    ap (or_cause BadColour) (n_colours-some c.args.count w c.if-word-count.false ∙ colours-stop c.loop-k.pixels.items w (6 * k) fits c.loop-k.invariant.value is)

pub loop-k-preserved : goal.loop-k-preserved
loop-k-preserved c =
    let w = c.args.word.now in
    let k = c.loop-k.k in
    let six : 6 * k + 6 - 6 * k ≡ 6 = omega arith in
    let next : 6 * k + 6 ≡ 6 * (k + 1) = omega arith in
    let fits : 6 * k + 6 ≤ length w = omega arith in
    let is : colour_of (take 6 (drop (6 * k) w)) ≡ Some c.in-Some.colour = ap (λ n. colour_of (take n (drop (6 * k) w))) (sym six) ∙ sym c.colour_of.ensures.value ∙ c.in-Some.is in
    record {
      value = rw c.in_ok-push-in-Some.ensures.items (colours-more c.loop-k.pixels.items w (6 * k) c.in-Some.colour fits c.loop-k.invariant.value is ∙ ap (λ n. onto_colours (c.loop-k.pixels.items ++ c.in-Some.colour ∷ []) (colours (drop n w))) next);
      count = omega (arith, c.in_ok-push-in-Some.ensures.len);
      spellable = rw c.in_ok-push-in-Some.ensures.items (All-push IsSpellableColour c.loop-k.pixels.items c.in-Some.colour c.loop-k.invariant.spellable c.in-Some.ensures.spellable);
    }

pub returns-clause-value : goal.returns-clause-value
returns-clause-value c =
    let w = c.args.word.now in
    let over : length w ≤ 6 * c.loop-k.k = omega (arith, c.loop-k-test.false) in
    rw c.from_vec.ensures (ap (or_cause BadColour) (n_colours-some c.args.count w c.if-word-count.false ∙ colours-end c.loop-k.pixels.items w (6 * c.loop-k.k) over c.loop-k.invariant.value))
