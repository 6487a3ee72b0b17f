use Rattle.std.proofs.Common.{◌≡◌, ◌+◌, ◌++◌, ◌<◌, ℕ, List, length, take, drop, sym, ◌∙◌, ap, subst, arith, append_assoc}
use Rattle.std.proofs.lemmas.List.{take_all}
use Rattle.h265_model.specs.NalUnits.{unescape}
use Rattle.annexb.proofs.Payloads.{unescape-plain, unescape-mark, rest_is}
use Rattle.annexb.proofs.payload.unescape.Goals as goal

pub returns-then-mark-rest : goal.returns-then-mark-rest
returns-then-mark-rest c =
    let found = c.find_mark-mark.ensures in
    let rest = c.loop-rest.rest.now in
    let mark = c.find_mark-mark.result in
    let plain : unescape rest ≡ rest = unescape-plain rest mark (omega arith) found.plain in
    let whole : take mark rest ≡ rest = take_all mark rest (omega arith) in
    c.in_ok-extend_from_slice.ensures.items ∙ ap (λ l. c.loop-rest.out.items ++ l) (whole ∙ sym plain) ∙ c.loop-rest.invariant

pub loop-rest-preserved : goal.loop-rest-preserved
loop-rest-preserved c =
    let found = c.find_mark-mark.ensures in
    let rest = c.loop-rest.rest.now in
    let mark = c.find_mark-mark.result in
    let inside : mark < length rest = omega arith in
    let step : unescape rest ≡ take mark rest ++ unescape (drop (mark + 1) rest) = unescape-mark rest mark inside found.plain (found.mark inside) in
    let P : List ℕ → Type 0 = λ l. c.extend_from_slice.new.self.items ++ unescape l ≡ unescape c.args.bytes.now in
    subst P (sym (rest_is (mark + 1) rest))
    (ap (λ l. l ++ unescape (drop (mark + 1) rest)) c.in_ok-extend_from_slice.ensures.items
    ∙ append_assoc c.loop-rest.out.items (take mark rest) (unescape (drop (mark + 1) rest))
    ∙ ap (λ l. c.loop-rest.out.items ++ l) (sym step)
    ∙ c.loop-rest.invariant)
