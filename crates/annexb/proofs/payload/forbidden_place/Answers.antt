use Rattle.std.proofs.Common.{ℕ, List, ◌≡◌, ◌+◌, ◌<◌, ◌≤◌, length, drop, sym, ◌∙◌, ap, subst, arith, Some, get_or}
use Rattle.std.proofs.lemmas.List.{length-drop}
use Rattle.h265_model.specs.NalUnits.{forbidden}
use Rattle.annexb.proofs.Payloads.{forbidden-plain, forbidden-two, forbidden-three, forbidden-skip, rest_is}
use Rattle.annexb.proofs.payload.forbidden_place.Goals as goal
use Rattle.annexb.proofs.payload.forbidden_place.Goals.{else-next-rest-via-then-next-rest+else-rest-next-gt3, else-next-rest-via-else-next-rest}

pub returns-then-mark-rest : goal.returns-then-mark-rest
returns-then-mark-rest c = λ at.
    let found = c.find_mark-mark.ensures in
    let rest = c.loop-rest.rest.now in
    c.loop-rest.invariant.1 at ∙ forbidden-plain (at + c.loop-rest.passed) rest c.find_mark-mark.result (omega arith) found.plain

pub returns-then-rest-mark-eq2 : goal.returns-then-rest-mark-eq2
returns-then-rest-mark-eq2 c =
    let found = c.find_mark-mark.ensures in
    let rest = c.loop-rest.rest.now in
    let mark = c.find_mark-mark.result in
    let inside : mark < length rest = omega arith in
    let whole = c.loop-rest.invariant.0 in (
      omega (arith, whole),
      λ at.
          c.loop-rest.invariant.1 at
          ∙ forbidden-two (at + c.loop-rest.passed) rest mark inside found.plain (found.mark inside) c.if-rest-mark-eq2.true
          ∙ ap Some (omega arith),
    )

pub returns-then-rest-next-gt3 : goal.returns-then-rest-next-gt3
returns-then-rest-next-gt3 c =
    let found = c.find_mark-mark.ensures in
    let rest = c.loop-rest.rest.now in
    let mark = c.find_mark-mark.result in
    let inside : mark < length rest = omega arith in
    let is = found.mark inside in
    let three : get_or rest mark 0 ≡ 3 = omega (arith, is.low, is.high) in
    let whole = c.loop-rest.invariant.0 in (
      omega (arith, whole),
      λ at.
          c.loop-rest.invariant.1 at
          ∙ forbidden-three (at + c.loop-rest.passed) rest mark c.if-next-rest.true found.plain is three c.if-rest-next-gt3.true
          ∙ ap Some (omega arith),
    )

pub loop-rest-preserved : goal.loop-rest-preserved
loop-rest-preserved c =
    let found = c.find_mark-mark.ensures in
    let rest = c.loop-rest.rest.now in
    let mark = c.find_mark-mark.result in
    let inside : mark < length rest = omega arith in
    let is = found.mark inside in
    let three : get_or rest mark 0 ≡ 3 = omega (arith, is.low, is.high) in
    let few : mark + 1 < length rest → get_or rest (mark + 1) 0 ≤ 3 = λ h.
    elim c.else-next-rest.branch [
      | else-next-rest-via-then-next-rest+else-rest-next-gt3 w ↦ omega (arith, w.if-rest-next-gt3.false)
      | else-next-rest-via-else-next-rest w ↦ omega (arith, w.if-next-rest.false)
    ] in
    let next = c.loop-rest.passed + (mark + 1) in
    let P : List ℕ → Type 0 = λ l.
    (next + length l ≡ length c.args.bytes.now) × ((at : ℕ) → forbidden at c.args.bytes.now ≡ forbidden (at + next) l) in
    subst P (sym (rest_is (mark + 1) rest)) (
      omega (arith, c.loop-rest.invariant.0, length-drop (mark + 1) rest),
      λ at.
          c.loop-rest.invariant.1 at
          ∙ forbidden-skip (at + c.loop-rest.passed) rest mark inside found.plain is three few
          ∙ ap (λ k. forbidden k (drop (mark + 1) rest)) (omega arith),
    )
