use Rattle.std.proofs.Common.{ℕ, List, ◌≡◌, ◌+◌, ◌<◌, ◌≤◌, length, sym, subst, arith}
use Rattle.std.proofs.lemmas.List.{length-drop}
use Rattle.h265_model.specs.Decode.{start_codes}
use Rattle.annexb.proofs.Payloads.{rest_is}
use Rattle.annexb.proofs.StartCounts.{codes-plain, codes-mark}
use Rattle.annexb.proofs.starts.start_codes.Goals as goal

pub returns-then-mark-rest : goal.returns-then-mark-rest
returns-then-mark-rest c =
    let found = c.find_mark-mark.ensures in
    let none = codes-plain c.loop-rest.rest.now c.find_mark-mark.result (omega arith) found.plain in
    omega (arith, none, c.loop-rest.invariant.1)

pub loop-rest-preserved : goal.loop-rest-preserved
loop-rest-preserved c =
    let found = c.find_mark-mark.ensures in
    let rest = c.loop-rest.rest.now in
    let mark = c.find_mark-mark.result in
    let inside : mark < length rest = omega arith in
    let step = codes-mark rest mark inside found.plain (found.mark inside) in
    let count = c.loop-rest.count + 1 in
    let P : List ℕ → Type 0 = λ l. (count + length l ≤ length c.args.bytes.now) × (count + start_codes l ≡ start_codes c.args.bytes.now) in
    subst P (sym (rest_is (mark + 1) rest)) (
      omega (arith, c.loop-rest.invariant.0, length-drop (mark + 1) rest),
      omega (arith, c.loop-rest.invariant.1, step),
    )
