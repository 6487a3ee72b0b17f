use Rattle.std.proofs.Common.{◌≡◌, ◌+◌, ◌-◌, ℕ, List, [], ◌∷◌, ◌++◌, length, take, drop, sym, subst, arith, Ok, Err, rules, false}
use Rattle.std.specs.Prelude.{◌&&◌, nat_lt}
use Rattle.std.proofs.lemmas.List.{length-take-le}
use Rattle.h265_model.specs.NalUnits.{NalUnit, nal_unit_of, only_zeros, units}
use Rattle.annexb.proofs.Payloads.{rest_is}
use Rattle.annexb.proofs.StartCodes.{zeros-all, zeros-not}
use Rattle.annexb.proofs.Streams.{IsReadSoFar, found_at, not_found, not_only_zeros, no_bytes, only_zeros-refused, read-start, read-unit, read-end, read-refused_start, read-refused_unit}
use Rattle.annexb.proofs.walk.check.Goals as goal
use Rattle.annexb.proofs.walk.check.Goals.{else-len-gt0-via-then-len-gt0+else-front_zeros-len, else-len-gt0-via-else-len-gt0}

pub returns-then-front_zeros-len-clause-refused : goal.returns-then-front_zeros-len-clause-refused
returns-then-front_zeros-len-clause-refused c =
    let front = c.front_zeros.ensures in
    only_zeros-refused c.args.bytes.now c.if-len-gt0.true
    (zeros-all c.args.bytes.now c.front_zeros.result (record { within = front.within; zeros = front.zeros; other = front.other }) c.if-front_zeros-len.true)

pub loop-start-init : goal.loop-start-init
loop-start-init c =
    let bytes = c.args.bytes.now in
    let others : (nat_lt 0 (length bytes) && only_zeros bytes) ≡ false =
    elim c.else-len-gt0.branch [
      | else-len-gt0-via-then-len-gt0+else-front_zeros-len w ↦
          let front = w.front_zeros.ensures in
          not_only_zeros bytes
          (zeros-not bytes w.front_zeros.result (record { within = front.within; zeros = front.zeros; other = front.other }) (omega (arith, front.within, w.if-front_zeros-len.false)))
      | else-len-gt0-via-else-len-gt0 w ↦ no_bytes bytes (omega (arith, w.if-len-gt0.false))
    ] in
    ([], read-start bytes others)

pub returns-in_err-start-clause-refused : goal.returns-in_err-start-clause-refused
returns-in_err-start-clause-refused c =
    let so = c.loop-start.invariant in
    let bad = c.in_err-start.field-0.0 in
    let refused : units c.args.bytes.now ≡ Err bad.at =
    read-refused_start c.args.bytes.now so.0 c.loop-start.place bad.at so.1 c.in_err-start.ensures.refused in
    let given = c.from_residual.ensures in
    search (rules, refused)

pub returns-in_err-check_payload-clause-refused : goal.returns-in_err-check_payload-clause-refused
returns-in_err-check_payload-clause-refused c =
    let bytes = c.args.bytes.now in
    let start = c.in-Some.start in
    let n = c.payload_len.result in
    let so = c.loop-start.invariant in
    let bad = c.in_err-check_payload.field-0.0 in
    let found = found_at bytes c.loop-start.place start n c.in_ok-start.field-0 c.in-Some.is c.in_ok-start.ensures.found c.payload_len.ensures.front c.payload_len.ensures.within in
    let P : List ℕ → Type 0 = λ l. nal_unit_of start (take n l) ≡ Err bad.at in
    let refused : units bytes ≡ Err bad.at =
    read-refused_unit bytes so.0 c.loop-start.place start n bad.at so.1 found (subst P (rest_is start bytes) c.in_err-check_payload.ensures.refused) in
    let given = c.from_residual-in_err-check_payload.ensures in
    search (rules, refused)

pub loop-start-preserved : goal.loop-start-preserved
loop-start-preserved c =
    let bytes = c.args.bytes.now in
    let start = c.in-Some.start in
    let n = c.payload_len.result in
    let so = c.loop-start.invariant in
    let l : List ℕ = take (length bytes - start) (drop start bytes) in
    let found = found_at bytes c.loop-start.place start n c.in_ok-start.field-0 c.in-Some.is c.in_ok-start.ensures.found c.payload_len.ensures.front c.payload_len.ensures.within in
    let read = c.in_ok-check_payload.ensures.read in
    let P : List ℕ → Type 0 = λ l. nal_unit_of start (take n l) ≡ Ok read.0 in
    let unit = subst P (rest_is start bytes) read.1 in
    let list : List NalUnit = so.0 ++ read.0 ∷ [] in
    let Q : ℕ → Type 0 = λ k. IsReadSoFar bytes list (start + k) in
    (list, subst Q (sym (length-take-le n l c.payload_len.ensures.within)) (read-unit bytes so.0 c.loop-start.place start n read.0 so.1 found unit))

pub returns-clause-read : goal.returns-clause-read
returns-clause-read c =
    let so = c.loop-start.invariant in
    let none = not_found c.args.bytes.now c.loop-start.place c.in_ok-start.field-0 c.in_default.is c.in_ok-start.ensures.found in
    (so.0, read-end c.args.bytes.now so.0 c.loop-start.place so.1 none)
