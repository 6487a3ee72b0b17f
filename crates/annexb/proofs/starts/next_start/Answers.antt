use Rattle.std.proofs.Common.{ℕ, List, ◌≡◌, ◌+◌, ◌-◌, ◌<◌, suc, length, take, drop, get_or, sym, ◌∙◌, ap, subst, arith, Ok, Some}
use Rattle.std.proofs.lemmas.List.{length-drop}
use Rattle.h265_model.specs.NalUnits.{next_start}
use Rattle.annexb.proofs.Payloads.{rest_is}
use Rattle.annexb.proofs.StartCodes.{start-none, start-found, start-refused, later_drop}
use Rattle.annexb.proofs.starts.next_start.Goals as goal
use Rattle.annexb.proofs.starts.next_start.Goals.{else-zeros-ge2-via-then-zeros-ge2+else-rest-zeros-eq1, else-zeros-ge2-via-else-zeros-ge2}

pub returns-then-zeros-rest-clause-found : goal.returns-then-zeros-rest-clause-found
returns-then-zeros-rest-clause-found c =
    let front = c.front_zeros-zeros.ensures in
    let place = c.args.place in
    let bytes = c.args.bytes.now in
    let l : List ℕ = take (length bytes - place) (drop place bytes) in
    ap (next_start place 0) (sym (rest_is place bytes))
    ∙ start-none place 0 l c.front_zeros-zeros.result (record { within = front.within; zeros = front.zeros; other = front.other }) c.if-zeros-rest.true

pub returns-then-rest-zeros-eq1-clause-found : goal.returns-then-rest-zeros-eq1-clause-found
returns-then-rest-zeros-eq1-clause-found c =
    let front = c.front_zeros-zeros.ensures in
    let place = c.args.place in
    let bytes = c.args.bytes.now in
    let n = c.front_zeros-zeros.result in
    let l : List ℕ = take (length bytes - place) (drop place bytes) in
    let inside : n < length l = omega (arith, front.within, c.if-zeros-rest.false) in
    let long = ap length (rest_is place bytes) ∙ length-drop place bytes in
    let P : List ℕ → Type 0 = λ l. next_start place 0 l ≡ Ok (Some (place + suc n, drop (suc n) l)) in (
      omega arith,
      omega (arith, inside, long, c.requires),
      later_drop place n bytes (next_start place 0 (drop place bytes))
          (subst P (rest_is place bytes) (start-found place 0 l n (record { within = front.within; zeros = front.zeros; other = front.other }) inside c.if-rest-zeros-eq1.true (omega (arith, c.if-zeros-ge2.true)))),
    )

pub returns-else-zeros-ge2-clause-refused : goal.returns-else-zeros-ge2-clause-refused
returns-else-zeros-ge2-clause-refused c =
    let front = c.front_zeros-zeros.ensures in
    let place = c.args.place in
    let bytes = c.args.bytes.now in
    let n = c.front_zeros-zeros.result in
    let l : List ℕ = take (length bytes - place) (drop place bytes) in
    let inside : n < length l = omega (arith, front.within, c.if-zeros-rest.false) in
    let few : get_or l n 0 ≡ 1 → n < 2 = λ one.
    elim c.else-zeros-ge2.branch [
      | else-zeros-ge2-via-then-zeros-ge2+else-rest-zeros-eq1 w ↦ absurd (w.if-rest-zeros-eq1.false one)
      | else-zeros-ge2-via-else-zeros-ge2 w ↦ omega (arith, w.if-zeros-ge2.false)
    ] in
    ap (next_start place 0) (sym (rest_is place bytes))
    ∙ start-refused place 0 l n (record { within = front.within; zeros = front.zeros; other = front.other }) inside (λ one. omega (arith, few one))
