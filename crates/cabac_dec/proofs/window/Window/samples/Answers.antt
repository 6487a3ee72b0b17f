use Rattle.std.proofs.Common.{◌≡◌, ◌∙◌, ap, sym, subst, List, ℕ, ◌*◌, ◌+◌, length, take, drop, Some, arith}
use Rattle.std.proofs.lemmas.List.{take_rest, length-drop}
use Rattle.h265_model.specs.Plain.{AreBytes}
use Rattle.cabac_dec.specs.State.{Reading, left}
use Rattle.cabac_dec.proofs.Bins.{few_left, enough_left}
use Rattle.cabac_dec.proofs.window.Window.samples.Goals as goal

pub returns-then-rest-out : goal.returns-then-rest-out
returns-then-rest-out c =
    let i = c.self.inside in
    let r = c.args.self.now in
    let b : i.bytes.now ≡ r.bytes = ap (λ (x : Reading). x.bytes) c.self.view_is in
    let few = (rw take_rest at c.if-rest-out.true) in
    few_left (length c.args.out.now) c.in_ok-at.at r c.in_ok-at.ensures (subst AreBytes b c.self.invariant.are_bytes)
    (omega (arith, few, length-drop c.in_ok-at.at i.bytes.now, ap length b))

pub returns : goal.returns
returns c =
    let i = c.self.inside in
    let r = c.args.self.now in
    let n = length c.args.out.now in
    let at = c.in_ok-at.at in
    let b : i.bytes.now ≡ r.bytes = ap (λ (x : Reading). x.bytes) c.self.view_is in
    let few = (rw take_rest at c.if-rest-out.false) in
    let out : c.copy_from_slice.new.self ≡ take n (drop at r.bytes) = (rw take_rest at c.copy_from_slice.ensures.after) ∙ ap (λ (l : List ℕ). take n (drop at l)) b in
    let is : c.at.result ≡ record { bytes = r.bytes; place = 8 * (at + n); offset = 0; ahead = 0 } =
    c.at.ensures ∙ ap (λ (l : List ℕ). record { bytes = l; place = 8 * (at + n); offset = 0; ahead = 0 }) b in (
      ap (λ (x : Reading). x.offset) is,
      enough_left n at r c.at.result c.in_ok-at.ensures (subst AreBytes b c.self.invariant.are_bytes) (omega (arith, few, length-drop at i.bytes.now, ap length b)) is
          ∙ ap (λ (l : List ℕ). Some (l, left c.at.result)) (sym out),
    )
