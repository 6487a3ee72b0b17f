use Rattle.std.proofs.Common.{◌+◌, ◌-◌, ◌^◌, Some, ◌∙◌, ap, subst, arith}
use Rattle.std.proofs.lemmas.Nat.{one_shl}
use Rattle.h265_model.specs.Bits.{read_ue}
use Rattle.bit_string.specs.Parts.{Cursor}
use Rattle.bit_string.proofs.Codes.{Found, found, code_below}
use Rattle.bit_string.proofs.reader.BitReader.ue.Goals as goal

pub overflow_add-result : goal.overflow_add-result
overflow_add-result c =
    let below = code_below c.in_ok-zeros.zeros c.in_ok-low.low c.zeros.new.self.left c.in_ok-zeros.ensures.found.0 c.in_ok-low.ensures.value in
    omega arith

pub returns-clause-most : goal.returns-clause-most
returns-clause-most c = code_below c.in_ok-zeros.zeros c.in_ok-low.low c.zeros.new.self.left c.in_ok-zeros.ensures.found.0 c.in_ok-low.ensures.value

pub returns-clause-value : goal.returns-clause-value
returns-clause-value c =
    let z = c.in_ok-zeros.zeros in
    let low = c.in_ok-low.low in
    let known = c.in_ok-zeros.ensures.found in
    let P : Cursor → Type 0 = λ old. Found (read_ue old.left) (2 ^ z - 1 + low) old c.bits.new.self in
    let f = subst P c.twin-ahead.ensures (found z low c.twin-ahead.result c.zeros.new.self c.bits.new.self known.1 known.2 c.in_ok-low.ensures.value c.in_ok-low.ensures.after) in
    ap (λ p. Some (p - 1 + low)) (one_shl z 32 known.0) ∙ f.value

pub returns-clause-after : goal.returns-clause-after
returns-clause-after c =
    let z = c.in_ok-zeros.zeros in
    let low = c.in_ok-low.low in
    let known = c.in_ok-zeros.ensures.found in
    let P : Cursor → Type 0 = λ old. Found (read_ue old.left) (2 ^ z - 1 + low) old c.bits.new.self in
    let f = subst P c.twin-ahead.ensures (found z low c.twin-ahead.result c.zeros.new.self c.bits.new.self known.1 known.2 c.in_ok-low.ensures.value c.in_ok-low.ensures.after) in
    f.after
