use Rattle.std.proofs.Common.{◌≡◌, ℕ, suc, ◌+◌, ◌-◌, ◌∙◌, List, Bool, Some, None, option_map, Option, refl, sym, ap, subst, arith}
use Rattle.std.proofs.lemmas.Nat.{one_shl}
use Rattle.h265_model.specs.Bits.{read_u, read_alignment}
use Rattle.bit_string.specs.Parts.{Cursor, moved_to}
use Rattle.bit_string.proofs.Codes.{first, second, aligned_none, aligned_other, aligned, spare_bits}
use Rattle.bit_string.proofs.reader.BitReader.align_one.Goals as goal

abbrev done : Option (List Bool) → Option (Unit {0})
done r = option_map (λ _. tt) r

pub returns-in_err-bits-clause-value : goal.returns-in_err-bits-clause-value
returns-in_err-bits-clause-value c =
    let r = c.ahead.inside in
    let k = 7 - r.bit in
    let old = c.twin-ahead.result in
    let n : k + 1 ≡ suc k = omega arith in
    let P : ℕ → Type 0 = λ n. None ≡ first (read_u n old.left) in
    let none = aligned_none k old.left (spare_bits r.bytes.now r.index r.bit old c.ahead.view_is c.ahead.invariant.0) (subst P n c.in_err-bits.ensures.value) in
    rw c.from_residual.ensures (ap done (sym none) ∙ ap (λ (k : Cursor). done (read_alignment k.left)) c.twin-ahead.ensures)

pub returns-in_err-bits-clause-after : goal.returns-in_err-bits-clause-after
returns-in_err-bits-clause-after c =
    let r = c.ahead.inside in
    let k = 7 - r.bit in
    let old = c.twin-ahead.result in
    let n : k + 1 ≡ suc k = omega arith in
    let P : ℕ → Type 0 = λ n. None ≡ first (read_u n old.left) in
    let none = aligned_none k old.left (spare_bits r.bytes.now r.index r.bit old c.ahead.view_is c.ahead.invariant.0) (subst P n c.in_err-bits.ensures.value) in
    let Q : Cursor → Type 0 = λ old. old ≡ moved_to (read_alignment old.left) old in
    subst Q c.twin-ahead.ensures (ap (λ r. moved_to r old) (sym none))

pub returns-then-branch-zeros-clause-value : goal.returns-then-branch-zeros-clause-value
returns-then-branch-zeros-clause-value c =
    let r = c.ahead.inside in
    let k = 7 - r.bit in
    let old = c.twin-ahead.result in
    let n : k + 1 ≡ suc k = omega arith in
    let v = c.in_ok-bits.field-0 in
    let P : ℕ → Type 0 = λ n. Some v ≡ first (read_u n old.left) in
    let none = aligned_other k v old.left (spare_bits r.bytes.now r.index r.bit old c.ahead.view_is c.ahead.invariant.0) (subst P n c.in_ok-bits.ensures.value) (λ e. c.if-branch-zeros.true (e ∙ sym (one_shl k 32 (omega arith)))) in
    ap done (sym none) ∙ ap (λ (k : Cursor). done (read_alignment k.left)) c.twin-ahead.ensures

pub returns-then-branch-zeros-clause-after : goal.returns-then-branch-zeros-clause-after
returns-then-branch-zeros-clause-after c =
    let r = c.ahead.inside in
    let k = 7 - r.bit in
    let old = c.twin-ahead.result in
    let n : k + 1 ≡ suc k = omega arith in
    let v = c.in_ok-bits.field-0 in
    let P : ℕ → Type 0 = λ n. Some v ≡ first (read_u n old.left) in
    let none = aligned_other k v old.left (spare_bits r.bytes.now r.index r.bit old c.ahead.view_is c.ahead.invariant.0) (subst P n c.in_ok-bits.ensures.value) (λ e. c.if-branch-zeros.true (e ∙ sym (one_shl k 32 (omega arith)))) in
    let Q : Cursor → Type 0 = λ old. old ≡ moved_to (read_alignment old.left) old in
    subst Q c.twin-ahead.ensures (ap (λ r. moved_to r old) (sym none))

some_done : (v : ℕ) (r : Option (ℕ × List Bool)) → Some v ≡ first r → Some tt ≡ done (second r)
some_done v None e = absurd (cc)
some_done v (Some f) e = refl

pub returns-clause-value : goal.returns-clause-value
returns-clause-value c =
    let r = c.ahead.inside in
    let k = 7 - r.bit in
    let old = c.twin-ahead.result in
    let n : k + 1 ≡ suc k = omega arith in
    let v = c.in_ok-bits.field-0 in
    let P : ℕ → Type 0 = λ n. Some v ≡ first (read_u n old.left) in
    let value = subst P n c.in_ok-bits.ensures.value in
    let some = aligned k v old.left (spare_bits r.bytes.now r.index r.bit old c.ahead.view_is c.ahead.invariant.0) value (c.if-branch-zeros.false ∙ one_shl k 32 (omega arith)) in
    some_done v (read_u (suc k) old.left) value ∙ ap done (sym some) ∙ ap (λ (k : Cursor). done (read_alignment k.left)) c.twin-ahead.ensures

pub returns-clause-after : goal.returns-clause-after
returns-clause-after c =
    let r = c.ahead.inside in
    let k = 7 - r.bit in
    let old = c.twin-ahead.result in
    let n : k + 1 ≡ suc k = omega arith in
    let v = c.in_ok-bits.field-0 in
    let P : ℕ → Type 0 = λ n. Some v ≡ first (read_u n old.left) in
    let some = aligned k v old.left (spare_bits r.bytes.now r.index r.bit old c.ahead.view_is c.ahead.invariant.0) (subst P n c.in_ok-bits.ensures.value) (c.if-branch-zeros.false ∙ one_shl k 32 (omega arith)) in
    let new = c.bits.new.self in
    let Q : ℕ → Type 0 = λ n. new ≡ moved_to (second (read_u n old.left)) old in
    let R : Cursor → Type 0 = λ old. new ≡ moved_to (read_alignment old.left) old in
    subst R c.twin-ahead.ensures (subst Q n c.in_ok-bits.ensures.after ∙ ap (λ r. moved_to r old) (sym some))
