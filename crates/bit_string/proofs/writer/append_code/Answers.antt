use Rattle.std.proofs.Common.{◌≡◌, ℕ, ◌+◌, ◌%◌, ◌++◌, List, Bool, false, replicate, IfOk, ◌∙◌, ap, subst, append_assoc, arith}
use Rattle.h265_model.specs.Bits.{bits, u}
use Rattle.bit_string.proofs.Digits.{u-zero}
use Rattle.bit_string.proofs.writer.append_code.Goals as goal

after_both : (held more n : ℕ) → ((held + more) % 8 + n) % 8 ≡ (held + more + n) % 8
after_both held more n = omega arith

pub returns-clause-ok : goal.returns-clause-ok
returns-clause-ok c =
    let front = bits c.args.bytes.now.items ++ u c.args.held c.args.last in
    let zeros = c.args.zeros in
    let code = u c.args.n c.args.v in
    let P : ℕ → List Bool → Type 0 = λ m l. IfOk c.append_bits-2.result (λ after. bits c.append_bits-2.new.bytes.items ++ u m after ≡ l) in
    let whole = ap (λ l. l ++ code) (c.in_ok-middle.ensures.ok ∙ ap (λ l. front ++ l) (u-zero zeros)) ∙ append_assoc front (replicate zeros false) code in
    subst (λ (m : ℕ). P m (front ++ (replicate zeros false ++ code))) (after_both c.args.held zeros c.args.n)
    (subst (P (((c.args.held + zeros) % 8 + c.args.n) % 8)) whole c.append_bits-2.ensures.ok)
