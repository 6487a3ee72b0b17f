use Rattle.std.proofs.Common.{◌≡◌, ◌+◌, ◌/◌, ◌%◌, Some, true, pos, refl, ◌∙◌, ap, arith}
use Rattle.std.specs.Prelude.{◌==◌}
use Rattle.std.proofs.lemmas.Int.{ints, to_z-of_z}
use Rattle.std.proofs.lemmas.Bool.Decides.{nat_tests}
use Rattle.h265_model.specs.Bits.{signed_of, read_ue}
use Rattle.bit_string.proofs.Codes.{signed_value}
use Rattle.bit_string.proofs.reader.BitReader.se.Goals as goal

pub overflow_add-result : goal.overflow_add-result
overflow_add-result c = let below = c.in_ok-code.ensures.most in omega (arith, ints)

pub returns-then-code-eq1-clause-value : goal.returns-then-code-eq1-clause-value
returns-then-code-eq1-clause-value c =
    let code = c.in_ok-code.code in
    let odd : (code % 2 == 1) ≡ true = grind (arith, nat_tests) in
    let half : pos ((code + 1) / 2) ≡ signed_of code = rw odd refl in
    ap Some (grind (arith, ints, to_z-of_z)) ∙ ap Some half ∙ signed_value code (read_ue c.args.self.now.left) c.in_ok-code.ensures.value
