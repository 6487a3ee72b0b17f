use Rattle.std.proofs.Common.{◌-◌, ◌++◌, ◌∷◌, [], ◌∙◌, ap, append_assoc, bit_and, ◌/◌, ◌^◌, ◌≡◌, arith}
use Rattle.std.proofs.lemmas.Nat.{and_mask}
use Rattle.h265_model.specs.Bits.{bits, u}
use Rattle.bit_string.proofs.Digits.{move_byte}
use Rattle.bit_string.proofs.writer.append_bytes.Goals as goal

pub loop-left-preserved : goal.loop-left-preserved
loop-left-preserved c =
    let left = c.loop-left.left - 8 in
    let b = bit_and (c.args.word / 2 ^ left) 255 in
    let items = c.loop-left.bytes.items in
    let push : c.push.new.self.items ≡ items ++ b ∷ [] = c.in_ok-push.ensures.items in
    let known = c.loop-left.invariant in
    record {
      fewer = omega arith;
      spare = omega arith;
      same =
          ap (λ l. bits l ++ u left c.args.word) push
          ∙ move_byte items left c.loop-left.left c.args.word b (omega arith) (and_mask (c.args.word / 2 ^ left) 8)
          ∙ known.same;
      kept = (known.kept.0 ++ b ∷ [], push ∙ ap (λ l. l ++ b ∷ []) known.kept.1 ∙ append_assoc c.args.bytes.now.items known.kept.0 (b ∷ []));
    }
