use Rattle.std.proofs.Common.{◌≡◌, ◌-◌, ◌++◌, sym, ◌∙◌, ap, append_assoc, arith}
use Rattle.std.proofs.lemmas.Result.{on_ok_weaker}
use Rattle.h265_model.specs.Bits.{u}
use Rattle.h265_model.specs.Fields.{element_bits}
use Rattle.bit_string.specs.Tables.{descriptor_of}
use Rattle.bit_string.proofs.TableLaws.{u-long}
use Rattle.bit_string.proofs.fields.write_field.Goals as goal

pub returns-then-width-gt32 : goal.returns-then-width-gt32
returns-then-width-gt32 c =
    let n = c.in-U.width in
    let v = c.args.field.value in
    let old = c.args.out.now in
    let last = c.put-then-width-gt32 in
    let coding = ap (λ d. element_bits (descriptor_of d) v) c.in-U.is in
    let whole = λ (is : last.new.self ≡ c.put.new.self ++ u 32 v).
    is ∙ ap (λ l. l ++ u 32 v) c.in_ok-put-in-U.ensures.ok ∙ append_assoc old (u (n - 32) 0) (u 32 v) ∙ ap (λ l. old ++ l) (u-long n v (omega arith) (omega arith) ∙ sym coding) in
    on_ok_weaker last.result whole last.ensures.ok
