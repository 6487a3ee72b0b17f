use Rattle.std.proofs.Common.{◌≡◌, ◌%◌, length, ◌∙◌, ap}
use Rattle.std.proofs.lemmas.Result.{on_ok_weaker}
use Rattle.h265_model.specs.Fields.{aligned_bits}
use Rattle.h265_model.proofs.FieldLaws.{length-aligned_bits}
use Rattle.bit_string.proofs.Digits.{u-alignment}
use Rattle.bit_string.proofs.writer.BitWriter.align_one.Goals as goal

pub returns-clause-ok : goal.returns-clause-ok
returns-clause-ok c =
    let written = u-alignment c.self.inside.bytes.items c.self.inside.held c.self.inside.last c.args.self.now c.self.view_is c.self.invariant in
    rw written at c.put.ensures.ok

pub returns-clause-whole : goal.returns-clause-whole
returns-clause-whole c =
    let old = c.args.self.now in
    let whole = λ (is : c.put.new.self ≡ aligned_bits old). ap (λ bs. length bs % 8) is ∙ length-aligned_bits old in
    on_ok_weaker c.put.result whole (returns-clause-ok c)
