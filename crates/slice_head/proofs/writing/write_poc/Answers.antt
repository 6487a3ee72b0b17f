use Rattle.std.proofs.Common.{◌≡◌, ◌++◌, sym, ◌∙◌, ap}
use Rattle.std.proofs.lemmas.Result.{on_ok_weaker}
use Rattle.std.proofs.lemmas.List.{append-nil}
use Rattle.h265_model.specs.Bits.{u}
use Rattle.h265_model.specs.Fields.{fields_bits}
use Rattle.h265_model.specs.SliceHead.{poc_fields}
use Rattle.slice_head.proofs.writing.write_poc.Goals as goal

pub returns-then-idr : goal.returns-then-idr
unfolding fields_bits
returns-then-idr c =
    let old = c.args.out.now in
    sym (append-nil old) ∙ ap (λ idr. old ++ fields_bits (poc_fields idr c.args.poc)) (sym c.if-idr.true)

pub returns : goal.returns
unfolding fields_bits
returns c =
    let old = c.args.out.now in
    let poc = c.args.poc in
    let written = λ (is : c.put.new.self ≡ old ++ u 8 poc).
    is ∙ ap (λ l. old ++ l) (sym (append-nil (u 8 poc))) ∙ ap (λ idr. old ++ fields_bits (poc_fields idr poc)) (sym c.if-idr.false) in
    on_ok_weaker c.put.result written c.put.ensures.ok
