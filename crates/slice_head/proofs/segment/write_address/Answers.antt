use Rattle.std.proofs.Common.{◌≡◌, ◌++◌, sym, ◌∙◌, ap, append_assoc}
use Rattle.std.proofs.lemmas.Result.{on_ok_weaker}
use Rattle.std.proofs.lemmas.List.{append-nil}
use Rattle.h265_model.specs.Bits.{u, ue}
use Rattle.h265_model.specs.Fields.{fields_bits}
use Rattle.h265_model.specs.SliceHead.{address_bits}
use Rattle.slice_head.proofs.segment.write_address.Goals as goal

pub returns : goal.returns
unfolding fields_bits
returns c =
    let old = c.args.out.now in
    let address = u (address_bits c.args.ctus) c.args.address in
    let written = λ (is : c.ue.new.self ≡ c.put.new.self ++ ue 0).
    is
    ∙ ap (λ l. l ++ ue 0) (c.in_ok-put.ensures.ok ∙ ap (λ n. old ++ u n c.args.address) c.address_bits.ensures.count)
    ∙ append_assoc old address (ue 0)
    ∙ ap (λ l. old ++ (address ++ l)) (sym (append-nil (ue 0))) in
    on_ok_weaker c.ue.result written c.ue.ensures.ok
