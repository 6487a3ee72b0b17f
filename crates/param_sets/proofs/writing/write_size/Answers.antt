use Rattle.std.proofs.Common.{◌≡◌, ◌-◌, ◌++◌, sym, ◌∙◌, ap}
use Rattle.std.proofs.lemmas.Result.{on_ok_weaker}
use Rattle.h265_model.specs.Plain.{Size, coded}
use Rattle.h265_model.specs.Fields.{fields_bits}
use Rattle.h265_model.specs.ParamSets.{size_fields}
use Rattle.h265_model.specs.Bits.{u, ue}
use Rattle.param_sets.proofs.Writes.{size-whole, size-window, three, four, size_is}
use Rattle.param_sets.proofs.writing.write_size.Goals as goal

pub returns-then-right-bottom-eq0 : goal.returns-then-right-bottom-eq0
returns-then-right-bottom-eq0 c =
    let old = c.args.out.now in
    let w = c.w-w.result in
    let h = c.h-h.result in
    let size : Size = record { w = w; h = h } in
    let is_size = ap (λ s. old ++ fields_bits (size_fields s)) (size_is c.args.size w h c.w-w.ensures.value c.h-h.ensures.value) in
    let whole = λ (is : c.put.new.self ≡ c.ue-2.new.self ++ u 1 0).
    is ∙ ap (λ l. l ++ u 1 0) (c.in_ok-ue-2.ensures.ok ∙ ap (λ l. l ++ ue (coded h)) c.in_ok-ue.ensures.ok)
    ∙ three old (ue (coded w)) (ue (coded h)) (u 1 0)
    ∙ ap (λ l. old ++ l) (sym (size-whole size c.if-right-bottom-eq0.true))
    ∙ is_size in
    on_ok_weaker c.put.result whole c.put.ensures.ok

pub returns : goal.returns
returns c =
    let old = c.args.out.now in
    let w = c.w-w.result in
    let h = c.h-h.result in
    let size : Size = record { w = w; h = h } in
    let is_size = ap (λ s. old ++ fields_bits (size_fields s)) (size_is c.args.size w h c.w-w.ensures.value c.h-h.ensures.value) in
    let right = coded w - w in
    let bottom = coded h - h in
    let window = ue 0 ++ (ue right ++ (ue 0 ++ ue bottom)) in
    let whole = λ (is : c.write_window.new.out ≡ c.put-2.new.self ++ window).
    is ∙ ap (λ l. l ++ window) (c.in_ok-put.ensures.ok ∙ ap (λ l. l ++ u 1 1) (c.in_ok-ue-2.ensures.ok ∙ ap (λ l. l ++ ue (coded h)) c.in_ok-ue.ensures.ok))
    ∙ four old (ue (coded w)) (ue (coded h)) (u 1 1) (ue 0) (ue right) (ue 0) (ue bottom)
    ∙ ap (λ l. old ++ l) (sym (size-window size c.if-right-bottom-eq0.false))
    ∙ is_size in
    on_ok_weaker c.write_window.result whole c.write_window.ensures
