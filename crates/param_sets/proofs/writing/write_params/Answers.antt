use Rattle.std.proofs.Common.{◌≡◌, ℕ, ◌++◌, List, [], ◌∷◌, ◌∙◌, ap, append_assoc}
use Rattle.std.proofs.lemmas.List.{append-nil}
use Rattle.h265_model.specs.NalUnits.{NalUnit, nal_unit_bytes, stream_bytes}
use Rattle.h265_model.specs.ParamSets.{vps_fields, sps_fields, pps_fields, set_unit, param_units}
use Rattle.param_sets.proofs.writing.write_params.Goals as goal

abbrev unit_of : ℕ → List ℕ → NalUnit
unit_of first rbsp = record { header = first ∷ 1 ∷ []; rbsp = rbsp }

abbrev after : List ℕ → ℕ → List ℕ → List ℕ
after out first rbsp = out ++ nal_unit_bytes (unit_of first rbsp)

three_units : (a b c : List ℕ) → (a ++ b) ++ c ≡ a ++ (b ++ (c ++ []))
three_units a b c = simp (append_assoc, append-nil)

pub returns : goal.returns
unfolding stream_bytes param_units
returns c =
    let one = c.in_ok-append_unit.ensures.ok ∙ ap (λ out. after out 0x40 c.deref.result.now) c.new-out.ensures.items ∙ ap (after [] 0x40) (c.deref.ensures.value ∙ c.in_ok-vps.ensures) in
    let two = c.in_ok-append_unit-2.ensures.ok ∙ ap (after c.append_unit.new.out.items 0x42) (c.deref-2.ensures.value ∙ c.in_ok-sps.ensures) in
    let three = c.in_ok-append_unit-3.ensures.ok ∙ ap (after c.append_unit-2.new.out.items 0x44) (c.deref-3.ensures.value ∙ c.in_ok-pps.ensures) in
    let vps = nal_unit_bytes (set_unit 0x40 vps_fields) in
    let sps = nal_unit_bytes (set_unit 0x42 (sps_fields c.args.params.now.size)) in
    let pps = nal_unit_bytes (set_unit 0x44 (pps_fields c.args.params.now.segments)) in
    three ∙ ap (λ l. l ++ pps) (two ∙ ap (λ l. l ++ sps) one) ∙ three_units vps sps pps
