use Rattle.std.proofs.Common.{◌≡◌, ◌+◌, ◌++◌, ◌∷◌, [], ap, subst, ◌∙◌, length}
use Rattle.std.specs.Prelude.{option_to_list}
use Rattle.std.proofs.lemmas.List.{length-map}
use Rattle.recorder_model.specs.Setting.{Setting}
use Rattle.turn_lock.specs.Standing.{IsHandedOut}
use Rattle.live_desk.specs.Passes.{passes_of}
use Rattle.live_desk.proofs.Fresh.{all_are, fresh_passes, is_recorder, is_opened}
use Rattle.live_desk.proofs.desk.Desk.new.Goals as goal

pub hand_out-requires-clause-fresh : goal.hand_out-requires-clause-fresh
hand_out-requires-clause-fresh c =
    let setting : Setting = record { size = c.args.size; scripts = c.args.scripts } in
    let many : c.count-passes.result + 1 ≡ passes_of setting = ap (λ n. n + 1) c.count-passes.ensures.value in
    let out : IsHandedOut c.in_ok-turn.turn setting (c.count-passes.result + 1) (c.count-passes.result + 1) c.in_ok-turn.passes.items =
    subst (λ (k : Setting). IsHandedOut c.in_ok-turn.turn k (c.count-passes.result + 1) (c.count-passes.result + 1) c.in_ok-turn.passes.items) c.in_ok-state.ensures.setting c.in_ok-turn.ensures in
    let split : c.in_ok-turn.passes.items ≡ c.pop.new.self.items ++ c.unwrap-pass.result ∷ [] = c.pop.ensures.items ∙ ap (λ o. c.pop.new.self.items ++ option_to_list o) c.unwrap-pass.ensures in
    fresh_passes c.in_ok-turn.turn setting c.pop.new.self.items c.unwrap-pass.result c.deref.result.now (all_are c.in_ok-turn.turn setting c.in_ok-turn.passes.items c.pop.new.self.items c.unwrap-pass.result (c.count-passes.result + 1) split many out)
    (c.deref.ensures.value ∙ c.in_ok-lengths.ensures)

pub invariant_of-result : goal.invariant_of-result
invariant_of-result c =
    let setting : Setting = record { size = c.args.size; scripts = c.args.scripts } in
    let many : c.count-passes.result + 1 ≡ passes_of setting = ap (λ n. n + 1) c.count-passes.ensures.value in
    let out : IsHandedOut c.in_ok-turn.turn setting (c.count-passes.result + 1) (c.count-passes.result + 1) c.in_ok-turn.passes.items =
    subst (λ (k : Setting). IsHandedOut c.in_ok-turn.turn k (c.count-passes.result + 1) (c.count-passes.result + 1) c.in_ok-turn.passes.items) c.in_ok-state.ensures.setting c.in_ok-turn.ensures in
    let split : c.in_ok-turn.passes.items ≡ c.pop.new.self.items ++ c.unwrap-pass.result ∷ [] = c.pop.ensures.items ∙ ap (λ o. c.pop.new.self.items ++ option_to_list o) c.unwrap-pass.ensures in
    is_recorder c.in_ok-turn.turn setting c.pop.new.self.items c.unwrap-pass.result (all_are c.in_ok-turn.turn setting c.in_ok-turn.passes.items c.pop.new.self.items c.unwrap-pass.result (c.count-passes.result + 1) split many out)

pub returns : goal.returns
returns c =
    let setting : Setting = record { size = c.args.size; scripts = c.args.scripts } in
    let many : c.count-passes.result + 1 ≡ passes_of setting = ap (λ n. n + 1) c.count-passes.ensures.value in
    let out : IsHandedOut c.in_ok-turn.turn setting (c.count-passes.result + 1) (c.count-passes.result + 1) c.in_ok-turn.passes.items =
    subst (λ (k : Setting). IsHandedOut c.in_ok-turn.turn k (c.count-passes.result + 1) (c.count-passes.result + 1) c.in_ok-turn.passes.items) c.in_ok-state.ensures.setting c.in_ok-turn.ensures in
    let split : c.in_ok-turn.passes.items ≡ c.pop.new.self.items ++ c.unwrap-pass.result ∷ [] = c.pop.ensures.items ∙ ap (λ o. c.pop.new.self.items ++ option_to_list o) c.unwrap-pass.ensures in
    let long : length c.deref.result.now ≡ length c.args.scripts = ap length (c.deref.ensures.value ∙ c.in_ok-lengths.ensures) ∙ length-map c.args.scripts length in
    is_opened c.in_ok-turn.turn setting c.pop.new.self.items c.unwrap-pass.result (length c.deref.result.now) c.hand_out.new.clients.items
    (all_are c.in_ok-turn.turn setting c.in_ok-turn.passes.items c.pop.new.self.items c.unwrap-pass.result (c.count-passes.result + 1) split many out) long c.hand_out.ensures
