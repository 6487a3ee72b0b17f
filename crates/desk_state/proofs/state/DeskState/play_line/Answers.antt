use Rattle.std.proofs.Common.{◌≡◌, ◌<◌, ◌-◌, ◌^◌, true, length, refl, sym, subst, ap, ◌∙◌}
use Rattle.recorder_model.specs.declared.entry.Entry.TheVariants as entry
use Rattle.recorder_model.specs.declared.line.Line.TheVariants.{Cut}
use Rattle.recorder_model.specs.Script.{is_cut}
use Rattle.recorder_model.specs.Turn.{State}
use Rattle.recorder_model.specs.Histories.{IsLawful}
use Rattle.desk_state.specs.Standing.{IsNext, next_line}
use Rattle.desk_state.specs.Inside.{state_of}
use Rattle.desk_state.proofs.Lookups.{found, script_found, client_there, line_there, line_read, pixels_read, on_err}
use Rattle.desk_state.proofs.Accepted.{few_now, few_cuts_now, room_now, desk_from, desk_played}
use Rattle.desk_state.proofs.state.DeskState.play_line.Goals as goal

pub unwrap-script-requires : goal.unwrap-script-requires
unwrap-script-requires c =
    let next : IsNext (state_of c.self.inside) c.args.client c.args.index = subst (λ (s : State). IsNext s c.args.client c.args.index) (sym c.self.view_is) c.requires.next in
    script_found c.script.result c.self.inside.scripts c.args.client c.script.ensures (client_there c.self.inside.scripts c.args.client c.args.index next.there)

pub unwrap-requires : goal.unwrap-requires
unwrap-requires c =
    let next : IsNext (state_of c.self.inside) c.args.client c.args.index = subst (λ (s : State). IsNext s c.args.client c.args.index) (sym c.self.view_is) c.requires.next in
    found c.line.result c.unwrap-script.result.now.lines c.args.index Cut c.line.ensures (line_there c.self.inside.scripts c.args.client c.args.index c.script.result c.unwrap-script.result c.script.ensures c.unwrap-script.ensures next.there)

pub accept-requires-clause-pixels : goal.accept-requires-clause-pixels
accept-requires-clause-pixels c =
    let next : IsNext (state_of c.self.inside) c.args.client c.args.index = subst (λ (s : State). IsNext s c.args.client c.args.index) (sym c.self.view_is) c.requires.next in
    pixels_read c.unwrap-script.result.now.lines c.args.index c.line.result c.unwrap.result c.lines-lines.ensures.spellable c.line.ensures c.unwrap.ensures
    (line_there c.self.inside.scripts c.args.client c.args.index c.script.result c.unwrap-script.result c.script.ensures c.unwrap-script.ensures next.there)

pub accept-requires-clause-few : goal.accept-requires-clause-few
accept-requires-clause-few c = few_cuts_now c.self.inside c.self.invariant

pub returns-in_err-accept-clause-few : goal.returns-in_err-accept-clause-few
returns-in_err-accept-clause-few c = subst (λ (s : State). length s.history < 2 ^ 32 - 1) c.self.view_is (few_now c.self.inside c.self.invariant)

pub returns-in_err-accept-clause-cuts : goal.returns-in_err-accept-clause-cuts
returns-in_err-accept-clause-cuts c =
    let line = line_read c.self.inside.scripts c.args.client c.args.index c.script.result c.unwrap-script.result c.line.result c.unwrap.result c.script.ensures c.unwrap-script.ensures c.line.ensures c.unwrap.ensures in
    on_err c.from_residual.result (is_cut (next_line c.args.self.now c.args.client c.args.index) ≡ true)
    (subst (λ (s : State). is_cut (next_line s c.args.client c.args.index) ≡ true) c.self.view_is (ap is_cut line ∙ c.in_err-accept.ensures.cuts))

pub push_reserved-requires : goal.push_reserved-requires
push_reserved-requires c =
    let next : IsNext (state_of c.self.inside) c.args.client c.args.index = subst (λ (s : State). IsNext s c.args.client c.args.index) (sym c.self.view_is) c.requires.next in
    let line = line_read c.self.inside.scripts c.args.client c.args.index c.script.result c.unwrap-script.result c.line.result c.unwrap.result c.script.ensures c.unwrap-script.ensures c.line.ensures c.unwrap.ensures in
    let after = desk_played c.self.inside c.args.client c.args.index c.unwrap.result.now c.accept.new.self c.self.invariant next line c.in_ok-accept.ensures.accepted in
    room_now c.self.inside (entry.Line c.args.client c.args.index) c.accept.new.self.surface c.accept.new.self.jobs.items c.accept.new.self.cuts c.self.invariant after

pub invariant_of-self-2 : goal.invariant_of-self-2
invariant_of-self-2 c =
    let next : IsNext (state_of c.self.inside) c.args.client c.args.index = subst (λ (s : State). IsNext s c.args.client c.args.index) (sym c.self.view_is) c.requires.next in
    let line = line_read c.self.inside.scripts c.args.client c.args.index c.script.result c.unwrap-script.result c.line.result c.unwrap.result c.script.ensures c.unwrap-script.ensures c.line.ensures c.unwrap.ensures in
    let after = desk_played c.self.inside c.args.client c.args.index c.unwrap.result.now c.accept.new.self c.self.invariant next line c.in_ok-accept.ensures.accepted in
    desk_from c.self.inside _ (entry.Line c.args.client c.args.index) c.self.invariant refl c.push_reserved.ensures.items c.push_reserved.ensures.capacity after

pub returns-clause-lawful : goal.returns-clause-lawful
returns-clause-lawful c =
    let next : IsNext (state_of c.self.inside) c.args.client c.args.index = subst (λ (s : State). IsNext s c.args.client c.args.index) (sym c.self.view_is) c.requires.next in
    let line = line_read c.self.inside.scripts c.args.client c.args.index c.script.result c.unwrap-script.result c.line.result c.unwrap.result c.script.ensures c.unwrap-script.ensures c.line.ensures c.unwrap.ensures in
    let after = desk_played c.self.inside c.args.client c.args.index c.unwrap.result.now c.accept.new.self c.self.invariant next line c.in_ok-accept.ensures.accepted in
    subst (IsLawful c.self.inside.scripts) (sym c.push_reserved.ensures.items) after.lawful

pub returns-clause-few : goal.returns-clause-few
returns-clause-few c = subst (λ (s : State). length s.history < 2 ^ 32 - 1) c.self.view_is (few_now c.self.inside c.self.invariant)
