use Rattle.std.proofs.Common.{◌≡◌, false, refl}
use Rattle.recorder_model.specs.declared.line.Line.{Line}
use Rattle.recorder_model.specs.declared.line.Line.TheVariants.{Fill, Blit, Copy, Cut}
use Rattle.recorder_model.specs.Script.{is_cut}
use Rattle.desk_state.proofs.Jobs.{painted_after}
use Rattle.desk_state.proofs.replay.Replay.accept.Goals as goal

paints : (line : Line) → (line ≡ Cut → ⊥) → is_cut line ≡ false
paints (Fill r c) not_cut = refl
paints (Blit r pixels) not_cut = refl
paints (Copy r to_x to_y) not_cut = refl
paints Cut not_cut = absurd (not_cut refl)

pub returns : goal.returns
returns c = record {
  size = c.apply.ensures.size;
  accepted = λ lines taken most is.
      painted_after lines c.args.line.now taken c.args.self.now.surface c.apply.new.self c.args.self.now.jobs.items c.args.self.now.cuts (paints c.args.line.now c.in_default.not-Cut) most
      c.apply.ensures.size c.apply.ensures.shows c.apply.ensures.flags is;
  refused = tt;
  cuts = tt;
}
