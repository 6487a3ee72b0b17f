use Rattle.std.proofs.Common.{◌≡◌, ℕ, ◌+◌, ◌%◌, ◌/◌, List, [], ◌∷◌, ◌++◌, length, map, refl, sym, ◌∙◌, ap, subst, arith}
use Rattle.recorder_model.specs.declared.entry.Entry.{Entry}
use Rattle.recorder_model.specs.declared.line.Line.{Line}
use Rattle.h265_model.specs.Plain.{below}
use Rattle.h265_model.specs.Settings as model
use Rattle.recorder_model.specs.Painting.{lines_of}
use Rattle.screenrec.specs.Stored.{stream_after}
use Rattle.screenrec.specs.Played.{HasPlayed}
use Rattle.screenrec.specs.Demo.{turn_entry, demo_settings}
use Rattle.screenrec.proofs.DemoLaws.{one_turn, lines_of-append, rounds_played}
use Rattle.screenrec.proofs.demo.play_rounds.Goals as goal

pub loop-turn-init : goal.loop-turn-init
unfolding lines_of
loop-turn-init c =
    let played : HasPlayed demo_settings c.in_ok-stage.stage [] =
    subst (λ (s : model.Settings). HasPlayed s c.in_ok-stage.stage []) c.demo_settings.ensures.settings c.in_ok-stage.ensures in
    let first : c.len-written.result ≡ length (stream_after c.in_ok-stage.stage.encoder.settings []) =
    omega (arith, c.len-written.ensures, c.in_ok-first.field-0.ok, ap length c.in_ok-first.ensures.piece) in
    record {
      order = c.new-order.ensures.items;
      played = played;
      counted = first ∙ ap (λ (s : model.Settings). length (stream_after s [])) played.same;
      cuts = omega (arith, played.counted);
      short = omega (arith, c.len-written.ensures, c.in_ok-first.field-0.ok, c.in_ok-first.ensures.short);
    }

pub loop-turn-preserved : goal.loop-turn-preserved
loop-turn-preserved c =
    let scripts = c.args.scripts.now in
    let turn = c.loop-turn.turn in
    let front = map turn_entry (below turn) in
    let more : lines_of scripts (map turn_entry (below (turn + 1))) ≡ lines_of scripts front ++ c.line_of.result.now ∷ [] =
    ap (lines_of scripts) (sym (one_turn turn)) ∙ lines_of-append scripts front (turn % 4) (turn / 4)
    ∙ ap (λ (line : Line). lines_of scripts front ++ line ∷ []) (sym c.line_of.ensures.line) in
    record {
      order = c.in_ok-push.ensures.items ∙ ap (λ (l : List Entry). l ++ turn_entry turn ∷ []) c.loop-turn.invariant.order ∙ one_turn turn;
      played = subst (HasPlayed demo_settings c.play_line.new.stage) (sym more) (c.in_ok-written.ensures.played demo_settings (lines_of scripts front) c.loop-turn.invariant.played);
      counted = ap (λ (n : ℕ). n + c.in_ok-written.field-0) c.loop-turn.invariant.counted
          ∙ sym (c.in_ok-written.ensures.counted demo_settings (lines_of scripts front) c.loop-turn.invariant.played)
          ∙ ap (λ (l : List Line). length (stream_after demo_settings l)) (sym more);
      cuts = omega (arith, c.in_ok-written.ensures.cuts, c.loop-turn.invariant.cuts);
      short = omega (arith, c.in_ok-written.ensures.short, c.loop-turn.invariant.short);
    }

pub returns : goal.returns
returns c =
    rounds_played c.args.scripts.now c.loop-turn.order.items c.cuts-pictures.result _ c.loop-turn.written c.loop-turn.turn
    (omega (arith, c.loop-turn-test.false, c.loop-turn.auto.turn-end)) c.loop-turn.invariant.order
    (c.cuts-pictures.ensures ∙ c.loop-turn.invariant.played.counted) refl c.loop-turn.invariant.counted
