use Rattle.std.proofs.Common.{◌≡◌, ◌∙◌, refl, ap, subst, arith, ℕ, ◌+◌, ◌*◌, ◌/◌, ◌<◌, ◌≤◌, Bool, Some, None}
use Rattle.h265_model.specs.declared.Place.TheVariants.{Terminate}
use Rattle.h265_model.specs.Plain.{ctus}
use Rattle.px_plane.proofs.Shown.{in_limits}
use Rattle.cabac_dec.specs.State.{IsOpenAfter}
use Rattle.tree_read.specs.Rows.{ends_at}
use Rattle.tree_read.proofs.RowReads.{Step, begun, none_read, one_fails, one_more, all_read}
use Rattle.tree_read.proofs.row.read_units.Goals as goal

pub loop-i-init : goal.loop-i-init
loop-i-init g c = record {
  after = let low : 1 ≤ c.args.size.w = (in_limits c.args.size c.w.ensures.within).w_low in
      let same : c.w.result ≡ c.args.size.w = c.w.ensures.value in
      begun c.args.last ((c.w.result + 31) / 32) c.args.decoder.now (omega arith) c.requires.open;
  grid = c.requires.grid;
  motion = c.requires.motion;
  last = refl;
  read = λ ends before are kept. none_read c.args.kind c.args.size ends c.args.row before c.args.decoder.now (g.S.LeafSink.stands_for c.args.sink.now) c.args.grid.now c.args.motion.now kept;
}

pub returns-in_err-contexts-clause-read : goal.returns-in_err-contexts-clause-read
returns-in_err-contexts-clause-read g c = λ ends before are kept.
    let across : (c.w.result + 31) / 32 ≡ ctus c.args.size.w = ap (λ w. (w + 31) / 32) c.w.ensures.value in
    rw c.from_residual.ensures (one_fails c.args.kind c.args.size ends c.args.row c.loop-i.i c.args.last c.flag_at-ends.result before c.args.decoder.now c.loop-i.decoder c.read_flagged.new.decoder
    (g.S.LeafSink.stands_for c.args.sink.now) (g.S.LeafSink.stands_for c.loop-i.sink) (g.S.LeafSink.stands_for c.read_flagged.new.sink) c.loop-i.grid c.loop-i.motion c.read_flagged.new.grid c.read_flagged.new.motion c.loop-i.handed
    (subst (λ (n : ℕ). c.loop-i.i < n) across c.loop-i-test.true) are (c.flag_at-ends.ensures ∙ ap (λ (n : ℕ). ends_at c.args.last n c.loop-i.i) across) (c.loop-i.invariant.read ends before are kept)
    (subst (λ (n : ℕ). Step c.args.kind c.args.size (c.args.row * n + c.loop-i.i) c.flag_at-ends.result None c.loop-i.decoder c.read_flagged.new.decoder (g.S.LeafSink.stands_for c.loop-i.sink) (g.S.LeafSink.stands_for c.read_flagged.new.sink) c.loop-i.grid c.loop-i.motion c.read_flagged.new.grid c.read_flagged.new.motion)
    across c.in_err-contexts.ensures.read))

pub loop-i-preserved : goal.loop-i-preserved
loop-i-preserved g c = record {
  after = subst (λ (b : Bool). IsOpenAfter Terminate b c.read_flagged.new.decoder) c.flag_at-ends.ensures c.in_ok-contexts.ensures.after;
  grid = c.read_flagged.ensures.grid;
  motion = c.read_flagged.ensures.motion;
  last = c.read_flagged.ensures.last ∙ c.loop-i.invariant.last;
  read = λ ends before are kept.
      let across : (c.w.result + 31) / 32 ≡ ctus c.args.size.w = ap (λ w. (w + 31) / 32) c.w.ensures.value in
      one_more c.args.kind c.args.size ends c.args.row c.loop-i.i c.args.last c.flag_at-ends.result c.in_ok-contexts.contexts before c.args.decoder.now c.loop-i.decoder c.read_flagged.new.decoder
      (g.S.LeafSink.stands_for c.args.sink.now) (g.S.LeafSink.stands_for c.loop-i.sink) (g.S.LeafSink.stands_for c.read_flagged.new.sink) c.loop-i.grid c.loop-i.motion c.read_flagged.new.grid c.read_flagged.new.motion c.loop-i.handed c.handed_after-handed.result
      (subst (λ (n : ℕ). c.loop-i.i < n) across c.loop-i-test.true) are (c.flag_at-ends.ensures ∙ ap (λ (n : ℕ). ends_at c.args.last n c.loop-i.i) across) c.handed_after-handed.ensures (c.loop-i.invariant.read ends before are kept)
      (subst (λ (n : ℕ). Step c.args.kind c.args.size (c.args.row * n + c.loop-i.i) c.flag_at-ends.result (Some c.in_ok-contexts.contexts) c.loop-i.decoder c.read_flagged.new.decoder (g.S.LeafSink.stands_for c.loop-i.sink) (g.S.LeafSink.stands_for c.read_flagged.new.sink) c.loop-i.grid c.loop-i.motion c.read_flagged.new.grid c.read_flagged.new.motion)
      across c.in_ok-contexts.ensures.read);
}

pub returns-clause-read : goal.returns-clause-read
returns-clause-read g c = λ ends before are kept.
    let across : (c.w.result + 31) / 32 ≡ ctus c.args.size.w = ap (λ w. (w + 31) / 32) c.w.ensures.value in
    let full : c.loop-i.i ≡ (c.w.result + 31) / 32 = omega (arith, c.loop-i-test.false, c.loop-i.auto.i-end) in
    all_read c.args.kind c.args.size ends c.args.row c.loop-i.i before c.args.decoder.now c.loop-i.decoder (g.S.LeafSink.stands_for c.args.sink.now) (g.S.LeafSink.stands_for c.loop-i.sink) c.loop-i.grid c.loop-i.motion c.loop-i.handed
    (full ∙ across) (c.loop-i.invariant.read ends before are kept)
