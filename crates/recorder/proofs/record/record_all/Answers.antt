use Rattle.std.proofs.Common.{◌∷◌, [], List, length, ℕ, refl, sym, ap, ◌∙◌, subst, arith}
use Rattle.recorder_model.specs.Histories.{takes}
use Rattle.recorder.specs.Ends.{Ends, seen_pictures}
use Rattle.recorder.proofs.Seen.{fresh_recorded, fresh_count, lawful_now}
use Rattle.recorder.proofs.Streams.{IsPieceOf, count_taken, first_refused, stored_first, all_stored, ended_stored, missed_stored, refused_stored}
use Rattle.recorder.proofs.record.record_all.Goals as goal

pub returns-in_default-clause-pass : goal.returns-in_default-clause-pass
returns-in_default-clause-pass g c = fresh_recorded c.args.pass.now c.args.desk.now c.requires.fresh

pub returns-in-Err-clause-pass : goal.returns-in-Err-clause-pass
returns-in-Err-clause-pass g c = fresh_recorded c.args.pass.now c.args.desk.now c.requires.fresh

pub returns-in-Err-clause-ended : goal.returns-in-Err-clause-ended
returns-in-Err-clause-ended g c =
    let settings = c.args.encoder.now.settings in
    let v = c.args.pass.now.knows in
    subst (Ends settings (seen_pictures v) c.args.cuts (takes v.seen) (g.K.Sink.text c.args.sink.now) (g.K.Sink.text c.write.new.self)) (sym c.ended_by.ensures)
    (first_refused settings (seen_pictures v) c.args.cuts (takes v.seen) c.deref.result.now (g.K.Sink.text c.args.sink.now) (g.K.Sink.text c.write.new.self) c.in-Err.error
    (c.in-Ok.ensures.piece ∙ ap (λ (l : List ℕ). l ∷ []) (sym c.deref.ensures.value)) c.in-Err.ensures.text)

pub loop-init : goal.loop-init
loop-init g c =
    let settings = c.args.encoder.now.settings in
    let none = fresh_count c.args.pass.now c.args.desk.now c.requires.fresh in
    record {
      recorded = fresh_recorded c.args.pass.now c.args.desk.now c.requires.fresh;
      taken = none;
      few = omega arith;
      stored = stored_first settings c.args.pass.now.knows c.args.encoder.now c.deref.result.now c.len-written.result (g.K.Sink.text c.args.sink.now) (g.K.Sink.text c.write.new.self)
          refl c.requires.size c.requires.sized c.requires.none none (c.in-Ok.ensures.piece ∙ ap (λ (l : List ℕ). l ∷ []) (sym c.deref.ensures.value)) (omega (arith, c.len-written.ensures, c.deref.ensures.len, ap length c.deref.ensures.value, c.in-Ok.sets.ok)) c.in_default-write.ensures.text;
      faults = c.in_default-write.ensures.cause.kept;
      beside = c.in_default-write.ensures.beside;
      through = c.in_default-write.ensures.through;
    }

pub returns-in_default-wait_for_job-clause-ended : goal.returns-in_default-wait_for_job-clause-ended
returns-in_default-wait_for_job-clause-ended g c =
    ended_stored c.args.encoder.now.settings c.loop.pass.knows c.wait_for_job.new.pass.knows c.loop.encoder c.loop.written c.args.cuts (g.K.Sink.text c.args.sink.now) (g.K.Sink.text c.loop.sink)
    c.loop.invariant.stored c.in_default-wait_for_job.ensures.none.far (lawful_now c.loop.pass c.wait_for_job.new.pass c.in_default-wait_for_job.ensures.pass)

pub next-requires-clause-number : goal.next-requires-clause-number
next-requires-clause-number g c κs within =
    c.in-Some.ensures.job.number ∙ sym (c.loop.invariant.stored.coded.stands.count ∙ count_taken c.loop.pass.knows (lawful_now c.args.pass.now c.loop.pass c.loop.invariant.recorded))

pub returns-in_default-next-clause-ended : goal.returns-in_default-next-clause-ended
returns-in_default-next-clause-ended g c =
    missed_stored c.args.encoder.now.settings c.loop.pass.knows c.wait_for_job.new.pass.knows c.loop.encoder c.in-Some.job c.loop.written c.args.cuts (g.K.Sink.text c.args.sink.now) (g.K.Sink.text c.loop.sink)
    c.loop.invariant.stored c.in-Some.ensures.job (lawful_now c.loop.pass c.wait_for_job.new.pass c.in-Some.ensures.pass)

pub returns-in_default-checked_add-clause-ended : goal.returns-in_default-checked_add-clause-ended
returns-in_default-checked_add-clause-ended g c =
    missed_stored c.args.encoder.now.settings c.loop.pass.knows c.wait_for_job.new.pass.knows c.loop.encoder c.in-Some.job c.loop.written c.args.cuts (g.K.Sink.text c.args.sink.now) (g.K.Sink.text c.loop.sink)
    c.loop.invariant.stored c.in-Some.ensures.job (lawful_now c.loop.pass c.wait_for_job.new.pass c.in-Some.ensures.pass)

pub returns-in-Err-write-clause-ended : goal.returns-in-Err-write-clause-ended
returns-in-Err-write-clause-ended g c =
    let settings = c.args.encoder.now.settings in
    let w = c.wait_for_job.new.pass.knows in
    subst (Ends settings (seen_pictures w) c.args.cuts (takes w.seen) (g.K.Sink.text c.args.sink.now) (g.K.Sink.text c.write-in-loop.new.self)) (sym c.ended_by-in-Err-write.ensures)
    (refused_stored settings c.loop.pass.knows w c.loop.encoder c.in-Some.job c.deref-in-loop.result.now c.loop.written c.args.cuts (g.K.Sink.text c.args.sink.now) (g.K.Sink.text c.loop.sink) (g.K.Sink.text c.write-in-loop.new.self)
    c.in-Err-write.error c.loop.invariant.stored c.in-Some.ensures.job (lawful_now c.loop.pass c.wait_for_job.new.pass c.in-Some.ensures.pass)
    (subst (IsPieceOf c.loop.encoder c.in-Some.job) (sym c.deref-in-loop.ensures.value) c.in-Ok-next.ensures.piece) c.in-Err-write.ensures.text)

pub returns-clause-ended : goal.returns-clause-ended
returns-clause-ended g c =
    all_stored c.args.encoder.now.settings c.loop.pass.knows c.loop.encoder c.loop.written c.args.cuts (g.K.Sink.text c.args.sink.now) (g.K.Sink.text c.loop.sink)
    c.loop.invariant.stored (lawful_now c.args.pass.now c.loop.pass c.loop.invariant.recorded) (omega (arith, c.loop.invariant.taken, c.loop.invariant.few, c.loop-test.false))
