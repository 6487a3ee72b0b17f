use Rattle.std.proofs.Common.{◌≡◌, ◌≤◌}
use Rattle.recorder_model.specs.Files.{WhereTold}
use Rattle.recorder_model.specs.Histories.{takes}
use Rattle.recorder.specs.Ends.{HasRecorded}
use Rattle.recorder.specs.Jobs.{HasStored}
use Rattle.recorder.proofs.record.record_all.Given as goal

abbrev pub invariant-loop : goal.invariant-loop
invariant-loop g l = record {
  recorded : HasRecorded l.fn.pass l.pass;
  taken : takes l.pass.knows.seen ≡ l.counter;
  few : l.counter ≤ l.cuts;
  stored : HasStored l.fn.encoder.settings l.pass.knows l.encoder l.written (g.K.Sink.text l.fn.sink) (g.K.Sink.text l.sink);
  faults : g.K.Sink.faults l.sink ≡ g.K.Sink.faults l.fn.sink;
  beside : WhereTold (g.K.Sink.beside l.fn.sink) (g.K.Sink.beside l.sink) (λ was now. now ≡ was);
  through : g.K.Sink.through l.sink ≡ g.K.Sink.through l.fn.sink;
}
