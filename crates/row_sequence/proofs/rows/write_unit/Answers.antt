use Rattle.std.proofs.Common.{◌≡◌, ℕ, ◌+◌, ◌*◌, ◌/◌, ap}
use Rattle.h265_model.specs.Plain.{ctus}
use Rattle.cabac_bytes.specs.State.{phase_of}
use Rattle.row_sequence.specs.Sequence.{ends_of}
use Rattle.row_sequence.proofs.Sequences.{one_written, after_flag}
use Rattle.row_sequence.proofs.rows.write_unit.Goals as goal

pub returns-clause-phase : goal.returns-clause-phase
returns-clause-phase g c =
    let at : c.args.row * ((c.w.result + 31) / 32) + c.args.unit ≡ c.args.row * ctus c.args.size.w + c.args.unit = ap (λ (k : ℕ). c.args.row * ((k + 31) / 32) + c.args.unit) c.w.ensures.value in
    after_flag c.args.ending c.args.size c.args.row c.args.unit (c.args.row * ((c.w.result + 31) / 32) + c.args.unit) c.ends.result (phase_of c.bin.new.self) c.requires.row c.requires.unit at c.ends.ensures c.in_ok-bin.ensures.phase

pub returns-clause-written : goal.returns-clause-written
returns-clause-written g c =
    let at : c.args.row * ((c.w.result + 31) / 32) + c.args.unit ≡ c.args.row * ctus c.args.size.w + c.args.unit = ap (λ (k : ℕ). c.args.row * ((k + 31) / 32) + c.args.unit) c.w.ensures.value in
    one_written (ends_of c.args.ending c.args.size) c.args.size (g.W.UnitWriter.items c.args.writer.now) c.args.row c.args.unit (c.args.row * ((c.w.result + 31) / 32) + c.args.unit) c.ends.result
    c.args.coder.now c.write_ctu.new.sink c.bin.new.self at c.ends.ensures c.in_ok-write_ctu.ensures.taken c.in_ok-bin.ensures.taken
