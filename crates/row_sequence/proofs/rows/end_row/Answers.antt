use Rattle.std.proofs.Common.{◌≡◌, sym, ◌∙◌, ap}
use Rattle.cabac_bytes.specs.State.{State, phase_of}
use Rattle.row_sequence.proofs.Sequences.{open_at_end, ended_at_end}
use Rattle.row_sequence.proofs.rows.end_row.Goals as goal
use Rattle.row_sequence.proofs.rows.end_row.Goals.{then-has_subset_end+in_ok-bin, else-has_subset_end}

pub bin-requires-clause-not_ended : goal.bin-requires-clause-not_ended
bin-requires-clause-not_ended c =
    open_at_end c.args.ending c.args.size c.args.row (phase_of c.args.coder) c.requires.row c.requires.wide c.requires.phase (sym c.has_subset_end.ensures ∙ c.if-has_subset_end.true)

pub finish-requires : goal.finish-requires
finish-requires c =
    elim c.if-has_subset_end.branch [
      | then-has_subset_end+in_ok-bin w ↦ ap (λ (k : State). phase_of k) w.coder-is ∙ w.in_ok-bin.ensures.phase
      | else-has_subset_end w ↦ ap (λ (k : State). phase_of k) w.coder-is
          ∙ ended_at_end c.args.ending c.args.size c.args.row (phase_of c.args.coder) c.requires.row c.requires.wide c.requires.phase (sym c.has_subset_end.ensures ∙ w.if-has_subset_end.false)
    ]
