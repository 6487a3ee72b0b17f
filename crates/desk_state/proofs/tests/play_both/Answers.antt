use Rattle.std.proofs.Common.{◌≡◌, ◌+◌, ◌++◌, ◌∷◌, [], List, length, ap, ◌∙◌}
use Rattle.std.proofs.lemmas.Bool.{ne_eqb}
use Rattle.recorder_model.specs.Turn.{State}
use Rattle.recorder_model.specs.declared.entry.Entry.{Entry}
use Rattle.recorder_model.specs.declared.entry.Entry.TheVariants.{Line}
use Rattle.recorder_model.specs.Histories.{indexes_of}
use Rattle.desk_state.proofs.Entries.{count_own, count_other}
use Rattle.desk_state.proofs.tests.play_both.Goals as goal

pub loop-index-preserved : goal.loop-index-preserved
loop-index-preserved c =
    let h : List Entry = c.loop-index.state.history in
    let grown : c.play_line.new.self.history ≡ h ++ Line c.args.client c.loop-index.index ∷ [] =
    ap (λ (s : State). s.history) c.in_ok-play_line.ensures.added ∙ ap (λ (e : Entry). h ++ e ∷ []) c.in_ok-play_line.ensures.entry in
    record {
      setting = ap (λ (s : State). s.setting) c.in_ok-play_line.ensures.added ∙ c.loop-index.invariant.setting;
      played = ap (λ l. length (indexes_of l c.args.client)) grown ∙ count_own h c.args.client c.loop-index.index ∙ ap (λ n. n + 1) c.loop-index.invariant.played;
      others = λ other off. ap (λ l. length (indexes_of l other)) grown ∙ count_other h c.args.client c.loop-index.index other (ne_eqb c.args.client other off) ∙ c.loop-index.invariant.others other off;
    }
