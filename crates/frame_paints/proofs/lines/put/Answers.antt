use Rattle.std.proofs.Common.{◌≡◌, sym, ◌∙◌, ap, subst}
use Rattle.recorder_model.specs.declared.line.Line.{Line}
use Rattle.recorder_model.specs.Painting.{painted}
use Rattle.px_plane.specs.Planes.{ShowsColours, Stores}
use Rattle.paint_script.specs.Spellable.{IsSpellable}
use Rattle.paint_script.specs.Scripts.{Script}
use Rattle.frame_paints.specs.Lines.{drawn}
use Rattle.frame_paints.proofs.Going.{went_none, went_same, went_line, last_line, lent_some, lent_line}
use Rattle.frame_paints.proofs.lines.put.Goals as goal

pub returns-then-index-clause-went : goal.returns-then-index-clause-went
returns-then-index-clause-went c = went_none c.args.shown.now c.args.script.now

pub returns-in_err-add-clause-went : goal.returns-in_err-add-clause-went
returns-in_err-add-clause-went c = went_same c.args.shown.now c.args.script.now c.add.new.self c.in_err-add.ensures.unchanged

pub unwrap-requires : goal.unwrap-requires
unwrap-requires c =
    lent_some c.line.result c.args.line
    (c.line.ensures ∙ last_line c.args.script.now.lines c.add.new.self.lines c.args.line c.lines-index.result (ap (λ (s : Script). s.lines) c.in_ok-add.ensures.added) c.lines-index.ensures.value)

pub paint-requires : goal.paint-requires
paint-requires c =
    let line : c.unwrap.result.now ≡ c.args.line =
    lent_line c.line.result c.unwrap.result c.args.line
    (c.line.ensures ∙ last_line c.args.script.now.lines c.add.new.self.lines c.args.line c.lines-index.result (ap (λ (s : Script). s.lines) c.in_ok-add.ensures.added) c.lines-index.ensures.value)
    c.unwrap.ensures in
    subst IsSpellable (sym line) c.requires.spellable

pub returns-clause-went : goal.returns-clause-went
returns-clause-went c =
    let line : c.unwrap.result.now ≡ c.args.line =
    lent_line c.line.result c.unwrap.result c.args.line
    (c.line.ensures ∙ last_line c.args.script.now.lines c.add.new.self.lines c.args.line c.lines-index.result (ap (λ (s : Script). s.lines) c.in_ok-add.ensures.added) c.lines-index.ensures.value)
    c.unwrap.ensures in
    went_line c.args.shown.now c.paint.new.shown c.args.script.now c.add.new.self c.args.line c.paint.ensures.size c.in_ok-add.ensures.added c.requires.paints
    (λ before shown. subst (λ (l : Line). ShowsColours c.paint.new.shown (painted c.args.shown.now.size before l)) line (c.paint.ensures.shows before shown))

pub returns-clause-drawn : goal.returns-clause-drawn
returns-clause-drawn c =
    let line : c.unwrap.result.now ≡ c.args.line =
    lent_line c.line.result c.unwrap.result c.args.line
    (c.line.ensures ∙ last_line c.args.script.now.lines c.add.new.self.lines c.args.line c.lines-index.result (ap (λ (s : Script). s.lines) c.in_ok-add.ensures.added) c.lines-index.ensures.value)
    c.unwrap.ensures in
    subst (λ (l : Line). Stores c.paint.new.shown (drawn c.args.shown.now l)) line c.paint.ensures.drawn
