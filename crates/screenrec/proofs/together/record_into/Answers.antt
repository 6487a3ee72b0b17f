use Rattle.std.proofs.Common.{◌≡◌, [], Option, rules, subst}
use Rattle.recorder_model.specs.Files.{Files, file_at, WhereTold}
use Rattle.recorder_model.specs.Painting.{pictures}
use Rattle.recorder_model.specs.Histories.{takes}
use Rattle.recorder.specs.Sessions.{all_cuts}
use Rattle.screenrec.specs.Together.{EndsInFile}
use Rattle.screenrec.proofs.FileParts.{sunk}
use Rattle.screenrec.proofs.together.record_into.Goals as goal

pub returns-clause-files : goal.returns-clause-files
returns-clause-files g c =
    let settings = c.args.session.settings in
    let scripts = c.args.session.scripts in
    let order = c.run.result.order.items in
    let sink = c.run.new.sink in
    let told = sunk settings (pictures settings.size scripts order) (all_cuts scripts) (takes order) (g.F.Shelf.files c.new.result.shelf.now) (g.F.Shelf.files sink.shelf.now)
    c.new.result.name.now sink.name.now c.run.result.end sink.there c.run.ensures.ended c.run.ensures.beside in
    subst (λ (now : Option Files). WhereTold (g.F.Shelf.files c.args.shelf.now) now (λ before after. file_at before c.args.out.now ≡ [] →
    EndsInFile settings c.args.out.now (pictures settings.size scripts order) (all_cuts scripts) (takes order) before after c.run.result.end))
    (search rules)
    (rw c.new.ensures.name at (rw c.new.ensures.shelf at told))
