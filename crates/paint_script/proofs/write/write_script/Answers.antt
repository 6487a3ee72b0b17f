use Rattle.std.proofs.Common.{◌≡◌, ◌∷◌, [], ◌++◌, ◌<◌, length, get_or, arith, sym, ap, ◌∙◌, subst, Some, ℕ, ◌==◌, if◌then◌else◌}
use Rattle.std.proofs.lemmas.List.{take_all}
use Rattle.std.proofs.lemmas.Option.{slice_get-get_or, get_or_from_slice_get}
use Rattle.std.specs.List.{slice_get}
use Rattle.std.specs.Option.{option_copied}
use Rattle.recorder_model.specs.Script.{script_text, line_text, version_line}
use Rattle.recorder_model.specs.declared.line.Line.TheVariants.{Cut}
use Rattle.paint_script.specs.Spellable.{IsVersion, IsSpellable}
use Rattle.paint_script.specs.Laws.{IsReadAs}
use Rattle.paint_script.proofs.ReadBack.{script-read, script_text-nil, script_text-more, lent-some}
use Rattle.paint_script.proofs.write.write_script.Goals as goal

pub loop-index-init : goal.loop-index-init
loop-index-init c =
    c.in_ok-extend_from_slice.ensures.items
    ∙ ap (λ t. t ++ c.first_line.result.now) c.new-text.ensures.items
    ∙ c.first_line.ensures ∙ ap (λ (n : ℕ). if n == 2 then version_line else []) c.version.ensures.value ∙ sym (script_text-nil c.args.script.now.version)

pub unwrap-line-requires : goal.unwrap-line-requires
unwrap-line-requires c =
    let lines = c.args.script.now.lines in
    let i = c.loop-index.index in
    let inside : i < length lines = omega arith in
    lent-some c.line.result (get_or lines i Cut) (c.line.ensures ∙ slice_get-get_or lines i Cut inside)

pub write_line-requires : goal.write_line-requires
write_line-requires c =
    let lines = c.args.script.now.lines in
    let i = c.loop-index.index in
    let inside : i < length lines = omega arith in
    let lent : slice_get lines i ≡ Some c.unwrap-line.result.now = sym c.line.ensures ∙ ap option_copied c.unwrap-line.ensures in
    subst IsSpellable (get_or_from_slice_get lines i c.unwrap-line.result.now Cut lent) (c.lines-index-end.ensures.spellable i Cut inside)

pub loop-index-preserved : goal.loop-index-preserved
loop-index-preserved c =
    let lines = c.args.script.now.lines in
    let i = c.loop-index.index in
    let line = c.unwrap-line.result.now in
    let inside : i < length lines = omega arith in
    let lent : slice_get lines i ≡ Some line = sym c.line.ensures ∙ ap option_copied c.unwrap-line.ensures in
    c.in_ok-write_line.ensures
    ∙ ap (λ t. t ++ (line_text line ++ 10 ∷ [])) c.loop-index.invariant
    ∙ sym (script_text-more c.args.script.now.version lines i line inside (get_or_from_slice_get lines i line Cut lent))

pub returns-clause-written : goal.returns-clause-written
returns-clause-written c =
    let lines = c.args.script.now.lines in
    c.loop-index.invariant ∙ ap (script_text c.args.script.now.version) (take_all c.loop-index.index lines (omega arith))

pub returns-clause-read_back : goal.returns-clause-read_back
returns-clause-read_back c =
    let version = c.args.script.now.version in
    let lines = c.args.script.now.lines in
    subst (λ t. IsReadAs t version lines) (sym (returns-clause-written c))
    (script-read version lines (subst IsVersion c.version.ensures.value c.version.ensures.known) c.lines-index-end.ensures.spellable c.lines-index-end.ensures.fits)
