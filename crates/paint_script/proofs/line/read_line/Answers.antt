use Rattle.std.proofs.Common.{◌≡◌, true, false, Bool, ◌&&◌, ◌==◌, ap, ◌∙◌}
use Rattle.std.proofs.lemmas.Bool.{and_from, and_right, eq-eqb, ne_eqb}
use Rattle.std.specs.Prelude.{codes, bytes_eq}
use Rattle.paint_script.specs.Paint.{pieces_after}
use Rattle.paint_script.proofs.Lines.{line_of-words, words_line-fill, words_line-blit, words_line-cut, words_line-copy, words_line-other}
use Rattle.paint_script.proofs.line.read_line.Goals.{else-version-eq2-via-then-version-eq2+else-eq-4, else-version-eq2-via-else-version-eq2}
use Rattle.paint_script.proofs.line.read_line.Goals as goal

pub returns-then-eq-clause-value : goal.returns-then-eq-clause-value
returns-then-eq-clause-value c =
    let first = c.first_word.result.0.now in
    let others = pieces_after c.first_word.result.1 in
    let fill : bytes_eq first (codes "fill") ≡ true = cc in
    rw (line_of-words c.args.version c.args.text.now first others c.first_word.ensures ∙ words_line-fill c.args.version first others fill) c.fill_line.ensures.value

pub returns-then-eq-2-clause-value : goal.returns-then-eq-2-clause-value
returns-then-eq-2-clause-value c =
    let first = c.first_word.result.0.now in
    let others = pieces_after c.first_word.result.1 in
    let fill : bytes_eq first (codes "fill") ≡ false = cc in
    let blit : bytes_eq first (codes "blit") ≡ true = cc in
    rw (line_of-words c.args.version c.args.text.now first others c.first_word.ensures ∙ words_line-blit c.args.version first others fill blit) c.blit_line.ensures.value

pub returns-then-eq-3-clause-value : goal.returns-then-eq-3-clause-value
returns-then-eq-3-clause-value c =
    let first = c.first_word.result.0.now in
    let others = pieces_after c.first_word.result.1 in
    let fill : bytes_eq first (codes "fill") ≡ false = cc in
    let blit : bytes_eq first (codes "blit") ≡ false = cc in
    let cut : bytes_eq first (codes "cut") ≡ true = cc in
    rw (line_of-words c.args.version c.args.text.now first others c.first_word.ensures ∙ words_line-cut c.args.version first others fill blit cut) c.cut_line.ensures.value

pub returns-then-eq-4-clause-value : goal.returns-then-eq-4-clause-value
returns-then-eq-4-clause-value c =
    let first = c.first_word.result.0.now in
    let others = pieces_after c.first_word.result.1 in
    let fill : bytes_eq first (codes "fill") ≡ false = cc in
    let blit : bytes_eq first (codes "blit") ≡ false = cc in
    let cut : bytes_eq first (codes "cut") ≡ false = cc in
    let copy : bytes_eq first (codes "copy") ≡ true = cc in
    let both : (c.args.version == 2 && bytes_eq first (codes "copy")) ≡ true = and_from (c.args.version == 2) (bytes_eq first (codes "copy")) (eq-eqb c.args.version 2 c.if-version-eq2.true) copy in
    rw (line_of-words c.args.version c.args.text.now first others c.first_word.ensures ∙ words_line-copy c.args.version first others fill blit cut both) c.copy_line.ensures.value

pub returns-else-version-eq2-clause-value : goal.returns-else-version-eq2-clause-value
returns-else-version-eq2-clause-value c =
    let first = c.first_word.result.0.now in
    let others = pieces_after c.first_word.result.1 in
    let fill : bytes_eq first (codes "fill") ≡ false = cc in
    let blit : bytes_eq first (codes "blit") ≡ false = cc in
    let cut : bytes_eq first (codes "cut") ≡ false = cc in
    let other : (c.args.version == 2 && bytes_eq first (codes "copy")) ≡ false =
    elim c.else-version-eq2.branch [
      | else-version-eq2-via-then-version-eq2+else-eq-4 w ↦ (let copy : bytes_eq first (codes "copy") ≡ false = cc in and_right (c.args.version == 2) (bytes_eq first (codes "copy")) copy)
      | else-version-eq2-via-else-version-eq2 w ↦ ap (λ (b : Bool). b && bytes_eq first (codes "copy")) (ne_eqb c.args.version 2 w.if-version-eq2.false)
    ] in
    line_of-words c.args.version c.args.text.now first others c.first_word.ensures ∙ words_line-other c.args.version first others fill blit cut other
