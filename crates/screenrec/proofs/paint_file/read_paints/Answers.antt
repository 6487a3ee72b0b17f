use Rattle.std.proofs.Common.{ℕ, ◌+◌, List, [], length, refl, sym, ◌∙◌, ap, subst, arith}
use Rattle.std.specs.Prelude.{count_by}
use Rattle.std.specs.List.{All}
use Rattle.std.proofs.lemmas.List.Elements.{All-push}
use Rattle.std.proofs.lemmas.List.Sums.{sum_by_push}
use Rattle.recorder_model.specs.declared.line.Line.{Line}
use Rattle.recorder_model.specs.Script.{is_cut}
use Rattle.paint_script.specs.Spellable.{AreSpellable}
use Rattle.screenrec.specs.Accepted.{all_lines, all_cuts}
use Rattle.std.proofs.lemmas.Result.{err_from_is_err_and}
use Rattle.screenrec.proofs.AcceptedLaws.{none_so_far, told_refused, told_accepted, ToldSoFar}
use Rattle.screenrec.proofs.paint_file.read_paints.Goals as goal

pub returns-in_err-first-clause-files : goal.returns-in_err-first-clause-files
returns-in_err-first-clause-files g c =
    let p = err_from_is_err_and c.from_residual.result c.from_residual.ensures.1 in
    rw p.1
    (told_refused (g.F.Shelf.files c.args.shelf.now) (g.F.Shelf.files c.args.shelf.now) (g.F.Shelf.files c.read_next.new.shelf) c.args.names.now 0 0 0 [] p.0
    c.requires.some refl refl (rw p.2 c.in_err-first.ensures.status) (none_so_far (g.F.Shelf.files c.args.shelf.now) c.args.names.now) (rw p.2 c.in_err-first.ensures.files))

pub returns-in_err-script-clause-files : goal.returns-in_err-script-clause-files
returns-in_err-script-clause-files g c =
    let p = err_from_is_err_and c.from_residual-in_err-script.result c.from_residual-in_err-script.ensures.1 in
    rw p.1
    (told_refused (g.F.Shelf.files c.args.shelf.now) (g.F.Shelf.files c.loop-file.shelf) (g.F.Shelf.files c.read_next-in-loop-file.new.shelf) c.args.names.now
    c.loop-file.file c.loop-file.so_far.lines c.loop-file.so_far.cuts c.loop-file.scripts p.0
    (omega (arith, c.loop-file-test.true)) c.loop-file.invariant.lines c.loop-file.invariant.cuts (rw p.2 c.in_err-script.ensures.status) c.loop-file.invariant.told
    (rw p.2 c.in_err-script.ensures.files))

pub loop-file-preserved : goal.loop-file-preserved
loop-file-preserved g c =
    let scripts = c.loop-file.scripts in
    let script = c.in_ok-script.script.lines in
    let more = c.in-Ok-add.ensures.added in
    let so_far = c.loop-file.invariant in
    record {
      told = subst (λ (s : List (List Line)). ToldSoFar (g.F.Shelf.files c.args.shelf.now) (g.F.Shelf.files c.read_next-in-loop-file.new.shelf) c.args.names.now (c.loop-file.file + 1) s) (sym more)
          (told_accepted (g.F.Shelf.files c.args.shelf.now) (g.F.Shelf.files c.loop-file.shelf) (g.F.Shelf.files c.read_next-in-loop-file.new.shelf) c.args.names.now
          c.loop-file.file c.loop-file.so_far.lines c.loop-file.so_far.cuts scripts c.in_ok-script.script (omega (arith, c.loop-file-test.true)) so_far.lines so_far.cuts so_far.told
          c.in_ok-script.ensures.files);
      lines = c.with-so_far-in-loop-file.ensures.lines ∙ ap (λ (n : ℕ). n + length script) so_far.lines ∙ sym (sum_by_push length scripts script) ∙ ap all_lines (sym more);
      cuts = c.with-so_far-in-loop-file.ensures.cuts ∙ ap (λ (n : ℕ). n + count_by is_cut script) so_far.cuts ∙ sym (sum_by_push (count_by is_cut) scripts script) ∙ ap all_cuts (sym more);
      few_lines = omega (arith, c.with-so_far-in-loop-file.ensures.lines, c.in_ok-script.ensures.room.lines_within);
      few_cuts = omega (arith, c.with-so_far-in-loop-file.ensures.cuts, c.in_ok-script.ensures.room.cuts_within);
      spellable = subst (λ (s : List (List Line)). All AreSpellable s) (sym more) (All-push AreSpellable scripts script so_far.spellable c.in_ok-script.ensures.spellable);
      some = omega (arith, so_far.some);
      within = omega (arith, c.loop-file-test.true);
      writes = c.in_ok-script.ensures.writes ∙ so_far.writes;
      reads = c.in_ok-script.ensures.cause.kept ∙ so_far.reads;
    }
