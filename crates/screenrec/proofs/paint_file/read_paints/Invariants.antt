use Rattle.std.proofs.Common.{◌≡◌, ◌≤◌, take, length, Ok}
use Rattle.std.specs.List.{All}
use Rattle.recorder_model.specs.Files.{WhereTold}
use Rattle.recorder_model.specs.Headline.{contents, scripts_of, most_lines, most_cuts}
use Rattle.command_line.specs.Views.{texts}
use Rattle.paint_script.specs.Spellable.{AreSpellable}
use Rattle.screenrec.specs.Accepted.{all_lines, all_cuts}
use Rattle.screenrec.proofs.paint_file.read_paints.Given as goal

-- the scripts of the files so far
abbrev pub invariant-loop-file : goal.invariant-loop-file
invariant-loop-file g l = record {
  told : WhereTold (g.F.Shelf.files l.fn.shelf) (g.F.Shelf.files l.shelf) (λ before now. (now ≡ before) × (scripts_of (contents before (take l.file (texts l.names))) ≡ Ok l.scripts));
  lines : l.so_far.lines ≡ all_lines l.scripts;
  cuts : l.so_far.cuts ≡ all_cuts l.scripts;
  few_lines : l.so_far.lines ≤ most_lines;
  few_cuts : l.so_far.cuts ≤ most_cuts;
  spellable : All AreSpellable l.scripts;
  some : 1 ≤ l.file;
  within : l.file ≤ length l.names;
  writes : g.F.Shelf.write_faults l.shelf ≡ g.F.Shelf.write_faults l.fn.shelf;
  reads : g.F.Shelf.read_faults l.shelf ≡ g.F.Shelf.read_faults l.fn.shelf;
}
