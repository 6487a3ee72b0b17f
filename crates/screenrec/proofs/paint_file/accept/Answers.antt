use Rattle.std.proofs.Common.{◌<◌, ◌≤◌, ◌+◌, length, arith}
use Rattle.std.specs.Prelude.{count_by}
use Rattle.recorder_model.specs.Script.{is_cut}
use Rattle.recorder_model.specs.Headline.{most_bytes, most_lines, most_cuts}
use Rattle.screenrec.proofs.AcceptedLaws.{one_too_large, one_bad, many_lines, many_cuts, one_accepted}
use Rattle.screenrec.proofs.paint_file.accept.Goals as goal

pub returns-then-bytes-gt-MOST_BYTES-clause-scripts : goal.returns-then-bytes-gt-MOST_BYTES-clause-scripts
returns-then-bytes-gt-MOST_BYTES-clause-scripts c =
    let more : most_bytes < length c.args.bytes.now = omega (arith, c.requires.lines, c.requires.cuts) in
    one_too_large c.args.file c.args.so_far.lines c.args.so_far.cuts c.args.bytes.now more

pub returns-in-Err-BadLine-clause-scripts : goal.returns-in-Err-BadLine-clause-scripts
returns-in-Err-BadLine-clause-scripts c =
    let short : length c.args.bytes.now ≤ most_bytes = omega (arith, c.requires.lines, c.requires.cuts) in
    rw c.in-Err-BadLine.field-0-is
    (one_bad c.args.file c.args.so_far.lines c.args.so_far.cuts c.args.bytes.now c.in-Err-BadLine.line c.in-Err-BadLine.cause short
    (rw c.in-Err-BadLine.field-0-is at c.in-Err-BadLine.ensures.refused))

pub returns-then-lines-so_far-clause-scripts : goal.returns-then-lines-so_far-clause-scripts
returns-then-lines-so_far-clause-scripts c =
    let short : length c.args.bytes.now ≤ most_bytes = omega (arith, c.requires.lines, c.requires.cuts) in
    let more : most_lines < c.args.so_far.lines + length c.in-Ok.script.lines = omega (arith, c.requires.lines, c.requires.cuts) in
    many_lines c.args.file c.args.so_far.lines c.args.so_far.cuts c.args.bytes.now c.in-Ok.script.lines short c.in-Ok.ensures.read more

pub returns-then-cuts-so_far-clause-scripts : goal.returns-then-cuts-so_far-clause-scripts
returns-then-cuts-so_far-clause-scripts c =
    let short : length c.args.bytes.now ≤ most_bytes = omega (arith, c.requires.lines, c.requires.cuts) in
    let few : c.args.so_far.lines + length c.in-Ok.script.lines ≤ most_lines = omega (arith, c.requires.lines, c.requires.cuts) in
    let more : most_cuts < c.args.so_far.cuts + count_by is_cut c.in-Ok.script.lines = omega (arith, c.requires.lines, c.requires.cuts) in
    many_cuts c.args.file c.args.so_far.lines c.args.so_far.cuts c.args.bytes.now c.in-Ok.script.lines short c.in-Ok.ensures.read few more

pub returns-clause-scripts : goal.returns-clause-scripts
returns-clause-scripts c =
    let short : length c.args.bytes.now ≤ most_bytes = omega (arith, c.requires.lines, c.requires.cuts) in
    let few : c.args.so_far.lines + length c.in-Ok.script.lines ≤ most_lines = omega (arith, c.requires.lines, c.requires.cuts) in
    let few_cuts : c.args.so_far.cuts + count_by is_cut c.in-Ok.script.lines ≤ most_cuts = omega (arith, c.requires.lines, c.requires.cuts) in
    one_accepted c.args.file c.args.so_far.lines c.args.so_far.cuts c.args.bytes.now c.in-Ok.script.lines short c.in-Ok.ensures.read few few_cuts
