use Rattle.std.proofs.Common.{◌≡◌, length, arith, refl, sym, ◌∙◌, Ok, Err}
use Rattle.std.proofs.lemmas.List.{length_push}
use Rattle.std.proofs.lemmas.Bool.{eqb-true, eqb-false}
use Rattle.recorder_model.specs.Script.{line_of}
use Rattle.paint_script.proofs.Readings.{read-start, read-line, read-bad, read-end, read-open}
use Rattle.paint_script.proofs.read.read_script.Goals as goal

pub loop-text-init : goal.loop-text-init
loop-text-init c =
    let start = read-start c.opening-version.result.0 c.args.bytes.now c.opening-version.result.1.now c.opening-version.ensures.rest in
    record {
      so_far = rw c.in_ok-script.ensures start;
      same = rw c.in_ok-script.ensures refl;
      room = rw c.in_ok-script.ensures (omega (arith, c.opening-version.ensures.shorter));
    }

pub loop-text-preserved : goal.loop-text-preserved
loop-text-preserved c =
    let added = c.in_ok-add-in-Ok.ensures.added in
    let line : line_of c.opening-version.result.0 c.in-Some.text.now ≡ Ok c.in-Ok.line = c.in-Ok.ensures.value in
    record {
      so_far = rw added (read-line c.opening-version.result.0 c.args.bytes.now c.loop-text.script.lines c.loop-text.rest.now c.in-Some.text.now c.in-Some.next.now c.in-Ok.line c.loop-text.invariant.so_far c.in-Some.ensures.pieces line);
      same = rw added c.loop-text.invariant.same;
      room = rw (added, length_push) (omega (arith, c.in-Some.ensures.shorter));
    }

pub returns-in-Err-Bad-clause-refused : goal.returns-in-Err-Bad-clause-refused
returns-in-Err-Bad-clause-refused c =
    let bad : line_of c.opening-version.result.0 c.in-Some.text.now ≡ Err c.in-Err-Bad.cause = rw c.in-Err-Bad.field-0-is at c.in-Err-Bad.ensures.value in
    rw (c.in-Err-Bad.cause-is, c.lines.ensures.value)
    (read-bad c.opening-version.result.0 c.args.bytes.now c.loop-text.script.lines c.loop-text.rest.now c.in-Some.text.now c.in-Some.next.now c.in-Err-Bad.cause c.loop-text.invariant.so_far c.in-Some.ensures.pieces bad)

pub returns-then-is_empty-clause-read : goal.returns-then-is_empty-clause-read
returns-then-is_empty-clause-read c =
    let rest = c.loop-text.rest.now in
    let empty : length rest ≡ 0 = eqb-true _ _ (sym c.is_empty.ensures ∙ c.if-is_empty.true) in
    read-end c.opening-version.result.0 c.args.bytes.now c.loop-text.script.lines rest c.loop-text.invariant.so_far c.in_default.ensures.pieces empty

pub returns-else-is_empty-clause-refused : goal.returns-else-is_empty-clause-refused
returns-else-is_empty-clause-refused c =
    let rest = c.loop-text.rest.now in
    let filled : length rest ≡ 0 → ⊥ = eqb-false _ _ (sym c.is_empty.ensures ∙ c.if-is_empty.false) in
    rw c.lines-else-is_empty.ensures.value
    (read-open c.opening-version.result.0 c.args.bytes.now c.loop-text.script.lines rest c.loop-text.invariant.so_far c.in_default.ensures.pieces (omega arith))
