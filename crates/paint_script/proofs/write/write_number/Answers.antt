use Rattle.std.proofs.Common.{◌≡◌, ◌∷◌, [], ◌++◌, ◌+◌, ◌-◌, ◌≤◌, length, drop, take, set, arith, sym, ap, ◌∙◌}
use Rattle.std.proofs.lemmas.List.{length-set, take_rest, append_assoc}
use Rattle.std.specs.Prelude.{decimal}
use Rattle.paint_script.proofs.Written.{small-first, small-step, digits-more, digits-first}
use Rattle.paint_script.proofs.write.write_number.Goals as goal

pub loop-left-preserved : goal.loop-left-preserved
loop-left-preserved c =
    let s = c.loop-left in
    let one : 1 ≤ s.first = small-first s.first s.left c.loop-left-test.true s.invariant.small in
    record {
      digits = length-set s.digits s.first _ ∙ s.invariant.digits;
      first = omega arith;
      small = small-step s.first s.left c.loop-left-test.true s.invariant.small;
      value = digits-more c.args.number s.left s.first s.digits c.loop-left-test.true (omega arith) one (omega arith) s.invariant.value;
    }

pub returns : goal.returns
returns c =
    let s = c.loop-left in
    let old = c.args.text.now.items in
    let ds = set s.digits s.first (48 + s.left) in
    let five : length ds ≡ 5 = length-set s.digits s.first (48 + s.left) ∙ s.invariant.digits in
    let written : take (5 - s.first) (drop s.first ds) ≡ decimal c.args.number =
    ap (λ n. take (n - s.first) (drop s.first ds)) (sym five) ∙ take_rest ds s.first ∙ digits-first c.args.number s.left s.first s.digits c.loop-left-test.false (omega arith) s.invariant.value in
    c.in_ok-extend_from_slice.ensures.items
    ∙ ap (λ t. t ++ take (5 - s.first) (drop s.first ds)) c.in_ok-push.ensures.items
    ∙ ap (λ d. (old ++ 32 ∷ []) ++ d) written
    ∙ append_assoc old (32 ∷ []) (decimal c.args.number)
