use Rattle.std.proofs.Common.{sym, ◌∙◌, ap, subst, rules, arith, ℕ, ◌+◌, ◌-◌, ◌<◌, Some}
use Rattle.h265_model.specs.Plain.{ctus}
use Rattle.h265_model.specs.Motion.{leaves}
use Rattle.unit_read.specs.Units.{AreTaken}
use Rattle.tree_read.proofs.TreeReads.{Step, Ends, none_taken, split_none, split_no, ends_1, ends_2, ends_3, ends_4, all_done, reads_as}
use Rattle.tree_read.proofs.Splits.{IsQuartered, quartered, by_one}
use Rattle.tree_read.proofs.block.+read_block.Goals as goal

pub returns-then-not-is_inside-clause-read : goal.returns-then-not-is_inside-clause-read
returns-then-not-is_inside-clause-read g t c = λ before are. none_taken (g.S.LeafSink.stands_for c.args.sink.now) c.args.kind c.args.size c.args.depth c.args.x c.args.y before c.args.decoder.now c.args.grid.now c.args.motion.now (sym c.is_inside.ensures ∙ c.if-not-is_inside.true) are

pub returns-in_err-read_split-clause-read : goal.returns-in_err-read_split-clause-read
returns-in_err-read_split-clause-read g t c = λ before are. rw c.from_residual.ensures (split_none c.args.kind c.args.size c.args.depth c.args.x c.args.y before c.args.decoder.now (sym c.is_inside.ensures ∙ c.if-not-is_inside.false) (c.in_err-read_split.ensures.value (leaves before) are.modes))

pub returns-then-not-branch-clause-read : goal.returns-then-not-branch-clause-read
returns-then-not-branch-clause-read g t c = λ before are.
    reads_as c.read_unit.result _ _ c.read_unit.new.decoder (AreTaken (g.S.LeafSink.stands_for c.args.sink.now) (g.S.LeafSink.stands_for c.read_unit.new.sink) c.args.size c.args.x c.args.y c.read_unit.new.grid c.read_unit.new.motion before)
    (sym (split_no c.args.kind c.args.size c.args.depth c.args.x c.args.y before c.args.decoder.now c.read_split.new.decoder (sym c.is_inside.ensures ∙ c.if-not-is_inside.false) (c.in_ok-read_split.ensures.value (leaves before) are.modes ∙ ap (λ b. Some (b, c.read_split.new.decoder)) c.if-not-branch.true))) (c.read_unit.ensures.read before are)

pub read_block-requires : goal.read_block-requires
read_block-requires g t c κs within =
    let more : 0 < c.args.depth = c.in_ok-read_split.ensures.deep c.if-not-branch.false in
    let qx : IsQuartered c.args.depth c.side-half.result c.args.x (ctus c.args.size.w) = quartered c.args.depth c.side-half.result c.args.x (ctus c.args.size.w) c.requires.few more c.side-half.ensures.value c.requires.column c.requires.across in
    let qy : IsQuartered c.args.depth c.side-half.result c.args.y (ctus c.args.size.h) = quartered c.args.depth c.side-half.result c.args.y (ctus c.args.size.h) c.requires.few more c.side-half.ensures.value c.requires.row c.requires.down in
    (search rules, (search rules, (search rules, (c.requires.grid, (c.requires.motion, (c.requires.size, (omega (arith, c.requires.few), (qx.first, (qy.first, (c.requires.across, c.requires.down))))))))))

pub read_block-requires-2 : goal.read_block-requires-2
read_block-requires-2 g t c κs within =
    let more : 0 < c.args.depth = c.in_ok-read_split.ensures.deep c.if-not-branch.false in
    let qx : IsQuartered c.args.depth c.side-half.result c.args.x (ctus c.args.size.w) = quartered c.args.depth c.side-half.result c.args.x (ctus c.args.size.w) c.requires.few more c.side-half.ensures.value c.requires.column c.requires.across in
    let qy : IsQuartered c.args.depth c.side-half.result c.args.y (ctus c.args.size.h) = quartered c.args.depth c.side-half.result c.args.y (ctus c.args.size.h) c.requires.few more c.side-half.ensures.value c.requires.row c.requires.down in
    (search rules, (search rules, (search rules, (c.read_block.ensures.grid, (c.read_block.ensures.motion, (ap (λ p. p.size) c.read_block.ensures.last ∙ c.requires.size, (omega (arith, c.requires.few), (qx.second, (qy.first, (qx.place, c.requires.down))))))))))

pub read_block-requires-3 : goal.read_block-requires-3
read_block-requires-3 g t c κs within =
    let more : 0 < c.args.depth = c.in_ok-read_split.ensures.deep c.if-not-branch.false in
    let qx : IsQuartered c.args.depth c.side-half.result c.args.x (ctus c.args.size.w) = quartered c.args.depth c.side-half.result c.args.x (ctus c.args.size.w) c.requires.few more c.side-half.ensures.value c.requires.column c.requires.across in
    let qy : IsQuartered c.args.depth c.side-half.result c.args.y (ctus c.args.size.h) = quartered c.args.depth c.side-half.result c.args.y (ctus c.args.size.h) c.requires.few more c.side-half.ensures.value c.requires.row c.requires.down in
    (search rules, (search rules, (search rules, (c.read_block-2.ensures.grid, (c.read_block-2.ensures.motion, (ap (λ p. p.size) c.read_block-2.ensures.last ∙ ap (λ p. p.size) c.read_block.ensures.last ∙ c.requires.size, (omega (arith, c.requires.few), (qx.first, (qy.second, (c.requires.across, qy.place))))))))))

pub read_block-requires-4 : goal.read_block-requires-4
read_block-requires-4 g t c κs within =
    let more : 0 < c.args.depth = c.in_ok-read_split.ensures.deep c.if-not-branch.false in
    let qx : IsQuartered c.args.depth c.side-half.result c.args.x (ctus c.args.size.w) = quartered c.args.depth c.side-half.result c.args.x (ctus c.args.size.w) c.requires.few more c.side-half.ensures.value c.requires.column c.requires.across in
    let qy : IsQuartered c.args.depth c.side-half.result c.args.y (ctus c.args.size.h) = quartered c.args.depth c.side-half.result c.args.y (ctus c.args.size.h) c.requires.few more c.side-half.ensures.value c.requires.row c.requires.down in
    (search rules, (search rules, (search rules, (c.read_block-3.ensures.grid, (c.read_block-3.ensures.motion, (ap (λ p. p.size) c.read_block-3.ensures.last ∙ ap (λ p. p.size) c.read_block-2.ensures.last ∙ ap (λ p. p.size) c.read_block.ensures.last ∙ c.requires.size, (omega (arith, c.requires.few), (qx.second, (qy.second, (qx.place, qy.place))))))))))

pub returns-in_err-read_block-clause-read : goal.returns-in_err-read_block-clause-read
returns-in_err-read_block-clause-read g t c = λ before are.
    let more : 0 < c.args.depth = c.in_ok-read_split.ensures.deep c.if-not-branch.false in
    let qx : IsQuartered c.args.depth c.side-half.result c.args.x (ctus c.args.size.w) = quartered c.args.depth c.side-half.result c.args.x (ctus c.args.size.w) c.requires.few more c.side-half.ensures.value c.requires.column c.requires.across in
    let qy : IsQuartered c.args.depth c.side-half.result c.args.y (ctus c.args.size.h) = quartered c.args.depth c.side-half.result c.args.y (ctus c.args.size.h) c.requires.few more c.side-half.ensures.value c.requires.row c.requires.down in
    rw c.from_residual-in_err-read_block.ensures (ends_1 c.args.kind c.args.size c.args.depth (c.args.depth - 1) c.args.x c.args.y before c.args.decoder.now c.read_split.new.decoder c.args.grid.now c.args.motion.now (by_one c.args.depth more) (sym c.is_inside.ensures ∙ c.if-not-is_inside.false) (c.in_ok-read_split.ensures.value (leaves before) are.modes ∙ ap (λ b. Some (b, c.read_split.new.decoder)) c.if-not-branch.false) are c.in_err-read_block.ensures.read)

pub returns-in_err-read_block-2-clause-read : goal.returns-in_err-read_block-2-clause-read
returns-in_err-read_block-2-clause-read g t c = λ before are.
    let more : 0 < c.args.depth = c.in_ok-read_split.ensures.deep c.if-not-branch.false in
    let qx : IsQuartered c.args.depth c.side-half.result c.args.x (ctus c.args.size.w) = quartered c.args.depth c.side-half.result c.args.x (ctus c.args.size.w) c.requires.few more c.side-half.ensures.value c.requires.column c.requires.across in
    let qy : IsQuartered c.args.depth c.side-half.result c.args.y (ctus c.args.size.h) = quartered c.args.depth c.side-half.result c.args.y (ctus c.args.size.h) c.requires.few more c.side-half.ensures.value c.requires.row c.requires.down in
    rw c.from_residual-in_err-read_block-2.ensures (ends_2 c.args.kind c.args.size c.args.depth (c.args.depth - 1) c.args.x c.args.y before c.args.decoder.now c.read_split.new.decoder c.read_block.new.decoder (g.S.LeafSink.stands_for c.args.sink.now) (g.S.LeafSink.stands_for c.read_block.new.sink) c.args.grid.now c.read_block.new.grid c.args.motion.now c.read_block.new.motion (by_one c.args.depth more) (sym c.is_inside.ensures ∙ c.if-not-is_inside.false) (c.in_ok-read_split.ensures.value (leaves before) are.modes ∙ ap (λ b. Some (b, c.read_split.new.decoder)) c.if-not-branch.false) are c.in_ok-read_block.ensures.read (subst (λ (n : ℕ). Ends c.args.kind c.args.size (c.args.depth - 1) (c.args.x + n) c.args.y c.read_block.new.decoder c.read_block.new.grid c.read_block.new.motion) c.side-half.ensures.value c.in_err-read_block-2.ensures.read))

pub returns-in_err-read_block-3-clause-read : goal.returns-in_err-read_block-3-clause-read
returns-in_err-read_block-3-clause-read g t c = λ before are.
    let more : 0 < c.args.depth = c.in_ok-read_split.ensures.deep c.if-not-branch.false in
    let qx : IsQuartered c.args.depth c.side-half.result c.args.x (ctus c.args.size.w) = quartered c.args.depth c.side-half.result c.args.x (ctus c.args.size.w) c.requires.few more c.side-half.ensures.value c.requires.column c.requires.across in
    let qy : IsQuartered c.args.depth c.side-half.result c.args.y (ctus c.args.size.h) = quartered c.args.depth c.side-half.result c.args.y (ctus c.args.size.h) c.requires.few more c.side-half.ensures.value c.requires.row c.requires.down in
    rw c.from_residual-in_err-read_block-3.ensures (ends_3 c.args.kind c.args.size c.args.depth (c.args.depth - 1) c.args.x c.args.y before c.args.decoder.now c.read_split.new.decoder c.read_block.new.decoder c.read_block-2.new.decoder (g.S.LeafSink.stands_for c.args.sink.now) (g.S.LeafSink.stands_for c.read_block.new.sink) (g.S.LeafSink.stands_for c.read_block-2.new.sink) c.args.grid.now c.read_block.new.grid c.read_block-2.new.grid c.args.motion.now c.read_block.new.motion c.read_block-2.new.motion (by_one c.args.depth more) (sym c.is_inside.ensures ∙ c.if-not-is_inside.false) (c.in_ok-read_split.ensures.value (leaves before) are.modes ∙ ap (λ b. Some (b, c.read_split.new.decoder)) c.if-not-branch.false) (omega (arith, c.requires.few)) qx.whole qy.whole c.requires.across are c.in_ok-read_block.ensures.read (subst (λ (n : ℕ). Step c.args.kind c.args.size (c.args.depth - 1) (c.args.x + n) c.args.y c.read_block.new.decoder c.read_block-2.new.decoder (g.S.LeafSink.stands_for c.read_block.new.sink) (g.S.LeafSink.stands_for c.read_block-2.new.sink) c.read_block.new.grid c.read_block.new.motion c.read_block-2.new.grid c.read_block-2.new.motion) c.side-half.ensures.value c.in_ok-read_block-2.ensures.read) (subst (λ (n : ℕ). Ends c.args.kind c.args.size (c.args.depth - 1) c.args.x (c.args.y + n) c.read_block-2.new.decoder c.read_block-2.new.grid c.read_block-2.new.motion) c.side-half.ensures.value c.in_err-read_block-3.ensures.read))

pub returns-in_err-read_block-4-clause-read : goal.returns-in_err-read_block-4-clause-read
returns-in_err-read_block-4-clause-read g t c = λ before are.
    let more : 0 < c.args.depth = c.in_ok-read_split.ensures.deep c.if-not-branch.false in
    let qx : IsQuartered c.args.depth c.side-half.result c.args.x (ctus c.args.size.w) = quartered c.args.depth c.side-half.result c.args.x (ctus c.args.size.w) c.requires.few more c.side-half.ensures.value c.requires.column c.requires.across in
    let qy : IsQuartered c.args.depth c.side-half.result c.args.y (ctus c.args.size.h) = quartered c.args.depth c.side-half.result c.args.y (ctus c.args.size.h) c.requires.few more c.side-half.ensures.value c.requires.row c.requires.down in
    rw c.from_residual-in_err-read_block-4.ensures (ends_4 c.args.kind c.args.size c.args.depth (c.args.depth - 1) c.args.x c.args.y before c.args.decoder.now c.read_split.new.decoder c.read_block.new.decoder c.read_block-2.new.decoder c.read_block-3.new.decoder (g.S.LeafSink.stands_for c.args.sink.now) (g.S.LeafSink.stands_for c.read_block.new.sink) (g.S.LeafSink.stands_for c.read_block-2.new.sink) (g.S.LeafSink.stands_for c.read_block-3.new.sink) c.args.grid.now c.read_block.new.grid c.read_block-2.new.grid c.read_block-3.new.grid c.args.motion.now c.read_block.new.motion c.read_block-2.new.motion c.read_block-3.new.motion (by_one c.args.depth more) (sym c.is_inside.ensures ∙ c.if-not-is_inside.false) (c.in_ok-read_split.ensures.value (leaves before) are.modes ∙ ap (λ b. Some (b, c.read_split.new.decoder)) c.if-not-branch.false) (omega (arith, c.requires.few)) qx.whole qy.whole c.requires.across are c.in_ok-read_block.ensures.read (subst (λ (n : ℕ). Step c.args.kind c.args.size (c.args.depth - 1) (c.args.x + n) c.args.y c.read_block.new.decoder c.read_block-2.new.decoder (g.S.LeafSink.stands_for c.read_block.new.sink) (g.S.LeafSink.stands_for c.read_block-2.new.sink) c.read_block.new.grid c.read_block.new.motion c.read_block-2.new.grid c.read_block-2.new.motion) c.side-half.ensures.value c.in_ok-read_block-2.ensures.read) (subst (λ (n : ℕ). Step c.args.kind c.args.size (c.args.depth - 1) c.args.x (c.args.y + n) c.read_block-2.new.decoder c.read_block-3.new.decoder (g.S.LeafSink.stands_for c.read_block-2.new.sink) (g.S.LeafSink.stands_for c.read_block-3.new.sink) c.read_block-2.new.grid c.read_block-2.new.motion c.read_block-3.new.grid c.read_block-3.new.motion) c.side-half.ensures.value c.in_ok-read_block-3.ensures.read) (subst (λ (n : ℕ). Ends c.args.kind c.args.size (c.args.depth - 1) (c.args.x + n) (c.args.y + n) c.read_block-3.new.decoder c.read_block-3.new.grid c.read_block-3.new.motion) c.side-half.ensures.value c.in_err-read_block-4.ensures.read))

pub returns-clause-read : goal.returns-clause-read
returns-clause-read g t c = λ before are.
    let more : 0 < c.args.depth = c.in_ok-read_split.ensures.deep c.if-not-branch.false in
    let qx : IsQuartered c.args.depth c.side-half.result c.args.x (ctus c.args.size.w) = quartered c.args.depth c.side-half.result c.args.x (ctus c.args.size.w) c.requires.few more c.side-half.ensures.value c.requires.column c.requires.across in
    let qy : IsQuartered c.args.depth c.side-half.result c.args.y (ctus c.args.size.h) = quartered c.args.depth c.side-half.result c.args.y (ctus c.args.size.h) c.requires.few more c.side-half.ensures.value c.requires.row c.requires.down in
    all_done c.args.kind c.args.size c.args.depth (c.args.depth - 1) c.args.x c.args.y before c.args.decoder.now c.read_split.new.decoder c.read_block.new.decoder c.read_block-2.new.decoder c.read_block-3.new.decoder c.read_block-4.new.decoder (g.S.LeafSink.stands_for c.args.sink.now) (g.S.LeafSink.stands_for c.read_block.new.sink) (g.S.LeafSink.stands_for c.read_block-2.new.sink) (g.S.LeafSink.stands_for c.read_block-3.new.sink) (g.S.LeafSink.stands_for c.read_block-4.new.sink) c.args.grid.now c.read_block.new.grid c.read_block-2.new.grid c.read_block-3.new.grid c.read_block-4.new.grid c.args.motion.now c.read_block.new.motion c.read_block-2.new.motion c.read_block-3.new.motion c.read_block-4.new.motion (by_one c.args.depth more) (sym c.is_inside.ensures ∙ c.if-not-is_inside.false) (c.in_ok-read_split.ensures.value (leaves before) are.modes ∙ ap (λ b. Some (b, c.read_split.new.decoder)) c.if-not-branch.false) (omega (arith, c.requires.few)) qx.whole qy.whole c.requires.across are c.in_ok-read_block.ensures.read (subst (λ (n : ℕ). Step c.args.kind c.args.size (c.args.depth - 1) (c.args.x + n) c.args.y c.read_block.new.decoder c.read_block-2.new.decoder (g.S.LeafSink.stands_for c.read_block.new.sink) (g.S.LeafSink.stands_for c.read_block-2.new.sink) c.read_block.new.grid c.read_block.new.motion c.read_block-2.new.grid c.read_block-2.new.motion) c.side-half.ensures.value c.in_ok-read_block-2.ensures.read) (subst (λ (n : ℕ). Step c.args.kind c.args.size (c.args.depth - 1) c.args.x (c.args.y + n) c.read_block-2.new.decoder c.read_block-3.new.decoder (g.S.LeafSink.stands_for c.read_block-2.new.sink) (g.S.LeafSink.stands_for c.read_block-3.new.sink) c.read_block-2.new.grid c.read_block-2.new.motion c.read_block-3.new.grid c.read_block-3.new.motion) c.side-half.ensures.value c.in_ok-read_block-3.ensures.read) (subst (λ (n : ℕ). Step c.args.kind c.args.size (c.args.depth - 1) (c.args.x + n) (c.args.y + n) c.read_block-3.new.decoder c.read_block-4.new.decoder (g.S.LeafSink.stands_for c.read_block-3.new.sink) (g.S.LeafSink.stands_for c.read_block-4.new.sink) c.read_block-3.new.grid c.read_block-3.new.motion c.read_block-4.new.grid c.read_block-4.new.motion) c.side-half.ensures.value c.in_ok-read_block-4.ensures.read)
