use Rattle.std.proofs.Common.{◌≡◌, sym, ◌∙◌, [], append-nil, arith}
use Rattle.h265_model.specs.Bits.{u}
use Rattle.h265_model.specs.Binarise.{bypass_bins, fl}
use Rattle.bin_items.specs.Growth.{TookAllBut}
use Rattle.bin_items.proofs.Growing.{took_more, took_as, took_all, open_as}
use Rattle.cabac_bytes.specs.State.{stands_for}
use Rattle.cabac_bytes.proofs.Grown.{open_range, grew_follows, first_few, all_few}
use Rattle.cabac_bytes.proofs.coder.ByteCoderBinSink.bypass.Goals as goal

pub loop-left-preserved : goal.loop-left-preserved
loop-left-preserved c =
    let left = c.loop-left.left in
    let f = c.in_ok-bypass_few.ensures.ok in
    let open_now = open_range c.loop-left.self c.loop-left.invariant.opened in
    let most = c.loop-left.invariant.few in
    record {
      few = omega arith;
      opened = open_as _ _ f.phase tt;
      taken = took_more _ _ _ _ _ _ (took_as _ _ _ _ _ (first_few left 16 c.args.value (omega arith) (omega arith)) c.loop-left.invariant.taken) (grew_follows _ c.loop-left.self c.bypass_few.new.self open_now f);
    }

pub returns-then-left-eq0-clause-taken : goal.returns-then-left-eq0-clause-taken
unfolding u
returns-then-left-eq0-clause-taken c =
    let e : c.loop-left.left ≡ 0 = c.if-left-eq0.true in
    took_all _ _ _ (let t : TookAllBut (bypass_bins (fl 0 c.args.value)) (bypass_bins (fl c.args.count c.args.value)) (stands_for c.args.self.now) (stands_for c.loop-left.self) = rw e at c.loop-left.invariant.taken in t)

pub returns-clause-taken : goal.returns-clause-taken
returns-clause-taken c =
    let left = c.loop-left.left in
    let f = c.in_ok-bypass_few-2.ensures.ok in
    let open_now = open_range c.loop-left.self c.loop-left.invariant.opened in
    took_all _ _ _ (took_more _ _ [] _ _ _ (took_as _ _ _ _ _ (sym (all_few left c.args.value (omega arith)) ∙ sym (append-nil _)) c.loop-left.invariant.taken) (grew_follows _ c.loop-left.self c.bypass_few-2.new.self open_now f))
