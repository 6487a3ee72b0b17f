use Rattle.std.proofs.Common.{◌≡◌, arith}
use Rattle.h265_model.specs.Binarise.{bypass_bins, fl}
use Rattle.h265_model.specs.Bits.{u}
use Rattle.bin_items.specs.Growth.{TookAllBut}
use Rattle.bin_items.proofs.Growing.{took_one_more, took_as, took_all, open_as}
use Rattle.bin_items.proofs.Bits.{first_bin}
use Rattle.bin_items.proofs.sink.BinSink.bypass.Goals as goal

pub loop-left-preserved : goal.loop-left-preserved
loop-left-preserved g c = let h = c.in_ok-bin.ensures in record {
  few = omega arith;
  opened = open_as _ _ h.phase tt;
  taken = took_one_more _ _ _ _ _ _ (took_as _ _ _ _ _ (first_bin c.loop-left.left c.args.value (omega arith)) c.loop-left.invariant.taken) h.taken;
}

pub returns-clause-taken : goal.returns-clause-taken
unfolding u
returns-clause-taken g c =
    let e : c.loop-left.left ≡ 0 = omega arith in
    took_all _ _ _ (let t : TookAllBut (bypass_bins (fl 0 c.args.value)) _ _ _ = rw e at c.loop-left.invariant.taken in t)
