use Rattle.std.proofs.Common.{◌-◌}
use Rattle.slice_head.proofs.SegmentLaws.{digits_are}
use Rattle.slice_head.proofs.segment.address_bits.Goals as goal

pub returns-clause-count : goal.returns-clause-count
returns-clause-count c = digits_are (c.args.ctus - 1) c.ilog2.result c.ilog2.ensures.power_le c.ilog2.ensures.next_power_gt c.ilog2.ensures.bound
