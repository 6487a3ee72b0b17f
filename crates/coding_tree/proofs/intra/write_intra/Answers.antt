use Rattle.std.proofs.Common.{refl}
use Rattle.h265_model.specs.Residual.{scan_kind}
use Rattle.bin_items.proofs.Growing.{front_as, front_first, front_then, writes_as, writes_at_err, writes_then}
use Rattle.coding_tree.proofs.UnitLaws.{intra_is, scan_small}
use Rattle.coding_tree.proofs.intra.write_intra.Goals as goal

pub write_block-requires-clause-scan : goal.write_block-requires-clause-scan
write_block-requires-clause-scan g c = scan_small c.args.mode c.args.leaf.block.log2 c.scan_kind-scan.result c.scan_kind-scan.ensures

pub write_block-requires-2-clause-scan : goal.write_block-requires-2-clause-scan
write_block-requires-2-clause-scan g c = scan_small c.args.mode c.args.leaf.block.log2 c.scan_kind-scan.result c.scan_kind-scan.ensures

pub write_block-requires-3-clause-scan : goal.write_block-requires-3-clause-scan
write_block-requires-3-clause-scan g c = scan_small c.args.mode c.args.leaf.block.log2 c.scan_kind-scan.result c.scan_kind-scan.ensures

pub returns-in_err-write_prediction-clause-taken : goal.returns-in_err-write_prediction-clause-taken
returns-in_err-write_prediction-clause-taken g c = λ before stands.
    writes_at_err _ _ _ _ _ c.from_residual.ensures.1 (front_as _ _ _ _ (intra_is _ _ _ before c.args.leaf c.args.mode (scan_kind c.args.mode c.args.leaf.block.log2) c.levels_of-luma.result c.levels_of-cb.result c.levels_of-cr.result c.cbf-has_luma.result c.cbf-has_cb.result c.cbf-has_cr.result c.levels_of-luma.ensures.levels c.levels_of-luma.ensures.kept c.levels_of-cb.ensures.levels c.levels_of-cb.ensures.kept c.levels_of-cr.ensures.levels c.cbf-has_luma.ensures c.cbf-has_cb.ensures c.cbf-has_cr.ensures refl)
    (front_first _ _ _ _ (c.in_err-write_prediction.ensures.taken before stands)))

pub returns-in_err-write_coded_flags-clause-taken : goal.returns-in_err-write_coded_flags-clause-taken
returns-in_err-write_coded_flags-clause-taken g c = λ before stands.
    writes_at_err _ _ _ _ _ c.from_residual-in_err-write_coded_flags.ensures.1 (front_as _ _ _ _ (intra_is _ _ _ before c.args.leaf c.args.mode (scan_kind c.args.mode c.args.leaf.block.log2) c.levels_of-luma.result c.levels_of-cb.result c.levels_of-cr.result c.cbf-has_luma.result c.cbf-has_cb.result c.cbf-has_cr.result c.levels_of-luma.ensures.levels c.levels_of-luma.ensures.kept c.levels_of-cb.ensures.levels c.levels_of-cb.ensures.kept c.levels_of-cr.ensures.levels c.cbf-has_luma.ensures c.cbf-has_cb.ensures c.cbf-has_cr.ensures refl)
    (front_then _ _ _ _ _ (c.in_ok-write_prediction.ensures.taken before stands) (front_first _ _ _ _ c.in_err-write_coded_flags.ensures.taken)))

pub returns-in_err-write_block-clause-taken : goal.returns-in_err-write_block-clause-taken
returns-in_err-write_block-clause-taken g c = λ before stands.
    writes_at_err _ _ _ _ _ c.from_residual-in_err-write_block.ensures.1 (front_as _ _ _ _ (intra_is _ _ _ before c.args.leaf c.args.mode c.scan_kind-scan.result c.levels_of-luma.result c.levels_of-cb.result c.levels_of-cr.result c.cbf-has_luma.result c.cbf-has_cb.result c.cbf-has_cr.result c.levels_of-luma.ensures.levels c.levels_of-luma.ensures.kept c.levels_of-cb.ensures.levels c.levels_of-cb.ensures.kept c.levels_of-cr.ensures.levels c.cbf-has_luma.ensures c.cbf-has_cb.ensures c.cbf-has_cr.ensures c.scan_kind-scan.ensures)
    (front_then _ _ _ _ _ (c.in_ok-write_prediction.ensures.taken before stands) (front_then _ _ _ _ _ c.in_ok-write_coded_flags.ensures.taken (front_first _ _ _ _ c.in_err-write_block.ensures.taken))))

pub returns-in_err-write_block-2-clause-taken : goal.returns-in_err-write_block-2-clause-taken
returns-in_err-write_block-2-clause-taken g c = λ before stands.
    writes_at_err _ _ _ _ _ c.from_residual-in_err-write_block-2.ensures.1 (front_as _ _ _ _ (intra_is _ _ _ before c.args.leaf c.args.mode c.scan_kind-scan.result c.levels_of-luma.result c.levels_of-cb.result c.levels_of-cr.result c.cbf-has_luma.result c.cbf-has_cb.result c.cbf-has_cr.result c.levels_of-luma.ensures.levels c.levels_of-luma.ensures.kept c.levels_of-cb.ensures.levels c.levels_of-cb.ensures.kept c.levels_of-cr.ensures.levels c.cbf-has_luma.ensures c.cbf-has_cb.ensures c.cbf-has_cr.ensures c.scan_kind-scan.ensures)
    (front_then _ _ _ _ _ (c.in_ok-write_prediction.ensures.taken before stands) (front_then _ _ _ _ _ c.in_ok-write_coded_flags.ensures.taken (front_then _ _ _ _ _ c.in_ok-write_block.ensures.taken (front_first _ _ _ _ c.in_err-write_block-2.ensures.taken)))))

pub returns-clause-taken : goal.returns-clause-taken
returns-clause-taken g c = λ before stands.
    writes_as _ _ _ _ _ (intra_is _ _ _ before c.args.leaf c.args.mode c.scan_kind-scan.result c.levels_of-luma.result c.levels_of-cb.result c.levels_of-cr.result c.cbf-has_luma.result c.cbf-has_cb.result c.cbf-has_cr.result c.levels_of-luma.ensures.levels c.levels_of-luma.ensures.kept c.levels_of-cb.ensures.levels c.levels_of-cb.ensures.kept c.levels_of-cr.ensures.levels c.cbf-has_luma.ensures c.cbf-has_cb.ensures c.cbf-has_cr.ensures c.scan_kind-scan.ensures)
    (writes_then _ _ _ _ _ _ (c.in_ok-write_prediction.ensures.taken before stands) (writes_then _ _ _ _ _ _ c.in_ok-write_coded_flags.ensures.taken (writes_then _ _ _ _ _ _ c.in_ok-write_block.ensures.taken (writes_then _ _ _ _ _ _ c.in_ok-write_block-2.ensures.taken c.write_block-3.ensures.taken))))
