use Rattle.param_sets.proofs.SetLaws.{bad_vps, bad_sps, bad_pps, good_sets}
use Rattle.param_sets.proofs.reading.read_params.Goals as goal

pub returns-in-Err : goal.returns-in-Err
returns-in-Err c = bad_vps c.args.sets.now c.index-sets-0.result c.in-Err.field c.requires c.index-sets-0.is c.in-Err.ensures

pub returns-in-Err-read_sps : goal.returns-in-Err-read_sps
returns-in-Err-read_sps c =
    bad_sps c.args.sets.now c.index-sets-0.result c.index-sets-1.result c.in-Err-read_sps.field c.requires c.index-sets-0.is c.in_default.ensures c.index-sets-1.is c.in-Err-read_sps.ensures

pub returns-in-Ok-read_pps : goal.returns-in-Ok-read_pps
returns-in-Ok-read_pps c =
    good_sets c.args.sets.now c.index-sets-0.result c.index-sets-1.result c.index-sets-2.result c.in-Ok.size c.in-Ok-read_pps.segments c.requires c.index-sets-0.is c.in_default.ensures c.index-sets-1.is c.in-Ok.ensures c.index-sets-2.is c.in-Ok-read_pps.ensures

pub returns-in-Err-read_pps : goal.returns-in-Err-read_pps
returns-in-Err-read_pps c =
    bad_pps c.args.sets.now c.index-sets-0.result c.index-sets-1.result c.index-sets-2.result c.in-Ok.size c.in-Err-read_pps.field c.requires c.index-sets-0.is c.in_default.ensures c.index-sets-1.is c.in-Ok.ensures c.index-sets-2.is c.in-Err-read_pps.ensures
