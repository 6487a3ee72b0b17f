use Rattle.picture_encoder.proofs.Following as following
use Rattle.picture_encoder.proofs.each_picture_follows.Goals as goal

pub returns : goal.returns
returns c = following.each_picture_follows
