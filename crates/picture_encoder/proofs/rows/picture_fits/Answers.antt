use Rattle.std.proofs.Common.{subst}
use Rattle.h265_model.specs.Plain.{AreBytes}
use Rattle.picture_encoder.proofs.Choices.{bytes_are}
use Rattle.picture_encoder.proofs.rows.picture_fits.Goals as goal

pub returns-clause-samples : goal.returns-clause-samples
returns-clause-samples c =
    bytes_are c.args.picture.now (subst AreBytes c.plane.ensures.plane c.bytes_fit.ensures) (subst AreBytes c.plane-2.ensures.plane c.bytes_fit-2.ensures)
    (subst AreBytes c.plane-3.ensures.plane c.bytes_fit-3.ensures)
