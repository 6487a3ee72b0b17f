-- What codes a recording, as the encoder that it is.
use Rattle.picture_encoder.specs.Coded.{Coded}
use Rattle.screenrec.specs.declared.coder.AnyEncoder.{AnyEncoder}
use Rattle.screenrec.specs.declared.coder.AnyEncoder.TheVariants.{Picture, Segment, Moved}

abbrev pub coded : AnyEncoder → Coded
coded (Picture encoder) = encoder
coded (Segment encoder) = encoder
coded (Moved encoder) = encoder
