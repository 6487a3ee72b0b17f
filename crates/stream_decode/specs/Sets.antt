-- The parameter sets at the front of a stream.
use Rattle.std.specs.Prelude.{◌≡◌, ◌+◌, [], ◌∷◌, drop, Result, Ok, Err}
use Rattle.h265_model.specs.NalUnits.{NalUnit}
use Rattle.h265_model.specs.Decode.{sets_or_number}
use Rattle.param_sets.specs.declared.writing.Params.{Params}
use Rattle.stream_decode.specs.Steps.{Units}
use Rattle.stream_decode.specs.declared.error.DecodeError.{DecodeError}
use Rattle.stream_decode.specs.declared.error.DecodeError.TheVariants.{BadStream, NoMemory}

-- the next NAL unit was taken, or there is none, which its number tells
abbrev pub TakesUnit : Result NalUnit DecodeError → Units → Units → Type 0
TakesUnit (Ok unit) old new = (old.list ≡ unit ∷ new.list) × (new.number ≡ old.number + 1)
TakesUnit (Err (BadStream at)) old new = (old.list ≡ []) × (at ≡ old.number)
TakesUnit (Err NoMemory) old new = Unit {0}

-- the three parameter sets were taken, or one fails or is missing (7.4.2.4.2)
abbrev pub ReadsSets : Result Params DecodeError → Units → Units → Type 0
ReadsSets (Ok params) old new = (sets_or_number old.list ≡ Ok (params.size, params.segments)) × (new.list ≡ drop 3 old.list) × (new.number ≡ 3)
ReadsSets (Err (BadStream at)) old new = sets_or_number old.list ≡ Err at
ReadsSets (Err NoMemory) old new = Unit {0}
