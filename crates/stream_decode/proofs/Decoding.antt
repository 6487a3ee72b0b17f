-- What is still to be read of a stream gives what decoding it gives.
use Rattle.std.proofs.Common.{◌≡◌, refl, sym, ◌∙◌, ap, ℕ, ◌+◌, Bool, true, false, List, [], ◌∷◌, ◌++◌, drop}
use Rattle.std.specs.Prelude.{not, Option, Some, None, Result, Ok, Err, bytes_eq, is_some}
use Rattle.std.proofs.lemmas.Slice.Eq.{bytes_eq-Decides}
use Rattle.h265_model.proofs.FieldLaws.{both}
use Rattle.h265_model.specs.Plain.{Size}
use Rattle.h265_model.specs.Bits.{◌>>-◌}
use Rattle.h265_model.specs.Raster.{Raster}
use Rattle.h265_model.specs.NalUnits.{NalUnit}
use Rattle.h265_model.specs.Hash.{hash_header}
use Rattle.h265_model.specs.Decode.{Stand, Begun, at_first, at_end, at_number, step, hash_step, shown, read_units, units_or_number, sets_or_number, decode}
use Rattle.px_plane.specs.Planes.{black}
use Rattle.stream_decode.specs.Readings.{Rest, is_hash_refused, with_shown, stop_at_end, rest_of, reading, decoded}
use Rattle.stream_decode.specs.Laws.{EachReadingIsDecoding}

-- what decoding gives of what is still to be read
abbrev answer : Rest → Result (List Raster) ℕ
answer rest = elim rest.stop [ None ↦ Ok rest.pictures | Some n ↦ Err n ]

-- nothing more, up to the NAL unit that fails
abbrev pub failing : ℕ → Rest
failing n = record { pictures = []; stop = Some n }

-- what NAL units after one that leads here have to give
abbrev pub on_from : Size → Bool → ℕ → Option Stand → List NalUnit → Rest
on_from size segments n o units = elim o [
  | None ↦ failing n
  | Some after ↦ with_shown (shown size after) (is_hash_refused after units) (rest_of size segments (n + 1) after units)
]

pub unit_first : (size : Size) (segments : Bool) (n : ℕ) (stand : Stand) (unit : NalUnit) (units : List NalUnit)
    → rest_of size segments n stand (unit ∷ units) ≡ on_from size segments n (step size segments stand unit) units
unfolding rest_of
unit_first size segments n stand unit units = refl

-- a NAL unit with the header of a hash
pub step_at_hash : (size : Size) (segments : Bool) (stand : Stand) (unit : NalUnit) → unit.header ≡ hash_header → step size segments stand unit ≡ hash_step stand unit.rbsp
unfolding step
step_at_hash size segments stand unit is = ap (λ (h : List ℕ). step size segments stand (record { header = h; rbsp = unit.rbsp })) is

none_of : {A : Type 0} (o : Option A) → not (is_some o) ≡ true → o ≡ None
none_of None h = refl
none_of (Some x) h = absurd (cc)

-- a hash that is refused fails
pub refused_fails : (size : Size) (segments : Bool) (n : ℕ) (stand : Stand) (units : List NalUnit) → is_hash_refused stand units ≡ true → rest_of size segments n stand units ≡ failing n
refused_fails size segments n stand [] h = absurd (cc)
refused_fails size segments n stand (unit ∷ units) h =
    let b = both (bytes_eq unit.header hash_header) (not (is_some (hash_step stand unit.rbsp))) h in
    let header : unit.header ≡ hash_header = (bytes_eq-Decides unit.header hash_header).0 b.0 in
    unit_first size segments n stand unit units
    ∙ ap (λ (o : Option Stand). on_from size segments n o units) (step_at_hash size segments stand unit header ∙ none_of (hash_step stand unit.rbsp) b.1)

ends : (n : ℕ) (begun : Option Begun) → at_end n begun ≡ answer (record { pictures = []; stop = elim begun [ None ↦ None | Some b ↦ Some n ] })
ends n None = refl
ends n (Some begun) = refl

-- pictures before others
shown_before : (pictures : List Raster) (rest : Rest) → (answer rest >>- λ others. Ok (pictures ++ others)) ≡ answer (record { pictures = pictures ++ rest.pictures; stop = rest.stop })
shown_before pictures rest = go rest.stop
  where
    go : (stop : Option ℕ) → (answer (record { pictures = rest.pictures; stop = stop }) >>- λ others. Ok (pictures ++ others)) ≡ answer (record { pictures = pictures ++ rest.pictures; stop = stop })
    go None = refl
    go (Some n) = refl

with_before : (pictures : List Raster) (refused : Bool) (rest : Rest) (n : ℕ) → (refused ≡ true → rest ≡ failing n)
    → (answer rest >>- λ others. Ok (pictures ++ others)) ≡ answer (with_shown pictures refused rest)
with_before pictures false rest n fails = shown_before pictures rest
with_before pictures true rest n fails =
    let e : rest ≡ failing n = fails refl in
    ap (λ (r : Rest). answer r >>- λ others. Ok (pictures ++ others)) e ∙ sym (ap answer e)

units_as : (size : Size) (segments : Bool) (n : ℕ) (stand : Stand) (units : List NalUnit) → read_units size segments n stand units ≡ answer (rest_of size segments n stand units)
unfolding read_units rest_of
units_as size segments n stand [] = go stand.begun
  where
    go : (begun : Option Begun) → at_end n begun ≡ answer (record { pictures = []; stop = stop_at_end n (record { last = stand.last; begun = begun; ended = stand.ended }) })
    go None = refl
    go (Some begun) = refl
units_as size segments n stand (unit ∷ units) = go (λ after. units_as size segments (n + 1) after units) (step size segments stand unit)
  where
    Later : Type 0
    Later = (after : Stand) → read_units size segments (n + 1) after units ≡ answer (rest_of size segments (n + 1) after units)

    go : Later → (o : Option Stand)
        → (at_number n o >>- λ after. read_units size segments (n + 1) after units >>- λ others. Ok (shown size after ++ others)) ≡ answer (on_from size segments n o units)
    go later None = refl
    go later (Some after) =
        ap (λ (r : Result (List Raster) ℕ). r >>- λ others. Ok (shown size after ++ others)) (later after)
        ∙ with_before (shown size after) (is_hash_refused after units) (rest_of size segments (n + 1) after units) (n + 1) (refused_fails size segments (n + 1) after units)

whole : (size : Size) (rest : Rest) → (answer rest >>- λ pictures. Ok (size, pictures)) ≡ decoded (reading size rest (black size))
whole size rest = go rest.stop
  where
    go : (stop : Option ℕ) → (answer (record { pictures = rest.pictures; stop = stop }) >>- λ pictures. Ok (size, pictures)) ≡ decoded (reading size (record { pictures = rest.pictures; stop = stop }) (black size))
    go None = refl
    go (Some n) = refl

pub reading_is_decoding : EachReadingIsDecoding
unfolding decode
reading_is_decoding bytes = go (units_or_number bytes)
  where
    all : List NalUnit → Size × Bool → Result (Size × List Raster) ℕ
    all us sets = read_units sets.0 sets.1 3 at_first (drop 3 us) >>- λ pictures. Ok (sets.0, pictures)

    read : (us : List NalUnit) (sets : Size × Bool) → all us sets ≡ decoded (reading sets.0 (rest_of sets.0 sets.1 3 at_first (drop 3 us)) (black sets.0))
    read us sets =
        ap (λ (r : Result (List Raster) ℕ). r >>- λ pictures. Ok (sets.0, pictures)) (units_as sets.0 sets.1 3 at_first (drop 3 us))
        ∙ whole sets.0 (rest_of sets.0 sets.1 3 at_first (drop 3 us))

    sets_go : (us : List NalUnit) (s : Result (Size × Bool) ℕ) → (s >>- all us) ≡ ((s >>- λ sets. Ok (reading sets.0 (rest_of sets.0 sets.1 3 at_first (drop 3 us)) (black sets.0))) >>- decoded)
    sets_go us (Err n) = refl
    sets_go us (Ok sets) = read us sets

    go : (u : Result (List NalUnit) ℕ)
        → (u >>- λ us. sets_or_number us >>- all us)
        ≡ ((u >>- λ us. sets_or_number us >>- λ sets. Ok (reading sets.0 (rest_of sets.0 sets.1 3 at_first (drop 3 us)) (black sets.0))) >>- decoded)
    go (Err n) = refl
    go (Ok us) = sets_go us (sets_or_number us)
