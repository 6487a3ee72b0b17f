-- No stream has more pictures than bytes, and what a reader of it says of decoding.
use Rattle.std.proofs.Common.{◌≡◌, ℕ, ◌+◌, ◌-◌, ◌≤◌, Bool, true, false, List, [], ◌∷◌, ◌++◌, length, drop, Option, Some, None, Result, Ok, Err, refl, sym, ◌∙◌, ap, subst, arith, length-append, take}
use Rattle.std.proofs.lemmas.List.{length-drop}
use Rattle.h265_model.specs.Plain.{Size}
use Rattle.h265_model.specs.Bits.{◌>>-◌}
use Rattle.h265_model.specs.Raster.{Raster}
use Rattle.h265_model.specs.NalUnits.{NalUnit, units}
use Rattle.h265_model.specs.Decode.{start_codes, Stand, Decoded, at_first, step, shown, shown_of, sets_or_number, decode}
use Rattle.stream_decode.specs.Readings.{Rest, Reading, reading, rest_of, with_shown, is_hash_refused, reading_of, decoded}
use Rattle.stream_decode.proofs.Counts.{few_units}
use Rattle.stream_decode.proofs.Decoding.{on_from, reading_is_decoding}
use Rattle.px_plane.specs.Planes.{black}

-- ---- how many pictures there are

few_shown : (size : Size) (ended : Bool) (last : Option Decoded) → length (shown_of size ended last) ≤ 1
few_shown size true (Some now) = omega arith
few_shown size true None = omega arith
few_shown size false last = omega arith

few_with : (ps : List Raster) (refused : Bool) (rest : Rest) → length (with_shown ps refused rest).pictures ≤ length ps + length rest.pictures
few_with ps true rest = omega arith
few_with ps false rest = omega (arith, length-append ps rest.pictures)

few_after : (size : Size) (segments : Bool) (n : ℕ) (us : List NalUnit) (s : Option Stand) →
    ((after : Stand) → length (rest_of size segments (n + 1) after us).pictures ≤ length us) → length (on_from size segments n s us).pictures ≤ length us + 1
few_after size segments n us None h = omega arith
few_after size segments n us (Some after) h =
    omega (arith, few_with (shown size after) (is_hash_refused after us) (rest_of size segments (n + 1) after us), few_shown size after.ended after.last, h after)

few_rest : (size : Size) (segments : Bool) (n : ℕ) (stand : Stand) (us : List NalUnit) → length (rest_of size segments n stand us).pictures ≤ length us
unfolding rest_of
few_rest size segments n stand [] = omega arith
few_rest size segments n stand (unit ∷ us) =
    omega (arith, few_after size segments n us (step size segments stand unit) (λ after. few_rest size segments (n + 1) after us))

pub few_pictures : (bytes : List ℕ) (r : Reading) → reading_of bytes ≡ Ok r → length r.pictures ≤ length bytes
few_pictures bytes r e = at (units bytes) refl e
  where
    in_sets : (us : List NalUnit) (s : Result (Size × Bool) ℕ) → length us ≤ length bytes →
        (s >>- λ sets. Ok (reading sets.0 (rest_of sets.0 sets.1 3 at_first (drop 3 us)) (black sets.0))) ≡ Ok r → length r.pictures ≤ length bytes
    in_sets us (Err n) few e = absurd (cc)
    in_sets us (Ok sets) few e =
        let is : r ≡ reading sets.0 (rest_of sets.0 sets.1 3 at_first (drop 3 us)) (black sets.0) = cc in
        subst (λ (q : Reading). length q.pictures ≤ length bytes) (sym is)
        (omega (arith, few_rest sets.0 sets.1 3 at_first (drop 3 us), length-drop 3 us, few))

    at : (u : Result (List NalUnit) ℕ) → units bytes ≡ u →
        ((elim u [ Ok us ↦ Ok us | Err at ↦ Err (start_codes (take at bytes) - 1) ]) >>- λ us. sets_or_number us >>- λ sets. Ok (reading sets.0 (rest_of sets.0 sets.1 3 at_first (drop 3 us)) (black sets.0))) ≡ Ok r →
        length r.pictures ≤ length bytes
    at (Err n) is e = absurd (cc)
    at (Ok us) is e = in_sets us (sets_or_number us) (few_units bytes us is) e

-- ---- what a reader of a stream says of decoding

decoded_at : (bytes : List ℕ) (u : Result Reading ℕ) → reading_of bytes ≡ u → decode bytes ≡ (u >>- decoded)
decoded_at bytes u e = reading_is_decoding bytes ∙ ap (λ (q : Result Reading ℕ). q >>- decoded) e

pub decode_refused : (bytes : List ℕ) (at : ℕ) → reading_of bytes ≡ Err at → decode bytes ≡ Err at
decode_refused bytes at e = decoded_at bytes (Err at) e

pub decode_whole : (bytes : List ℕ) (r : Reading) → reading_of bytes ≡ Ok r → r.stop ≡ None → decode bytes ≡ Ok (r.size, r.pictures)
decode_whole bytes r e stop =
    decoded_at bytes (Ok r) e ∙ ap (λ (s : Option ℕ). elim s [ None ↦ Ok (r.size, r.pictures) | Some n ↦ Err n ]) stop

pub decode_stopped : (bytes : List ℕ) (r : Reading) (at : ℕ) → reading_of bytes ≡ Ok r → r.stop ≡ Some at → decode bytes ≡ Err at
decode_stopped bytes r at e stop =
    decoded_at bytes (Ok r) e ∙ ap (λ (s : Option ℕ). elim s [ None ↦ Ok (r.size, r.pictures) | Some n ↦ Err n ]) stop
