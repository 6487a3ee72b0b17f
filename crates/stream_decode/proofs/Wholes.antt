-- The next picture, and what was read of a stream after it.
use Rattle.std.proofs.Common.{◌≡◌, refl, sym, ◌∙◌, ap, subst, ℕ, ◌+◌, ◌<◌, Bool, true, false, List, [], ◌∷◌, arith}
use Rattle.std.specs.Prelude.{◌≢◌, Option, Some, None, MatchOption}
use Rattle.h265_model.specs.declared.rgb.Rgb.{Rgb}
use Rattle.h265_model.specs.Plain.{Size, coded}
use Rattle.h265_model.specs.Raster.{Raster, crop, stored_picture}
use Rattle.h265_model.specs.NalUnits.{NalUnit}
use Rattle.h265_model.specs.Stream.{nal_header}
use Rattle.h265_model.specs.Decode.{Stand, Decoded, step, slice_step, picture_step, decoded_picture}
use Rattle.h265_model.proofs.Squares.{same_places}
use Rattle.px_plane.specs.Planes.{Planes, planes_of}
use Rattle.px_plane.proofs.Shown.{stored_at}
use Rattle.annexb.specs.Walks.{first_header}
use Rattle.stream_decode.specs.Readings.{Rest, Reading, reading, rest_of, raster_of}
use Rattle.stream_decode.specs.Answers.{IsReadOn}
use Rattle.stream_decode.specs.Steps.{Units, rest, failing, last_of, between, right_after, after_picture, picture_first}
use Rattle.stream_decode.proofs.Decoding.{on_from, unit_first}
use Rattle.stream_decode.proofs.NextUnits.{other_fails, unit_taken}

-- a NAL unit with the header of a picture's
pub step_at_picture : (size : Size) (segments idr : Bool) (stand : Stand) (unit : NalUnit) → unit.header ≡ nal_header idr → step size segments stand unit ≡ picture_step size segments idr stand unit.rbsp
unfolding step
step_at_picture size segments true stand unit is = ap (λ (h : List ℕ). step size segments stand (record { header = h; rbsp = unit.rbsp })) is
step_at_picture size segments false stand unit is = ap (λ (h : List ℕ). step size segments stand (record { header = h; rbsp = unit.rbsp })) is

-- a NAL unit was taken, since there is one
pub next_taken : (found : Option (List ℕ)) (header rbsp : List ℕ) (from to : Units) → first_header from.list ≡ Some header
    → MatchOption found ((from.list ≡ []) × (to ≡ from)) (λ h. (from.list ≡ record { header = h; rbsp = rbsp } ∷ to.list) × (to.number ≡ from.number + 1))
    → (from.list ≡ record { header = header; rbsp = rbsp } ∷ to.list) × (to.number ≡ from.number + 1)
next_taken None header rbsp from to first taken = let e : None ≡ Some header = sym (ap first_header taken.0) ∙ first in absurd (cc)
next_taken (Some other) header rbsp from to first taken =
    let e : Some other ≡ Some header = sym (ap first_header taken.0) ∙ first in
    let same : other ≡ header = cc in
    unit_taken (Some other) header rbsp from to (ap (λ (h : List ℕ). Some h) same) taken

-- a picture of one slice
one_step : (size : Size) (idr : Bool) (last : Option Decoded) (rbsp : List ℕ) (from to : Units) → from.list ≡ record { header = nal_header idr; rbsp = rbsp } ∷ to.list
    → rest size false (between last) from ≡ on_from size false from.number (slice_step size idr (between last) rbsp) to.list
one_step size idr last rbsp from to is =
    let unit : NalUnit = record { header = nal_header idr; rbsp = rbsp } in
    ap (λ (l : List NalUnit). rest size false (between last) (record { number = from.number; list = l })) is
    ∙ (unit_first size false from.number (between last) unit to.list
    ∙ ap (λ (o : Option Stand). on_from size false from.number o to.list) (step_at_picture size false idr (between last) unit refl))

pub slice_taken : (size : Size) (segments idr : Bool) (last : Option Decoded) (found : Option (List ℕ)) (rbsp : List ℕ) (from to : Units) (now : Decoded) → segments ≡ false → first_header from.list ≡ Some (nal_header idr)
    → MatchOption found ((from.list ≡ []) × (to ≡ from)) (λ h. (from.list ≡ record { header = h; rbsp = rbsp } ∷ to.list) × (to.number ≡ from.number + 1))
    → slice_step size idr (between last) rbsp ≡ Some (right_after now) → rest size segments (between last) from ≡ after_picture size segments now to
slice_taken size true idr last found rbsp from to now whole first taken read = absurd (cc)
slice_taken size false idr last found rbsp from to now whole first taken read =
    let t = next_taken found (nal_header idr) rbsp from to first taken in
    one_step size idr last rbsp from to t.0
    ∙ (ap (λ (o : Option Stand). on_from size false from.number o to.list) read
    ∙ ap (λ (n : ℕ). after_picture size false now (record { number = n; list = to.list })) (sym t.1))

pub slice_fails : (size : Size) (segments idr : Bool) (last : Option Decoded) (found : Option (List ℕ)) (rbsp : List ℕ) (from to : Units) → segments ≡ false → first_header from.list ≡ Some (nal_header idr)
    → MatchOption found ((from.list ≡ []) × (to ≡ from)) (λ h. (from.list ≡ record { header = h; rbsp = rbsp } ∷ to.list) × (to.number ≡ from.number + 1))
    → slice_step size idr (between last) rbsp ≡ None → rest size segments (between last) from ≡ failing from.number
slice_fails size true idr last found rbsp from to whole first taken none = absurd (cc)
slice_fails size false idr last found rbsp from to whole first taken none =
    let t = next_taken found (nal_header idr) rbsp from to first taken in
    one_step size idr last rbsp from to t.0 ∙ ap (λ (o : Option Stand). on_from size false from.number o to.list) none

-- ---- a stream that is read on

-- a place of the desktop lies in the coded picture
within : (n x : ℕ) → x < n → x < coded n
within n x h = omega arith

pub raster_shown : (p : Planes) → crop p.size (stored_picture p.size (planes_of p)) ≡ raster_of p
unfolding crop
raster_shown p =
    same_places {A = Rgb} p.size.w p.size.h _ _ (λ x y hx hy.
    let wide : x < coded p.size.w = within p.size.w x hx in
    let high : y < coded p.size.h = within p.size.h y hy in
    let r = stored_at p 2 x y (omega arith) wide high in
    let g = stored_at p 0 x y (omega arith) wide high in
    let b = stored_at p 1 x y (omega arith) wide high in
    rw (r, g, b) refl)

at_end : (size : Size) (segments : Bool) (last : Option Decoded) (number : ℕ) (list : List NalUnit) → first_header list ≡ None → rest_of size segments number (between last) list ≡ record { pictures = []; stop = None }
unfolding rest_of
at_end size segments last number [] none = refl
at_end size segments last number (unit ∷ list) none = absurd (cc)

at_other : (size : Size) (segments : Bool) (last : Option Decoded) (number : ℕ) (list : List NalUnit) (header : List ℕ) → first_header list ≡ Some header → header ≢ nal_header true → header ≢ nal_header false
    → rest_of size segments number (between last) list ≡ failing number
at_other size segments last number [] header first idr trail = absurd (cc)
at_other size segments last number (unit ∷ list) header first idr trail =
    let same : unit.header ≡ header = cc in
    other_fails size segments last number unit list (λ e. idr (sym same ∙ e)) (λ e. trail (sym same ∙ e))

pub nothing_left : (r : Reading) (size : Size) (segments : Bool) (last : Option Decoded) (units : Units) (picture : Planes) → r ≡ reading size (rest size segments (between last) units) picture → first_header units.list ≡ None
    → (r.pictures ≡ []) × (r.stop ≡ None) × (r ≡ r)
nothing_left r size segments last units picture is none =
    let e : r ≡ reading size (record { pictures = []; stop = None }) picture = is ∙ ap (λ (t : Rest). reading size t picture) (at_end size segments last units.number units.list none) in
    (ap (λ (q : Reading). q.pictures) e, ap (λ (q : Reading). q.stop) e, refl)

pub fails_there : (r : Reading) (size : Size) (segments : Bool) (last : Option Decoded) (units : Units) (picture : Planes) (header : List ℕ) (n : ℕ) → r ≡ reading size (rest size segments (between last) units) picture
    → first_header units.list ≡ Some header → header ≢ nal_header true → header ≢ nal_header false → n ≡ units.number → (r.pictures ≡ []) × (r.stop ≡ Some n) × (r ≡ r)
fails_there r size segments last units picture header n is first idr trail number =
    let e : r ≡ reading size (failing n) picture =
    is ∙ (ap (λ (t : Rest). reading size t picture) (at_other size segments last units.number units.list header first idr trail) ∙ ap (λ (m : ℕ). reading size (failing m) picture) (sym number)) in
    (ap (λ (q : Reading). q.pictures) e, ap (λ (q : Reading). q.stop) e, refl)

-- the picture that is shown is the one that was kept
pub read_on : (r : Reading) (size : Size) (segments : Bool) (last : Option Decoded) (from after to : Units) (before now : Planes) (poc : ℕ) → r ≡ reading size (rest size segments (between last) from) before → now.size ≡ size
    → rest size segments (between last) from ≡ after_picture size segments (record { poc = poc; planes = planes_of now }) after
    → after_picture size segments (record { poc = poc; planes = planes_of now }) after ≡ picture_first size segments (record { poc = poc; planes = planes_of now }) to
    → IsReadOn r (reading size (rest size segments (between (last_of (Some poc) now)) to) now)
read_on r size segments last from after to before now poc is sized read passed =
    let d : Decoded = record { poc = poc; planes = planes_of now } in
    let e : r ≡ reading size (picture_first size segments d to) before = is ∙ ap (λ (t : Rest). reading size t before) (read ∙ passed) in
    let shown : crop size (decoded_picture size d) ≡ raster_of now = subst (λ (s : Size). crop s (stored_picture s (planes_of now)) ≡ raster_of now) sized (raster_shown now) in
    let others : List Raster = (rest size segments (between (Some d)) to).pictures in
    record {
      size = sym (ap (λ (q : Reading). q.size) e);
      next = ap (λ (q : Reading). q.pictures) e ∙ ap (λ (p : Raster). p ∷ others) shown;
      stop = sym (ap (λ (q : Reading). q.stop) e);
      same_size = sized;
    }
