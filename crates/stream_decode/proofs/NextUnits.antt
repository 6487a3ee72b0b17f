-- What follows a picture: its hash, or another NAL unit.
use Rattle.std.proofs.Common.{◌≡◌, refl, sym, ◌∙◌, ap, subst, ℕ, ◌+◌, Bool, true, false, cond, List, [], ◌∷◌}
use Rattle.std.specs.Prelude.{◌≢◌, ◌↔◌, ◌&&◌, IsTrue, not, Option, Some, None, MatchOption, bytes_eq, is_some}
use Rattle.std.proofs.lemmas.Slice.Eq.{bytes_eq-Decides}
use Rattle.h265_model.specs.Plain.{Size}
use Rattle.h265_model.specs.NalUnits.{NalUnit}
use Rattle.h265_model.specs.Hash.{hash_header, hash_of_planes}
use Rattle.h265_model.specs.Stream.{nal_header}
use Rattle.h265_model.specs.Decode.{Stand, Decoded, step, picture_step, slice_step, segment_step, hash_step, shown}
use Rattle.stream_decode.specs.Readings.{Rest, is_hash_refused, with_shown, rest_of}
use Rattle.stream_decode.specs.Steps.{Units, rest, failing, between, right_after, is_hash_next, after_picture, picture_first}
use Rattle.stream_decode.proofs.Decoding.{on_from, unit_first, step_at_hash, refused_fails}

-- whether a picture has just ended matters to a hash alone
picture_same : (size : Size) (segments idr : Bool) (now : Decoded) (rbsp : List ℕ) → picture_step size segments idr (right_after now) rbsp ≡ picture_step size segments idr (between (Some now)) rbsp
unfolding slice_step segment_step
picture_same size false idr now rbsp = refl
picture_same size true idr now rbsp = refl

step_same : (size : Size) (segments : Bool) (now : Decoded) (unit : NalUnit) → bytes_eq unit.header hash_header ≡ false → step size segments (right_after now) unit ≡ step size segments (between (Some now)) unit
unfolding step
step_same size segments now unit other = go (bytes_eq unit.header (nal_header true)) (bytes_eq unit.header (nal_header false)) (bytes_eq unit.header hash_header) other
  where
    all : Stand → Bool → Bool → Bool → Option Stand
    all stand a b h = cond a (picture_step size segments true stand unit.rbsp) (cond b (picture_step size segments false stand unit.rbsp) (cond h (hash_step stand unit.rbsp) None))

    go : (a b h : Bool) → h ≡ false → all (right_after now) a b h ≡ all (between (Some now)) a b h
    go true b h e = picture_same size segments true now unit.rbsp
    go false true h e = picture_same size segments false now unit.rbsp
    go false false true e = absurd (cc)
    go false false false e = refl

units_same : (size : Size) (segments : Bool) (n : ℕ) (now : Decoded) (units : List NalUnit) → is_hash_next units ≡ false → rest_of size segments n (right_after now) units ≡ rest_of size segments n (between (Some now)) units
unfolding rest_of
units_same size segments n now [] other = refl
units_same size segments n now (unit ∷ units) other = ap (λ (o : Option Stand). on_from size segments n o units) (step_same size segments now unit other)

none_refused : (stand : Stand) (units : List NalUnit) → is_hash_next units ≡ false → is_hash_refused stand units ≡ false
none_refused stand [] other = refl
none_refused stand (unit ∷ units) other = ap (λ (b : Bool). b && not (is_some (hash_step stand unit.rbsp))) other

-- no hash follows
pub no_hash : (size : Size) (segments : Bool) (now : Decoded) (units : Units) → is_hash_next units.list ≡ false → after_picture size segments now units ≡ picture_first size segments now units
no_hash size segments now units other =
    ap (λ (b : Bool). with_shown (shown size (right_after now)) b (rest size segments (right_after now) units)) (none_refused (right_after now) units.list other)
    ∙ ap (λ (r : Rest). with_shown (shown size (right_after now)) false r) (units_same size segments units.number now units.list other)

-- the hash step, by a test of the message
abbrev hash_after : Decoded → Bool → Option Stand
hash_after now fits = cond fits (Some (between (Some now))) None

hash_tested : (now : Decoded) (rbsp : List ℕ) → hash_step (right_after now) rbsp ≡ hash_after now (bytes_eq rbsp (hash_of_planes now.planes))
unfolding hash_step
hash_tested now rbsp = refl

fitting : (now : Decoded) (rbsp : List ℕ) → rbsp ≡ hash_of_planes now.planes → hash_step (right_after now) rbsp ≡ Some (between (Some now))
fitting now rbsp is = hash_tested now rbsp ∙ ap (hash_after now) ((bytes_eq-Decides rbsp (hash_of_planes now.planes)).1 is)

differing : (now : Decoded) (rbsp : List ℕ) → rbsp ≢ hash_of_planes now.planes → hash_step (right_after now) rbsp ≡ None
differing now rbsp other = hash_tested now rbsp ∙ ap (hash_after now) (go (bytes_eq rbsp (hash_of_planes now.planes)) refl)
  where
    go : (b : Bool) → bytes_eq rbsp (hash_of_planes now.planes) ≡ b → b ≡ false
    go true e = absurd (other ((bytes_eq-Decides rbsp (hash_of_planes now.planes)).0 e))
    go false e = refl

same_header : (header : List ℕ) → header ≡ hash_header → bytes_eq header hash_header ≡ true
same_header header is = (bytes_eq-Decides header hash_header).1 is

nothing_shown : (refused : Bool) (r : Rest) → with_shown [] refused r ≡ r
nothing_shown true r = refl
nothing_shown false r = refl

-- a hash follows, and is that of the picture
pub hash_passes : (size : Size) (segments : Bool) (now : Decoded) (number : ℕ) (unit : NalUnit) (units : List NalUnit) → unit.header ≡ hash_header → unit.rbsp ≡ hash_of_planes now.planes
    → after_picture size segments now (record { number = number; list = unit ∷ units }) ≡ picture_first size segments now (record { number = number + 1; list = units })
hash_passes size segments now number unit units header is =
    let taken : hash_step (right_after now) unit.rbsp ≡ Some (between (Some now)) = fitting now unit.rbsp is in
    let kept : is_hash_refused (right_after now) (unit ∷ units) ≡ false =
    ap (λ (b : Bool). b && not (is_some (hash_step (right_after now) unit.rbsp))) (same_header unit.header header) ∙ ap (λ (o : Option Stand). not (is_some o)) taken in
    let read : rest_of size segments number (right_after now) (unit ∷ units) ≡ rest_of size segments (number + 1) (between (Some now)) units =
    unit_first size segments number (right_after now) unit units
    ∙ (ap (λ (o : Option Stand). on_from size segments number o units) (step_at_hash size segments (right_after now) unit header ∙ taken)
    ∙ nothing_shown (is_hash_refused (between (Some now)) units) (rest_of size segments (number + 1) (between (Some now)) units)) in
    ap (λ (b : Bool). with_shown (shown size (right_after now)) b (rest_of size segments number (right_after now) (unit ∷ units))) kept
    ∙ ap (λ (r : Rest). with_shown (shown size (right_after now)) false r) read

-- a hash follows, and is that of another picture
pub hash_fails : (size : Size) (segments : Bool) (now : Decoded) (number : ℕ) (unit : NalUnit) (units : List NalUnit) → unit.header ≡ hash_header → unit.rbsp ≢ hash_of_planes now.planes
    → after_picture size segments now (record { number = number; list = unit ∷ units }) ≡ failing number
hash_fails size segments now number unit units header other =
    let refused : is_hash_refused (right_after now) (unit ∷ units) ≡ true =
    ap (λ (b : Bool). b && not (is_some (hash_step (right_after now) unit.rbsp))) (same_header unit.header header) ∙ ap (λ (o : Option Stand). not (is_some o)) (differing now unit.rbsp other) in
    ap (λ (b : Bool). with_shown (shown size (right_after now)) b (rest_of size segments number (right_after now) (unit ∷ units))) refused
    ∙ refused_fails size segments number (right_after now) (unit ∷ units) refused

-- ---- the same of what was taken

header_is : (list more : List NalUnit) (unit : NalUnit) → is_hash_next list ≡ true → list ≡ unit ∷ more → unit.header ≡ hash_header
header_is list more unit next is = (bytes_eq-Decides unit.header hash_header).0 (sym (ap is_hash_next is) ∙ next)

pub taken_passes : (size : Size) (segments : Bool) (now : Decoded) (from to : Units) (unit : NalUnit) (fits : Bool) → is_hash_next from.list ≡ true → from.list ≡ unit ∷ to.list → to.number ≡ from.number + 1
    → IsTrue fits ↔ (unit.rbsp ≡ hash_of_planes now.planes) → fits ≡ true → after_picture size segments now from ≡ picture_first size segments now to
taken_passes size segments now from to unit fits next is number same true_ =
    ap (λ (l : List NalUnit). after_picture size segments now (record { number = from.number; list = l })) is
    ∙ (hash_passes size segments now from.number unit to.list (header_is from.list to.list unit next is) (same.0 true_)
    ∙ ap (λ (n : ℕ). picture_first size segments now (record { number = n; list = to.list })) (sym number))

pub taken_fails : (size : Size) (segments : Bool) (now : Decoded) (from to : Units) (unit : NalUnit) (fits : Bool) → is_hash_next from.list ≡ true → from.list ≡ unit ∷ to.list
    → IsTrue fits ↔ (unit.rbsp ≡ hash_of_planes now.planes) → fits ≡ false → after_picture size segments now from ≡ failing from.number
taken_fails size segments now from to unit fits next is same other =
    ap (λ (l : List NalUnit). after_picture size segments now (record { number = from.number; list = l })) is
    ∙ hash_fails size segments now from.number unit to.list (header_is from.list to.list unit next is) (λ e. let t : fits ≡ true = same.1 e in absurd (cc))

-- ---- between two pictures

-- a NAL unit that is none of a picture fails there
pub other_fails : (size : Size) (segments : Bool) (last : Option Decoded) (number : ℕ) (unit : NalUnit) (units : List NalUnit) → unit.header ≢ nal_header true → unit.header ≢ nal_header false
    → rest_of size segments number (between last) (unit ∷ units) ≡ failing number
unfolding step hash_step
other_fails size segments last number unit units idr trail =
    unit_first size segments number (between last) unit units
    ∙ ap (λ (o : Option Stand). on_from size segments number o units)
    (go (bytes_eq unit.header (nal_header true)) (bytes_eq unit.header (nal_header false)) (bytes_eq unit.header hash_header)
    (bytes_eq-Decides unit.header (nal_header true)).0 (bytes_eq-Decides unit.header (nal_header false)).0)
  where
    go : (a b h : Bool) → (a ≡ true → unit.header ≡ nal_header true) → (b ≡ true → unit.header ≡ nal_header false)
        → cond a (picture_step size segments true (between last) unit.rbsp) (cond b (picture_step size segments false (between last) unit.rbsp) (cond h None None)) ≡ None
    go true b h first second = absurd (idr (first refl))
    go false true h first second = absurd (trail (second refl))
    go false false true first second = refl
    go false false false first second = refl

-- ---- what was taken, by its header

-- a NAL unit was taken
pub unit_taken : (found : Option (List ℕ)) (header rbsp : List ℕ) (from to : Units) → found ≡ Some header
    → MatchOption found ((from.list ≡ []) × (to ≡ from)) (λ h. (from.list ≡ record { header = h; rbsp = rbsp } ∷ to.list) × (to.number ≡ from.number + 1))
    → (from.list ≡ record { header = header; rbsp = rbsp } ∷ to.list) × (to.number ≡ from.number + 1)
unit_taken found header rbsp from to is taken =
    subst (λ (o : Option (List ℕ)). MatchOption o ((from.list ≡ []) × (to ≡ from)) (λ h. (from.list ≡ record { header = h; rbsp = rbsp } ∷ to.list) × (to.number ≡ from.number + 1))) is taken
