-- What is left of a byte stream, NAL unit by NAL unit.
use Rattle.std.proofs.Common.{◌≡◌, ℕ, zero, suc, ◌+◌, ◌-◌, ◌<◌, ◌≤◌, Bool, true, false, List, [], ◌∷◌, length, take, drop, get_or, Option, None, Some, Result, Ok, Err, refl, sym, ◌∙◌, ap, subst, arith}
use Rattle.std.specs.Prelude.{◌&&◌, ◌==◌, nat_lt, nat_le, if◌then◌else◌, MatchOption}
use Rattle.std.proofs.lemmas.Bool.Decides.{nat_tests}
use Rattle.std.proofs.lemmas.List.{length-drop, length-take, get_or-take, get_or-drop}
use Rattle.h265_model.specs.Bits.{◌>>-◌}
use Rattle.h265_model.specs.NalUnits.{NalUnit, is_end, only_zeros, payload, forbidden, unescape, nal_unit_of, next_start, units_within, units}
use Rattle.annexb.specs.Walks.{units_from, IsWalked, IsAhead}
use Rattle.annexb.proofs.Payloads.{goes_on, ends}
use Rattle.annexb.proofs.StartCodes.{drop_drop}
use Rattle.annexb.proofs.Streams.{units_after, at_end, at_refusal, some_left}

-- ---- more units than there are bytes make no difference

no_units : (n at : ℕ) → units_within n at [] ≡ Ok []
unfolding next_start
no_units n at = at_end n at [] refl

later_start : (byte code : Bool) (at : ℕ) (bytes : List ℕ) (r : Result (Option (ℕ × List ℕ)) ℕ) (found : ℕ × List ℕ) → (r ≡ Ok (Some found) → length found.1 < length bytes) → (if byte then r else if code then Ok (Some (at + 1, bytes)) else Err at) ≡ Ok (Some found) → length found.1 < suc (length bytes)
later_start true code at bytes r found short h = omega (arith, short h)
later_start false true at bytes r found short h =
    let here : ℕ × List ℕ = (at + 1, bytes) in
    let same : here ≡ found = cc in
    omega (arith, ap (λ (f : ℕ × List ℕ). length f.1) same)
later_start false false at bytes r found short h = absurd (cc)

-- fewer bytes stand after a start code
shorter : (at z : ℕ) (bytes : List ℕ) (found : ℕ × List ℕ) → next_start at z bytes ≡ Ok (Some found) → length found.1 < length bytes
unfolding next_start
shorter at z [] found h = absurd (cc)
shorter at z (b ∷ bytes) found h = later_start (b == 0) (b == 1 && nat_le 2 z) at bytes (next_start (at + 1) (z + 1) bytes) found (shorter (at + 1) (z + 1) bytes found) h

units_after-same : (n m len : ℕ) (r : Result (Option (ℕ × List ℕ)) ℕ) → ((found : ℕ × List ℕ) → r ≡ Ok (Some found) → length found.1 < len) → ((at : ℕ) (l : List ℕ) → length l < len → units_within n at l ≡ units_within m at l) → units_after n r ≡ units_after m r
units_after-same n m len (Err e) short same = refl
units_after-same n m len (Ok None) short same = refl
units_after-same n m len (Ok (Some found)) short same =
    let p : List ℕ = payload found.1 in
    let few = short found refl in
    ap (λ (r : Result (List NalUnit) ℕ). nal_unit_of found.0 p >>- λ first. r >>- λ others. Ok (first ∷ others)) (same (found.0 + length p) (drop (length p) found.1) (omega (arith, length-drop (length p) found.1)))

first_step : (n at : ℕ) (bytes : List ℕ) → units_within (suc n) at bytes ≡ units_after n (next_start at 0 bytes)
unfolding units_within
first_step n at bytes = refl

enough : (n m at : ℕ) (bytes : List ℕ) → length bytes ≤ n → length bytes ≤ m → units_within n at bytes ≡ units_within m at bytes
enough zero m at [] h k = no_units zero at ∙ sym (no_units m at)
enough zero m at (b ∷ bytes) h k = absurd (omega arith)
enough (suc n) zero at [] h k = no_units (suc n) at ∙ sym (no_units zero at)
enough (suc n) zero at (b ∷ bytes) h k = absurd (omega arith)
enough (suc n) (suc m) at bytes h k =
    first_step n at bytes
    ∙ units_after-same n m (length bytes) (next_start at 0 bytes) (λ found is. shorter at 0 bytes found is) (λ place l few. enough n m place l (omega arith) (omega arith))
    ∙ sym (first_step m at bytes)

-- ---- what a payload gives

-- a payload is what stands at the front
payload-front : (bytes : List ℕ) → payload bytes ≡ take (length (payload bytes)) bytes
unfolding payload
payload-front [] = refl
payload-front (b ∷ bytes) =
    let go : (test : Bool) → is_end (b ∷ bytes) ≡ test → payload (b ∷ bytes) ≡ take (length (payload (b ∷ bytes))) (b ∷ bytes) = λ test.
    elim test as (λ test. is_end (b ∷ bytes) ≡ test → payload (b ∷ bytes) ≡ take (length (payload (b ∷ bytes))) (b ∷ bytes)) [
      | true ↦ λ is. let P : List ℕ → Type 0 = λ p. p ≡ take (length p) (b ∷ bytes) in subst P (sym (ends b bytes is)) refl
      | false ↦ λ is. let P : List ℕ → Type 0 = λ p. p ≡ take (length p) (b ∷ bytes) in subst P (sym (goes_on b bytes is)) (ap (λ l. b ∷ l) (payload-front bytes))
    ] in go (is_end (b ∷ bytes)) refl

payload-short : (bytes : List ℕ) → length (payload bytes) ≤ length bytes
payload-short bytes = omega (arith, ap length (payload-front bytes), length-take (length (payload bytes)) bytes)

first_two : (p : List ℕ) → 2 ≤ length p → take 2 p ≡ get_or p 0 0 ∷ get_or p 1 0 ∷ []
first_two [] h = absurd (omega arith)
first_two (a ∷ []) h = absurd (omega arith)
first_two (a ∷ b ∷ p) h = refl

-- its first two bytes, by their places
pub header-is : (start : ℕ) (bytes : List ℕ) → 2 ≤ length (payload (drop start bytes)) → take 2 (payload (drop start bytes)) ≡ get_or bytes start 0 ∷ get_or bytes (start + 1) 0 ∷ []
header-is start bytes h =
    let rest = drop start bytes in
    let p = payload rest in
    let at : (k : ℕ) → k < length p → get_or p k 0 ≡ get_or bytes (start + k) 0 = λ k l.
    ap (λ (p : List ℕ). get_or p k 0) (payload-front rest) ∙ get_or-take (length p) rest k 0 l ∙ get_or-drop start bytes k 0 in
    let none : start + 0 ≡ start = omega arith in
    first_two p h
    ∙ ap (λ n. n ∷ get_or p 1 0 ∷ []) (at 0 (omega arith) ∙ ap (λ k. get_or bytes k 0) none)
    ∙ ap (λ n. get_or bytes start 0 ∷ n ∷ []) (at 1 (omega arith))

-- a NAL unit of a payload
pub record IsUnitOf (p : List ℕ) (unit : NalUnit) : Type 0 where
  pub two : 2 ≤ length p
  pub is : unit ≡ record { header = take 2 p; rbsp = unescape (drop 2 p) }

unit_if : (few : Bool) (place : Option ℕ) (at : ℕ) (p : List ℕ) (unit : NalUnit) → nat_lt (length p) 2 ≡ few → (if few then Err at else elim place [ None ↦ Ok (record { header = take 2 p; rbsp = unescape (drop 2 p) }) | Some place ↦ Err place ]) ≡ Ok unit → IsUnitOf p unit
unit_if true place at p unit is h = absurd (cc)
unit_if false None at p unit is h =
    let of : NalUnit = record { header = take 2 p; rbsp = unescape (drop 2 p) } in
    let same : unit ≡ of = cc in
    record { two = grind (arith, nat_tests); is = same }
unit_if false (Some place) at p unit is h = absurd (cc)

unit-of : (at : ℕ) (p : List ℕ) (unit : NalUnit) → nal_unit_of at p ≡ Ok unit → IsUnitOf p unit
unit-of at p unit h = unit_if (nat_lt (length p) 2) (forbidden at p) at p unit refl h

-- a NAL unit and those after it
pub record AreFirstAndOthers (r : Result NalUnit ℕ) (s : Result (List NalUnit) ℕ) (list : List NalUnit) : Type 0 where
  pub first : NalUnit
  pub others : List NalUnit
  pub read : r ≡ Ok first
  pub left : s ≡ Ok others
  pub all : list ≡ first ∷ others

first_and_others : (r : Result NalUnit ℕ) (s : Result (List NalUnit) ℕ) (list : List NalUnit) → (r >>- λ first. s >>- λ others. Ok (first ∷ others)) ≡ Ok list → AreFirstAndOthers r s list
first_and_others (Err e) s list h = absurd (cc)
first_and_others (Ok first) (Err e) list h = absurd (cc)
first_and_others (Ok first) (Ok others) list h = let same : list ≡ first ∷ others = cc in record { first = first; others = others; read = refl; left = refl; all = same }

pub unit-allowed : (at : ℕ) (p : List ℕ) → 2 ≤ length p → forbidden at p ≡ None → (unit : NalUnit) × (nal_unit_of at p ≡ Ok unit)
unit-allowed at p two none =
    let few : nat_lt (length p) 2 ≡ false = grind (arith, nat_tests) in
    (record { header = take 2 p; rbsp = unescape (drop 2 p) }, rw (few, none) refl)

-- ---- from a place on

from-is : (place : ℕ) (bytes : List ℕ) (list : List NalUnit) → units_within (length bytes) place (drop place bytes) ≡ Ok list → units_from place bytes ≡ list
unfolding units_from
from-is place bytes list h = rw (h, units_from) refl

walked : (place : ℕ) (bytes : List ℕ) (list : List NalUnit) → place ≤ length bytes → units_within (length bytes) place (drop place bytes) ≡ Ok list → IsWalked place bytes
walked place bytes list h is = record { within = h; read = is ∙ ap Ok (sym (from-is place bytes list is)) }

not_zeros : (zeros : Bool) (len : ℕ) (r : Result (List NalUnit) ℕ) (list : List NalUnit) → (if zeros then Err len else r) ≡ Ok list → r ≡ Ok list
not_zeros true len r list h = absurd (cc)
not_zeros false len r list h = h

-- a whole byte stream
whole : (bytes : List ℕ) (list : List NalUnit) → units bytes ≡ Ok list → units_within (length bytes) 0 (drop 0 bytes) ≡ Ok list
unfolding units
whole bytes list h = not_zeros (nat_lt 0 (length bytes) && only_zeros bytes) (length bytes) (units_within (length bytes) 0 bytes) list h

pub walked-start : (bytes : List ℕ) (list : List NalUnit) → units bytes ≡ Ok list → IsWalked 0 bytes
walked-start bytes list h = walked 0 bytes list (omega arith) (whole bytes list h)

pub from-start : (bytes : List ℕ) (list : List NalUnit) → units bytes ≡ Ok list → units bytes ≡ Ok (units_from 0 bytes)
from-start bytes list h = h ∙ ap Ok (sym (from-is 0 bytes list (whole bytes list h)))

-- no NAL unit is left
none-ahead : (place : ℕ) (bytes : List ℕ) → next_start place 0 (drop place bytes) ≡ Ok None → units_from place bytes ≡ []
none-ahead place bytes h = from-is place bytes [] (at_end (length bytes) place (drop place bytes) h)

-- nothing is refused on the way
pub not-refused : (place at : ℕ) (bytes : List ℕ) → IsWalked place bytes → next_start place 0 (drop place bytes) ≡ Err at → ⊥
not-refused place at bytes is h =
    let some = some_left place at (drop place bytes) h in
    let more : length bytes ≡ suc (length bytes - 1) = omega (arith, length-drop place bytes) in
    let refused = ap (λ (n : ℕ). units_within n place (drop place bytes)) more ∙ at_refusal (length bytes - 1) place at (drop place bytes) h in
    let read = is.read in
    cc

-- the NAL unit after a start code
is-ahead : (place start : ℕ) (bytes : List ℕ) → IsWalked place bytes → place < start → start ≤ length bytes → next_start place 0 (drop place bytes) ≡ Ok (Some (start, drop start bytes)) → IsAhead place start bytes
is-ahead place start bytes is later within code =
    let rest = drop start bytes in
    let p = payload rest in
    let after = start + length p in
    let long = length-drop start bytes in
    let short = payload-short rest in
    let f = length bytes - 1 in
    let more : length bytes ≡ suc f = omega arith in
    let left : List ℕ = drop (length p) rest in
    let step : units_within (length bytes) place (drop place bytes) ≡ (nal_unit_of start p >>- λ first. units_within f after left >>- λ others. Ok (first ∷ others)) =
    ap (λ (n : ℕ). units_within n place (drop place bytes)) more
    ∙ first_step f place (drop place bytes)
    ∙ ap (units_after f) code in
    let both = first_and_others (nal_unit_of start p) (units_within f after left) (units_from place bytes) (sym step ∙ is.read) in
    let unit = unit-of start p both.first both.read in
    let few : length left ≤ f = omega (arith, length-drop (length p) rest) in
    let others : units_within (length bytes) after (drop after bytes) ≡ Ok both.others =
    ap (λ (l : List ℕ). units_within (length bytes) after l) (sym (drop_drop (length p) start bytes))
    ∙ enough (length bytes) f after left (omega arith) few
    ∙ both.left in
    let inside : after ≤ length bytes = omega arith in
    record {
      later = later;
      within = inside;
      two = unit.two;
      units = both.all ∙ ap (λ (u : NalUnit). u ∷ both.others) unit.is ∙ ap (λ (l : List NalUnit). record { header = take 2 p; rbsp = unescape (drop 2 p) } ∷ l) (sym (from-is after bytes both.others others));
      after = walked after bytes both.others inside others;
    }

pub ahead-found : (place : ℕ) (bytes : List ℕ) (start : Option ℕ) → IsWalked place bytes →
    MatchOption start (next_start place 0 (drop place bytes) ≡ Ok None)
    (λ after. (place < after) × (after ≤ length bytes) × (next_start place 0 (drop place bytes) ≡ Ok (Some (after, drop after bytes)))) →
    MatchOption start (units_from place bytes ≡ []) (λ start. IsAhead place start bytes)
ahead-found place bytes None is code = none-ahead place bytes code
ahead-found place bytes (Some start) is code = is-ahead place start bytes is code.0 code.1 code.2
