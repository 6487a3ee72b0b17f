-- A stream is read NAL unit by NAL unit.
use Rattle.std.proofs.Common.{◌≡◌, ℕ, zero, suc, ◌+◌, ◌-◌, ◌<◌, ◌≤◌, Bool, true, false, List, [], ◌∷◌, ◌++◌, length, take, drop, Option, None, Some, Result, Ok, Err, refl, sym, ◌∙◌, ap, subst, arith, append_assoc}
use Rattle.std.specs.Prelude.{◌&&◌, nat_lt, MatchOption}
use Rattle.std.proofs.lemmas.Bool.Decides.{nat_tests}
use Rattle.std.proofs.lemmas.List.{append-nil, length_push, length-take-le, length-drop}
use Rattle.h265_model.specs.Bits.{◌>>-◌}
use Rattle.h265_model.specs.NalUnits.{NalUnit, only_zeros, payload, nal_unit_of, next_start, units_within, units}
use Rattle.annexb.proofs.Payloads.{rest_is}
use Rattle.annexb.proofs.StartCodes.{drop_drop}

-- the NAL units of the bytes up to a place are a list
pub record IsReadSoFar (bytes : List ℕ) (list : List NalUnit) (place : ℕ) : Type 0 where
  pub within : place ≤ length bytes
  pub few : length list ≤ place
  pub so_far : units bytes ≡ (units_within (length bytes - length list) place (drop place bytes) >>- λ others. Ok (list ++ others))

never : (b : Bool) → (b && false) ≡ false
never true = refl
never false = refl

all_right : (r : Result (List NalUnit) ℕ) → r ≡ (r >>- λ others. Ok ([] ++ others))
all_right (Ok l) = refl
all_right (Err e) = refl

none_less : (n : ℕ) → n ≡ n - 0
none_less n = omega arith

-- the stream isn't of zeros alone
starts : (bytes : List ℕ) → (nat_lt 0 (length bytes) && only_zeros bytes) ≡ false → units bytes ≡ units_within (length bytes) 0 bytes
unfolding units
starts bytes h = rw h refl

pub not_only_zeros : (bytes : List ℕ) → only_zeros bytes ≡ false → (nat_lt 0 (length bytes) && only_zeros bytes) ≡ false
not_only_zeros bytes h = rw h (never (nat_lt 0 (length bytes)))

pub no_bytes : (bytes : List ℕ) → length bytes ≡ 0 → (nat_lt 0 (length bytes) && only_zeros bytes) ≡ false
no_bytes bytes h = rw h refl

pub only_zeros-refused : (bytes : List ℕ) → 0 < length bytes → only_zeros bytes ≡ true → units bytes ≡ Err (length bytes)
unfolding units
only_zeros-refused bytes some zeros = let h : (nat_lt 0 (length bytes) && only_zeros bytes) ≡ true = grind (arith, nat_tests, zeros) in rw h refl

pub read-start : (bytes : List ℕ) → (nat_lt 0 (length bytes) && only_zeros bytes) ≡ false → IsReadSoFar bytes [] 0
read-start bytes h = record {
  within = omega arith;
  few = omega arith;
  so_far =
      starts bytes h
      ∙ all_right (units_within (length bytes) 0 bytes)
      ∙ ap (λ (n : ℕ). units_within n 0 bytes >>- λ others. Ok ([] ++ others)) (none_less (length bytes));
}

-- one NAL unit more
pub record IsFound (bytes : List ℕ) (place start n : ℕ) : Type 0 where
  pub later : place < start
  pub within : start ≤ length bytes
  pub code : next_start place 0 (drop place bytes) ≡ Ok (Some (start, drop start bytes))
  pub is : payload (drop start bytes) ≡ take n (drop start bytes)
  pub short : n ≤ length (drop start bytes)

pub found_at : (bytes : List ℕ) (place start n : ℕ) (found : Option ℕ) → found ≡ Some start →
    MatchOption found (next_start place 0 (drop place bytes) ≡ Ok None)
    (λ after. (place < after) × (after ≤ length bytes) × (next_start place 0 (drop place bytes) ≡ Ok (Some (after, drop after bytes)))) →
    payload (take (length bytes - start) (drop start bytes)) ≡ take n (take (length bytes - start) (drop start bytes)) →
    n ≤ length (take (length bytes - start) (drop start bytes)) → IsFound bytes place start n
found_at bytes place start n None is code front within = absurd (cc)
found_at bytes place start n (Some after) is code front within =
    let same : after ≡ start = cc in
    let P : ℕ → Type 0 = λ after. (place < after) × (after ≤ length bytes) × (next_start place 0 (drop place bytes) ≡ Ok (Some (after, drop after bytes))) in
    let here = subst P same code in
    let Q : List ℕ → Type 0 = λ l. payload l ≡ take n l in
    let R : List ℕ → Type 0 = λ l. n ≤ length l in
    record {
      later = here.0;
      within = here.1;
      code = here.2;
      is = subst Q (rest_is start bytes) front;
      short = subst R (rest_is start bytes) within;
    }

pub not_found : (bytes : List ℕ) (place : ℕ) (found : Option ℕ) → found ≡ None →
    MatchOption found (next_start place 0 (drop place bytes) ≡ Ok None)
    (λ after. (place < after) × (after ≤ length bytes) × (next_start place 0 (drop place bytes) ≡ Ok (Some (after, drop after bytes)))) →
    next_start place 0 (drop place bytes) ≡ Ok None
not_found bytes place None is code = code
not_found bytes place (Some after) is code = absurd (cc)

-- the NAL units from a start code on, of which there are at most n after the first
abbrev pub units_after : ℕ → Result (Option (ℕ × List ℕ)) ℕ → Result (List NalUnit) ℕ
units_after n r =
    r >>- λ start.
    elim start [
      | None ↦ Ok []
      | Some found ↦
          let p : List ℕ = payload found.1 in
          nal_unit_of found.0 p >>- λ first.
          units_within n (found.0 + length p) (drop (length p) found.1) >>- λ others.
          Ok (first ∷ others)
    ]

pub first_read : (f place start n : ℕ) (bytes : List ℕ) → IsFound bytes place start n →
    units_within (suc f) place (drop place bytes)
    ≡ (nal_unit_of start (take n (drop start bytes)) >>- λ first. units_within f (start + n) (drop (start + n) bytes) >>- λ others. Ok (first ∷ others))
unfolding units_within
first_read f place start n bytes is =
    let rest = drop start bytes in
    let F = units_after f in
    let G : List ℕ → ℕ → List ℕ → Result (List NalUnit) ℕ = λ p m left.
    nal_unit_of start p >>- λ first. units_within f (start + m) left >>- λ others. Ok (first ∷ others) in
    ap F is.code
    ∙ ap (λ (p : List ℕ). G p (length p) (drop (length p) rest)) is.is
    ∙ ap (λ (m : ℕ). G (take n rest) m (drop m rest)) (length-take-le n rest is.short)
    ∙ ap (λ (left : List ℕ). G (take n rest) n left) (drop_drop n start bytes)

joins : (list : List NalUnit) (unit : NalUnit) (r : Result (List NalUnit) ℕ) →
    ((r >>- λ others. Ok (unit ∷ others)) >>- λ others. Ok (list ++ others)) ≡ (r >>- λ others. Ok ((list ++ unit ∷ []) ++ others))
joins list unit (Ok others) = ap Ok (sym (append_assoc list (unit ∷ []) others))
joins list unit (Err e) = refl

one_fewer : (n k : ℕ) → k < n → n - k ≡ suc (n - (k + 1))
one_fewer n k h = omega arith

pub read-unit : (bytes : List ℕ) (list : List NalUnit) (place start n : ℕ) (unit : NalUnit) → IsReadSoFar bytes list place → IsFound bytes place start n →
    nal_unit_of start (take n (drop start bytes)) ≡ Ok unit → IsReadSoFar bytes (list ++ unit ∷ []) (start + n)
read-unit bytes list place start n unit so found read =
    let whole = length bytes in
    let long = length-drop start bytes in
    let short = found.short in
    let f = whole - (length list + 1) in
    let more : length list < whole = omega (arith, so.few, found.later, found.within) in
    let J : Result (List NalUnit) ℕ → Result (List NalUnit) ℕ = λ r. r >>- λ others. Ok (list ++ others) in
    let then : Result NalUnit ℕ → Result (List NalUnit) ℕ = λ r. r >>- λ first. units_within f (start + n) (drop (start + n) bytes) >>- λ others. Ok (first ∷ others) in
    record {
      within = omega (arith, long, short, found.within);
      few = omega (arith, length_push list unit, so.few, found.later);
      so_far =
          so.so_far
          ∙ ap (λ (k : ℕ). J (units_within k place (drop place bytes))) (one_fewer whole (length list) more)
          ∙ ap J (first_read f place start n bytes found)
          ∙ ap (λ r. J (then r)) read
          ∙ joins list unit (units_within f (start + n) (drop (start + n) bytes))
          ∙ ap (λ (k : ℕ). units_within (whole - k) (start + n) (drop (start + n) bytes) >>- λ others. Ok ((list ++ unit ∷ []) ++ others)) (sym (length_push list unit));
    }

-- the ways in which reading ends

pub at_end : (f place : ℕ) (bytes : List ℕ) → next_start place 0 bytes ≡ Ok None → units_within f place bytes ≡ Ok []
unfolding units_within
at_end zero place bytes h = refl
at_end (suc f) place bytes h = rw h refl

pub at_refusal : (f place at : ℕ) (bytes : List ℕ) → next_start place 0 bytes ≡ Err at → units_within (suc f) place bytes ≡ Err at
unfolding units_within
at_refusal f place at bytes h = rw h refl

pub some_left : (place at : ℕ) (bytes : List ℕ) → next_start place 0 bytes ≡ Err at → 0 < length bytes
unfolding next_start
some_left place at [] h = absurd (cc)
some_left place at (b ∷ bytes) h = omega arith

pub read-end : (bytes : List ℕ) (list : List NalUnit) (place : ℕ) → IsReadSoFar bytes list place → next_start place 0 (drop place bytes) ≡ Ok None →
    units bytes ≡ Ok list
read-end bytes list place so none =
    so.so_far
    ∙ ap (λ (r : Result (List NalUnit) ℕ). r >>- λ others. Ok (list ++ others)) (at_end (length bytes - length list) place (drop place bytes) none)
    ∙ ap Ok (append-nil list)

pub read-refused_start : (bytes : List ℕ) (list : List NalUnit) (place at : ℕ) → IsReadSoFar bytes list place → next_start place 0 (drop place bytes) ≡ Err at →
    units bytes ≡ Err at
read-refused_start bytes list place at so refused =
    let some = some_left place at (drop place bytes) refused in
    let long = length-drop place bytes in
    let more : length list < length bytes = omega (arith, so.few, so.within, some, long) in
    let J : Result (List NalUnit) ℕ → Result (List NalUnit) ℕ = λ r. r >>- λ others. Ok (list ++ others) in
    so.so_far
    ∙ ap (λ (k : ℕ). J (units_within k place (drop place bytes))) (one_fewer (length bytes) (length list) more)
    ∙ ap J (at_refusal (length bytes - (length list + 1)) place at (drop place bytes) refused)

pub read-refused_unit : (bytes : List ℕ) (list : List NalUnit) (place start n at : ℕ) → IsReadSoFar bytes list place → IsFound bytes place start n →
    nal_unit_of start (take n (drop start bytes)) ≡ Err at → units bytes ≡ Err at
read-refused_unit bytes list place start n at so found refused =
    let whole = length bytes in
    let f = whole - (length list + 1) in
    let more : length list < whole = omega (arith, so.few, found.later, found.within) in
    let J : Result (List NalUnit) ℕ → Result (List NalUnit) ℕ = λ r. r >>- λ others. Ok (list ++ others) in
    let then : Result NalUnit ℕ → Result (List NalUnit) ℕ = λ r. r >>- λ first. units_within f (start + n) (drop (start + n) bytes) >>- λ others. Ok (first ∷ others) in
    so.so_far
    ∙ ap (λ (k : ℕ). J (units_within k place (drop place bytes))) (one_fewer whole (length list) more)
    ∙ ap J (first_read f place start n bytes found)
    ∙ ap (λ r. J (then r)) refused
