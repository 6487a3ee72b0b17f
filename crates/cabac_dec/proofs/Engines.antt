-- What an engine reads, many bits at once.
use Rattle.std.proofs.Common.{◌≡◌, refl, sym, ◌∙◌, ap, ℕ, zero, suc, ◌+◌, ◌-◌, ◌*◌, ◌/◌, ◌%◌, ◌^◌, ◌<◌, ◌≤◌, Bool, true, false, List, [], ◌∷◌, ◌++◌, length, take, drop, Some, None, Option, le-leb, le-ltb, pow-suc, mod-lt, arith}
use Rattle.std.proofs.lemmas.Bool.{cond-true, cond-false, lt-leb, leb-true, leb-false, lt-ltb}
use Rattle.std.proofs.lemmas.List.{drop-drop, length-take-le}
use Rattle.std.proofs.lemmas.Nat.{div-mul-add, div-add-mod'}
use Rattle.std.proofs.Math.Seq.{take-add}
use Rattle.std.proofs.Math.Nat.{div-eq_of_lt}
use Rattle.std.specs.Prelude.{nat_le, nat_lt, if◌then◌else◌}
use Rattle.h265_model.specs.Bits.{digit, value_after, bits, ◌>>=◌ as and_then}
use Rattle.h265_model.specs.Binarise.{fl_from}
use Rattle.h265_model.specs.Engine.{Engine, shift_in, doublings, renormalised, bypass_read, start}
use Rattle.cabac_dec.specs.State.{Reading, left, last_of, last_read, engine, offset_after}
use Rattle.cabac_dec.proofs.Parts.{in_front}

abbrev pub eng : ℕ → ℕ → List ℕ → Bool → List Bool → Engine
eng range offset contexts last bits = record { range = range; offset = offset; contexts = contexts; last = last; bits = bits }

-- n bits at once
pub shifted : (n range offset : ℕ) (contexts : List ℕ) (last : Bool) (xs : List Bool) → n ≤ length xs
    → shift_in n (eng range offset contexts last xs) ≡ Some (eng range (value_after offset (take n xs)) contexts (last_of last (take n xs)) (drop n xs))
unfolding value_after
shifted zero range offset contexts last xs h = refl
shifted (suc n) range offset contexts last [] h = absurd (omega arith)
shifted (suc n) range offset contexts last (b ∷ xs) h = shifted n range (2 * offset + digit b) contexts b xs (omega arith)

pub short : (n range offset : ℕ) (contexts : List ℕ) (last : Bool) (xs : List Bool) → length xs < n → shift_in n (eng range offset contexts last xs) ≡ None
short zero range offset contexts last xs h = absurd (omega arith)
short (suc n) range offset contexts last [] h = refl
short (suc n) range offset contexts last (b ∷ xs) h = short n range (2 * offset + digit b) contexts b xs (omega arith)

-- ---- the place in the bytes

-- n bits on, with the offset lessened
abbrev pub stepped : ℕ → ℕ → ℕ → Reading → Reading
stepped n less ahead r = record { bytes = r.bytes; place = r.place + n; offset = offset_after n r - less; ahead = ahead }

last_of-append : (l : Bool) (xs ys : List Bool) → last_of (last_of l xs) ys ≡ last_of l (xs ++ ys)
last_of-append l [] ys = refl
last_of-append l (b ∷ xs) ys = last_of-append b xs ys

pub engine_after : (n less range ahead : ℕ) (contexts : List ℕ) (r : Reading)
    → eng range (offset_after n r - less) contexts (last_of (last_read r) (take n (left r))) (drop n (left r)) ≡ engine range contexts (stepped n less ahead r)
engine_after n less range ahead contexts r =
    let all = bits r.bytes in
    let last : last_of (last_read r) (take n (left r)) ≡ last_of false (take (r.place + n) all) =
    last_of-append false (take r.place all) (take n (drop r.place all)) ∙ ap (last_of false) (sym (take-add r.place n all)) in
    rw (last, drop-drop n r.place all) refl

pub shift_there : (n range ahead : ℕ) (contexts : List ℕ) (r : Reading) → n ≤ length (left r) → shift_in n (engine range contexts r) ≡ Some (engine range contexts (stepped n 0 ahead r))
shift_there n range ahead contexts r h =
    shifted n range r.offset contexts (last_read r) (left r) h
    ∙ ap (λ (e : Engine). Some e) (ap (λ o. eng range o contexts (last_of (last_read r) (take n (left r))) (drop n (left r))) (no_less (offset_after n r)) ∙ engine_after n 0 range ahead contexts r)
  where
    no_less : (x : ℕ) → x ≡ x - 0
    no_less x = omega arith

-- ---- doubling

pub renewed : (k range ahead : ℕ) (contexts : List ℕ) (r : Reading) → k ≡ doublings range → k ≤ length (left r)
    → renormalised (engine range contexts r) ≡ Some (engine (range * 2 ^ k) contexts (stepped k 0 ahead r))
unfolding renormalised
renewed k range ahead contexts r e h =
    ap (λ n. shift_in n (engine (range * 2 ^ n) contexts r)) (sym e) ∙ shift_there k (range * 2 ^ k) ahead contexts r h

pub not_renewed : (k range : ℕ) (contexts : List ℕ) (r : Reading) → k ≡ doublings range → length (left r) < k → renormalised (engine range contexts r) ≡ None
unfolding renormalised
not_renewed k range contexts r e h =
    ap (λ n. shift_in n (engine (range * 2 ^ n) contexts r)) (sym e) ∙ short k (range * 2 ^ k) r.offset contexts (last_read r) (left r) h

-- ---- one bypass bin

abbrev halved : Engine → Option (Bool × Engine)
halved d = if nat_le d.range d.offset then Some (true, record d { offset = d.offset - d.range }) else Some (false, d)

pub bypass_none : (range : ℕ) (contexts : List ℕ) (r : Reading) → length (left r) < 1 → bypass_read (engine range contexts r) ≡ None
unfolding bypass_read
bypass_none range contexts r h = ap (λ o. and_then o halved) (short 1 range r.offset contexts (last_read r) (left r) h)

pub bypass_zero : (range ahead : ℕ) (contexts : List ℕ) (r : Reading) → 1 ≤ length (left r) → offset_after 1 r < range
    → bypass_read (engine range contexts r) ≡ Some (false, engine range contexts (stepped 1 0 ahead r))
unfolding bypass_read
bypass_zero range ahead contexts r h below =
    ap (λ o. and_then o halved) (shift_there 1 range ahead contexts r h)
    ∙ cond-false (nat_le range (offset_after 1 r - 0)) _ _ (lt-leb _ _ (omega arith))

pub bypass_one : (range ahead : ℕ) (contexts : List ℕ) (r : Reading) → 1 ≤ length (left r) → range ≤ offset_after 1 r
    → bypass_read (engine range contexts r) ≡ Some (true, engine range contexts (stepped 1 range ahead r))
unfolding bypass_read
bypass_one range ahead contexts r h enough =
    ap (λ o. and_then o halved) (shift_there 1 range ahead contexts r h)
    ∙ cond-true (nat_le range (offset_after 1 r - 0)) _ _ (le-leb _ _ (omega arith))
    ∙ ap (λ o. Some (true, engine range contexts (record (stepped 1 0 ahead r) { offset = o }))) (no_less (offset_after 1 r) range)
  where
    no_less : (x y : ℕ) → x - 0 - y ≡ x - y
    no_less x y = omega arith

-- ---- bypass bins at once

abbrev fl_then : ℕ → ℕ → Bool × Engine → Option (ℕ × Engine)
fl_then acc n found = fl_from (2 * acc + digit found.0) n found.1

-- one of them: what is left over of the offset, and the bin
pub record Halved (range x : ℕ) (contexts : List ℕ) (b : Bool) (xs : List Bool) : Type 0 where
  pub bin : Bool
  pub offset : ℕ
  pub below : offset < range
  pub sum : x ≡ digit bin * range + offset
  pub is : halved (eng range x contexts b xs) ≡ Some (bin, eng range offset contexts b xs)

halved_by : (range x : ℕ) (contexts : List ℕ) (b : Bool) (xs : List Bool) → x < 2 * range → (t : Bool) → nat_le range x ≡ t → Halved range x contexts b xs
halved_by range x contexts b xs h true e =
    let enough : range ≤ x = leb-true _ _ e in
    record { bin = true; offset = x - range; below = omega arith; sum = omega arith; is = cond-true (nat_le range x) _ _ e }
halved_by range x contexts b xs h false e =
    let small : x < range = leb-false _ _ e in
    record { bin = false; offset = x; below = small; sum = omega arith; is = cond-false (nat_le range x) _ _ e }

digit_small : (b : Bool) → digit b ≤ 1
digit_small true = omega arith
digit_small false = omega arith

-- division of what the bits add by the range
divided : (d p v range q : ℕ) → 0 < range → q ≡ v / range → (d * range * p + v) / range ≡ d * p + q
divided d p v range q pos is =
    ap (λ n. n / range) (turned d range p v) ∙ div-mul-add' (d * p) range v pos ∙ ap (λ n. d * p + n) (sym is)
  where
    turned : (d range p v : ℕ) → d * range * p + v ≡ d * p * range + v
    turned d range p v = omega arith

    div-mul-add' : (a w v : ℕ) → 0 < w → (a * w + v) / w ≡ a + v / w
    div-mul-add' a w v pos =
        let e : a * w + v ≡ (a + v / w) * w + v % w = let f = div-add-mod' v w in omega arith in
        ap (λ n. n / w) e ∙ div-mul-add (a + v / w) w (v % w) (mod-lt v pos)

over_by : (d range p v m q : ℕ) → m ≡ q * range → d * range * p + v - (d * p + q) * range ≡ v - m
over_by d range p v m q e = let f : (d * p + q) * range ≡ d * range * p + m = rw e (omega arith) in omega arith

number_by : (acc d p q : ℕ) → acc * (p * 2) + (d * p + q) ≡ (2 * acc + d) * p + q
number_by acc d p q = omega arith

-- the value of n bins after those, and the engine after them
abbrev pub read_of : ℕ → ℕ → ℕ → ℕ → List ℕ → Bool → List Bool → ℕ × Engine
read_of n acc range offset contexts last xs = (
  acc * 2 ^ n + value_after offset (take n xs) / range,
  eng range (value_after offset (take n xs) - value_after offset (take n xs) / range * range) contexts (last_of last (take n xs)) (drop n xs),
)

fl_more : (n acc range x : ℕ) (contexts : List ℕ) (b : Bool) (xs : List Bool) → n ≤ length xs → (s : Halved range x contexts b xs)
    → read_of n (2 * acc + digit s.bin) range s.offset contexts b xs
    ≡ (
      acc * 2 ^ suc n + value_after x (take n xs) / range,
      eng range (value_after x (take n xs) - value_after x (take n xs) / range * range) contexts (last_of b (take n xs)) (drop n xs),
    )
fl_more n acc range x contexts b xs h s =
    let v = value_after x (take n xs) in
    let w = value_after s.offset (take n xs) in
    let p = 2 ^ n in
    let d = digit s.bin in
    let long : length (take n xs) ≡ n = length-take-le n xs h in
    let whole : v ≡ d * range * p + w =
    ap (λ o. value_after o (take n xs)) s.sum ∙ in_front (d * range) s.offset (take n xs) ∙ ap (λ (k : ℕ). d * range * 2 ^ k + w) long in
    let q : v / range ≡ d * p + w / range = ap (λ n. n / range) whole ∙ divided d p w range (w / range) (let b = s.below in omega arith) refl in
    let over : v - v / range * range ≡ w - w / range * range = rw (q, whole) (over_by d range p w (w / range * range) (w / range) refl) in
    let number : acc * 2 ^ suc n + v / range ≡ (2 * acc + d) * p + w / range = rw q (ap (λ (k : ℕ). acc * k + (d * p + w / range)) (pow-suc 2 n) ∙ number_by acc d p (w / range)) in
    rw (over, number) refl

pub fl_there : (n acc range offset : ℕ) (contexts : List ℕ) (last : Bool) (xs : List Bool) → n ≤ length xs → offset < range
    → fl_from acc n (eng range offset contexts last xs) ≡ Some (read_of n acc range offset contexts last xs)
unfolding value_after bypass_read
fl_there zero acc range offset contexts last xs h below =
    let none : offset / range ≡ 0 = div-eq_of_lt below in
    let one : acc * 2 ^ 0 + 0 ≡ acc = omega arith in
    let same : offset - 0 * range ≡ offset = omega arith in
    rw (none, one, same) refl
fl_there (suc n) acc range offset contexts last [] h below = absurd (omega arith)
fl_there (suc n) acc range offset contexts last (b ∷ xs) h below =
    let s = halved_by range (2 * offset + digit b) contexts b xs (let d = digit_small b in omega arith) (nat_le range (2 * offset + digit b)) refl in
    ap (λ o. and_then o (fl_then acc n)) s.is
    ∙ fl_there n (2 * acc + digit s.bin) range s.offset contexts b xs (omega arith) s.below
    ∙ ap (λ (k : ℕ × Engine). Some k) (fl_more n acc range (2 * offset + digit b) contexts b xs (omega arith) s)

pub fl_short : (n acc range offset : ℕ) (contexts : List ℕ) (last : Bool) (xs : List Bool) → length xs < n → offset < range → fl_from acc n (eng range offset contexts last xs) ≡ None
unfolding bypass_read
fl_short zero acc range offset contexts last xs h below = absurd (omega arith)
fl_short (suc n) acc range offset contexts last [] h below = refl
fl_short (suc n) acc range offset contexts last (b ∷ xs) h below =
    let s = halved_by range (2 * offset + digit b) contexts b xs (let d = digit_small b in omega arith) (nat_le range (2 * offset + digit b)) refl in
    ap (λ o. and_then o (fl_then acc n)) s.is
    ∙ fl_short n (2 * acc + digit s.bin) range s.offset contexts b xs (omega arith) s.below

-- ---- the start

last_any : (l m : Bool) (xs : List Bool) → 0 < length xs → last_of l xs ≡ last_of m xs
last_any l m [] h = absurd (omega arith)
last_any l m (b ∷ xs) h = refl

abbrev tested : Engine → Option Engine
tested e = if nat_lt e.offset 510 then Some e else None

pub not_begun : (contexts : List ℕ) (r : Reading) → length (left r) < 9 → None ≡ start contexts (left r)
unfolding start
not_begun contexts r h = sym (ap (λ o. and_then o tested) (short 9 510 0 contexts false (left r) h))

begun : (contexts : List ℕ) (r : Reading) → r.offset ≡ 0 → 9 ≤ length (left r)
    → shift_in 9 (eng 510 0 contexts false (left r)) ≡ Some (eng 510 (offset_after 9 r) contexts (last_of (last_read r) (take 9 (left r))) (drop 9 (left r)))
begun contexts r none h =
    shifted 9 510 0 contexts false (left r) h
    ∙ ap (λ o. Some (eng 510 (value_after o (take 9 (left r))) contexts (last_of false (take 9 (left r))) (drop 9 (left r)))) (sym none)
    ∙ ap (λ l. Some (eng 510 (offset_after 9 r) contexts l (drop 9 (left r)))) (last_any false (last_read r) (take 9 (left r)) (omega (arith, length-take-le 9 (left r) h)))

pub refused_start : (contexts : List ℕ) (r : Reading) → r.offset ≡ 0 → 9 ≤ length (left r) → 510 ≤ offset_after 9 r → None ≡ start contexts (left r)
unfolding start
refused_start contexts r none h large =
    sym (ap (λ o. and_then o tested) (begun contexts r none h) ∙ cond-false (nat_lt (offset_after 9 r) 510) _ _ (le-ltb _ _ large))

pub started : (ahead : ℕ) (contexts : List ℕ) (r : Reading) → r.offset ≡ 0 → 9 ≤ length (left r) → offset_after 9 r < 510
    → Some (engine 510 contexts (stepped 9 0 ahead r)) ≡ start contexts (left r)
unfolding start
started ahead contexts r none h small =
    sym (ap (λ o. and_then o tested) (begun contexts r none h) ∙ cond-true (nat_lt (offset_after 9 r) 510) _ _ (lt-ltb _ _ small)
    ∙ ap (λ (e : Engine). Some e) (ap (λ o. eng 510 o contexts (last_of (last_read r) (take 9 (left r))) (drop 9 (left r))) (no_less (offset_after 9 r)) ∙ engine_after 9 0 510 ahead contexts r))
  where
    no_less : (x : ℕ) → x ≡ x - 0
    no_less x = omega arith
