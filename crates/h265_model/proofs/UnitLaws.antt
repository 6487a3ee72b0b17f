-- Laws of the byte stream: NAL units are read back.
use Rattle.std.proofs.Common.{◌≡◌, ◌≢◌, ℕ, zero, suc, ◌+◌, ◌<◌, ◌≤◌, Bool, true, false, cond, List, [], ◌∷◌, ◌++◌, length, drop, None, Some, Ok, Result, refl, sym, ◌∙◌, ap, subst, arith, length-append}
use Rattle.std.specs.Prelude.{◌&&◌, ◌==◌, nat_le, nat_lt}
use Rattle.std.specs.List.{AllByRecursion, last_or}
use Rattle.std.proofs.lemmas.Bool.Decides.{nat_tests}
use Rattle.std.proofs.lemmas.List.{drop_at}
use Rattle.h265_model.specs.Bits.{◌>>-◌}
use Rattle.h265_model.specs.NalUnits.{NalUnit, escape_after, escape, nal_unit_bytes, stream_bytes, only_zeros, is_end, payload, forbidden, nal_unit_of, next_start, units_within, units, IsNalUnit}
use Rattle.h265_model.proofs.SyntaxLaws.{unescape-escape}

-- ---- escaping

positive : (d : ℕ) → Some d ≢ Some 0 → 0 < d
positive zero e = absurd (e refl)
positive (suc d) e = omega arith

pub last-escape : (p q d : ℕ) (bytes : List ℕ) → last_or (Some d) (escape_after p q bytes) ≡ last_or (Some d) bytes
unfolding escape_after
last-escape p q d [] = refl
last-escape p q d (b ∷ bytes) =
    elim (p == 0 && q == 0 && nat_le b 3) as (λ v. last_or (Some d) (cond v (3 ∷ b ∷ escape_after 3 b bytes) (b ∷ escape_after q b bytes)) ≡ last_or (Some b) bytes) [
      | true ↦ last-escape 3 b b bytes
      | false ↦ last-escape q b b bytes
    ]

unmarked : (p q b : ℕ) → 0 < p → (p == 0 && q == 0 && nat_le b 3) ≡ false
unmarked p q b h = grind (arith, nat_tests)

unmarked_second : (p q b : ℕ) → 0 < q → (p == 0 && q == 0 && nat_le b 3) ≡ false
unmarked_second p q b h = grind (arith, nat_tests)

after_first : (p o q : ℕ) (bytes : List ℕ) → 0 < p → 0 < o → escape_after p q bytes ≡ escape_after o q bytes
unfolding escape_after
after_first p o q [] h k = refl
after_first p o q (b ∷ bytes) h k = rw (unmarked p q b h, unmarked o q b k)

-- after a byte that is no zero escaping starts afresh
pub escape_afresh : (p q : ℕ) (bytes : List ℕ) → 0 < q → escape_after p q bytes ≡ escape bytes
unfolding escape_after
escape_afresh p q [] h = refl
escape_afresh p q (b ∷ bytes) h = rw (unmarked_second p q b h) (ap (λ l. b ∷ l) (after_first q 255 b bytes h (omega arith)))

-- ---- a payload goes up to its end

not_all_zeros : (d : ℕ) (bytes tail : List ℕ) → last_or (Some d) bytes ≢ Some 0 → only_zeros (d ∷ (bytes ++ tail)) ≡ false
not_all_zeros d [] tail e = let h : 0 < d = positive d e in grind (arith, nat_tests)
not_all_zeros d (b ∷ bytes) tail e = let h = not_all_zeros b bytes tail e in grind (arith, nat_tests, h)

on_first : (p : ℕ) (tail : List ℕ) → 0 < p → is_end (p ∷ tail) ≡ false
on_first p [] h = grind (arith, nat_tests)
on_first p (c ∷ []) h = grind (arith, nat_tests)
on_first p (c ∷ d ∷ tail) h = grind (arith, nat_tests)

on_second : (p q : ℕ) (tail : List ℕ) → 0 < q → is_end (p ∷ q ∷ tail) ≡ false
on_second p q [] h = grind (arith, nat_tests)
on_second p q (c ∷ tail) h = grind (arith, nat_tests)

on_third : (p q b : ℕ) (tail : List ℕ) → only_zeros (p ∷ q ∷ b ∷ tail) ≡ false → (p == 0 && q == 0 && nat_le b 3) ≡ false → is_end (p ∷ q ∷ b ∷ tail) ≡ false
on_third p q b tail h k = rw h (grind (arith, nat_tests))

on_mark : (p q : ℕ) (tail : List ℕ) → is_end (p ∷ q ∷ 3 ∷ tail) ≡ false
on_mark p q tail = grind (arith, nat_tests)

goes_on : (b : ℕ) (bytes : List ℕ) → is_end (b ∷ bytes) ≡ false → payload (b ∷ bytes) ≡ b ∷ payload bytes
unfolding payload
goes_on b bytes h = rw h

pub payload-escape : (p q : ℕ) (bytes tail : List ℕ) → payload tail ≡ [] → last_or (Some q) bytes ≢ Some 0 → payload (p ∷ q ∷ (escape_after p q bytes ++ tail)) ≡ p ∷ q ∷ escape_after p q bytes
unfolding escape_after
payload-escape p q [] tail done e =
    goes_on p (q ∷ tail) (on_second p q tail (positive q e))
    ∙ ap (λ l. p ∷ l) (goes_on q tail (on_first q tail (positive q e)) ∙ ap (λ l. q ∷ l) done)
payload-escape p q (b ∷ bytes) tail done e =
    elim (p == 0 && q == 0 && nat_le b 3) as (λ v. (p == 0 && q == 0 && nat_le b 3) ≡ v →
    let l : List ℕ = cond v (3 ∷ b ∷ escape_after 3 b bytes) (b ∷ escape_after q b bytes) in payload (p ∷ q ∷ (l ++ tail)) ≡ p ∷ q ∷ l) [
      | true ↦ λ is.
          goes_on p (q ∷ 3 ∷ b ∷ (escape_after 3 b bytes ++ tail)) (on_mark p q (b ∷ (escape_after 3 b bytes ++ tail)))
          ∙ ap (λ l. p ∷ l) (goes_on q (3 ∷ b ∷ (escape_after 3 b bytes ++ tail)) (on_second q 3 (b ∷ (escape_after 3 b bytes ++ tail)) (omega arith)))
          ∙ ap (λ l. p ∷ q ∷ l) (payload-escape 3 b bytes tail done e)
      | false ↦ λ is.
          goes_on p (q ∷ b ∷ (escape_after q b bytes ++ tail))
          (on_third p q b (escape_after q b bytes ++ tail) (not_all_zeros p (q ∷ b ∷ escape_after q b bytes) tail (λ z. e (sym (last-escape q b b bytes) ∙ z))) is)
          ∙ ap (λ l. p ∷ l) (payload-escape q b bytes tail done e)
    ] refl

-- ---- and holds nothing that is forbidden

not_two : (a b c : ℕ) → (a == 0 && b == 0 && nat_le c 3) ≡ false → (a == 0 && b == 0 && c == 2) ≡ false
not_two a b c h = grind (arith, nat_tests)

not_three : (a b c d : ℕ) → (a == 0 && b == 0 && nat_le c 3) ≡ false → (a == 0 && b == 0 && c == 3 && nat_lt 3 d) ≡ false
not_three a b c d h = grind (arith, nat_tests)

allowed : (at a b c : ℕ) (rest : List ℕ) → (a == 0 && b == 0 && nat_le c 3) ≡ false → forbidden at (a ∷ b ∷ c ∷ rest) ≡ forbidden (at + 1) (b ∷ c ∷ rest)
unfolding forbidden
allowed at a b c [] h = rw (not_two a b c h)
allowed at a b c (d ∷ rest) h = rw (not_two a b c h, not_three a b c d h)

no_two : (a b : ℕ) → (a == 0 && b == 0 && 3 == 2) ≡ false
no_two a b = grind (arith, nat_tests)

no_three : (a b d : ℕ) → d ≤ 3 → (a == 0 && b == 0 && 3 == 3 && nat_lt 3 d) ≡ false
no_three a b d h = grind (arith, nat_tests)

allowed_mark : (at a b d : ℕ) (rest : List ℕ) → d ≤ 3 → forbidden at (a ∷ b ∷ 3 ∷ d ∷ rest) ≡ forbidden (at + 1) (b ∷ 3 ∷ d ∷ rest)
unfolding forbidden
allowed_mark at a b d rest h = rw (no_two a b, no_three a b d h)

small : (p q b : ℕ) → (p == 0 && q == 0 && nat_le b 3) ≡ true → b ≤ 3
small p q b h = grind (arith, nat_tests)

pub forbidden-escape : (at p q : ℕ) (bytes : List ℕ) → forbidden at (p ∷ q ∷ escape_after p q bytes) ≡ None
unfolding escape_after forbidden
forbidden-escape at p q [] = refl
forbidden-escape at p q (b ∷ bytes) =
    elim (p == 0 && q == 0 && nat_le b 3) as (λ v. (p == 0 && q == 0 && nat_le b 3) ≡ v →
    forbidden at (p ∷ q ∷ cond v (3 ∷ b ∷ escape_after 3 b bytes) (b ∷ escape_after q b bytes)) ≡ None) [
      | true ↦ λ is.
          allowed_mark at p q b (escape_after 3 b bytes) (small p q b is)
          ∙ allowed (at + 1) q 3 b (escape_after 3 b bytes) (unmarked_second q 3 b (omega arith))
          ∙ forbidden-escape (at + 1 + 1) 3 b bytes
      | false ↦ λ is. allowed at p q b (escape_after q b bytes) is ∙ forbidden-escape (at + 1) q b bytes
    ] refl

-- ---- a unit and a stream

long_enough : (n : ℕ) → nat_lt (suc (suc n)) 2 ≡ false
long_enough n = grind (arith, nat_tests)

pub nal_unit_of-escape : (at p q : ℕ) (bytes : List ℕ) → 0 < q → nal_unit_of at (p ∷ q ∷ escape bytes) ≡ Ok (record { header = p ∷ q ∷ []; rbsp = bytes })
nal_unit_of-escape at p q bytes h =
    let allowed : forbidden at (p ∷ q ∷ escape bytes) ≡ None = ap (λ l. forbidden at (p ∷ q ∷ l)) (sym (escape_afresh p q bytes h)) ∙ forbidden-escape at p q bytes in
    rw (long_enough (length (escape bytes)), allowed, unescape-escape 255 255 bytes)

ends : (q : ℕ) (bytes : List ℕ) → 0 < q → last_or (Some 1) bytes ≢ Some 0 → last_or (Some q) bytes ≢ Some 0
ends q [] h e = λ z. let none : q ≡ 0 = cc in omega arith
ends q (b ∷ bytes) h e = e

payload-unit : (p q : ℕ) (bytes tail : List ℕ) → 0 < q → last_or (Some 1) bytes ≢ Some 0 → payload tail ≡ [] → payload (p ∷ q ∷ (escape bytes ++ tail)) ≡ p ∷ q ∷ escape bytes
payload-unit p q bytes tail h e done =
    let fresh = escape_afresh p q bytes h in
    ap (λ l. payload (p ∷ q ∷ (l ++ tail))) (sym fresh) ∙ payload-escape p q bytes tail done (ends q bytes h e) ∙ ap (λ l. p ∷ q ∷ l) fresh

payload_none : (us : List NalUnit) → payload (stream_bytes us) ≡ []
unfolding payload stream_bytes
payload_none [] = refl
payload_none (u ∷ us) = refl

one_more : (n at p q : ℕ) (bytes : List ℕ) (us : List NalUnit) → 0 < q → last_or (Some 1) bytes ≢ Some 0 → ((at : ℕ) → units_within n at (stream_bytes us) ≡ Ok us) →
    units_within (suc n) at (0 ∷ 0 ∷ 0 ∷ 1 ∷ p ∷ q ∷ (escape bytes ++ stream_bytes us)) ≡ Ok (record { header = p ∷ q ∷ []; rbsp = bytes } ∷ us)
unfolding units_within next_start
one_more n at p q bytes us h e others =
    let start : ℕ = at + 1 + 1 + 1 + 1 in
    let whole : List ℕ = p ∷ q ∷ (escape bytes ++ stream_bytes us) in
    let then : Result NalUnit ℕ → List ℕ → Result (List NalUnit) ℕ =
    λ r l. r >>- λ first. units_within n (start + length l) (drop (length l) whole) >>- λ others. Ok (first ∷ others) in
    ap (λ l. then (nal_unit_of start l) l) (payload-unit p q bytes (stream_bytes us) h e (payload_none us))
    ∙ ap (λ r. then r (p ∷ q ∷ escape bytes)) (nal_unit_of-escape start p q bytes h)
    ∙ rw (drop_at (escape bytes) (stream_bytes us) (length (escape bytes)) refl, others (start + length (p ∷ q ∷ escape bytes)))

each : (n at : ℕ) (us : List NalUnit) → length us ≤ n → AllByRecursion IsNalUnit us → units_within n at (stream_bytes us) ≡ Ok us
unfolding units_within stream_bytes next_start
each zero at [] h all = refl
each zero at (u ∷ us) h all = absurd (omega arith)
each (suc n) at [] h all = refl
each (suc n) at (u ∷ us) h all =
    let head = all.0.header in
    let P : List ℕ → Type 0 = λ l. units_within (suc n) at (0 ∷ 0 ∷ 0 ∷ 1 ∷ (l ++ escape u.rbsp ++ stream_bytes us)) ≡ Ok (record { header = l; rbsp = u.rbsp } ∷ us) in
    subst P (sym head.3) (one_more n at head.0 head.1 u.rbsp us head.2 all.0.ends (λ later. each n later us (omega arith) all.1))

not_longer : (us : List NalUnit) → length us ≤ length (stream_bytes us)
unfolding stream_bytes
not_longer [] = omega arith
not_longer (u ∷ us) = omega (arith, length-append (nal_unit_bytes u) (stream_bytes us), not_longer us)

never : (b : Bool) → (b && false) ≡ false
never true = refl
never false = refl

some_ones : (us : List NalUnit) → (nat_lt 0 (length (stream_bytes us)) && only_zeros (stream_bytes us)) ≡ false
unfolding stream_bytes
some_ones [] = refl
some_ones (u ∷ us) = never (nat_lt 0 (length (stream_bytes (u ∷ us))))

pub units-stream_bytes : (us : List NalUnit) → AllByRecursion IsNalUnit us → units (stream_bytes us) ≡ Ok us
unfolding units
units-stream_bytes us all = rw (some_ones us) (each (length (stream_bytes us)) 0 us (not_longer us) all)
