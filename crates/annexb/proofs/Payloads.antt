-- What a payload is, by the places of its marks.
use Rattle.std.proofs.Common.{◌≡◌, ◌≢◌, ℕ, zero, suc, ◌+◌, ◌-◌, ◌<◌, ◌≤◌, true, false, List, [], ◌∷◌, ◌++◌, length, take, drop, get_or, Some, None, refl, sym, ◌∙◌, ap, subst, arith}
use Rattle.std.specs.Prelude.{◌&&◌, ◌==◌, nat_lt}
use Rattle.std.proofs.lemmas.Bool.Decides.{nat_tests}
use Rattle.std.proofs.lemmas.List.{take_all, length-drop}
use Rattle.h265_model.specs.NalUnits.{only_zeros, is_end, payload, forbidden, unescape_after, unescape}
use Rattle.annexb.specs.Marks.{ArePlain, IsMark}
use Rattle.annexb.proofs.Escapes.{IsMarkAfter, mark_after, later_mark, later_plain, first_plain}

-- ---- where it ends

end_mark : (a b c : ℕ) (list : List ℕ) → a ≡ 0 → b ≡ 0 → c ≤ 1 → is_end (a ∷ b ∷ c ∷ list) ≡ true
end_mark a b c list x y z = grind (arith, nat_tests)

no_end : (a b c : ℕ) (list : List ℕ) → (a ≡ 0 → b ≡ 0 → 1 < c) → is_end (a ∷ b ∷ c ∷ list) ≡ false
no_end a b c list h = grind (arith, nat_tests)

pub goes_on : (b : ℕ) (bytes : List ℕ) → is_end (b ∷ bytes) ≡ false → payload (b ∷ bytes) ≡ b ∷ payload bytes
unfolding payload
goes_on b bytes h = rw h

pub ends : (b : ℕ) (bytes : List ℕ) → is_end (b ∷ bytes) ≡ true → payload (b ∷ bytes) ≡ []
unfolding payload
ends b bytes h = rw h

third : (a b c : ℕ) (list : List ℕ) (n : ℕ) → ArePlain 0 1 (a ∷ b ∷ c ∷ list) (suc (suc (suc n))) → a ≡ 0 → b ≡ 0 → 1 < c
third a b c list n all x y = all.each 0 (omega arith) (omega arith) x y (omega arith)

payload-after : (list : List ℕ) (n : ℕ) → suc (suc n) < length list → ArePlain 0 1 list (suc (suc n)) → IsMarkAfter 0 1 list n → payload list ≡ take n list
payload-after [] n h all mark = absurd (omega arith)
payload-after (a ∷ []) n h all mark = absurd (omega arith)
payload-after (a ∷ b ∷ []) n h all mark = absurd (omega arith)
payload-after (a ∷ b ∷ c ∷ list) zero h all mark = ends a (b ∷ c ∷ list) (end_mark a b c list mark.first mark.second mark.high)
payload-after (a ∷ b ∷ c ∷ list) (suc n) h all mark =
    goes_on a (b ∷ c ∷ list) (no_end a b c list (third a b c list n all))
    ∙ ap (λ l. a ∷ l) (payload-after (b ∷ c ∷ list) n (omega arith) (later_plain 0 1 a (b ∷ c ∷ list) (suc (suc n)) all) (later_mark 0 1 a (b ∷ c ∷ list) n mark))

pub payload-mark : (list : List ℕ) (n : ℕ) → n < length list → ArePlain 0 1 list n → IsMark 0 1 list n → payload list ≡ take (n - 2) list
payload-mark list n h all mark =
    let k = n - 2 in
    let after = mark.after in
    let whole : n ≡ suc (suc k) = omega arith in
    let Q : ℕ → Type 0 = λ n. ArePlain 0 1 list n in
    payload-after list k (omega arith) (subst Q whole all) (mark_after 0 1 list n k whole mark)

pub all_zeros : (list : List ℕ) → ((k : ℕ) → k < length list → get_or list k 0 ≡ 0) → only_zeros list ≡ true
all_zeros [] h = refl
all_zeros (b ∷ list) h =
    let first : b ≡ 0 = h 0 (omega arith) in
    let others = all_zeros list (λ k l. h (suc k) (omega arith)) in
    grind (arith, nat_tests, others)

end_zeros : (list : List ℕ) → ((k : ℕ) → k < length list → get_or list k 0 ≡ 0) → is_end list ≡ true
end_zeros list h = rw (all_zeros list h) refl

no_end_one : (a : ℕ) → a ≢ 0 → is_end (a ∷ []) ≡ false
no_end_one a h = grind (arith, nat_tests)

no_end_two : (a b : ℕ) → (a ≡ 0 → b ≢ 0) → is_end (a ∷ b ∷ []) ≡ false
no_end_two a b h = grind (arith, nat_tests)

-- only zeros stand from place n on, and another byte before it
pub record IsTrimmed (list : List ℕ) (n : ℕ) : Type 0 where
  pub within : n ≤ length list
  pub zeros : (k : ℕ) → n ≤ k → k < length list → get_or list k 0 ≡ 0
  pub last : (k : ℕ) → n ≡ suc k → get_or list k 0 ≢ 0

later_trimmed : (a : ℕ) (list : List ℕ) (n : ℕ) → IsTrimmed (a ∷ list) (suc n) → IsTrimmed list n
later_trimmed a list n h = record {
  within = omega (arith, h.within);
  zeros = λ k x y. h.zeros (suc k) (omega arith) (omega arith);
  last = λ k e. h.last (suc k) (ap suc e);
}

no_end_here : (a : ℕ) (list : List ℕ) (n m : ℕ) → length (a ∷ list) ≤ m → ArePlain 0 1 (a ∷ list) m → IsTrimmed (a ∷ list) (suc n) → is_end (a ∷ list) ≡ false
no_end_here a [] zero m h all is = no_end_one a (is.last 0 refl)
no_end_here a [] (suc n) m h all is = absurd (omega (arith, is.within))
no_end_here a (b ∷ []) zero m h all is = no_end_two a b (λ e z. is.last 0 refl e)
no_end_here a (b ∷ []) (suc zero) m h all is = no_end_two a b (λ e. is.last 1 refl)
no_end_here a (b ∷ []) (suc (suc n)) m h all is = absurd (omega (arith, is.within))
no_end_here a (b ∷ c ∷ list) n m h all is = no_end a b c list (λ x y. all.each 0 (omega arith) (omega arith) x y (omega arith))

pub payload-trimmed : (list : List ℕ) (n m : ℕ) → length list ≤ m → ArePlain 0 1 list m → IsTrimmed list n → payload list ≡ take n list
unfolding payload
payload-trimmed [] zero m h all is = refl
payload-trimmed [] (suc n) m h all is = absurd (omega (arith, is.within))
payload-trimmed (a ∷ list) zero m h all is = ends a list (end_zeros (a ∷ list) (λ k l. is.zeros k (omega arith) l))
payload-trimmed (a ∷ list) (suc n) zero h all is = absurd (omega arith)
payload-trimmed (a ∷ list) (suc n) (suc m) h all is =
    goes_on a list (no_end_here a list n (suc m) h all is)
    ∙ ap (λ l. a ∷ l) (payload-trimmed list n m (omega arith) (later_plain 0 1 a list m all) (later_trimmed a list n is))

-- ---- what it may not hold

not_two : (a b c : ℕ) → (a ≡ 0 → b ≡ 0 → 2 ≤ c → 3 < c) → (a == 0 && b == 0 && c == 2) ≡ false
not_two a b c h = grind (arith, nat_tests)

not_three : (a b c d : ℕ) → (a ≡ 0 → b ≡ 0 → 2 ≤ c → 3 < c) → (a == 0 && b == 0 && c == 3 && nat_lt 3 d) ≡ false
not_three a b c d h = grind (arith, nat_tests)

allowed : (at a b c : ℕ) (rest : List ℕ) → (a ≡ 0 → b ≡ 0 → 2 ≤ c → 3 < c) → forbidden at (a ∷ b ∷ c ∷ rest) ≡ forbidden (at + 1) (b ∷ c ∷ rest)
unfolding forbidden
allowed at a b c [] h = rw (not_two a b c h) refl
allowed at a b c (d ∷ rest) h = rw (not_two a b c h, not_three a b c d h) refl

sum_later : (at n : ℕ) → at + 1 + n ≡ at + suc n
sum_later at n = omega arith

-- up to two bytes before the first mark nothing is forbidden
forbidden-later : (at : ℕ) (list : List ℕ) (n : ℕ) → suc (suc n) ≤ length list → ArePlain 2 3 list (suc (suc n)) → forbidden at list ≡ forbidden (at + n) (drop n list)
forbidden-later at list zero h all = ap (λ a. forbidden a list) (omega arith)
forbidden-later at [] (suc n) h all = absurd (omega arith)
forbidden-later at (a ∷ []) (suc n) h all = absurd (omega arith)
forbidden-later at (a ∷ b ∷ []) (suc n) h all = absurd (omega arith)
forbidden-later at (a ∷ b ∷ c ∷ list) (suc n) h all =
    allowed at a b c list (λ x y. all.each 0 (omega arith) (omega arith) x y)
    ∙ forbidden-later (at + 1) (b ∷ c ∷ list) n (omega arith) (later_plain 2 3 a (b ∷ c ∷ list) (suc (suc n)) all)
    ∙ ap (λ k. forbidden k (drop n (b ∷ c ∷ list))) (sum_later at n)

pub forbidden-plain : (at : ℕ) (list : List ℕ) (n : ℕ) → length list ≤ n → ArePlain 2 3 list n → forbidden at list ≡ None
unfolding forbidden
forbidden-plain at [] n h all = refl
forbidden-plain at (a ∷ []) n h all = refl
forbidden-plain at (a ∷ b ∷ []) n h all = refl
forbidden-plain at (a ∷ b ∷ c ∷ list) zero h all = absurd (omega arith)
forbidden-plain at (a ∷ b ∷ c ∷ list) (suc n) h all =
    allowed at a b c list (λ x y. all.each 0 (omega arith) (omega arith) x y)
    ∙ forbidden-plain (at + 1) (b ∷ c ∷ list) n (omega arith) (later_plain 2 3 a (b ∷ c ∷ list) n all)

is_two : (a b c : ℕ) → a ≡ 0 → b ≡ 0 → c ≡ 2 → (a == 0 && b == 0 && c == 2) ≡ true
is_two a b c x y z = grind (arith, nat_tests)

isnt_two : (a b c : ℕ) → c ≢ 2 → (a == 0 && b == 0 && c == 2) ≡ false
isnt_two a b c h = grind (arith, nat_tests)

is_three : (a b c d : ℕ) → a ≡ 0 → b ≡ 0 → c ≡ 3 → 3 < d → (a == 0 && b == 0 && c == 3 && nat_lt 3 d) ≡ true
is_three a b c d x y z h = grind (arith, nat_tests)

isnt_three : (a b c d : ℕ) → d ≤ 3 → (a == 0 && b == 0 && c == 3 && nat_lt 3 d) ≡ false
isnt_three a b c d h = grind (arith, nat_tests)

forbidden_two : (at a b c : ℕ) (list : List ℕ) → a ≡ 0 → b ≡ 0 → c ≡ 2 → forbidden at (a ∷ b ∷ c ∷ list) ≡ Some (at + 2)
unfolding forbidden
forbidden_two at a b c [] x y z = rw (is_two a b c x y z) refl
forbidden_two at a b c (d ∷ list) x y z = rw (is_two a b c x y z) refl

forbidden_three : (at a b c d : ℕ) (list : List ℕ) → a ≡ 0 → b ≡ 0 → c ≡ 3 → 3 < d → forbidden at (a ∷ b ∷ c ∷ d ∷ list) ≡ Some (at + 3)
unfolding forbidden
forbidden_three at a b c d list x y z h =
    let other : c ≢ 2 = λ e. absurd (omega arith) in
    rw (isnt_two a b c other, is_three a b c d x y z h) (refl {a = Some (at + 3)})

-- after an emulation prevention byte
allowed_three : (at a b c : ℕ) (list : List ℕ) → c ≡ 3 → ((d : ℕ) (rest : List ℕ) → list ≡ d ∷ rest → d ≤ 3) → forbidden at (a ∷ b ∷ c ∷ list) ≡ forbidden (at + 1) (b ∷ c ∷ list)
unfolding forbidden
allowed_three at a b c [] z h =
    let other : c ≢ 2 = λ e. absurd (omega arith) in
    rw (isnt_two a b c other) refl
allowed_three at a b c (d ∷ list) z h =
    let other : c ≢ 2 = λ e. absurd (omega arith) in
    rw (isnt_two a b c other, isnt_three a b c d (h d list refl)) (refl {a = forbidden (at + 1) (b ∷ c ∷ d ∷ list)})

forbidden_short : (at : ℕ) (a : ℕ) → forbidden at (a ∷ []) ≡ None
unfolding forbidden
forbidden_short at a = refl

forbidden_none : (at : ℕ) → forbidden at [] ≡ None
unfolding forbidden
forbidden_none at = refl

forbidden_two_bytes : (at : ℕ) (a b : ℕ) → forbidden at (a ∷ b ∷ []) ≡ None
unfolding forbidden
forbidden_two_bytes at a b = refl

-- a byte that is no zero and all after it
afresh : (at b c : ℕ) (list : List ℕ) → c ≢ 0 → forbidden at (b ∷ c ∷ list) ≡ forbidden (at + 2) list
afresh at b c [] h = forbidden_two_bytes at b c ∙ sym (forbidden_none (at + 2))
afresh at b c (d ∷ []) h =
    allowed at b c d [] (λ x y. absurd (h y)) ∙ forbidden_two_bytes (at + 1) c d ∙ sym (forbidden_short (at + 2) d)
afresh at b c (d ∷ e ∷ list) h =
    allowed at b c d (e ∷ list) (λ x y. absurd (h y))
    ∙ allowed (at + 1) c d e list (λ x y. absurd (h x))
    ∙ ap (λ k. forbidden k (d ∷ e ∷ list)) (omega arith)

forbidden_skip : (at a b c : ℕ) (list : List ℕ) → c ≡ 3 → ((d : ℕ) (rest : List ℕ) → list ≡ d ∷ rest → d ≤ 3) → forbidden at (a ∷ b ∷ c ∷ list) ≡ forbidden (at + 3) list
forbidden_skip at a b c list z h =
    let other : c ≢ 0 = λ e. absurd (omega arith) in
    allowed_three at a b c list z h ∙ afresh (at + 1) b c list other ∙ ap (λ k. forbidden k list) (omega arith)

-- what is left of a list, as a slice up to its end
pub rest_is : (n : ℕ) (list : List ℕ) → take (length list - n) (drop n list) ≡ drop n list
rest_is n list = take_all (length list - n) (drop n list) (omega (arith, length-drop n list))

-- what is forbidden at and after the first mark

forbidden-two-after : (at : ℕ) (list : List ℕ) (n : ℕ) → suc (suc n) < length list → ArePlain 2 3 list (suc (suc n)) → IsMarkAfter 2 3 list n → get_or list (suc (suc n)) 0 ≡ 2 → forbidden at list ≡ Some (at + (suc (suc n)))
forbidden-two-after at [] n h all mark two = absurd (omega arith)
forbidden-two-after at (a ∷ []) n h all mark two = absurd (omega arith)
forbidden-two-after at (a ∷ b ∷ []) n h all mark two = absurd (omega arith)
forbidden-two-after at (a ∷ b ∷ c ∷ list) zero h all mark two = forbidden_two at a b c list mark.first mark.second two
forbidden-two-after at (a ∷ b ∷ c ∷ list) (suc n) h all mark two =
    allowed at a b c list (λ x y. all.each 0 (omega arith) (omega arith) x y)
    ∙ forbidden-two-after (at + 1) (b ∷ c ∷ list) n (omega arith) (later_plain 2 3 a (b ∷ c ∷ list) (suc (suc n)) all) (later_mark 2 3 a (b ∷ c ∷ list) n mark) two
    ∙ ap Some (sum_later at (suc (suc n)))

forbidden-three-after : (at : ℕ) (list : List ℕ) (n : ℕ) → suc (suc (suc n)) < length list → ArePlain 2 3 list (suc (suc n)) → IsMarkAfter 2 3 list n → get_or list (suc (suc n)) 0 ≡ 3 → 3 < get_or list (suc (suc (suc n))) 0 → forbidden at list ≡ Some (at + (suc (suc (suc n))))
forbidden-three-after at [] n h all mark three more = absurd (omega arith)
forbidden-three-after at (a ∷ []) n h all mark three more = absurd (omega arith)
forbidden-three-after at (a ∷ b ∷ []) n h all mark three more = absurd (omega arith)
forbidden-three-after at (a ∷ b ∷ c ∷ []) n h all mark three more = absurd (omega arith)
forbidden-three-after at (a ∷ b ∷ c ∷ d ∷ list) zero h all mark three more = forbidden_three at a b c d list mark.first mark.second three more
forbidden-three-after at (a ∷ b ∷ c ∷ d ∷ list) (suc n) h all mark three more =
    allowed at a b c (d ∷ list) (λ x y. all.each 0 (omega arith) (omega arith) x y)
    ∙ forbidden-three-after (at + 1) (b ∷ c ∷ d ∷ list) n (omega arith) (later_plain 2 3 a (b ∷ c ∷ d ∷ list) (suc (suc n)) all) (later_mark 2 3 a (b ∷ c ∷ d ∷ list) n mark) three more
    ∙ ap Some (sum_later at (suc (suc (suc n))))

forbidden-skip-after : (at : ℕ) (list : List ℕ) (n : ℕ) → suc (suc n) < length list → ArePlain 2 3 list (suc (suc n)) → IsMarkAfter 2 3 list n → get_or list (suc (suc n)) 0 ≡ 3 → (suc (suc (suc n)) < length list → get_or list (suc (suc (suc n))) 0 ≤ 3) → forbidden at list ≡ forbidden (at + (suc (suc (suc n)))) (drop (suc (suc (suc n))) list)
forbidden-skip-after at [] n h all mark three few = absurd (omega arith)
forbidden-skip-after at (a ∷ []) n h all mark three few = absurd (omega arith)
forbidden-skip-after at (a ∷ b ∷ []) n h all mark three few = absurd (omega arith)
forbidden-skip-after at (a ∷ b ∷ c ∷ []) zero h all mark three few = forbidden_skip at a b c [] three (λ e rest is. absurd (cc))
forbidden-skip-after at (a ∷ b ∷ c ∷ d ∷ list) zero h all mark three few =
    forbidden_skip at a b c (d ∷ list) three (λ e rest is. let same : d ≡ e = cc in let low = few (omega arith) in omega arith)
forbidden-skip-after at (a ∷ b ∷ c ∷ list) (suc n) h all mark three few =
    allowed at a b c list (λ x y. all.each 0 (omega arith) (omega arith) x y)
    ∙ forbidden-skip-after (at + 1) (b ∷ c ∷ list) n (omega arith) (later_plain 2 3 a (b ∷ c ∷ list) (suc (suc n)) all) (later_mark 2 3 a (b ∷ c ∷ list) n mark) three (λ l. few (omega arith))
    ∙ ap (λ k. forbidden k (drop (suc (suc (suc n))) (b ∷ c ∷ list))) (sum_later at (suc (suc (suc n))))

-- the same, by the place of the mark

pub forbidden-two : (at : ℕ) (list : List ℕ) (n : ℕ) → n < length list → ArePlain 2 3 list n → IsMark 2 3 list n → get_or list n 0 ≡ 2 → forbidden at list ≡ Some (at + n)
forbidden-two at list n h all mark two =
    let k = n - 2 in
    let after = mark.after in
    let whole : suc (suc k) ≡ n = omega arith in
    let P : ℕ → Type 0 = λ n. n < length list → ArePlain 2 3 list n → get_or list n 0 ≡ 2 → forbidden at list ≡ Some (at + n) in
    subst P whole (λ h all two. forbidden-two-after at list k h all (mark_after 2 3 list n k (sym whole) mark) two) h all two

pub forbidden-three : (at : ℕ) (list : List ℕ) (n : ℕ) → n + 1 < length list → ArePlain 2 3 list n → IsMark 2 3 list n → get_or list n 0 ≡ 3 → 3 < get_or list (n + 1) 0 → forbidden at list ≡ Some (at + (n + 1))
forbidden-three at list n h all mark three more =
    let k = n - 2 in
    let after = mark.after in
    let whole : suc (suc k) ≡ n = omega arith in
    let P : ℕ → ℕ → Type 0 = λ n m. m < length list → ArePlain 2 3 list n → get_or list n 0 ≡ 3 → 3 < get_or list m 0 → forbidden at list ≡ Some (at + m) in
    let next : suc (suc (suc k)) ≡ n + 1 = omega arith in
    subst (λ m. P n m) next
    (subst (λ n. P n (suc (suc (suc k)))) whole (λ h all three more. forbidden-three-after at list k h all (mark_after 2 3 list n k (sym whole) mark) three more))
    h all three more

pub forbidden-skip : (at : ℕ) (list : List ℕ) (n : ℕ) → n < length list → ArePlain 2 3 list n → IsMark 2 3 list n → get_or list n 0 ≡ 3 → (n + 1 < length list → get_or list (n + 1) 0 ≤ 3) → forbidden at list ≡ forbidden (at + (n + 1)) (drop (n + 1) list)
forbidden-skip at list n h all mark three few =
    let k = n - 2 in
    let after = mark.after in
    let whole : suc (suc k) ≡ n = omega arith in
    let P : ℕ → ℕ → Type 0 = λ n m. n < length list → ArePlain 2 3 list n → get_or list n 0 ≡ 3 → (m < length list → get_or list m 0 ≤ 3) → forbidden at list ≡ forbidden (at + m) (drop m list) in
    let next : suc (suc (suc k)) ≡ n + 1 = omega arith in
    subst (λ m. P n m) next
    (subst (λ n. P n (suc (suc (suc k)))) whole (λ h all three few. forbidden-skip-after at list k h all (mark_after 2 3 list n k (sym whole) mark) three few))
    h all three few

-- ---- without emulation prevention

plain_byte : (p q b : ℕ) → (p ≡ 0 → q ≡ 0 → 3 ≤ b → 3 < b) → (p == 0 && q == 0 && b == 3) ≡ false
plain_byte p q b h = grind (arith, nat_tests)

left_out : (p q b : ℕ) → p ≡ 0 → q ≡ 0 → 3 ≤ b → b ≤ 3 → (p == 0 && q == 0 && b == 3) ≡ true
left_out p q b x y l h = grind (arith, nat_tests)

kept_second : (p q b : ℕ) → 0 < q → (p == 0 && q == 0 && b == 3) ≡ false
kept_second p q b h = grind (arith, nat_tests)

kept_first : (p q b : ℕ) → 0 < p → (p == 0 && q == 0 && b == 3) ≡ false
kept_first p q b h = grind (arith, nat_tests)

after_first : (p o q : ℕ) (bytes : List ℕ) → 0 < p → 0 < o → unescape_after p q bytes ≡ unescape_after o q bytes
unfolding unescape_after
after_first p o q [] h k = refl
after_first p o q (b ∷ bytes) h k = rw (kept_first p q b h, kept_first o q b k) refl

unescape_afresh : (p q : ℕ) (bytes : List ℕ) → 0 < q → unescape_after p q bytes ≡ unescape bytes
unfolding unescape_after
unescape_afresh p q [] h = refl
unescape_afresh p q (b ∷ bytes) h = rw (kept_second p q b h) (ap (λ l. b ∷ l) (after_first q 255 b bytes h (omega arith)))

unescape_to_end : (p q : ℕ) (list : List ℕ) → ArePlain 3 3 (p ∷ q ∷ list) (suc (suc (length list))) → unescape_after p q list ≡ list
unfolding unescape_after
unescape_to_end p q [] h = refl
unescape_to_end p q (b ∷ list) h =
    rw (plain_byte p q b (λ x y. h.each 0 (omega arith) (omega arith) x y))
    (ap (λ l. b ∷ l) (unescape_to_end q b list (later_plain 3 3 p (q ∷ b ∷ list) (suc (suc (length list))) h)))

unescape_to_mark : (p q : ℕ) (list : List ℕ) (n : ℕ) → n < length list → ArePlain 3 3 (p ∷ q ∷ list) (suc (suc n)) → IsMarkAfter 3 3 (p ∷ q ∷ list) n → unescape_after p q list ≡ take n list ++ unescape (drop (suc n) list)
unfolding unescape_after
unescape_to_mark p q [] n h all mark = absurd (omega arith)
unescape_to_mark p q (b ∷ list) zero h all mark =
    let three = mark.low in
    rw (left_out p q b mark.first mark.second mark.low mark.high) (unescape_afresh q b list (omega arith))
unescape_to_mark p q (b ∷ list) (suc n) h all mark =
    rw (plain_byte p q b (λ x y. all.each 0 (omega arith) (omega arith) x y))
    (ap (λ l. b ∷ l) (unescape_to_mark q b list n (omega arith) (later_plain 3 3 p (q ∷ b ∷ list) (suc (suc n)) all) (later_mark 3 3 p (q ∷ b ∷ list) n mark)))

pub unescape-plain : (list : List ℕ) (n : ℕ) → length list ≤ n → ArePlain 3 3 list n → unescape list ≡ list
unescape-plain list n h all =
    unescape_to_end 255 255 list (record { each = λ k a b x y l. (first_plain 3 3 255 255 list n (omega arith) (omega arith) all).each k (omega arith) b x y l })

unescape-after : (list : List ℕ) (k : ℕ) → suc (suc k) < length list → ArePlain 3 3 list (suc (suc k)) → IsMarkAfter 3 3 list k → unescape list ≡ take (suc (suc k)) list ++ unescape (drop (suc (suc (suc k))) list)
unescape-after list k h all mark =
    unescape_to_mark 255 255 list (suc (suc k)) h (first_plain 3 3 255 255 list (suc (suc k)) (omega arith) (omega arith) all) (record { first = mark.first; second = mark.second; low = mark.low; high = mark.high })

pub unescape-mark : (list : List ℕ) (n : ℕ) → n < length list → ArePlain 3 3 list n → IsMark 3 3 list n → unescape list ≡ take n list ++ unescape (drop (n + 1) list)
unescape-mark list n h all mark =
    let k = n - 2 in
    let after = mark.after in
    let whole : suc (suc k) ≡ n = omega arith in
    let P : ℕ → ℕ → Type 0 = λ n m. n < length list → ArePlain 3 3 list n → unescape list ≡ take n list ++ unescape (drop m list) in
    let next : suc (suc (suc k)) ≡ n + 1 = omega arith in
    subst (λ m. P n m) next (subst (λ n. P n (suc (suc (suc k)))) whole (λ h all. unescape-after list k h all (mark_after 3 3 list n k (sym whole) mark))) h all
