-- Laws of bits that are read from bytes.
use Rattle.std.proofs.Common.{◌≡◌, ℕ, ◌+◌, ◌-◌, ◌*◌, ◌/◌, ◌%◌, ◌^◌, ◌<◌, ◌≤◌, Bool, true, false, List, [], ◌∷◌, ◌++◌, length, take, drop, get_or, Some, None, bit_and, bit_or, refl, sym, ◌∙◌, ap, subst, arith, append_assoc, take-append-drop, length-drop}
use Rattle.std.specs.Prelude.{nat_lt}
use Rattle.std.proofs.lemmas.Bool.Decides.{nat_tests}
use Rattle.std.proofs.lemmas.Nat.{shl_whole, or_shifted, and_mask, one_shl}
use Rattle.std.proofs.lemmas.List.{take_at, drop_at, drop-drop, take_more, length-take-le}
use Rattle.h265_model.specs.Bits.{u, digit, value_after, value, bits, read_u}
use Rattle.h265_model.proofs.BitLaws.{value-u, length-u}
use Rattle.h265_model.proofs.ByteLaws.{u-value, value_below, bits-append, length-bits}
use Rattle.bit_string.specs.Parts.{Cursor, moved_to}
use Rattle.bit_string.proofs.Digits.{u-parts, bits-push}

-- ---- a word of bytes

pub value_after-append : (n : ℕ) (xs ys : List Bool) → value_after n (xs ++ ys) ≡ value_after (value_after n xs) ys
unfolding value_after
value_after-append n [] ys = refl
value_after-append n (b ∷ xs) ys = value_after-append (2 * n + digit b) xs ys

same_byte : (a b : ℕ) → b < 256 → a * 256 + b % 256 ≡ a * 256 + b
same_byte a b h = omega arith

pub word_more : (list : List ℕ) (i word b : ℕ) → i < length list → i < 8 → b < 256 → b ≡ get_or list i 0 → word ≡ value (bits (take i list)) → bit_or (word * 2 ^ 8 % 2 ^ 64) b ≡ value (bits (take (i + 1) list))
word_more list i word b h few byte at is =
    let front = bits (take i list) in
    let long : length front ≡ 8 * i = length-bits (take i list) ∙ ap (λ n. 8 * n) (length-take-le i list (omega arith)) in
    let below : word < 2 ^ (8 * i) = subst (λ (n : ℕ). word < 2 ^ n) long (subst (λ (w : ℕ). w < 2 ^ length front) (sym is) (value_below front)) in
    let number : word * 2 ^ 8 + b ≡ value (bits (take (i + 1) list)) =
    sym (same_byte word b byte)
    ∙ sym (value-u word 8 b)
    ∙ ap (λ w. value_after w (u 8 b)) is
    ∙ sym (value_after-append 0 front (u 8 b))
    ∙ ap value (sym (bits-push (take i list) b))
    ∙ ap (λ x. value (bits (take i list ++ x ∷ []))) at
    ∙ ap (λ l. value (bits l)) (sym (take_more list i 0 h)) in
    ap (λ x. bit_or x b) (shl_whole word (8 * i) 8 64 below (omega arith)) ∙ or_shifted word 8 b byte ∙ number

-- ---- a window of n bits

drop-bits : (list : List ℕ) (i : ℕ) → i ≤ length list → drop (8 * i) (bits list) ≡ bits (drop i list)
drop-bits list i h =
    let front = take i list in
    let long : length (bits front) ≡ 8 * i = length-bits front ∙ ap (λ n. 8 * n) (length-take-le i list h) in
    ap (λ l. drop (8 * i) (bits l)) (sym (take-append-drop i list))
    ∙ ap (drop (8 * i)) (bits-append front (drop i list))
    ∙ drop_at (bits front) (bits (drop i list)) (8 * i) long

pub window : (list : List ℕ) (index bit m n s word : ℕ) → index + m ≤ length list → 8 * m ≡ bit + (n + s) → word ≡ value (bits (take m (drop index list))) → take n (drop (8 * index + bit) (bits list)) ≡ u n (word / 2 ^ s)
window list index bit m n s word h whole is =
    let part = take m (drop index list) in
    let rest = bits (drop m (drop index list)) in
    let long : length (bits part) ≡ 8 * m = length-bits part ∙ ap (λ n. 8 * n) (length-take-le m (drop index list) (omega (arith, length-drop index list))) in
    let digits : bits part ≡ u bit (word / 2 ^ (n + s)) ++ (u n (word / 2 ^ s) ++ u s word) =
    sym (u-value 0 (bits part))
    ∙ ap (λ k. u k (value (bits part))) (long ∙ whole)
    ∙ ap (u (bit + (n + s))) (sym is)
    ∙ u-parts bit (n + s) (bit + (n + s)) word refl
    ∙ ap (λ l. u bit (word / 2 ^ (n + s)) ++ l) (u-parts n s (n + s) word refl) in
    let front = u bit (word / 2 ^ (n + s)) in
    let found = u n (word / 2 ^ s) in
    let left : drop (8 * index + bit) (bits list) ≡ found ++ (u s word ++ rest) =
    sym (drop-drop bit (8 * index) (bits list))
    ∙ ap (drop bit) (drop-bits list index (omega arith) ∙ ap bits (sym (take-append-drop m (drop index list))) ∙ bits-append part (drop m (drop index list)) ∙ ap (λ l. l ++ rest) digits ∙ append_assoc front (found ++ u s word) rest)
    ∙ drop_at front ((found ++ u s word) ++ rest) bit (length-u bit (word / 2 ^ (n + s)))
    ∙ append_assoc found (u s word) rest in
    ap (take n) left ∙ take_at found (u s word ++ rest) n (length-u n (word / 2 ^ s))

nothing_before : (p r : ℕ) → 0 * p + r ≡ r
nothing_before p r = omega arith

pub window_value : (list : List ℕ) (index bit m n s word : ℕ) → index + m ≤ length list → 8 * m ≡ bit + (n + s) → n ≤ 32 → word ≡ value (bits (take m (drop index list))) → bit_and (word / 2 ^ s) (1 * 2 ^ n % 2 ^ 64 - 1) ≡ value (take n (drop (8 * index + bit) (bits list)))
window_value list index bit m n s word h whole few is =
    ap (λ p. bit_and (word / 2 ^ s) (p - 1)) (one_shl n 64 (omega arith))
    ∙ and_mask (word / 2 ^ s) n
    ∙ sym (nothing_before (2 ^ n) (word / 2 ^ s % 2 ^ n))
    ∙ sym (value-u 0 n (word / 2 ^ s))
    ∙ ap value (sym (window list index bit m n s word h whole is))

-- ---- what is read, and where the reader stands then

pub long_left : (list : List ℕ) (place : ℕ) → length (drop place (bits list)) ≡ 8 * length list - place
long_left list place = length-drop place (bits list) ∙ ap (λ n. n - place) (length-bits list)

pub read_u-past : (list : List ℕ) (place n : ℕ) → 8 * length list - place < n → read_u n (drop place (bits list)) ≡ None
unfolding read_u
read_u-past list place n h =
    let short : nat_lt (length (drop place (bits list))) n ≡ true = let l = long_left list place in grind (arith, nat_tests, l) in
    rw short refl

pub read_u-within : (list : List ℕ) (place n : ℕ) → n ≤ 8 * length list - place → read_u n (drop place (bits list)) ≡ Some (value (take n (drop place (bits list))), drop (place + n) (bits list))
unfolding read_u
read_u-within list place n h =
    let enough : nat_lt (length (drop place (bits list))) n ≡ false = let l = long_left list place in grind (arith, nat_tests, l) in
    rw enough (ap (λ l. Some (value (take n (drop place (bits list))), l)) (drop-drop n place (bits list)))

pub moved : (list : List ℕ) (place n after : ℕ) → place + n ≤ 8 * length list → after ≡ place + n →
    let old : Cursor = record { left = drop place (bits list); place = place } in
    let new : Cursor = record { left = drop after (bits list); place = after } in
    new ≡ moved_to (Some (drop (place + n) (bits list))) old
moved list place n after h e =
    let L = 8 * length list in
    let now : place + n ≡ place + (length (drop place (bits list)) - length (drop (place + n) (bits list))) = omega (arith, long_left list place, long_left list (place + n)) in
    let F : ℕ → Cursor = λ p. record { left = drop p (bits list); place = p } in
    let G : ℕ → Cursor = λ p. record { left = drop (place + n) (bits list); place = p } in
    ap F e ∙ ap G now
