-- Bits of bytes in parts, and the numbers that they spell.
use Rattle.std.proofs.Common.{◌≡◌, refl, sym, ◌∙◌, ap, ℕ, zero, suc, ◌+◌, ◌-◌, ◌*◌, ◌^◌, ◌<◌, ◌≤◌, Bool, List, [], ◌∷◌, ◌++◌, length, take, drop, get_or, append-nil, pow-suc, take-append-drop, arith}
use Rattle.std.proofs.lemmas.List.{take_at, drop_at, length-take-le, length-drop}
use Rattle.h265_model.specs.Bits.{u, digit, value_after, bits}
use Rattle.h265_model.specs.Plain.{AreBytes}
use Rattle.h265_model.proofs.ByteLaws.{bits-append, length-bits}

pub value_after-append : (n : ℕ) (xs ys : List Bool) → value_after n (xs ++ ys) ≡ value_after (value_after n xs) ys
unfolding value_after
value_after-append n [] ys = refl
value_after-append n (b ∷ xs) ys = value_after-append (2 * n + digit b) xs ys

one_in_front : (a d b : ℕ) → 2 * (a + d) + b ≡ 2 * a + (2 * d + b)
one_in_front a d b = omega arith

doubled_in_front : (a p v : ℕ) → 2 * a * p + v ≡ a * (p * 2) + v
doubled_in_front a p v = omega arith

-- what stands before digits counts their worth
pub in_front : (a d : ℕ) (bs : List Bool) → value_after (a + d) bs ≡ a * 2 ^ length bs + value_after d bs
unfolding value_after
in_front a d [] = omega arith
in_front a d (b ∷ bs) =
    ap (λ n. value_after n bs) (one_in_front a d (digit b)) ∙ in_front (2 * a) (2 * d + digit b) bs
    ∙ doubled_in_front a (2 ^ length bs) (value_after (2 * d + digit b) bs)
    ∙ ap (λ p. a * p + value_after (2 * d + digit b) bs) (sym (pow-suc 2 (length bs)))

pub drop-bits : (list : List ℕ) (i : ℕ) → i ≤ length list → drop (8 * i) (bits list) ≡ bits (drop i list)
drop-bits list i h =
    let long : length (bits (take i list)) ≡ 8 * i = length-bits (take i list) ∙ ap (λ n. 8 * n) (length-take-le i list h) in
    ap (λ l. drop (8 * i) (bits l)) (sym (take-append-drop i list))
    ∙ ap (drop (8 * i)) (bits-append (take i list) (drop i list))
    ∙ drop_at (bits (take i list)) (bits (drop i list)) (8 * i) long

pub take-bits : (list : List ℕ) (i : ℕ) → i ≤ length list → take (8 * i) (bits list) ≡ bits (take i list)
take-bits list i h =
    let long : length (bits (take i list)) ≡ 8 * i = length-bits (take i list) ∙ ap (λ n. 8 * n) (length-take-le i list h) in
    ap (λ l. take (8 * i) (bits l)) (sym (take-append-drop i list))
    ∙ ap (take (8 * i)) (bits-append (take i list) (drop i list))
    ∙ take_at (bits (take i list)) (bits (drop i list)) (8 * i) long

pub bits-push : (xs : List ℕ) (x : ℕ) → bits (xs ++ x ∷ []) ≡ bits xs ++ u 8 x
bits-push xs x = bits-append xs (x ∷ []) ∙ ap (λ l. bits xs ++ l) (append-nil (u 8 x))

pub are_bytes : (list : List ℕ) → ((k : ℕ) → k < length list → get_or list k 0 < 256) → AreBytes list
are_bytes [] h = tt
are_bytes (b ∷ list) h = (h 0 (omega arith), are_bytes list (λ k l. h (suc k) (omega arith)))

pub bytes_left : (list : List ℕ) (n : ℕ) → AreBytes list → AreBytes (drop n list)
bytes_left list zero h = h
bytes_left [] (suc n) h = tt
bytes_left (x ∷ list) (suc n) h = bytes_left list n h.1

-- how many bits are left
pub length_left : (list : List ℕ) (n : ℕ) → length (drop n (bits list)) ≡ 8 * length list - n
length_left list n = length-drop n (bits list) ∙ ap (λ l. l - n) (length-bits list)
