-- Bytes as one number.
use Rattle.std.proofs.Common.{◌≡◌, refl, sym, ◌∙◌, ap, subst, ℕ, ◌+◌, ◌*◌, ◌%◌, ◌^◌, ◌<◌, ◌≤◌, List, [], ◌∷◌, ◌++◌, length, take, get_or, bit_or, arith}
use Rattle.std.proofs.lemmas.List.{length-take-le, take_more, take_all}
use Rattle.std.proofs.lemmas.Nat.{shl_whole, or_shifted}
use Rattle.h265_model.specs.Bits.{u, value_after, value, bits}
use Rattle.h265_model.proofs.BitLaws.{value-u}
use Rattle.h265_model.proofs.ByteLaws.{value_below, length-bits}
use Rattle.cabac_dec.proofs.Parts.{value_after-append, bits-push}

same_byte : (a b : ℕ) → b < 256 → a * 256 + b % 256 ≡ a * 256 + b
same_byte a b h = omega arith

-- one byte more
pub pushed : (front : List ℕ) (word b : ℕ) → b < 256 → word ≡ value (bits front) → value (bits (front ++ b ∷ [])) ≡ word * 2 ^ 8 + b
pushed front word b byte is =
    ap value (bits-push front b) ∙ value_after-append 0 (bits front) (u 8 b) ∙ ap (λ w. value_after w (u 8 b)) (sym is) ∙ value-u word 8 b ∙ same_byte word b byte

pub word_more : (list : List ℕ) (i word b : ℕ) → i < length list → i < 3 → b < 256 → b ≡ get_or list i 0 → word ≡ value (bits (take i list)) → bit_or (word * 2 ^ 8 % 2 ^ 32) b ≡ value (bits (take (i + 1) list))
word_more list i word b h few byte at is =
    let front = bits (take i list) in
    let long : length front ≡ 8 * i = length-bits (take i list) ∙ ap (λ n. 8 * n) (length-take-le i list (omega arith)) in
    let below : word < 2 ^ (8 * i) = subst (λ (n : ℕ). word < 2 ^ n) long (subst (λ (w : ℕ). w < 2 ^ length front) (sym is) (value_below front)) in
    ap (λ x. bit_or x b) (shl_whole word (8 * i) 8 32 below (omega arith)) ∙ or_shifted word 8 b byte
    ∙ sym (pushed (take i list) word b byte is)
    ∙ ap (λ x. value (bits (take i list ++ x ∷ []))) at
    ∙ ap (λ l. value (bits l)) (sym (take_more list i 0 h))

pub word_whole : (list : List ℕ) (i word : ℕ) → length list ≤ i → length list ≤ 4 → word ≡ value (bits (take i list)) → word ≡ value (bits (take 4 list))
word_whole list i word h few is = is ∙ ap (λ l. value (bits l)) (take_all i list h ∙ sym (take_all 4 list few))

worth : (a b c d : ℕ) → (((0 * 2 ^ 8 + a) * 2 ^ 8 + b) * 2 ^ 8 + c) * 2 ^ 8 + d ≡ a * 16777216 + b * 65536 + c * 256 + d
worth a b c d = omega arith

-- four bytes are one number
pub four_bytes : (list : List ℕ) → 4 ≤ length list → ((i : ℕ) → get_or list i 0 < 256)
    → get_or list 0 0 * 16777216 + get_or list 1 0 * 65536 + get_or list 2 0 * 256 + get_or list 3 0 ≡ value (bits (take 4 list))
unfolding value_after
four_bytes (a ∷ b ∷ c ∷ d ∷ rest) long h =
    let none : 0 ≡ value (bits []) = refl in
    let one = pushed [] 0 a (h 0) none in
    let two = pushed (a ∷ []) (0 * 2 ^ 8 + a) b (h 1) (sym one) in
    let three = pushed (a ∷ b ∷ []) ((0 * 2 ^ 8 + a) * 2 ^ 8 + b) c (h 2) (sym two) in
    let four = pushed (a ∷ b ∷ c ∷ []) (((0 * 2 ^ 8 + a) * 2 ^ 8 + b) * 2 ^ 8 + c) d (h 3) (sym three) in
    sym (worth a b c d) ∙ sym four
four_bytes _ long h = absurd (omega arith)
