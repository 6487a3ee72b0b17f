-- How many start codes stand in bytes, by the places of their last bytes.
use Rattle.std.proofs.Common.{◌≡◌, ◌≢◌, ℕ, zero, suc, ◌+◌, ◌-◌, ◌<◌, ◌≤◌, true, false, List, [], ◌∷◌, length, drop, refl, sym, ◌∙◌, ap, subst, arith}
use Rattle.std.specs.Prelude.{◌&&◌, ◌==◌}
use Rattle.std.proofs.lemmas.Bool.Decides.{nat_tests}
use Rattle.h265_model.specs.Decode.{start_codes}
use Rattle.annexb.specs.Marks.{ArePlain, IsMark}
use Rattle.annexb.proofs.Escapes.{IsMarkAfter, mark_after, later_mark, later_plain}

is_code : (a b c : ℕ) → a ≡ 0 → b ≡ 0 → 1 ≤ c → c ≤ 1 → (a == 0 && b == 0 && c == 1) ≡ true
is_code a b c x y l h = grind (arith, nat_tests)

isnt_code : (a b c : ℕ) → (a ≡ 0 → b ≡ 0 → 1 ≤ c → 1 < c) → (a == 0 && b == 0 && c == 1) ≡ false
isnt_code a b c h = grind (arith, nat_tests)

no_code : (a b c : ℕ) (list : List ℕ) → (a ≡ 0 → b ≡ 0 → 1 ≤ c → 1 < c) → start_codes (a ∷ b ∷ c ∷ list) ≡ start_codes (b ∷ c ∷ list)
unfolding start_codes
no_code a b c list h = rw (isnt_code a b c h) refl

-- a byte that is no zero and all after it
afresh : (b c : ℕ) (list : List ℕ) → c ≢ 0 → start_codes (b ∷ c ∷ list) ≡ start_codes list
unfolding start_codes
afresh b c [] h = refl
afresh b c (d ∷ []) h = no_code b c d [] (λ x y. absurd (h y))
afresh b c (d ∷ e ∷ list) h = no_code b c d (e ∷ list) (λ x y. absurd (h y)) ∙ no_code c d e list (λ x y. absurd (h x))

code_here : (a b c : ℕ) (list : List ℕ) → a ≡ 0 → b ≡ 0 → 1 ≤ c → c ≤ 1 → start_codes (a ∷ b ∷ c ∷ list) ≡ 1 + start_codes list
unfolding start_codes
code_here a b c list x y l h =
    let other : c ≢ 0 = λ e. absurd (omega arith) in
    rw (is_code a b c x y l h) (ap (λ n. 1 + n) (afresh b c list other))

pub codes-plain : (list : List ℕ) (n : ℕ) → length list ≤ n → ArePlain 1 1 list n → start_codes list ≡ 0
unfolding start_codes
codes-plain [] n h all = refl
codes-plain (a ∷ []) n h all = refl
codes-plain (a ∷ b ∷ []) n h all = refl
codes-plain (a ∷ b ∷ c ∷ list) zero h all = absurd (omega arith)
codes-plain (a ∷ b ∷ c ∷ list) (suc n) h all =
    no_code a b c list (λ x y. all.each 0 (omega arith) (omega arith) x y)
    ∙ codes-plain (b ∷ c ∷ list) n (omega arith) (later_plain 1 1 a (b ∷ c ∷ list) n all)

codes-after : (list : List ℕ) (n : ℕ) → suc (suc n) < length list → ArePlain 1 1 list (suc (suc n)) → IsMarkAfter 1 1 list n → start_codes list ≡ 1 + start_codes (drop (suc (suc (suc n))) list)
codes-after [] n h all mark = absurd (omega arith)
codes-after (a ∷ []) n h all mark = absurd (omega arith)
codes-after (a ∷ b ∷ []) n h all mark = absurd (omega arith)
codes-after (a ∷ b ∷ c ∷ list) zero h all mark = code_here a b c list mark.first mark.second mark.low mark.high
codes-after (a ∷ b ∷ c ∷ list) (suc n) h all mark =
    no_code a b c list (λ x y. all.each 0 (omega arith) (omega arith) x y)
    ∙ codes-after (b ∷ c ∷ list) n (omega arith) (later_plain 1 1 a (b ∷ c ∷ list) (suc (suc n)) all) (later_mark 1 1 a (b ∷ c ∷ list) n mark)

pub codes-mark : (list : List ℕ) (n : ℕ) → n < length list → ArePlain 1 1 list n → IsMark 1 1 list n → start_codes list ≡ 1 + start_codes (drop (n + 1) list)
codes-mark list n h all mark =
    let k = n - 2 in
    let after = mark.after in
    let whole : suc (suc k) ≡ n = omega arith in
    let P : ℕ → ℕ → Type 0 = λ n m. n < length list → ArePlain 1 1 list n → start_codes list ≡ 1 + start_codes (drop m list) in
    let next : suc (suc (suc k)) ≡ n + 1 = omega arith in
    subst (λ m. P n m) next (subst (λ n. P n (suc (suc (suc k)))) whole (λ h all. codes-after list k h all (mark_after 1 1 list n k (sym whole) mark))) h all
