-- A smoothed line, place by place.
use Rattle.std.proofs.Common.{◌≡◌, ℕ, zero, suc, ◌+◌, ◌-◌, ◌*◌, ◌/◌, ◌<◌, ◌≤◌, List, [], ◌∷◌, length, get_or, set, refl, sym, ap, ◌∙◌, arith, inl, inr}
use Rattle.std.proofs.lemmas.Bool.{cases_eq}
use Rattle.std.proofs.lemmas.List.{get_or-set_same, get_or-set_other, length-set}
use Rattle.std.proofs.lemmas.Grind.{same_number_lists}
use Rattle.h265_model.specs.Predict.{smoothed, smoothed_after}

length-after : (before : ℕ) (line : List ℕ) → length (smoothed_after before line) ≡ length line
length-after before [] = refl
length-after before (it ∷ []) = refl
length-after before (it ∷ after ∷ line) = ap suc (length-after it (after ∷ line))

after_inner : (before it : ℕ) (line : List ℕ) (k : ℕ) → k < length line
    → get_or (smoothed_after before (it ∷ line)) k 0 ≡ (get_or (before ∷ it ∷ line) k 0 + 2 * get_or (it ∷ line) k 0 + get_or line k 0 + 2) / 4
after_inner before it [] k h = absurd (omega arith)
after_inner before it (after ∷ line) zero h = refl
after_inner before it (after ∷ line) (suc k) h = after_inner it after line k (omega arith)

after_last : (before it : ℕ) (line : List ℕ) (k : ℕ) → k ≡ length line → get_or (smoothed_after before (it ∷ line)) k 0 ≡ get_or (it ∷ line) k 0
after_last before it [] k e = rw e refl
after_last before it (after ∷ line) zero e = absurd (omega arith)
after_last before it (after ∷ line) (suc k) e = after_last it after line k (omega arith)

at_place : (first it : ℕ) (line out : List ℕ) (k : ℕ) → k ≤ suc (length line) → 0 < k → k < suc (length line)
    → get_or out k 0 ≡ (get_or (first ∷ it ∷ line) (k - 1) 0 + 2 * get_or (first ∷ it ∷ line) k 0 + get_or (first ∷ it ∷ line) (k + 1) 0 + 2) / 4
    → get_or out k 0 ≡ get_or (smoothed (first ∷ it ∷ line)) k 0
at_place first it line out zero a b c known = absurd (omega arith)
at_place first it line out (suc k) a b c known =
    let down : suc k - 1 ≡ k = omega arith in
    let up : suc k + 1 ≡ suc (suc k) = omega arith in
    let known' = rw (down, up) at known in
    known' ∙ sym (after_inner first it line k (omega arith))

pub smoothed_is : (line out : List ℕ) (last : ℕ) → length out ≡ length line → 2 ≤ length line → last + 1 ≡ length line → get_or out 0 0 ≡ get_or line 0 0
    → ((k : ℕ) → 1 ≤ k → k < last → get_or out k 0 ≡ (get_or line (k - 1) 0 + 2 * get_or line k 0 + get_or line (k + 1) 0 + 2) / 4)
    → set out last (get_or line last 0) ≡ smoothed line
smoothed_is [] out last same some e head inner = absurd (omega arith)
smoothed_is (first ∷ []) out last same some e head inner = absurd (omega arith)
smoothed_is (first ∷ it ∷ line) out last same some e head inner =
    same_number_lists (set out last (get_or (first ∷ it ∷ line) last 0)) (smoothed (first ∷ it ∷ line))
    (length-set out last (get_or (first ∷ it ∷ line) last 0) ∙ (same ∙ ap suc (sym (length-after first (it ∷ line)))))
    (λ k h. at_each k (omega (arith, length-set out last (get_or (first ∷ it ∷ line) last 0))))
  where
    at_each : (k : ℕ) → k < length out → get_or (set out last (get_or (first ∷ it ∷ line) last 0)) k 0 ≡ get_or (smoothed (first ∷ it ∷ line)) k 0
    at_each zero h =
        get_or-set_other out last 0 (get_or (first ∷ it ∷ line) last 0) 0 (λ q. omega arith) ∙ head
    at_each (suc k) h =
        elim (cases_eq (suc k) last) [
          | inl here ↦
              rw (← here) (get_or-set_same out (suc k) (get_or (first ∷ it ∷ line) (suc k) 0) 0 h ∙ sym (after_last first it line k (omega arith)))
          | inr other ↦
              get_or-set_other out last (suc k) (get_or (first ∷ it ∷ line) last 0) 0 other
              ∙ at_place first it line out (suc k) (omega arith) (omega arith) (omega arith) (inner (suc k) (omega arith) (omega arith))
        ]
