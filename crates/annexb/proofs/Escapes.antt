-- Where emulation prevention bytes are needed.
use Rattle.std.proofs.Common.{◌≡◌, ℕ, zero, suc, ◌-◌, ◌<◌, ◌≤◌, true, false, List, [], ◌∷◌, ◌++◌, length, take, drop, get_or, refl, sym, ◌∙◌, ap, subst, arith}
use Rattle.std.specs.Prelude.{◌&&◌, ◌==◌, nat_le, nat_lt}
use Rattle.std.proofs.lemmas.Bool.Decides.{nat_tests}
use Rattle.std.proofs.lemmas.List.{append-nil, take_all, drop_all}
use Rattle.h265_model.specs.NalUnits.{escape_after, escape}
use Rattle.h265_model.proofs.UnitLaws.{escape_afresh}
use Rattle.annexb.specs.Escaping.{from_mark}
use Rattle.annexb.specs.Marks.{ArePlain, IsMark}

-- a mark with two more than k for its place
pub record IsMarkAfter (least most : ℕ) (list : List ℕ) (k : ℕ) : Type 0 where
  pub first : get_or list k 0 ≡ 0
  pub second : get_or list (suc k) 0 ≡ 0
  pub low : least ≤ get_or list (suc (suc k)) 0
  pub high : get_or list (suc (suc k)) 0 ≤ most

same_place : (list : List ℕ) (i j : ℕ) → i ≡ j → get_or list i 0 ≡ get_or list j 0
same_place list i j e = ap (λ k. get_or list k 0) e

pub mark_after : (least most : ℕ) (list : List ℕ) (n k : ℕ) → n ≡ suc (suc k) → IsMark least most list n → IsMarkAfter least most list k
mark_after least most list n k is mark =
    record {
      first = same_place list k (n - 2) (omega (arith, is)) ∙ mark.first;
      second = same_place list (suc k) (n - 1) (omega (arith, is)) ∙ mark.second;
      low = omega (arith, same_place list (suc (suc k)) n (sym is), mark.low);
      high = omega (arith, same_place list (suc (suc k)) n (sym is), mark.high);
    }

pub later_mark : (least most p : ℕ) (list : List ℕ) (k : ℕ) → IsMarkAfter least most (p ∷ list) (suc k) → IsMarkAfter least most list k
later_mark least most p list k mark = record { first = mark.first; second = mark.second; low = mark.low; high = mark.high }

pub later_plain : (least most p : ℕ) (list : List ℕ) (n : ℕ) → ArePlain least most (p ∷ list) (suc n) → ArePlain least most list n
later_plain least most p list n h = record { each = λ k a b x y l. h.each (suc k) (omega arith) (omega arith) x y l }

-- ---- escaping

plain : (p q b : ℕ) → (p ≡ 0 → q ≡ 0 → 3 < b) → (p == 0 && q == 0 && nat_le b 3) ≡ false
plain p q b h = grind (arith, nat_tests)

marked : (p q b : ℕ) → p ≡ 0 → q ≡ 0 → b ≤ 3 → (p == 0 && q == 0 && nat_le b 3) ≡ true
marked p q b x y z = grind (arith, nat_tests)

third : (p q b : ℕ) (list : List ℕ) (n : ℕ) → ArePlain 0 3 (p ∷ q ∷ b ∷ list) (suc (suc (suc n))) → p ≡ 0 → q ≡ 0 → 3 < b
third p q b list n all x y = all.each 0 (omega arith) (omega arith) x y (omega arith)

plain_to_end : (p q : ℕ) (list : List ℕ) → ArePlain 0 3 (p ∷ q ∷ list) (suc (suc (length list))) → escape_after p q list ≡ list
unfolding escape_after
plain_to_end p q [] h = refl
plain_to_end p q (b ∷ list) h =
    rw (plain p q b (third p q b list (length list) h))
    (ap (λ l. b ∷ l) (plain_to_end q b list (later_plain 0 3 p (q ∷ b ∷ list) (suc (suc (length list))) h)))

plain_to_mark : (p q : ℕ) (list : List ℕ) (n : ℕ) → n < length list → ArePlain 0 3 (p ∷ q ∷ list) (suc (suc n)) → IsMarkAfter 0 3 (p ∷ q ∷ list) n → escape_after p q list ≡ take n list ++ from_mark (drop n list)
unfolding escape_after
plain_to_mark p q [] n h all mark = absurd (omega arith)
plain_to_mark p q (b ∷ list) zero h all mark = rw (marked p q b mark.first mark.second mark.high) (ap (λ l. 3 ∷ l) (escape_afresh 0 3 (b ∷ list) (omega arith)))
plain_to_mark p q (b ∷ list) (suc n) h all mark =
    rw (plain p q b (third p q b list n all))
    (ap (λ l. b ∷ l) (plain_to_mark q b list n (omega arith) (later_plain 0 3 p (q ∷ b ∷ list) (suc (suc n)) all) (later_mark 0 3 p (q ∷ b ∷ list) n mark)))

pub first_plain : (least most p q : ℕ) (list : List ℕ) (n : ℕ) → 0 < p → 0 < q → ArePlain least most list n → ArePlain least most (p ∷ q ∷ list) (suc (suc n))
first_plain least most p q list n a b all = record {
  each = λ k. elim k as (λ k. suc (suc k) < suc (suc n) → suc (suc k) < length (p ∷ q ∷ list) → get_or (p ∷ q ∷ list) k 0 ≡ 0 → get_or (p ∷ q ∷ list) (suc k) 0 ≡ 0 → least ≤ get_or (p ∷ q ∷ list) (suc (suc k)) 0 → most < get_or (p ∷ q ∷ list) (suc (suc k)) 0) [
    | zero ↦ λ h l x y low. absurd (omega arith)
    | suc k ↦ elim k as (λ k. suc (suc (suc k)) < suc (suc n) → suc (suc (suc k)) < length (p ∷ q ∷ list) → get_or (q ∷ list) k 0 ≡ 0 → get_or (q ∷ list) (suc k) 0 ≡ 0 → least ≤ get_or (q ∷ list) (suc (suc k)) 0 → most < get_or (q ∷ list) (suc (suc k)) 0) [
      | zero ↦ λ h l x y low. absurd (omega arith)
      | suc k ↦ λ h l x y low. all.each k (omega arith) (omega arith) x y low
    ]
  ];
}

pub escape-plain : (list : List ℕ) (n : ℕ) → length list ≤ n → ArePlain 0 3 list n → escape list ≡ list
escape-plain list n h all =
    plain_to_end 255 255 list (record { each = λ k a b x y l. (first_plain 0 3 255 255 list n (omega arith) (omega arith) all).each k (omega arith) b x y l })

escape-after : (list : List ℕ) (k : ℕ) → suc (suc k) < length list → ArePlain 0 3 list (suc (suc k)) → IsMarkAfter 0 3 list k → escape list ≡ take (suc (suc k)) list ++ from_mark (drop (suc (suc k)) list)
escape-after list k h all mark =
    plain_to_mark 255 255 list (suc (suc k)) h (first_plain 0 3 255 255 list (suc (suc k)) (omega arith) (omega arith) all) (record { first = mark.first; second = mark.second; low = mark.low; high = mark.high })

pub escape-mark : (list : List ℕ) (n : ℕ) → n < length list → ArePlain 0 3 list n → IsMark 0 3 list n → escape list ≡ take n list ++ from_mark (drop n list)
escape-mark list n h all mark =
    let k = n - 2 in
    let after = mark.after in
    let whole : suc (suc k) ≡ n = omega arith in
    let P : ℕ → Type 0 = λ n. escape list ≡ take n list ++ from_mark (drop n list) in
    let Q : ℕ → Type 0 = λ n. ArePlain 0 3 list n in
    subst P whole (escape-after list k (omega arith) (subst Q (sym whole) all) (mark_after 0 3 list n k (sym whole) mark))

-- both cases in one
pub escape-found : (list : List ℕ) (n : ℕ) → n ≤ length list → ArePlain 0 3 list n → (n < length list → IsMark 0 3 list n) → escape list ≡ take n list ++ from_mark (drop n list)
escape-found list n h all mark =
    elim (nat_lt n (length list)) as (λ b. nat_lt n (length list) ≡ b → escape list ≡ take n list ++ from_mark (drop n list)) [
      | true ↦ λ is. let l : n < length list = grind (arith, nat_tests) in escape-mark list n l all (mark l)
      | false ↦ λ is.
          let l : length list ≤ n = grind (arith, nat_tests) in
          rw (take_all n list l, drop_all n list l) (escape-plain list n l all ∙ sym (append-nil list))
    ] refl
