-- Lists of bits under way.
use Rattle.std.proofs.Common.{◌≡◌, refl, sym, ◌∙◌, ap, ℕ, zero, suc, ◌+◌, ◌*◌, ◌-◌, ◌/◌, ◌%◌, ◌^◌, ◌<◌, ◌≤◌, Bool, true, false, not, List, [], ◌∷◌, ◌++◌, length, append_assoc, append-nil, length-append, get_or, drop, inl, inr, length-set, mod-eq_of_lt, mod-lt, pow-suc, arith}
use Rattle.std.proofs.Math.Nat.{add-mod_right, mod-add-div', div-eq_of_lt, div-eq_of_lt-le}
use Rattle.std.proofs.lemmas.Bool.{cases_lt}
use Rattle.std.proofs.lemmas.List.{drop_more}
use Rattle.std.proofs.lemmas.Nat.{pow_pos}
use Rattle.std.specs.Prelude.{◌==◌, set}
use Rattle.h265_model.specs.Bits.{u, digit, value, bytes}
use Rattle.h265_model.proofs.BitLaws.{value-u, length-u}
use Rattle.h265_model.proofs.ByteLaws.{u-value}
use Rattle.h265_model.proofs.Digits.{u-mod}
use Rattle.cabac_enc.proofs.Digits.{exchanged, u-join, value-behind}

-- ---- digits pushed one after another

-- of a number's digits, all but the last ones were pushed
pub record Pushed (left count number : ℕ) (old now : List Bool) : Type 0 where
  pub few : left ≤ count
  pub added : List Bool
  pub is : now ≡ old ++ added
  pub rest : added ++ u left number ≡ u count number

pub none_pushed : (count number : ℕ) (old : List Bool) → Pushed count count number old old
none_pushed count number old = record { few = omega arith; added = []; is = sym (append-nil old); rest = refl }

pub one_pushed : (left count number : ℕ) (old now : List Bool) → Pushed (suc left) count number old now → Pushed left count number old (now ++ (number / 2 ^ left % 2 == 1) ∷ [])
unfolding u
one_pushed left count number old now p = record {
  few = (let f = p.few in omega arith);
  added = p.added ++ (number / 2 ^ left % 2 == 1) ∷ [];
  is = ap (λ l. l ++ (number / 2 ^ left % 2 == 1) ∷ []) p.is ∙ append_assoc old p.added ((number / 2 ^ left % 2 == 1) ∷ []);
  rest = append_assoc p.added ((number / 2 ^ left % 2 == 1) ∷ []) (u left number) ∙ p.rest;
}

pub pushed_at : (left count number : ℕ) (old now after : List Bool) → 0 < left → Pushed left count number old now → after ≡ now ++ (number / 2 ^ (left - 1) % 2 == 1) ∷ [] → Pushed (left - 1) count number old after
pushed_at left count number old now after h p e = let z : suc (left - 1) ≡ left = omega arith in rw e (one_pushed (left - 1) count number old now (rw z p))

pub all_pushed : (count number : ℕ) (old now : List Bool) → Pushed 0 count number old now → now ≡ old ++ u count number
unfolding u
all_pushed count number old now p = p.is ∙ ap (λ l. old ++ l) (sym (append-nil p.added) ∙ p.rest)

-- ---- a number raised by a power of two

-- the digits from a place on were ones, and are zeros: what is missing is one at that place
pub record Raises (place count : ℕ) (old now : List Bool) : Type 0 where
  pub inside : place ≤ length now
  pub long : length now ≡ length old
  pub sum : value now + 2 ^ (length now - place) ≡ value old + 2 ^ count

pub raises_first : (list : List Bool) (count : ℕ) → count ≤ length list → Raises (length list - count) count list list
raises_first list count h = let e : length list - (length list - count) ≡ count = omega arith in record { inside = omega arith; long = refl; sum = rw e refl }

back_again : (v w p q x : ℕ) → v + 1 * p ≡ w + 0 * p → w + p ≡ x → q ≡ p * 2 → v + q ≡ x
back_again v w p q x e f g = omega arith

pub raises_next : (place count : ℕ) (old now : List Bool) (d : Bool) → Raises (suc place) count old now → get_or now place d ≡ true → Raises place count old (set now place false)
raises_next place count old now d r is =
    let inside = r.inside in
    let k : ℕ = length now - suc place in
    let e : length now - place ≡ suc k = omega arith in
    let long : length (set now place false) ≡ length now = length-set now place false in
    let x : value (set now place false) + digit (get_or now place d) * 2 ^ k ≡ value now + digit false * 2 ^ k = exchanged now place k false d (omega arith) in
    let y : value (set now place false) + digit true * 2 ^ k ≡ value now + digit false * 2 ^ k = rw is at x in
    record {
      inside = omega arith;
      long = long ∙ r.long;
      sum = rw (long, e) (back_again _ _ (2 ^ k) (2 ^ suc k) _ y r.sum (pow-suc 2 k));
    }

spelled : (now : List Bool) (n v : ℕ) → length now ≡ n → value now ≡ v → now ≡ u n v
spelled now n v e f = sym (u-value 0 now) ∙ ap (λ m. u m (value now)) e ∙ ap (u n) f

there : (v w p x : ℕ) → v + 0 * p ≡ w + 1 * p → w + p ≡ x → v ≡ x
there v w p x e f = omega arith

pub raised : (place count : ℕ) (old now : List Bool) (d : Bool) → Raises (suc place) count old now → get_or now place d ≡ false → set now place true ≡ u (length old) (value old + 2 ^ count)
raised place count old now d r is =
    let inside = r.inside in
    let k : ℕ = length now - suc place in
    let long : length (set now place true) ≡ length now = length-set now place true in
    let x : value (set now place true) + digit (get_or now place d) * 2 ^ k ≡ value now + digit true * 2 ^ k = exchanged now place k true d (omega arith) in
    let y : value (set now place true) + digit false * 2 ^ k ≡ value now + digit true * 2 ^ k = rw is at x in
    spelled (set now place true) (length old) (value old + 2 ^ count) (long ∙ r.long) (there _ _ (2 ^ k) _ y r.sum)

pub raised_at : (place count : ℕ) (old now : List Bool) (x : Bool) → 0 < place → Raises place count old now → x ≡ get_or now (place - 1) x → x ≡ false → set now (place - 1) (not x) ≡ u (length old) (value old + 2 ^ count)
raised_at place count old now true h r is t = absurd (cc)
raised_at place count old now false h r is t = let z : suc (place - 1) ≡ place = omega arith in raised (place - 1) count old now false (rw z r) (sym is)

pub raises_at : (place count : ℕ) (old now : List Bool) (x : Bool) → 0 < place → Raises place count old now → x ≡ get_or now (place - 1) x → x ≡ true → Raises (place - 1) count old (set now (place - 1) (not x))
raises_at place count old now true h r is t = let z : suc (place - 1) ≡ place = omega arith in raises_next (place - 1) count old now true (rw z r) (sym is)
raises_at place count old now false h r is t = absurd (cc)

over : (list : List Bool) → u (length list) (value list + 2 ^ length list) ≡ list
over list = sym (u-mod (length list) (value list + 2 ^ length list)) ∙ ap (u (length list)) (add-mod_right (value list) (2 ^ length list)) ∙ u-mod (length list) (value list) ∙ u-value 0 list

-- a carry out of the first digit is lost
pub all_raised : (count : ℕ) (old now : List Bool) → Raises 0 count old now → now ≡ u (length old) (value old + 2 ^ count)
all_raised count old now r =
    let s : value now + 2 ^ length now ≡ value old + 2 ^ count = ap (λ n. value now + 2 ^ n) (omega arith) ∙ r.sum in
    sym (over now) ∙ ap (λ n. u n (value now + 2 ^ length now)) r.long ∙ ap (u (length old)) s

-- ---- a number added

pub below_power : (n p : ℕ) → n < 2 * p → (n / p ≡ 1 → ⊥) → n < p
below_power n p h other = elim (cases_lt n p) [ inl less ↦ less | inr more ↦ absurd (other (div-eq_of_lt-le p (omega arith) (omega arith))) ]

pub added_small : (list : List Bool) (count number : ℕ) → number < 2 ^ count → list ++ u count number ≡ u (length list + count) (value list * 2 ^ count + number)
added_small list count number h =
    spelled (list ++ u count number) (length list + count) (value list * 2 ^ count + number) (omega (arith, length-append list (u count number), length-u count number)) (value-behind list count number h)

one_of : (p n r q : ℕ) → r + q * p ≡ n → q ≡ 1 → r + p ≡ n
one_of p n r q e f = let g : r + 1 * p ≡ n = rw f at e in omega arith

behind : (v p r n : ℕ) → r + p ≡ n → v * p + r + p ≡ v * p + n
behind v p r n e = omega arith

pub added_carried : (list : List Bool) (count number : ℕ) (now : List Bool) → number / 2 ^ count ≡ 1 → now ≡ u (length (list ++ u count number)) (value (list ++ u count number) + 2 ^ count) →
    now ≡ u (length list + count) (value list * 2 ^ count + number)
added_carried list count number now one is =
    let long : length (list ++ u count number) ≡ length list + count = omega (arith, length-append list (u count number), length-u count number) in
    let r : ℕ = number % 2 ^ count in
    let whole : r + 2 ^ count ≡ number = one_of (2 ^ count) number r (number / 2 ^ count) (mod-add-div' number (2 ^ count)) one in
    let v : value (list ++ u count number) ≡ value list * 2 ^ count + r = ap (λ l. value (list ++ l)) (sym (u-mod count number)) ∙ value-behind list count r (mod-lt number (pow_pos count)) in
    is ∙ ap (λ n. u n (value (list ++ u count number) + 2 ^ count)) long ∙ ap (λ w. u (length list + count) (w + 2 ^ count)) v ∙ ap (u (length list + count)) (behind (value list) (2 ^ count) r number whole)

-- ---- bits in bytes

few_bits : (k v : ℕ) → k < 8 → bytes (u k v) ≡ []
unfolding bytes u
few_bits zero v h = refl
few_bits (suc zero) v h = refl
few_bits (suc (suc zero)) v h = refl
few_bits (suc (suc (suc zero))) v h = refl
few_bits (suc (suc (suc (suc zero)))) v h = refl
few_bits (suc (suc (suc (suc (suc zero))))) v h = refl
few_bits (suc (suc (suc (suc (suc (suc zero)))))) v h = refl
few_bits (suc (suc (suc (suc (suc (suc (suc zero))))))) v h = refl
few_bits (suc (suc (suc (suc (suc (suc (suc (suc k)))))))) v h = absurd (omega arith)

pub bits_left : (found : List ℕ) (k v : ℕ) (all rest : List Bool) → k < 8 → rest ≡ [] → found ++ bytes (u k v ++ rest) ≡ bytes all → found ≡ bytes all
bits_left found k v all rest h none e =
    sym (append-nil found) ∙ ap (λ l. found ++ l) (sym (few_bits k v h)) ∙ ap (λ l. found ++ bytes l) (sym (append-nil (u k v)) ∙ ap (λ l. u k v ++ l) (sym none)) ∙ e

pub still_few : (k : ℕ) → k < 8 → (k + 1 ≡ 8 → ⊥) → k + 1 < 8
still_few k h other = elim (cases_lt (k + 1) 8) [ inl less ↦ less | inr more ↦ absurd (other (omega arith)) ]

digit-u : (b : Bool) → u 1 (digit b) ≡ b ∷ []
unfolding u
digit-u true = refl
digit-u false = refl

digit_below : (b : Bool) → digit b < 2 ^ 1
digit_below true = omega arith
digit_below false = omega arith

-- one more digit
digit_behind : (k v : ℕ) (b : Bool) → u (k + 1) (2 * v + digit b) ≡ u k v ++ b ∷ []
digit_behind k v b =
    let d = digit_below b in
    let none : digit b / 2 ^ 1 ≡ 0 = div-eq_of_lt d in
    let w : 2 * v + digit b ≡ v * 2 ^ 1 + digit b = omega arith in
    let z : v + 0 ≡ v = omega arith in
    ap (u (k + 1)) w ∙ u-join k 1 v (digit b) ∙ ap (λ n. u k (v + n) ++ u 1 (digit b)) none ∙ ap (λ n. u k n ++ u 1 (digit b)) z ∙ ap (λ l. u k v ++ l) (digit-u b)

one_more_below : (d v p q : ℕ) → d < 2 → v < p → q ≡ p * 2 → 2 * v + d < q
one_more_below d v p q h k e = omega arith

pub digit_fits : (k v : ℕ) (b : Bool) → v < 2 ^ k → 2 * v + digit b < 2 ^ (k + 1)
digit_fits k v b h = let e : 2 ^ (k + 1) ≡ 2 ^ k * 2 = ap (λ n. 2 ^ n) (omega arith) ∙ pow-suc 2 k in one_more_below (digit b) v (2 ^ k) (2 ^ (k + 1)) (digit_below b) h e

-- a digit of the rest goes to those before it
pub digit_taken : (found : List ℕ) (k v i : ℕ) (d : Bool) (all : List Bool) → i < length all → found ++ bytes (u k v ++ drop i all) ≡ bytes all →
    found ++ bytes (u (k + 1) (2 * v + digit (get_or all i d)) ++ drop (i + 1) all) ≡ bytes all
digit_taken found k v i d all h e =
    let b : Bool = get_or all i d in
    ap (λ l. found ++ bytes l) (ap (λ l. l ++ drop (i + 1) all) (digit_behind k v b) ∙ append_assoc (u k v) (b ∷ []) (drop (i + 1) all) ∙ ap (λ l. u k v ++ l) (sym (drop_more all i d h))) ∙ e

byte_front : (v : ℕ) (rest : List Bool) → bytes (u 8 v ++ rest) ≡ value (u 8 v) ∷ bytes rest
unfolding bytes u
byte_front v rest = refl

none_before : (v : ℕ) → 0 * 256 + v ≡ v
none_before v = omega arith

byte_value : (v : ℕ) → v < 256 → value (u 8 v) ≡ v
byte_value v h = value-u 0 8 v ∙ ap (λ m. 0 * 256 + m) (mod-eq_of_lt h) ∙ none_before v

-- eight digits are a byte
pub byte_taken : (found : List ℕ) (v : ℕ) (all rest : List Bool) → v < 256 → found ++ bytes (u 8 v ++ rest) ≡ bytes all → (found ++ v ∷ []) ++ bytes (u 0 0 ++ rest) ≡ bytes all
unfolding u
byte_taken found v all rest h e =
    append_assoc found (v ∷ []) (bytes rest) ∙ ap (λ l. found ++ l) (ap (λ n. n ∷ bytes rest) (sym (byte_value v h)) ∙ sym (byte_front v rest)) ∙ e

pub nothing_taken : (found : List ℕ) (all : List Bool) → found ≡ [] → found ++ bytes (u 0 0 ++ all) ≡ bytes all
unfolding u
nothing_taken found all e = rw e refl
