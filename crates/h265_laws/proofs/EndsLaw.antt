-- Codes and aligned bits end in a byte other than 0, so emulation prevention of joined parts is that of each part.
use Rattle.std.proofs.Common.{◌≡◌, refl, sym, ◌∙◌, ap, subst, ℕ, zero, suc, ◌+◌, ◌-◌, ◌*◌, ◌/◌, ◌%◌, ◌^◌, ◌<◌, List, [], ◌∷◌, ◌++◌, Bool, true, false, cond, length, map, append-nil, length-append, arith}
use Rattle.std.specs.Prelude.{Option, Some, None, ◌&&◌, ◌==◌, nat_le}
use Rattle.std.specs.List.{AllByRecursion, flat_map, last_or}
use Rattle.h265_model.specs.declared.Place.{Place}
use Rattle.h265_model.specs.declared.Item.{Item}
use Rattle.h265_model.specs.declared.Place.TheVariants.{Context, Bypass, Terminate}
use Rattle.h265_model.specs.declared.Item.TheVariants as items
use Rattle.h265_model.specs.Bits.{bits, bytes, alignment}
use Rattle.h265_model.specs.Code.{Coding, phase_after, Phase, Plain, Ended, Filled, GoesOn, IsWellFormed, bytes_of, closing, fresh, put, put_bin, coding, code}
use Rattle.h265_model.specs.Fields.{aligned_bits}
use Rattle.h265_model.specs.NalUnits.{escape_after, escape}
use Rattle.h265_model.specs.NalUnits.{EndsWell}
use Rattle.h265_model.proofs.UnitLaws.{escape_afresh}
use Rattle.h265_model.proofs.FieldLaws.{bits-aligned_bits, ends-aligned_bits}

-- a list that ends in a number other than 0
pub record Ends (list : List ℕ) : Type 0 where
  pub last : ℕ
  pub is : (o : Option ℕ) → last_or o list ≡ Some last
  pub some : 0 < last

last_append : (o : Option ℕ) (a b : List ℕ) → last_or o (a ++ b) ≡ last_or (last_or o a) b
last_append o [] b = refl
last_append o (x ∷ a) b = last_append (Some x) a b

pub ends_append : (a b : List ℕ) → Ends b → Ends (a ++ b)
ends_append a b e = record { last = e.last; is = λ o. last_append o a b ∙ e.is (last_or o a); some = e.some }

pub ends_well : (list : List ℕ) → Ends list → EndsWell list
ends_well list e h = let k : Some e.last ≡ Some 0 = sym (e.is (Some 1)) ∙ h in let z : e.last ≡ 0 = ap value_or k in let s : 0 < e.last = e.some in absurd (omega arith)
  where
    value_or : Option ℕ → ℕ
    value_or None = 0
    value_or (Some v) = v

pub ends_some : (list : List ℕ) → Ends list → 0 < length list
ends_some [] e = absurd (let k : None ≡ Some e.last = e.is None in cc)
ends_some (x ∷ list) e = omega arith

-- ---- codes

last_byte : (o : Option ℕ) (n v : ℕ) → last_or o (bytes_of (suc n) v) ≡ Some (v % 256)
last_byte o zero v = ap (λ (k : ℕ). Some k) (omega arith)
last_byte o (suc n) v = last_byte (Some (v / 256 ^ suc n % 256)) n v

one_digit : (k p : ℕ) → p < 8 → 0 < (k * 2 + 1) * 2 ^ p % 256
one_digit k zero h = omega arith
one_digit k (suc zero) h = omega arith
one_digit k (suc (suc zero)) h = omega arith
one_digit k (suc (suc (suc zero))) h = omega arith
one_digit k (suc (suc (suc (suc zero)))) h = omega arith
one_digit k (suc (suc (suc (suc (suc zero))))) h = omega arith
one_digit k (suc (suc (suc (suc (suc (suc zero)))))) h = omega arith
one_digit k (suc (suc (suc (suc (suc (suc (suc zero))))))) h = omega arith
one_digit k (suc (suc (suc (suc (suc (suc (suc (suc p)))))))) h = absurd (omega arith)

closing_ends : (low count : ℕ) → Ends (closing low count)
unfolding closing
closing_ends low count =
    let n : ℕ = (count + 16) / 8 in
    let p : ℕ = 8 * n - (count + 9) in
    let v : ℕ = (low / 2 * 2 + 1) * 2 ^ p in
    let some : suc (n - 1) ≡ n = omega arith in
    let small : p < 8 = omega arith in
    record {
      last = v % 256;
      is = λ o. ap (λ (m : ℕ). last_or o (bytes_of m v)) (sym some) ∙ last_byte o (n - 1) v;
      some = one_digit (low / 2) p small;
    }

-- what ends a code so far
IsDone : Phase → List ℕ → Type 0
IsDone Ended done = Ends done
IsDone Plain done = Unit {0}
IsDone Filled done = Unit {0}

bin_done : (place : Place) (value : Bool) (c : Coding) → place ≡ Terminate → value ≡ true → Ends (put_bin place value c).done
unfolding put_bin
bin_done (Context n) value c e f = absurd (cc)
bin_done Bypass value c e f = absurd (cc)
bin_done Terminate true c e f = ends_append c.done _ (closing_ends _ _)
bin_done Terminate false c e f = absurd (cc)

coding_ends : (list : List Item) (c : Coding) → (GoesOn Plain list → Ends (coding list c).done) × (GoesOn Filled list → Ends (coding list c).done) × (GoesOn Ended list → Ends c.done → Ends (coding list c).done)
coding_ends [] c = (λ g. elim g [ ], λ g. elim g [ ], λ g e. e)
coding_ends (items.Bin b ∷ list) c =
    let later = coding_ends list (put_bin b.place b.value c) in
    (λ g. behind b.place b.value g.1 later.0 later.2, λ g. behind b.place b.value g.1 later.0 later.2, λ g e. elim g [ ])
  where
    behind : (place : Place) (value : Bool) → GoesOn (phase_after place value) list
        → (GoesOn Plain list → Ends (coding list (put_bin place value c)).done) → (GoesOn Ended list → Ends (put_bin place value c).done → Ends (coding list (put_bin place value c)).done)
        → Ends (coding list (put_bin place value c)).done
    behind (Context n) value g p e = p g
    behind Bypass value g p e = p g
    behind Terminate true g p e = e g (bin_done Terminate true c refl refl)
    behind Terminate false g p e = p g
coding_ends (items.Sample x ∷ list) c =
    let later = coding_ends list (put (items.Sample x) c) in
    (λ g. elim g [ ], λ g. later.1 g.1, λ g e. later.1 g.1)

pub code_ends : (list : List Item) (contexts : List ℕ) → IsWellFormed list → Ends (code list contexts)
unfolding code
code_ends list contexts formed = (coding_ends list (fresh [] contexts)).0 formed

-- ---- aligned bits

last_is : (x : ℕ) (list : List ℕ) → (v : ℕ) × (last_or (Some x) list ≡ Some v)
last_is x [] = (x, refl)
last_is x (y ∷ list) = last_is y list

ends_of : (list : List ℕ) → 0 < length list → EndsWell list → Ends list
ends_of [] some well = absurd (omega arith)
ends_of (x ∷ list) some well =
    let last : (v : ℕ) × (last_or (Some x) list ≡ Some v) = last_is x list in
    record { last = last.0; is = λ o. last.1; some = positive last.0 (λ z. well (last.1 ∙ ap (λ (v : ℕ). Some v) z)) }
  where
    positive : (v : ℕ) → (v ≡ 0 → ⊥) → 0 < v
    positive v h = omega arith

-- bits that a one and zeros fill up
pub aligned_bits_end : (bs : List Bool) → Ends (bytes (aligned_bits bs))
aligned_bits_end bs = ends_of (bytes (aligned_bits bs)) (some (bytes (aligned_bits bs)) (bits-aligned_bits bs)) (ends-aligned_bits bs)
  where
    some : (list : List ℕ) → bits list ≡ bs ++ alignment (length bs) → 0 < length list
    some [] e = absurd (let n : 0 ≡ length (bs ++ alignment (length bs)) = ap (λ (l : List Bool). length l) e in omega (arith, length-append bs (alignment (length bs))))
    some (x ∷ list) e = omega arith

-- ---- emulation prevention of joined parts

pub escape_append : (p q : ℕ) (a b : List ℕ) → Ends a → escape_after p q (a ++ b) ≡ escape_after p q a ++ escape b
unfolding escape_after
escape_append p q [] b e = absurd (let k : None ≡ Some e.last = e.is None in cc)
escape_append p q (x ∷ []) b e = go (p == 0 && q == 0 && nat_le x 3)
  where
    value_or : Option ℕ → ℕ
    value_or None = 0
    value_or (Some v) = v

    some : 0 < x
    some = let same : x ≡ e.last = ap value_or (e.is None) in let positive : 0 < e.last = e.some in omega arith

    go : (t : Bool) → cond t (3 ∷ x ∷ escape_after 3 x b) (x ∷ escape_after q x b) ≡ cond t (3 ∷ x ∷ []) (x ∷ []) ++ escape b
    go true = ap (λ (l : List ℕ). 3 ∷ x ∷ l) (escape_afresh 3 x b some)
    go false = ap (λ (l : List ℕ). x ∷ l) (escape_afresh q x b some)
escape_append p q (x ∷ y ∷ a) b e = go (p == 0 && q == 0 && nat_le x 3) (λ r. escape_append r x (y ∷ a) b later)
  where
    later : Ends (y ∷ a)
    later = record { last = e.last; is = λ o. e.is o; some = e.some }

    go : (t : Bool) → ((r : ℕ) → escape_after r x ((y ∷ a) ++ b) ≡ escape_after r x (y ∷ a) ++ escape b)
        → cond t (3 ∷ x ∷ escape_after 3 x ((y ∷ a) ++ b)) (x ∷ escape_after q x ((y ∷ a) ++ b)) ≡ cond t (3 ∷ x ∷ escape_after 3 x (y ∷ a)) (x ∷ escape_after q x (y ∷ a)) ++ escape b
    go true h = ap (λ (l : List ℕ). 3 ∷ x ∷ l) (h 3)
    go false h = ap (λ (l : List ℕ). x ∷ l) (h q)

pub escape_rows : (rows : List (List ℕ)) → AllByRecursion Ends rows → escape (flat_map (λ r. r) rows) ≡ flat_map (λ r. r) (map escape rows)
unfolding escape_after
escape_rows [] h = refl
escape_rows (row ∷ rows) h = escape_append 255 255 row (flat_map (λ r. r) rows) h.0 ∙ ap (λ (l : List ℕ). escape row ++ l) (escape_rows rows h.1)

pub rows_end : (row : List ℕ) (rows : List (List ℕ)) → AllByRecursion Ends (row ∷ rows) → Ends (flat_map (λ r. r) (row ∷ rows))
rows_end row [] h = subst Ends (sym (append-nil row)) h.0
rows_end row (next ∷ rows) h = ends_append row _ (rows_end next rows h.1)
