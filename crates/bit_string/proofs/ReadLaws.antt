-- Laws of tables that are read.
use Rattle.std.proofs.Common.{◌≡◌, ℕ, zero, suc, ◌+◌, ◌-◌, ◌*◌, ◌%◌, ◌^◌, ◌<◌, ◌≤◌, Bool, true, false, List, [], ◌∷◌, ◌++◌, length, take, drop, get_or, Option, Some, None, option_map, Result, Ok, Err, bit_or, refl, sym, ◌∙◌, ap, arith, append_assoc, IsTrue, length-drop, length-append, take-append-drop}
use Rattle.std.specs.Prelude.{◌==◌, nat_lt, if◌then◌else◌}
use Rattle.std.proofs.lemmas.Bool.Decides.{nat_tests}
use Rattle.std.proofs.lemmas.Nat.{shl_whole, or_shifted}
use Rattle.std.proofs.lemmas.List.{drop-drop, length-take-le, take_at, map_more, map-append}
use Rattle.h265_model.specs.Bits.{◌>>-◌}
use Rattle.h265_model.specs.Bits.{value, read_u, read_alignment, is_empty}
use Rattle.h265_model.specs.Fields as model
use Rattle.h265_model.specs.Fields.{read_element, or_number, read_field, read_fields, read_trailing}
use Rattle.h265_model.proofs.FieldLaws.{both}
use Rattle.bit_string.specs.declared.fields.Field.{Field}
use Rattle.bit_string.specs.Parts.{Cursor, moved_to}
use Rattle.bit_string.specs.Tables.{field_of, fields_of, is_wide, all_wide}
use Rattle.bit_string.proofs.Codes.{first, second, value_after-from}
use Rattle.bit_string.proofs.Windows.{value_after-append}

-- ---- an element

pub read_some : (r : Option (ℕ × List Bool)) (v : ℕ) (old new : Cursor) → Some v ≡ first r → new ≡ moved_to (second r) old → r ≡ Some (v, new.left)
read_some None v old new value after = absurd (cc)
read_some (Some f) v old new value after =
    let same : v ≡ f.0 = cc in
    let left : new.left ≡ f.1 = ap (λ (k : Cursor). k.left) after in
    let F : ℕ → Option (ℕ × List Bool) = λ v. Some (v, f.1) in
    let G : List Bool → Option (ℕ × List Bool) = λ l. Some (v, l) in
    ap F (sym same) ∙ ap G (sym left)

pub read_none : (r : Option (ℕ × List Bool)) → None ≡ first r → r ≡ None
read_none None e = refl
read_none (Some f) e = absurd (cc)

pub record IsRead (n v : ℕ) (bs after : List Bool) : Type 0 where
  pub fits : n ≤ length bs
  pub number : value (take n bs) ≡ v
  pub rest : drop n bs ≡ after

is_read : (n v : ℕ) (bs rest : List Bool) → read_u n bs ≡ Some (v, rest) → IsRead n v bs rest
unfolding read_u
is_read n v bs rest e =
    elim (nat_lt (length bs) n) as (λ b. nat_lt (length bs) n ≡ b → IsRead n v bs rest) [
      | true ↦ λ is. let none : None ≡ Some (v, rest) = rw is at e in absurd (cc)
      | false ↦ λ is.
          let some : Some (value (take n bs), drop n bs) ≡ Some (v, rest) = rw is at e in
          let pair : (value (take n bs), drop n bs) ≡ (v, rest) = cc in
          record { fits = grind (arith, nat_tests); number = ap (λ (p : ℕ × List Bool). p.0) pair; rest = ap (λ (p : ℕ × List Bool). p.1) pair }
    ] refl

is_short : (n : ℕ) (bs : List Bool) → read_u n bs ≡ None → length bs < n
unfolding read_u
is_short n bs e =
    elim (nat_lt (length bs) n) as (λ b. nat_lt (length bs) n ≡ b → length bs < n) [
      | true ↦ λ is. grind (arith, nat_tests)
      | false ↦ λ is. let some : Some (value (take n bs), drop n bs) ≡ None = rw is at e in absurd (cc)
    ] refl

short : (n : ℕ) (bs : List Bool) → length bs < n → read_u n bs ≡ None
unfolding read_u
short n bs h = let is : nat_lt (length bs) n ≡ true = grind (arith, nat_tests) in rw is refl

enough : (n : ℕ) (bs : List Bool) → n ≤ length bs → read_u n bs ≡ Some (value (take n bs), drop n bs)
unfolding read_u
enough n bs h = let is : nat_lt (length bs) n ≡ false = grind (arith, nat_tests) in rw is refl

pub none_long : (n : ℕ) (bs : List Bool) → read_u (n - 32) bs ≡ None → read_u n bs ≡ None
none_long n bs e = let h = is_short (n - 32) bs e in short n bs (omega arith)

pub none_after : (n v : ℕ) (bs rest : List Bool) → 32 < n → read_u (n - 32) bs ≡ Some (v, rest) → read_u 32 rest ≡ None → read_u n bs ≡ None
none_after n v bs rest h e k =
    let r = is_read (n - 32) v bs rest e in
    let s = is_short 32 rest k in
    short n bs (omega (arith, r.fits, s, ap length (sym r.rest), length-drop (n - 32) bs))

two_fronts : (m n : ℕ) (bs : List Bool) → m ≤ length bs → n ≤ length bs - m → take (m + n) bs ≡ take m bs ++ take n (drop m bs)
two_fronts m n bs h k =
    let a = take m bs in
    let b = take n (drop m bs) in
    let whole : bs ≡ (a ++ b) ++ drop n (drop m bs) =
    sym (take-append-drop m bs) ∙ ap (λ l. a ++ l) (sym (take-append-drop n (drop m bs))) ∙ sym (append_assoc a b (drop n (drop m bs))) in
    let la = length-take-le m bs h in
    let lb = length-take-le n (drop m bs) (omega (arith, length-drop m bs)) in
    let long : length (a ++ b) ≡ m + n = omega (arith, length-append a b) in
    ap (take (m + n)) whole ∙ take_at (a ++ b) (drop n (drop m bs)) (m + n) long

pub some_long : (n v w : ℕ) (bs mid rest : List Bool) → 32 < n → v < 2 ^ 32 → w < 2 ^ 32 → read_u (n - 32) bs ≡ Some (v, mid) → read_u 32 mid ≡ Some (w, rest) →
    read_u n bs ≡ Some (bit_or (v * 2 ^ 32 % 2 ^ 64) w, rest)
some_long n v w bs mid rest h a b e k =
    let m = n - 32 in
    let r = is_read m v bs mid e in
    let s = is_read 32 w mid rest k in
    let later = length-drop m bs in
    let same = ap length (sym r.rest) in
    let whole : m + 32 ≡ n = omega arith in
    let fits : n ≤ length bs = omega (arith, r.fits, s.fits) in
    let last = take 32 (drop m bs) in
    let long : length last ≡ 32 = length-take-le 32 (drop m bs) (omega (arith, s.fits)) in
    let number : value (take n bs) ≡ bit_or (v * 2 ^ 32 % 2 ^ 64) w =
    ap (λ k. value (take k bs)) (sym whole)
    ∙ ap value (two_fronts m 32 bs r.fits (omega (arith, s.fits)))
    ∙ value_after-append 0 (take m bs) last
    ∙ value_after-from (value (take m bs)) last
    ∙ ap (λ k. value (take m bs) * 2 ^ k + value last) long
    ∙ ap (λ x. x * 2 ^ 32 + value last) r.number
    ∙ ap (λ l. v * 2 ^ 32 + value (take 32 l)) r.rest
    ∙ ap (λ x. v * 2 ^ 32 + x) s.number
    ∙ sym (or_shifted v 32 w b)
    ∙ ap (λ x. bit_or x w) (sym (shl_whole v 32 32 64 a (omega arith))) in
    let left : drop n bs ≡ rest =
    ap (λ k. drop k bs) (sym whole) ∙ sym (drop-drop 32 m bs) ∙ ap (drop 32) r.rest ∙ s.rest in
    let F : ℕ → Option (ℕ × List Bool) = λ v. Some (v, drop n bs) in
    let G : List Bool → Option (ℕ × List Bool) = λ l. Some (bit_or (v * 2 ^ 32 % 2 ^ 64) w, l) in
    enough n bs fits ∙ ap F number ∙ ap G left

-- ---- a field

pub one_read : (f : model.Field) (v : ℕ) (bs rest : List Bool) → read_element f.coding bs ≡ Some (v, rest) → v ≡ f.value → read_fields (f ∷ []) bs ≡ Ok rest
unfolding read_fields
one_read f v bs rest e is = let same : (v == f.value) ≡ true = grind (arith, nat_tests) in rw e (rw same refl)

pub one_differs : (f : model.Field) (v : ℕ) (bs rest : List Bool) → read_element f.coding bs ≡ Some (v, rest) → (v ≡ f.value → ⊥) → read_fields (f ∷ []) bs ≡ Err f.number
unfolding read_fields
one_differs f v bs rest e differs = let other : (v == f.value) ≡ false = grind (arith, nat_tests) in rw e (rw other refl)

pub one_ends : (f : model.Field) (bs : List Bool) → read_element f.coding bs ≡ None → read_fields (f ∷ []) bs ≡ Err f.number
unfolding read_fields
one_ends f bs e = rw e refl

-- ---- tables one after another

then_fields : model.Field → List model.Field → Result (ℕ × List Bool) ℕ → Result (List Bool) ℕ
then_fields f fs r = r >>- λ found. if found.0 == f.value then read_fields fs found.1 else Err f.number

step_ok : (f : model.Field) (a b : List model.Field) (y : List Bool) (r : Result (ℕ × List Bool) ℕ) → ((z : List Bool) → read_fields a z ≡ Ok y → read_fields (a ++ b) z ≡ read_fields b y) → then_fields f a r ≡ Ok y → then_fields f (a ++ b) r ≡ read_fields b y
unfolding then_fields
step_ok f a b y (Err e) go h = absurd (cc)
step_ok f a b y (Ok found) go h =
    elim (found.0 == f.value) as (λ t. (if t then read_fields a found.1 else Err f.number) ≡ Ok y → (if t then read_fields (a ++ b) found.1 else Err f.number) ≡ read_fields b y) [
      | true ↦ λ is. go found.1 is
      | false ↦ λ is. absurd (cc)
    ] h

pub read_fields-then : (a b : List model.Field) (x y : List Bool) → read_fields a x ≡ Ok y → read_fields (a ++ b) x ≡ read_fields b y
unfolding read_fields then_fields
read_fields-then [] b x y h = let same : x ≡ y = cc in ap (read_fields b) same
read_fields-then (f ∷ a) b x y h = step_ok f a b y (read_field f.number f.coding x) (λ z e. read_fields-then a b z y e) h

step_err : (f : model.Field) (a b : List model.Field) (n : ℕ) (r : Result (ℕ × List Bool) ℕ) → ((z : List Bool) → read_fields a z ≡ Err n → read_fields (a ++ b) z ≡ Err n) → then_fields f a r ≡ Err n → then_fields f (a ++ b) r ≡ Err n
unfolding then_fields
step_err f a b n (Err e) go h = h
step_err f a b n (Ok found) go h =
    elim (found.0 == f.value) as (λ t. (if t then read_fields a found.1 else Err f.number) ≡ Err n → (if t then read_fields (a ++ b) found.1 else Err f.number) ≡ Err n) [
      | true ↦ λ is. go found.1 is
      | false ↦ λ is. is
    ] h

pub read_fields-err : (a b : List model.Field) (x : List Bool) (n : ℕ) → read_fields a x ≡ Err n → read_fields (a ++ b) x ≡ Err n
unfolding read_fields then_fields
read_fields-err [] b x n h = absurd (cc)
read_fields-err (f ∷ a) b x n h = step_err f a b n (read_field f.number f.coding x) (λ z e. read_fields-err a b z n e) h

pub wide_at : (list : List Field) (i : ℕ) (d : Field) → i < length list → IsTrue (all_wide (fields_of list)) → IsTrue (is_wide (field_of (get_or list i d)).coding)
wide_at [] i d h all = absurd (omega arith)
wide_at (f ∷ list) zero d h all = (both (is_wide (field_of f).coding) (all_wide (fields_of list)) all).0
wide_at (f ∷ list) (suc i) d h all = wide_at list i d (omega arith) (both (is_wide (field_of f).coding) (all_wide (fields_of list)) all).1

pub fields_more : (list : List Field) (i : ℕ) (d : Field) (x y : List Bool) (r : Result (List Bool) ℕ) → i < length list → read_fields (fields_of (take i list)) x ≡ Ok y → read_fields (field_of (get_or list i d) ∷ []) y ≡ r →
    read_fields (fields_of (take (i + 1) list)) x ≡ r
fields_more list i d x y r h front one =
    ap (λ fs. read_fields fs x) (map_more field_of list i d h)
    ∙ read_fields-then (fields_of (take i list)) (field_of (get_or list i d) ∷ []) x y front
    ∙ one

pub fields_fail : (list : List Field) (i n : ℕ) (x : List Bool) → read_fields (fields_of (take i list)) x ≡ Err n → read_fields (fields_of list) x ≡ Err n
fields_fail list i n x e =
    ap (λ l. read_fields (fields_of l) x) (sym (take-append-drop i list))
    ∙ ap (λ fs. read_fields fs x) (map-append field_of (take i list) (drop i list))
    ∙ read_fields-err (fields_of (take i list)) (fields_of (drop i list)) x n e

-- ---- the end

empty_left : (bs : List Bool) → read_u 1 bs ≡ None → is_empty bs ≡ true
empty_left [] e = refl
empty_left (b ∷ bs) e = let h = is_short 1 (b ∷ bs) e in absurd (omega arith)

some_left : (v : ℕ) (bs rest : List Bool) → read_u 1 bs ≡ Some (v, rest) → is_empty bs ≡ false
some_left v [] rest e = let r = is_read 1 v [] rest e in absurd (omega (arith, r.fits))
some_left v (b ∷ bs) rest e = refl

pub trailing_done : (number : ℕ) (bs rest : List Bool) → read_alignment bs ≡ Some rest → read_u 1 rest ≡ None → read_trailing number bs ≡ Ok tt
trailing_done number bs rest e none = rw e (rw (empty_left rest none) refl)

pub trailing_more : (number v : ℕ) (bs rest later : List Bool) → read_alignment bs ≡ Some rest → read_u 1 rest ≡ Some (v, later) → read_trailing number bs ≡ Err number
trailing_more number v bs rest later e some = rw e (rw (some_left v rest later some) refl)

pub trailing_none : (number : ℕ) (bs : List Bool) → read_alignment bs ≡ None → read_trailing number bs ≡ Err number
trailing_none number bs e = rw e refl

pub aligned_some : (r : Option (List Bool)) (old new : Cursor) → Some tt ≡ option_map {U = Unit {0}} (λ _. tt) r → new ≡ moved_to r old → r ≡ Some new.left
aligned_some None old new value after = absurd (cc)
aligned_some (Some l) old new value after =
    let left : new.left ≡ l = ap (λ (k : Cursor). k.left) after in
    ap (λ l. Some l) (sym left)

pub aligned_none : (r : Option (List Bool)) → None ≡ option_map {U = Unit {0}} (λ _. tt) r → r ≡ None
aligned_none None e = refl
aligned_none (Some l) e = absurd (cc)
