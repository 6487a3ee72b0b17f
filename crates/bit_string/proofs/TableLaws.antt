-- Laws of tables that are written and read.
use Rattle.std.proofs.Common.{◌≡◌, ℕ, zero, suc, ◌+◌, ◌-◌, ◌/◌, ◌^◌, ◌<◌, Bool, List, [], ◌∷◌, ◌++◌, length, take, get_or, sym, ◌∙◌, ap, arith, IsTrue}
use Rattle.std.proofs.lemmas.List.{append-nil, map_more}
use Rattle.h265_model.specs.Bits.{u}
use Rattle.h265_model.specs.Fields as model
use Rattle.h265_model.specs.Fields.{element_bits, fields_bits}
use Rattle.h265_model.proofs.FieldLaws.{both, fields_bits-append}
use Rattle.bit_string.proofs.Digits.{u-parts}
use Rattle.bit_string.specs.declared.fields.Field.{Field}
use Rattle.bit_string.specs.Tables.{field_of, fields_of, is_writable, all_writable}

pub writable_at : (list : List Field) (i : ℕ) (d : Field) → i < length list → IsTrue (all_writable (fields_of list)) → IsTrue (is_writable (field_of (get_or list i d)))
writable_at [] i d h all = absurd (omega arith)
writable_at (f ∷ list) zero d h all = (both (is_writable (field_of f)) (all_writable (fields_of list)) all).0
writable_at (f ∷ list) (suc i) d h all = writable_at list i d (omega arith) (both (is_writable (field_of f)) (all_writable (fields_of list)) all).1

pub bits_more : (list : List Field) (i : ℕ) (d : Field) → i < length list → fields_bits (fields_of (take (i + 1) list)) ≡ fields_bits (fields_of (take i list)) ++ element_bits (field_of (get_or list i d)).coding (get_or list i d).value
unfolding fields_bits
bits_more list i d h =
    let f = field_of (get_or list i d) in
    ap fields_bits (map_more field_of list i d h)
    ∙ fields_bits-append (fields_of (take i list)) (f ∷ [])
    ∙ ap (λ l. fields_bits (fields_of (take i list)) ++ l) (append-nil (element_bits f.coding f.value))

no_high : (v : ℕ) → v < 2 ^ 32 → v / 2 ^ 32 ≡ 0
no_high v h = omega arith

-- more than 32 bits of a number of 32 bits
pub u-long : (n v : ℕ) → 32 < n → v < 2 ^ 32 → u (n - 32) 0 ++ u 32 v ≡ u n v
u-long n v h b =
    ap (λ x. u (n - 32) x ++ u 32 v) (sym (no_high v b)) ∙ sym (u-parts (n - 32) 32 n v (omega arith))

-- ---- tables one after another

pub tables-three : (a b c : List model.Field) (o x y z : List Bool) → o ≡ [] → x ≡ o ++ fields_bits a → y ≡ x ++ fields_bits b → z ≡ y ++ fields_bits c → z ≡ fields_bits (a ++ b ++ c)
tables-three a b c o x y z none p q r =
    r
    ∙ ap (λ l. l ++ fields_bits c) (q ∙ ap (λ l. l ++ fields_bits b) (p ∙ ap (λ l. l ++ fields_bits a) none) ∙ sym (fields_bits-append a b))
    ∙ sym (fields_bits-append (a ++ b) c)

pub tables-two : (a b : List model.Field) (x y : List Bool) → x ≡ fields_bits a → y ≡ x ++ fields_bits b → y ≡ fields_bits (a ++ b)
tables-two a b x y p q = q ∙ ap (λ l. l ++ fields_bits b) p ∙ sym (fields_bits-append a b)
