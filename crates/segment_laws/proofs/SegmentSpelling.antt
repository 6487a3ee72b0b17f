-- The law of slice segment headers: nothing else is read as one.
use Rattle.std.proofs.Common.{◌≡◌, refl, sym, ◌∙◌, ap, subst, ℕ, zero, suc, ◌+◌, ◌-◌, ◌/◌, Bool, List, [], ◌∷◌, ◌++◌, length, take, Ok, arith, append_assoc, length-append}
use Rattle.h265_model.specs.Bits.{◌>>-◌}
use Rattle.h265_model.specs.Plain.{AreBytes}
use Rattle.h265_model.specs.Bits.{bits, bytes, alignment, read_alignment}
use Rattle.h265_model.specs.Fields.{fields_bits, aligned_bits, read_fields, or_number}
use Rattle.h265_model.specs.SliceHead.{Head, head_bits, read_head, dependent_fields, segment_bits, read_segment_head}
use Rattle.h265_model.proofs.ByteLaws.{length-bits-mod}
use Rattle.h265_laws.proofs.HeadSpellingLaws.{front_is, whole_sum, read_head-is}
use Rattle.h265_laws.proofs.SpellingLaws.{went, numbered, read_fields-is, read_alignment-is}
use Rattle.segment_laws.specs.Laws.{order_told, EachSegmentHeadIsSpelled}

-- what is said of a header that was read
abbrev IsSpelled : List ℕ → Bool → ℕ → ℕ → ℕ × ℕ → Type 0
IsSpelled rbsp idr address ctus found = (take found.1 rbsp ≡ bytes (segment_bits idr found.0 address ctus)) × (order_told address found.0 ≡ found.0)

dependent_is : (rbsp : List ℕ) (idr : Bool) (n ctus : ℕ) (found : ℕ × ℕ) → AreBytes rbsp → read_segment_head rbsp idr (suc n) ctus ≡ Ok found → IsSpelled rbsp idr (suc n) ctus found
unfolding segment_bits read_segment_head
dependent_is rbsp idr n ctus found are h =
    let fields = dependent_fields idr (suc n) ctus in
    let first = went (read_fields fields (bits rbsp)) (λ left. or_number 7 (read_alignment left) >>- λ rest. Ok (0, length rbsp - length rest / 8)) found h in
    let end = went (or_number 7 (read_alignment first.value)) (λ rest. Ok (0, length rbsp - length rest / 8)) found first.then in
    let rest = end.value in
    let same : (0, length rbsp - length rest / 8) ≡ found = let e = end.then in cc in
    let own = fields_bits fields in
    let parts : bits rbsp ≡ own ++ first.value = read_fields-is fields (bits rbsp) first.value first.first in
    let sum = whole_sum (length own) (length first.value) (length (bits rbsp)) (ap length parts ∙ length-append own first.value) (length-bits-mod rbsp) in
    let aligned = read_alignment-is (length own) first.value rest sum (numbered 7 (read_alignment first.value) rest end.first) in
    let all : bits rbsp ≡ aligned_bits own ++ rest = parts ∙ ap (λ l. own ++ l) aligned ∙ sym (append_assoc own (alignment (length own)) rest) in
    subst (IsSpelled rbsp idr (suc n) ctus) same (front_is rbsp own rest are all, refl)

none_of : (list : List ℕ) → length list + 1 ≡ 1 → list ≡ []
none_of [] h = refl
none_of (x ∷ list) h = absurd (omega arith)

first_is : (rbsp : List ℕ) (idr : Bool) (ctus : ℕ) (found : ℕ × ℕ) → AreBytes rbsp → read_segment_head rbsp idr zero ctus ≡ Ok found → IsSpelled rbsp idr zero ctus found
unfolding segment_bits read_segment_head
first_is rbsp idr ctus found are h =
    let head = went (read_head rbsp idr 1) (λ (x : Head × ℕ). Ok (x.0.poc, x.1)) found h in
    let same : (head.value.0.poc, head.value.1) ≡ found = let e = head.then in cc in
    let is = read_head-is rbsp idr 1 head.value.0 head.value.1 are (omega arith) head.first in
    subst (IsSpelled rbsp idr zero ctus) same (
      is.2
          ∙ (ap (λ (b : Bool). bytes (head_bits (record { idr = b; poc = head.value.0.poc; offsets = head.value.0.offsets }))) is.0
          ∙ ap (λ (l : List ℕ). bytes (head_bits (record { idr = idr; poc = head.value.0.poc; offsets = l }))) (none_of head.value.0.offsets is.1)),
      refl,
    )

pub segment_heads_are_spelled : EachSegmentHeadIsSpelled
segment_heads_are_spelled rbsp idr poc zero ctus n are h = first_is rbsp idr ctus (poc, n) are h
segment_heads_are_spelled rbsp idr poc (suc address) ctus n are h = dependent_is rbsp idr address ctus (poc, n) are h
