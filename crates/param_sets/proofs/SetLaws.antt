-- Laws of three parameter sets that are read.
use Rattle.std.proofs.Common.{◌≡◌, ℕ, ◌<◌, Bool, List, [], ◌∷◌, cond, true, false, Option, Some, None, length, get_or, Result, Ok, Err, refl, sym, ◌∙◌, ap, arith}
use Rattle.std.specs.Prelude.{◌==◌, nat_lt, if◌then◌else◌}
use Rattle.std.proofs.lemmas.Bool.Decides.{nat_tests}
use Rattle.std.proofs.lemmas.List.{get_or_read}
use Rattle.h265_model.specs.Bits.{◌>>-◌}
use Rattle.h265_model.specs.Bits.{read_u}
use Rattle.h265_model.specs.Fields.{or_number}
use Rattle.h265_model.specs.Plain.{Size, coded}
use Rattle.h265_model.specs.NalUnits.{NalUnit}
use Rattle.h265_model.specs.ParamSets.{BadParam, in_set, vps_fields, read_fixed_set, read_sps, segments_flag, read_pps, read_params}

abbrev vps_of : NalUnit → Result (Unit {0}) ℕ
vps_of nal = read_fixed_set 0x40 vps_fields 17 nal

abbrev pps_of : Size → NalUnit → Result Bool ℕ
pps_of size nal = read_pps size nal

all_sets : Result (Unit {0}) ℕ → Result Size ℕ → (Size → Result Bool ℕ) → Result (Size × Bool) BadParam
all_sets vps sps pps = in_set 0 vps >>- λ _. in_set 1 sps >>- λ size. in_set 2 (pps size) >>- λ segments. Ok (size, segments)

three_sets : (sets : List NalUnit) (d : NalUnit) → length sets ≡ 3 → read_params sets ≡ all_sets (vps_of (get_or sets 0 d)) (read_sps (get_or sets 1 d)) (λ size. pps_of size (get_or sets 2 d))
unfolding read_params all_sets
three_sets [] d h = absurd (omega arith)
three_sets (x ∷ []) d h = absurd (omega arith)
three_sets (x ∷ y ∷ []) d h = absurd (omega arith)
three_sets (x ∷ y ∷ z ∷ []) d h = refl
three_sets (x ∷ y ∷ z ∷ w ∷ sets) d h = absurd (omega arith)

-- what was read of a member
same : {A : Type 0} (f : NalUnit → A) (sets : List NalUnit) (i : ℕ) (a d : NalUnit) (r : A) → length sets ≡ 3 → i < 3 → a ≡ get_or sets i a → f a ≡ r → f (get_or sets i d) ≡ r
same f sets i a d r h k is e = ap f (sym (get_or_read sets i a (omega arith) is d)) ∙ e

pub bad_vps : (sets : List NalUnit) (a : NalUnit) (n : ℕ) → length sets ≡ 3 → a ≡ get_or sets 0 a → vps_of a ≡ Err n → read_params sets ≡ Err (record { set = 0; field = n })
unfolding all_sets
bad_vps sets a n h is e =
    three_sets sets a h ∙ ap (λ r. all_sets r (read_sps (get_or sets 1 a)) (λ size. pps_of size (get_or sets 2 a))) (same vps_of sets 0 a a (Err n) h (omega arith) is e)

good_vps : (sets : List NalUnit) (a : NalUnit) → length sets ≡ 3 → a ≡ get_or sets 0 a → vps_of a ≡ Ok tt → read_params sets ≡ all_sets (Ok tt) (read_sps (get_or sets 1 a)) (λ size. pps_of size (get_or sets 2 a))
good_vps sets a h is e =
    three_sets sets a h ∙ ap (λ r. all_sets r (read_sps (get_or sets 1 a)) (λ size. pps_of size (get_or sets 2 a))) (same vps_of sets 0 a a (Ok tt) h (omega arith) is e)

pub bad_sps : (sets : List NalUnit) (a b : NalUnit) (n : ℕ) → length sets ≡ 3 → a ≡ get_or sets 0 a → vps_of a ≡ Ok tt → b ≡ get_or sets 1 b → read_sps b ≡ Err n → read_params sets ≡ Err (record { set = 1; field = n })
unfolding all_sets
bad_sps sets a b n h is e js f =
    good_vps sets a h is e ∙ ap (λ r. all_sets (Ok tt) r (λ size. pps_of size (get_or sets 2 a))) (same read_sps sets 1 b a (Err n) h (omega arith) js f)

good_sps : (sets : List NalUnit) (a b : NalUnit) (size : Size) → length sets ≡ 3 → a ≡ get_or sets 0 a → vps_of a ≡ Ok tt → b ≡ get_or sets 1 b → read_sps b ≡ Ok size → read_params sets ≡ all_sets (Ok tt) (Ok size) (λ size. pps_of size (get_or sets 2 a))
good_sps sets a b size h is e js f =
    good_vps sets a h is e ∙ ap (λ r. all_sets (Ok tt) r (λ size. pps_of size (get_or sets 2 a))) (same read_sps sets 1 b a (Ok size) h (omega arith) js f)

after_pps : Size → Result Bool ℕ → Result (Size × Bool) BadParam
after_pps size r = in_set 2 r >>- λ segments. Ok (size, segments)

third_set : (sets : List NalUnit) (a b c : NalUnit) (size : Size) → length sets ≡ 3 → a ≡ get_or sets 0 a → vps_of a ≡ Ok tt → b ≡ get_or sets 1 b → read_sps b ≡ Ok size →
    read_params sets ≡ after_pps size (pps_of size (get_or sets 2 a))
unfolding all_sets after_pps
third_set sets a b c size h is e js f = good_sps sets a b size h is e js f

pub bad_pps : (sets : List NalUnit) (a b c : NalUnit) (size : Size) (n : ℕ) → length sets ≡ 3 → a ≡ get_or sets 0 a → vps_of a ≡ Ok tt → b ≡ get_or sets 1 b → read_sps b ≡ Ok size → c ≡ get_or sets 2 c → pps_of size c ≡ Err n →
    read_params sets ≡ Err (record { set = 2; field = n })
unfolding after_pps
bad_pps sets a b c size n h is e js f ks g = third_set sets a b c size h is e js f ∙ ap (after_pps size) (same (pps_of size) sets 2 c a (Err n) h (omega arith) ks g)

pub good_sets : (sets : List NalUnit) (a b c : NalUnit) (size : Size) (segments : Bool) → length sets ≡ 3 → a ≡ get_or sets 0 a → vps_of a ≡ Ok tt → b ≡ get_or sets 1 b → read_sps b ≡ Ok size → c ≡ get_or sets 2 c → pps_of size c ≡ Ok segments →
    read_params sets ≡ Ok (size, segments)
unfolding after_pps
good_sets sets a b c size segments h is e js f ks g = third_set sets a b c size h is e js f ∙ ap (after_pps size) (same (pps_of size) sets 2 c a (Ok segments) h (omega arith) ks g)

-- ---- the flag of segments

after_segments : Size → Option (ℕ × List Bool) → Result (Bool × List Bool) ℕ
after_segments size r = or_number 3 r >>- λ found. if found.0 == 0 then Ok (false, found.1) else if nat_lt 32 (coded size.w) then Ok (true, found.1) else Err 3

segments_in : (size : Size) (z : List Bool) → segments_flag size z ≡ after_segments size (read_u 1 z)
unfolding after_segments
segments_in size z = refl

pub segments_none : (size : Size) (z : List Bool) → read_u 1 z ≡ None → segments_flag size z ≡ Err 3
unfolding after_segments
segments_none size z e = segments_in size z ∙ ap (after_segments size) e

pub segments_unset : (size : Size) (z : List Bool) (v : ℕ) (t : List Bool) → read_u 1 z ≡ Some (v, t) → v ≡ 0 → segments_flag size z ≡ Ok (false, t)
unfolding after_segments
segments_unset size z v t e is =
    let unset : (v == 0) ≡ true = grind (arith, nat_tests) in
    segments_in size z ∙ ap (after_segments size) e ∙ ap (λ (b : Bool). if b then Ok (false, t) else if nat_lt 32 (coded size.w) then Ok (true, t) else Err 3) unset

pub segments_set : (size : Size) (z : List Bool) (v : ℕ) (t : List Bool) → read_u 1 z ≡ Some (v, t) → (v ≡ 0 → ⊥) → (wide : Bool) → nat_lt 32 (coded size.w) ≡ wide →
    segments_flag size z ≡ cond wide (Ok (true, t)) (Err 3)
unfolding after_segments
segments_set size z v t e is wide w =
    let one : (v == 0) ≡ false = grind (arith, nat_tests) in
    segments_in size z ∙ ap (after_segments size) e ∙ ap (λ (b : Bool). if b then Ok (false, t) else if nat_lt 32 (coded size.w) then Ok (true, t) else Err 3) one
    ∙ ap (λ (b : Bool). cond b (Ok (true, t)) (Err 3)) w
