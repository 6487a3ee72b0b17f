-- Laws of the size that is written.
use Rattle.std.proofs.Common.{◌≡◌, ℕ, ◌+◌, ◌-◌, ◌≤◌, Bool, true, false, List, [], ◌++◌, refl, ◌∙◌, ap, arith, append_assoc}
use Rattle.std.specs.Prelude.{◌==◌, not, ◌&&◌}
use Rattle.std.proofs.lemmas.Bool.Decides.{nat_tests}
use Rattle.std.proofs.lemmas.List.{append-nil}
use Rattle.h265_model.specs.Plain.{Size, coded}
use Rattle.h265_model.specs.Bits.{u, ue}
use Rattle.h265_model.specs.Fields.{fields_bits}
use Rattle.h265_model.specs.ParamSets.{is_padded, size_fields}

-- ---- the size

none_padded : (w h cw ch : ℕ) → cw - w + (ch - h) ≡ 0 → w ≤ cw → h ≤ ch → not (w == cw && h == ch) ≡ false
none_padded w h cw ch e a b = grind (arith, nat_tests)

some_padded : (w h cw ch : ℕ) → (cw - w + (ch - h) ≡ 0 → ⊥) → w ≤ cw → h ≤ ch → not (w == cw && h == ch) ≡ true
some_padded w h cw ch e a b = grind (arith, nat_tests)

pub not_smaller : (n : ℕ) → n ≤ coded n
not_smaller n = omega arith

pub size-whole : (size : Size) → coded size.w - size.w + (coded size.h - size.h) ≡ 0 → fields_bits (size_fields size) ≡ ue (coded size.w) ++ (ue (coded size.h) ++ (u 1 0 ++ []))
unfolding fields_bits size_fields
size-whole size e = let whole : is_padded size ≡ false = none_padded size.w size.h (coded size.w) (coded size.h) e (not_smaller size.w) (not_smaller size.h) in rw whole refl

pub size-window : (size : Size) → (coded size.w - size.w + (coded size.h - size.h) ≡ 0 → ⊥) →
    fields_bits (size_fields size) ≡ ue (coded size.w) ++ (ue (coded size.h) ++ (u 1 1 ++ (ue 0 ++ (ue (coded size.w - size.w) ++ (ue 0 ++ (ue (coded size.h - size.h) ++ []))))))
unfolding fields_bits size_fields
size-window size e = let padded : is_padded size ≡ true = some_padded size.w size.h (coded size.w) (coded size.h) e (not_smaller size.w) (not_smaller size.h) in rw padded refl

pub three : (a b c d : List Bool) → ((a ++ b) ++ c) ++ d ≡ a ++ (b ++ (c ++ (d ++ [])))
three a b c d = simp (append_assoc, append-nil)

pub four : (a b c d w x y z : List Bool) → (((a ++ b) ++ c) ++ d) ++ (w ++ (x ++ (y ++ z))) ≡ a ++ (b ++ (c ++ (d ++ (w ++ (x ++ (y ++ (z ++ [])))))))
four a b c d w x y z = simp (append_assoc, append-nil)

pub size_is : (size : Size) (w h : ℕ) → w ≡ size.w → h ≡ size.h → record { w = w; h = h } ≡ size
size_is size w h e f =
    let F : ℕ → Size = λ x. record { w = x; h = h } in
    let G : ℕ → Size = λ y. record { w = size.w; h = y } in
    ap F e ∙ ap G f
