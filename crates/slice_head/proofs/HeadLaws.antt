-- Laws of headers that are written.
use Rattle.std.proofs.Common.{◌≡◌, ℕ, suc, ◌+◌, ◌-◌, ◌<◌, true, false, List, [], ◌∷◌, ◌++◌, length, take, get_or, map, refl, sym, ◌∙◌, ap, arith}
use Rattle.std.specs.Prelude.{◌==◌}
use Rattle.std.proofs.lemmas.Bool.Decides.{nat_tests}
use Rattle.std.proofs.lemmas.List.{append-nil, map_more}
use Rattle.h265_model.specs.Bits.{u, ue}
use Rattle.h265_model.specs.Fields.{Field, fixed, fields_bits}
use Rattle.h265_model.specs.SliceHead.{entry_points}
use Rattle.h265_model.proofs.FieldLaws.{fields_bits-append}

-- the field of an offset
abbrev pub offset_fields : List ℕ → List Field
offset_fields offsets = map (λ offset. fixed 12 32 (offset - 1)) offsets

pub offsets_more : (list : List ℕ) (i : ℕ) → i < length list → fields_bits (offset_fields (take (i + 1) list)) ≡ fields_bits (offset_fields (take i list)) ++ u 32 (get_or list i 0 - 1)
unfolding fields_bits
offsets_more list i h =
    let f = fixed 12 32 (get_or list i 0 - 1) in
    ap fields_bits (map_more (λ offset. fixed 12 32 (offset - 1)) list i 0 h)
    ∙ fields_bits-append (offset_fields (take i list)) (f ∷ [])
    ∙ ap (λ l. fields_bits (offset_fields (take i list)) ++ l) (append-nil (u 32 (get_or list i 0 - 1)))

positive : (n : ℕ) → (suc n == 0) ≡ true → 0 < 0
positive n e = grind (arith, nat_tests)

pub no_entries : (offsets : List ℕ) → (length offsets == 0) ≡ true → ue (length offsets) ≡ fields_bits (entry_points offsets)
unfolding fields_bits
no_entries [] e = sym (append-nil (ue 0))
no_entries (o ∷ offsets) e = let h = positive (length offsets) e in absurd (omega arith)

pub some_entries : (offsets : List ℕ) → (length offsets == 0) ≡ false → ue (length offsets) ++ (ue 31 ++ fields_bits (offset_fields offsets)) ≡ fields_bits (entry_points offsets)
unfolding fields_bits
some_entries [] e = absurd (cc)
some_entries (o ∷ offsets) e = refl
