-- What a lawful event says of its row.
use Rattle.std.proofs.Common.{◌≡◌, sym, ◌∙◌, ap, ℕ, ◌+◌, ◌^◌, ◌<◌, true, arith}
use Rattle.std.proofs.lemmas.Bool.{and_parts, ltb-true}
use Rattle.h265_model.specs.Wave.{Wave, Event, Code, row_at, allows_row, row_of_event}

-- a row that has units left to code
pub units_left : (wave : Wave) (row : ℕ) → allows_row wave (Code row) ≡ true → (row_at wave row).coded < wave.width
units_left wave row h = ltb-true (row_at wave row).coded wave.width (and_parts _ _ h).1

pub fits : (wave : Wave) (event : Event) (row index n : ℕ) → allows_row wave event ≡ true → event ≡ Code row → index ≡ row_of_event event → n ≡ (row_at wave index).coded → wave.width < 2 ^ 32 → n + 1 < 2 ^ 32
fits wave event row index n lawful is place same narrow =
    let here : index ≡ row = place ∙ ap row_of_event is in
    let less = units_left wave row (sym (ap (allows_row wave) is) ∙ lawful) in
    let coded : n ≡ (row_at wave row).coded = same ∙ ap (λ (r : ℕ). (row_at wave r).coded) here in
    omega (arith, less, coded, narrow)
