-- A row's bytes end in one that isn't 0, and are fewer than 2 ^ 31.
use Rattle.std.proofs.Common.{◌≡◌, refl, sym, ◌∙◌, ap, subst, ℕ, ◌-◌, ◌<◌, List, [], ◌∷◌, length, arith}
use Rattle.std.specs.Prelude.{Option, Some, None, slice_index}
use Rattle.std.specs.List.{last_or}
use Rattle.h265_model.specs.Slice.{contexts_at}
use Rattle.h265_model.specs.Tree.{leaf_units, items_of_row}
use Rattle.h265_laws.specs.Laws.{EachRowIsSubstream}
use Rattle.h265_laws.proofs.CoverLaw.{sides_of}
use Rattle.h265_laws.proofs.RowForm.{row_form}
use Rattle.h265_laws.proofs.EndsLaw.{Ends, code_ends}
use Rattle.h265_laws.proofs.LengthLaw.{code_length, length_row}

value_or : Option ℕ → ℕ
value_or None = 0
value_or (Some v) = v

last_is : (x : ℕ) (list : List ℕ) → Some (slice_index (x ∷ list) (length list)) ≡ last_or (Some x) list
last_is x [] = refl
last_is x (y ∷ list) = last_is y list

pub ends_in : (list : List ℕ) → Ends list → 0 < slice_index list (length list - 1)
unfolding value_or
ends_in [] e = absurd (let k : None ≡ Some e.last = e.is None in cc)
ends_in (x ∷ list) e =
    let is : slice_index (x ∷ list) (length list) ≡ e.last = ap value_or (last_is x list ∙ e.is None) in
    let at : length (x ∷ list) - 1 ≡ length list = omega arith in
    let some : 0 < e.last = e.some in
    subst (λ (n : ℕ). 0 < n) (sym (ap (slice_index (x ∷ list)) at ∙ is)) some

pub each_row_is_substream : EachRowIsSubstream
each_row_is_substream kind size source leaves row is narrow less =
    let sides = sides_of kind size source leaves is in
    let items = items_of_row (leaf_units kind source) size leaves row in
    let contexts = contexts_at kind (leaf_units kind source) size leaves row in (
      ends_in _ (code_ends items contexts (row_form kind size source leaves row is.source_is sides is.wide less)),
      omega (arith, code_length items contexts, length_row kind size source leaves row is.source_is sides narrow),
    )
