-- A script's lines, where they stand.
use Rattle.std.proofs.Common.{◌≡◌, ℕ, ◌+◌, ◌-◌, ◌<◌, ◌≤◌, ◌^◌, List, [], ◌∷◌, ◌++◌, length, get_or, refl, sym, ap, ◌∙◌, arith, true, false, ◌==◌, cond, count_by, inl, inr}
use Rattle.std.proofs.lemmas.List.Sums.{sum_by_push}
use Rattle.std.proofs.lemmas.Bool.{cases_lt, eq-eqb, ne_eqb, cond-true, cond-false}
use Rattle.std.proofs.lemmas.List.{map_push, length_push, length-map, get_or_append_left, get_or_push}
use Rattle.std.proofs.lemmas.List.Elements.{All-push, All-head, All-tail, All-weaker}
use Rattle.std.specs.List.{All}
use Rattle.recorder_model.specs.Script.{is_cut}
use Rattle.recorder_model.specs.declared.line.Line.{Line}
use Rattle.recorder_model.specs.declared.line.Line.TheVariants.{Fill, Blit, Copy, Cut}
use Rattle.paint_script.specs.Spellable.{IsSpellable, IsOfVersion}
use Rattle.paint_script.specs.Scripts.{IsStored, line_at, lines_at}

abbrev IsWithin : List Line → ℕ → Type 0
IsWithin paints place = place ≤ length paints

-- one more line that paints moves no other
line_at-more : (paints : List Line) (line : Line) (place : ℕ) → place ≤ length paints → line_at (paints ++ line ∷ []) place ≡ line_at paints place
line_at-more paints line place h =
    elim (cases_lt 0 place) [
      | inl above ↦ ap (λ x. cond (place == 0) Cut x) (get_or_append_left paints (line ∷ []) Cut (place - 1) (omega arith))
      | inr none ↦ (let zero_place : (place == 0) ≡ true = eq-eqb place 0 (omega arith) in
          cond-true (place == 0) Cut (get_or (paints ++ line ∷ []) (place - 1) Cut) zero_place
          ∙ sym (cond-true (place == 0) Cut (get_or paints (place - 1) Cut) zero_place))
    ]

line_at-new : (paints : List Line) (line : Line) → line_at (paints ++ line ∷ []) (length paints + 1) ≡ line
line_at-new paints line =
    cond-false ((length paints + 1) == 0) Cut (get_or (paints ++ line ∷ []) (length paints + 1 - 1) Cut) (ne_eqb (length paints + 1) 0 (λ e. omega arith))
    ∙ get_or_push paints line Cut (length paints + 1 - 1) (omega arith)

lines_at-more : (paints : List Line) (line : Line) (places : List ℕ) → All (IsWithin paints) places → lines_at (paints ++ line ∷ []) places ≡ lines_at paints places
lines_at-more paints line [] h = refl
lines_at-more paints line (p ∷ ps) h =
    ap (λ x. x ∷ lines_at (paints ++ line ∷ []) ps) (line_at-more paints line p (All-head (IsWithin paints) p ps h))
    ∙ ap (λ ls. line_at paints p ∷ ls) (lines_at-more paints line ps (All-tail (IsWithin paints) p ps h))

pub lines_at-paint : (paints : List Line) (line : Line) (places : List ℕ) → All (IsWithin paints) places → lines_at (paints ++ line ∷ []) (places ++ (length paints + 1) ∷ []) ≡ lines_at paints places ++ line ∷ []
lines_at-paint paints line places h =
    map_push (line_at (paints ++ line ∷ [])) places (length paints + 1)
    ∙ ap (λ ls. ls ++ line_at (paints ++ line ∷ []) (length paints + 1) ∷ []) (lines_at-more paints line places h)
    ∙ ap (λ x. lines_at paints places ++ x ∷ []) (line_at-new paints line)

count-push : (lines : List Line) (line : Line) → is_cut line ≡ false → count_by is_cut (lines ++ line ∷ []) ≡ count_by is_cut lines
count-push lines line e =
    sum_by_push (λ x. cond (is_cut x) 1 0) lines line ∙ ap (λ b. count_by is_cut lines + cond b 1 0) e ∙ omega arith

pub IsStored-paint : (version : ℕ) (paints : List Line) (places : List ℕ) (cut line : Line) → length places + 1 < 2 ^ 32 → IsSpellable line → IsOfVersion version line → is_cut line ≡ false → IsStored version paints places cut → IsStored version (paints ++ line ∷ []) (places ++ (length paints + 1) ∷ []) cut
IsStored-paint version paints places cut line room spelled fits paint s =
    let e = lines_at-paint paints line places s.within in
    let more : length (paints ++ line ∷ []) ≡ length paints + 1 = length_push paints line in
    let longer : length (places ++ (length paints + 1) ∷ []) ≡ length places + 1 = length_push places (length paints + 1) in
    let wider : All (IsWithin (paints ++ line ∷ [])) places = All-weaker (IsWithin paints) (IsWithin (paints ++ line ∷ [])) (λ place h. omega arith) places s.within in
    record {
      is = record {
        versioned = s.is.versioned;
        few = rw (length-map, length_push) room;
        spellable = rw e (All-push IsSpellable (lines_at paints places) line s.is.spellable spelled);
        fits = rw e (All-push (IsOfVersion version) (lines_at paints places) line s.is.fits fits);
      };
      within = All-push (IsWithin (paints ++ line ∷ [])) places (length paints + 1) wider (omega arith);
      cuts = rw (e, count-push (lines_at paints places) line paint, length_push, length_push) (omega (arith, s.cuts));
      one_cut = s.one_cut;
    }

pub is_cut-paint : (line : Line) → (line ≡ Cut → ⊥) → is_cut line ≡ false
is_cut-paint (Fill r c) h = refl
is_cut-paint (Blit r pixels) h = refl
is_cut-paint (Copy r to_x to_y) h = refl
is_cut-paint Cut h = absurd (h refl)
