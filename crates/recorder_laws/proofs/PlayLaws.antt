-- What a script shows and what is written of it, line by line.
use Rattle.std.proofs.Common.{◌≡◌, ℕ, zero, suc, ◌+◌, ◌≤◌, Bool, true, false, List, [], ◌∷◌, ◌++◌, length, map, take, drop, take-append-drop, mul_comm, ◌-◌, ◌*◌, Option, Some, None, refl, sym, ◌∙◌, ap, arith, add-one, append_assoc}
use Rattle.std.specs.Prelude.{count_by, not, ◌==◌, cond, slice_index_or, fold}
use Rattle.std.specs.List.{AllByRecursion, last_or, range_with_len}
use Rattle.std.proofs.lemmas.Bool.Decides.{nat_tests}
use Rattle.std.proofs.lemmas.List.{append-nil}
use Rattle.recorder_model.specs.declared.entry.Entry.{Entry}
use Rattle.recorder_model.specs.declared.entry.Entry.TheVariants as entry
use Rattle.recorder_model.specs.declared.line.Line.{Line}
use Rattle.h265_model.specs.declared.rgb.Rgb.{Rgb}
use Rattle.h265_model.specs.Raster.{black}
use Rattle.recorder_model.specs.declared.line.Line.TheVariants.{Fill, Blit, Copy, Cut}
use Rattle.h265_model.specs.Plain.{Size}
use Rattle.h265_model.specs.Settings.{Settings}
use Rattle.recorder_model.specs.Script.{is_cut}
use Rattle.h265_model.specs.Raster.{Raster, black_raster, IsRaster, IsColour, copies, source_x, source_y, paints as paints_place}
use Rattle.recorder_model.specs.Painting.{HasColours, Shown, painted, unpainted, raster, colour, rasters_after, lines_of, pictures, accepted_line}
use Rattle.recorder_model.specs.Histories.{own_order, cuts, paints, indexes_of, take_numbers, script_length, IsLawful}
use Rattle.h265_model.specs.Stream.{pieces}
use Rattle.h265_model.proofs.Squares.{length_places, all_places}
use Rattle.recorder_laws.specs.Laws.{EachPictureIsRaster}
use Rattle.h265_laws.proofs.Prefixes.{prefixes}

-- ---- rasters

-- what no line painted is black
pub raster_of_none : (size : Size) → black_raster size ≡ raster size []
unfolding raster colour
raster_of_none size = refl

pub rasters_after-append : (size : Size) (before xs ys : List Line) →
    rasters_after size before (xs ++ ys) ≡ rasters_after size before xs ++ rasters_after size (before ++ xs) ys
unfolding rasters_after
rasters_after-append size before [] ys = ap (λ (l : List Line). rasters_after size l ys) (sym (append-nil before))
rasters_after-append size before (Fill r c ∷ xs) ys =
    rasters_after-append size (before ++ Fill r c ∷ []) xs ys
    ∙ ap (λ (l : List Line). rasters_after size (before ++ Fill r c ∷ []) xs ++ rasters_after size l ys) (append_assoc before (Fill r c ∷ []) xs)
rasters_after-append size before (Blit r pixels ∷ xs) ys =
    rasters_after-append size (before ++ Blit r pixels ∷ []) xs ys
    ∙ ap (λ (l : List Line). rasters_after size (before ++ Blit r pixels ∷ []) xs ++ rasters_after size l ys) (append_assoc before (Blit r pixels ∷ []) xs)
rasters_after-append size before (Copy r to_x to_y ∷ xs) ys =
    rasters_after-append size (before ++ Copy r to_x to_y ∷ []) xs ys
    ∙ ap (λ (l : List Line). rasters_after size (before ++ Copy r to_x to_y ∷ []) xs ++ rasters_after size l ys) (append_assoc before (Copy r to_x to_y ∷ []) xs)
rasters_after-append size before (Cut ∷ xs) ys =
    ap (λ (l : List Raster). raster size before ∷ l)
    (rasters_after-append size (before ++ Cut ∷ []) xs ys
    ∙ ap (λ (l : List Line). rasters_after size (before ++ Cut ∷ []) xs ++ rasters_after size l ys) (append_assoc before (Cut ∷ []) xs))

-- ---- a script in its own order

map_lines : (scripts : List (List Line)) (n k : ℕ) → lines_of scripts (map (λ index. entry.Line 0 index) (range_with_len k n)) ≡ map (accepted_line scripts 0) (range_with_len k n)
unfolding lines_of
map_lines scripts zero k = refl
map_lines scripts (suc n) k = ap (λ (l : List Line). accepted_line scripts 0 k ∷ l) (map_lines scripts n (k + 1))

next_line : (line : Line) (script : List Line) (k : ℕ) → accepted_line ((line ∷ script) ∷ []) 0 (k + 1) ≡ accepted_line (script ∷ []) 0 k
next_line line script k = rw add-one refl

map_shift : (line : Line) (script : List Line) (n k : ℕ) →
    map (accepted_line ((line ∷ script) ∷ []) 0) (range_with_len (k + 1) n) ≡ map (accepted_line (script ∷ []) 0) (range_with_len k n)
map_shift line script zero k = refl
map_shift line script (suc n) k =
    ap (λ (l : Line). l ∷ map (accepted_line ((line ∷ script) ∷ []) 0) (range_with_len (k + 1 + 1) n)) (next_line line script k)
    ∙ ap (λ (l : List Line). accepted_line (script ∷ []) 0 k ∷ l) (map_shift line script n (k + 1))

map_all : (script : List Line) → map (accepted_line (script ∷ []) 0) (range_with_len 0 (length script)) ≡ script
map_all [] = refl
map_all (line ∷ script) = ap (λ (l : List Line). line ∷ l) (map_shift line script (length script) 0 ∙ map_all script)

-- the lines that it accepts are the script's
pub lines_of-own_order : (script : List Line) → lines_of (script ∷ []) (own_order (script ∷ [])) ≡ script
lines_of-own_order script = map_lines (script ∷ []) (length script) 0 ∙ map_all script

pub pictures-own_order : (size : Size) (script : List Line) → pictures size (script ∷ []) (own_order (script ∷ [])) ≡ rasters_after size [] script
pictures-own_order size script = ap (rasters_after size []) (lines_of-own_order script)

pub cuts-own_order : (script : List Line) → cuts (script ∷ []) (own_order (script ∷ [])) ≡ count_by is_cut script
cuts-own_order script = ap (count_by is_cut) (lines_of-own_order script)

pub paints-own_order : (script : List Line) → paints (script ∷ []) (own_order (script ∷ [])) ≡ count_by (λ line. not (is_cut line)) script
paints-own_order script = ap (count_by (λ line. not (is_cut line))) (lines_of-own_order script)

-- ---- that order is lawful

client_zero : (n k : ℕ) → indexes_of (map (λ index. entry.Line 0 index) (range_with_len k n)) 0 ≡ range_with_len k n
unfolding indexes_of
client_zero zero k = refl
client_zero (suc n) k = ap (λ (l : List ℕ). k ∷ l) (client_zero n (k + 1))

not_first : (c : ℕ) → (0 == suc c) ≡ false
not_first c = grind (arith, nat_tests)

client_other : (c n k : ℕ) → indexes_of (map (λ index. entry.Line 0 index) (range_with_len k n)) (suc c) ≡ []
unfolding indexes_of
client_other c zero k = refl
client_other c (suc n) k = rw (not_first c) (client_other c n (k + 1))

no_takes : (n k : ℕ) → take_numbers (map (λ index. entry.Line 0 index) (range_with_len k n)) ≡ []
unfolding take_numbers
no_takes zero k = refl
no_takes (suc n) k = no_takes n (k + 1)

take_inside : (before after : List Entry) (number : ℕ) → take_numbers (before ++ entry.Take number ∷ after) ≡ take_numbers before ++ number ∷ take_numbers after
unfolding take_numbers
take_inside [] after number = refl
take_inside (entry.Line c i ∷ before) after number = take_inside before after number
take_inside (entry.Take n ∷ before) after number = ap (λ (l : List ℕ). n ∷ l) (take_inside before after number)

not_none : (xs : List ℕ) (n : ℕ) (ys : List ℕ) → xs ++ n ∷ ys ≡ [] → ⊥
not_none [] n ys e = cc
not_none (x ∷ xs) n ys e = cc

begins_own : (script : List Line) (client : ℕ) → (n : ℕ) × (n ≤ script_length (script ∷ []) client) × (indexes_of (own_order (script ∷ [])) client ≡ range_with_len 0 n)
begins_own script zero = (length script, omega arith, client_zero (length script) 0)
begins_own script (suc c) = (0, omega arith, client_other c (length script) 0)

pub own_order-is_lawful : (script : List Line) → IsLawful (script ∷ []) (own_order (script ∷ []))
own_order-is_lawful script =
    let none : take_numbers (own_order (script ∷ [])) ≡ [] = no_takes (length script) 0 in
    record {
      begins = begins_own script;
      in_order = none ∙ ap (λ (l : List ℕ). range_with_len 0 (length l)) (sym none);
      after_cuts = λ before after number e. absurd (not_none (take_numbers before) number (take_numbers after) (sym (take_inside before after number) ∙ ap take_numbers (sym e) ∙ none));
    }

-- ---- rasters of colours

coloured_at : (pixels : List Rgb) (i : ℕ) → AllByRecursion IsColour pixels → IsColour (slice_index_or pixels i black)
coloured_at [] i h = record { r = omega arith; g = omega arith; b = omega arith }
coloured_at (p ∷ pixels) zero h = h.0
coloured_at (p ∷ pixels) (suc i) h = coloured_at pixels i h.1

one_of : (b : Bool) (c d : Rgb) → IsColour c → IsColour d → IsColour (cond b c d)
one_of true c d p q = p
one_of false c d p q = q

-- a desktop that shows colours of three bytes
abbrev AreColours : Shown → Type 0
AreColours shown = (x y : ℕ) → IsColour (shown x y)

painted_coloured : (size : Size) (shown : Shown) (line : Line) → AreColours shown → HasColours line → AreColours (painted size shown line)
painted_coloured size shown (Fill r c) p h = λ x y. one_of (paints_place r x y) c (shown x y) h (p x y)
painted_coloured size shown (Blit r pixels) p h = λ x y. one_of (paints_place r x y) _ (shown x y) (coloured_at pixels ((y - r.y) * r.w + (x - r.x)) h) (p x y)
painted_coloured size shown (Copy r to_x to_y) p h = λ x y. one_of (copies size r to_x to_y x y) _ (shown x y) (p (source_x r to_x x) (source_y r to_y y)) (p x y)
painted_coloured size shown Cut p h = p

fold_coloured : (size : Size) (start : Shown) (lines : List Line) → AreColours start → AllByRecursion HasColours lines → AreColours (fold (painted size) start lines)
fold_coloured size start [] p h = p
fold_coloured size start (line ∷ lines) p h = fold_coloured size (painted size start line) lines (painted_coloured size start line p h.0) h.1

colour_coloured : (size : Size) (x y : ℕ) (lines : List Line) → AllByRecursion HasColours lines → IsColour (colour size lines x y)
unfolding colour
colour_coloured size x y lines h = fold_coloured size unpainted lines (λ x y. record { r = omega arith; g = omega arith; b = omega arith }) h x y

raster_is : (size : Size) (lines : List Line) → AllByRecursion HasColours lines → IsRaster size (raster size lines)
unfolding raster
raster_is size lines h = record {
  places = length_places size.w size.h (colour size lines) ∙ mul_comm size.h size.w;
  colours = all_places IsColour size.w size.h (colour size lines) (λ x y p q. colour_coloured size x y lines h);
}

with_last : (before : List Line) (line : Line) → AllByRecursion HasColours before → HasColours line → AllByRecursion HasColours (before ++ line ∷ [])
with_last [] line p h = (h, tt)
with_last (b ∷ before) line p h = (p.0, with_last before line p.1 h)

rasters_are : (size : Size) (before lines : List Line) → AllByRecursion HasColours before → AllByRecursion HasColours lines → AllByRecursion (IsRaster size) (rasters_after size before lines)
unfolding rasters_after
rasters_are size before [] p h = tt
rasters_are size before (Fill r c ∷ lines) p h = rasters_are size (before ++ Fill r c ∷ []) lines (with_last before (Fill r c) p h.0) h.1
rasters_are size before (Blit r pixels ∷ lines) p h = rasters_are size (before ++ Blit r pixels ∷ []) lines (with_last before (Blit r pixels) p h.0) h.1
rasters_are size before (Copy r to_x to_y ∷ lines) p h = rasters_are size (before ++ Copy r to_x to_y ∷ []) lines (with_last before (Copy r to_x to_y) p h.0) h.1
rasters_are size before (Cut ∷ lines) p h = (raster_is size before p, rasters_are size (before ++ Cut ∷ []) lines (with_last before Cut p h.0) h.1)

pub each_picture_is_raster : EachPictureIsRaster
each_picture_is_raster size lines h = rasters_are size [] lines tt h

-- the pieces of the pictures of a script's first lines begin those of all
pub pieces_of_front : (settings : Settings) (script : List Line) (k : ℕ) →
    (rest : List (List ℕ)) × (pieces settings (rasters_after settings.size [] script) ≡ pieces settings (rasters_after settings.size [] (take k script)) ++ rest)
pieces_of_front settings script k =
    let split : rasters_after settings.size [] script ≡ rasters_after settings.size [] (take k script) ++ rasters_after settings.size (take k script) (drop k script) =
    ap (rasters_after settings.size []) (sym (take-append-drop k script)) ∙ rasters_after-append settings.size [] (take k script) (drop k script) in
    let kept = prefixes settings (rasters_after settings.size [] (take k script)) (rasters_after settings.size (take k script) (drop k script)) in
    (kept.0, ap (pieces settings) split ∙ kept.1)
