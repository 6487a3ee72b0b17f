-- What is written is read back.
use Rattle.std.proofs.Common.{◌≡◌, ◌⊎◌, subst, ℕ, ◌+◌, ◌-◌, ◌*◌, ◌/◌, ◌%◌, ◌<◌, ◌≤◌, true, false, not, ◌&&◌, ◌||◌, ◌==◌, nat_le, nat_lt, List, [], ◌∷◌, ◌++◌, length, get_or, take, refl, sym, ap, ◌∙◌, arith, Option, Some, None, Ok, inl, inr, if◌then◌else◌}
use Rattle.std.specs.Prelude.{decimal, codes, flat_map}
use Rattle.std.specs.List.{All, slice_split}
use Rattle.std.specs.Int.{IsInRange}
use Rattle.std.specs.Str.Parse.{AllDigits, digits_value}
use Rattle.std.proofs.lemmas.Str.Parse.{digit_from_value}
use Rattle.std.proofs.lemmas.Fmt.{decimal_is_IsNumeral, first_decimal, decimal_digit}
use Rattle.std.proofs.lemmas.List.{append_assoc, append-nil, length-append, take_more}
use Rattle.std.proofs.lemmas.Grind.{flat_map-append}
use Rattle.std.specs.Borrow.{Bor}
use Rattle.std.specs.Option.{option_copied, is_some}
use Rattle.std.proofs.lemmas.List.Elements.{All-nil, All-cons, All-head, All-tail, All-append, All-weaker, All-from_recursion}
use Rattle.std.proofs.lemmas.List.Splits.{slice_split_at, slice_split_none}
use Rattle.std.proofs.lemmas.Bool.{cond-true, cond-false, ne_eqb, le-leb, lt-leb, lt-ltb, le-ltb, and_from, and_right, cases_lt, or_from}
use Rattle.recorder_model.specs.Script.{most_number, most_pixels, hex_digit, hex_value, byte_at, colour_text, spaced, rect_text, line_text, lines_text, script_text, version_line, all_digits, is_numeral, number_up_to, colours, n_colours, rect_of, fill_of, blit_of, copy_of, line_of, pieces_script, at_line}
use Rattle.h265_model.specs.Bits.{◌>>-◌}
use Rattle.h265_model.specs.declared.rect.Rect.{Rect}
use Rattle.h265_model.specs.declared.rgb.Rgb.{Rgb}
use Rattle.recorder_model.specs.declared.line.Line.{Line}
use Rattle.recorder_model.specs.declared.line.Line.TheVariants.{Fill, Blit, Copy, Cut}
use Rattle.paint_script.specs.Spellable.{IsVersion, IsSpellableRect, IsSpellableColour, AreSpellablePixels, IsSpellable, IsOfVersion, AreSpellable, AreOfVersion}
use Rattle.paint_script.specs.Laws.{IsReadAs, EachScriptIsReadBack}
use Rattle.paint_script.proofs.Numbers.{number_up_to-numeral}
use Rattle.paint_script.proofs.Colours.{colours-nil, n_colours-some}
use Rattle.paint_script.proofs.Lines.{line_of-words}
use Rattle.paint_script.proofs.Splits.{split-first}
use Rattle.paint_script.proofs.Readings.{pieces-line, pieces_of, read-version_1, read-version_2}

-- ---- words have no spaces, and lines no line feeds

abbrev IsWordByte : ℕ → Type 0
IsWordByte c = 33 ≤ c

abbrev IsLineByte : ℕ → Type 0
IsLineByte c = 32 ≤ c

no_space : (w : List ℕ) → All IsWordByte w → All (λ c. (c == 32) ≡ false) w
no_space w h = All-weaker IsWordByte (λ c. (c == 32) ≡ false) (λ c above. ne_eqb c 32 (λ e. omega arith)) w h

no_line_feed : (w : List ℕ) → All IsLineByte w → All (λ c. (c == 10) ≡ false) w
no_line_feed w h = All-weaker IsLineByte (λ c. (c == 10) ≡ false) (λ c above. ne_eqb c 10 (λ e. omega arith)) w h

lines_of_words : (w : List ℕ) → All IsWordByte w → All IsLineByte w
lines_of_words w h = All-weaker IsWordByte IsLineByte (λ c above. omega arith) w h

-- ---- numbers

digits-word : (ds : List ℕ) → AllDigits 10 ds → All IsWordByte ds
digits-word [] h = All-nil IsWordByte
digits-word (c ∷ cs) h =
    let range : IsInRange 48 57 c = digit_from_value c h.0 in
    All-cons IsWordByte c cs (omega (arith, range.0)) (digits-word cs h.1)

decimal-word : (n : ℕ) → n ≤ most_number → All IsWordByte (decimal n)
decimal-word n h = digits-word (decimal n) (decimal_is_IsNumeral n (omega arith)).0.1

digits-all : (ds : List ℕ) → AllDigits 10 ds → all_digits ds ≡ true
digits-all [] h = refl
digits-all (c ∷ cs) h =
    let range : IsInRange 48 57 c = digit_from_value c h.0 in
    and_from (nat_le 48 c && nat_le c 57) (all_digits cs) (and_from (nat_le 48 c) (nat_le c 57) (le-leb 48 c range.0) (le-leb c 57 range.1)) (digits-all cs h.1)

-- digits that don't begin with a zero
numeral-from : (ds : List ℕ) → AllDigits 10 ds → 48 < get_or ds 0 0 → is_numeral ds ≡ true
numeral-from [] h first = absurd (omega arith)
numeral-from (c ∷ []) h first =
    let range : IsInRange 48 57 c = digit_from_value c h.0 in
    and_from (nat_le 48 c) (nat_le c 57) (le-leb 48 c range.0) (le-leb c 57 range.1)
numeral-from (c ∷ d ∷ cs) h first =
    let range : IsInRange 48 57 c = digit_from_value c h.0 in
    and_from (nat_le 49 c && nat_le c 57) (all_digits (d ∷ cs)) (and_from (nat_le 49 c) (nat_le c 57) (le-leb 49 c (omega arith)) (le-leb c 57 range.1)) (digits-all (d ∷ cs) h.1)

numeral-decimal : (n : ℕ) → n ≤ most_number → is_numeral (decimal n) ≡ true
numeral-decimal n h =
    elim (cases_lt 0 n) [
      | inl above ↦ numeral-from (decimal n) (decimal_is_IsNumeral n (omega arith)).0.1 (first_decimal n above (omega arith))
      | inr none ↦ (let nil : n ≡ 0 = omega arith in ap (λ m. is_numeral (decimal m)) nil ∙ ap is_numeral (decimal_digit 0 (omega arith)))
    ]

number-read : (n : ℕ) → n ≤ most_number → number_up_to most_number (decimal n) ≡ Some n
number-read n h =
    let value : digits_value 10 (decimal n) ≡ n = (decimal_is_IsNumeral n (omega arith)).1 in
    number_up_to-numeral most_number (decimal n) (numeral-decimal n h)
    ∙ cond-true (nat_le (digits_value 10 (decimal n)) most_number) (Some (digits_value 10 (decimal n))) None (le-leb _ most_number (omega arith))
    ∙ ap Some value

rect-read : (r : Rect) → IsSpellableRect r → rect_of (decimal r.x) (decimal r.y) (decimal r.w) (decimal r.h) ≡ Some r
rect-read r s = rw (number-read r.x s.x, number-read r.y s.y, number-read r.w s.w, number-read r.h s.h)

-- ---- colours

hex-low : (d : ℕ) → d < 10 → hex_digit d ≡ 48 + d
hex-low d h = cond-true (nat_lt d 10) (48 + d) (87 + d) (lt-ltb d 10 h)

hex-high : (d : ℕ) → 10 ≤ d → hex_digit d ≡ 87 + d
hex-high d h = cond-false (nat_lt d 10) (48 + d) (87 + d) (le-ltb d 10 h)

hex-read : (d : ℕ) → d < 16 → hex_value (hex_digit d) ≡ Some d
hex-read d h =
    elim (cases_lt d 10) [
      | inl low ↦ (let c : ℕ = 48 + d in
          ap hex_value (hex-low d low)
          ∙ cond-true (nat_le 48 c && nat_le c 57) (Some (c - 48)) (if nat_le 97 c && nat_le c 102 then Some (c - 87) else None) (and_from (nat_le 48 c) (nat_le c 57) (le-leb 48 c (omega arith)) (le-leb c 57 (omega arith)))
          ∙ ap Some (omega arith))
      | inr high ↦ (let c : ℕ = 87 + d in
          ap hex_value (hex-high d high)
          ∙ cond-false (nat_le 48 c && nat_le c 57) (Some (c - 48)) (if nat_le 97 c && nat_le c 102 then Some (c - 87) else None) (and_right (nat_le 48 c) (nat_le c 57) (lt-leb c 57 (omega arith)))
          ∙ cond-true (nat_le 97 c && nat_le c 102) (Some (c - 87)) None (and_from (nat_le 97 c) (nat_le c 102) (le-leb 97 c (omega arith)) (le-leb c 102 (omega arith)))
          ∙ ap Some (omega arith))
    ]

hex-word : (d : ℕ) → IsWordByte (hex_digit d)
hex-word d =
    elim (cases_lt d 10) [
      | inl low ↦ omega (arith, hex-low d low)
      | inr high ↦ omega (arith, hex-high d high)
    ]

byte-read : (n : ℕ) → n < 256 → byte_at (hex_digit (n / 16)) (hex_digit (n % 16)) ≡ Some n
byte-read n h =
    rw (hex-read (n / 16) (omega arith), hex-read (n % 16) (omega arith)) (ap Some (omega arith))

colours-one : (c : Rgb) (rest : List ℕ) (others : List Rgb) → IsSpellableColour c → colours rest ≡ Some others → colours (colour_text c ++ rest) ≡ Some (c ∷ others)
unfolding colours
colours-one c rest others s e = rw (byte-read c.r s.r, byte-read c.g s.g, byte-read c.b s.b, e)

colours-read : (cs : List Rgb) → All IsSpellableColour cs → colours (flat_map colour_text cs) ≡ Some cs
colours-read [] h = colours-nil
colours-read (c ∷ cs) h = colours-one c (flat_map colour_text cs) cs (All-head IsSpellableColour c cs h) (colours-read cs (All-tail IsSpellableColour c cs h))

colour-word : (c : Rgb) → All IsWordByte (colour_text c)
colour-word c =
    All-from_recursion IsWordByte (colour_text c)
    (hex-word (c.r / 16), (hex-word (c.r % 16), (hex-word (c.g / 16), (hex-word (c.g % 16), (hex-word (c.b / 16), (hex-word (c.b % 16), tt))))))

colours-word : (cs : List Rgb) → All IsWordByte (flat_map colour_text cs)
colours-word [] = All-nil IsWordByte
colours-word (c ∷ cs) = All-append IsWordByte (colour_text c) (flat_map colour_text cs) (colour-word c) (colours-word cs)

length-colours : (cs : List Rgb) → length (flat_map colour_text cs) ≡ 6 * length cs
length-colours [] = refl
length-colours (c ∷ cs) = length-append (colour_text c) (flat_map colour_text cs) ∙ omega (arith, length-colours cs)

n_colours-read : (n : ℕ) (cs : List Rgb) → length cs ≡ n → All IsSpellableColour cs → n_colours n (flat_map colour_text cs) ≡ Some cs
n_colours-read n cs count h =
    n_colours-some n (flat_map colour_text cs) (length-colours cs ∙ ap (λ m. 6 * m) count) ∙ colours-read cs h

-- ---- lines

-- the five words of a line that paints, as the spelling groups them
grouped : (command x y w h last : List ℕ) → command ++ (32 ∷ x ++ 32 ∷ y ++ 32 ∷ w ++ 32 ∷ h) ++ 32 ∷ last ≡ command ++ 32 ∷ (x ++ 32 ∷ (y ++ 32 ∷ (w ++ 32 ∷ (h ++ 32 ∷ last))))
grouped command x y w h last = simp append_assoc

abbrev words_of : List ℕ → List (List ℕ)
words_of text = slice_split (λ c. c == 32) text

word-first : (w rest : List ℕ) → All IsWordByte w → words_of (w ++ 32 ∷ rest) ≡ w ∷ words_of rest
word-first w rest h = slice_split_at (λ c. c == 32) w 32 rest (no_space w h) refl

word-last : (w : List ℕ) → All IsWordByte w → words_of w ≡ w ∷ []
word-last w h = slice_split_none (λ c. c == 32) w (no_space w h)

six-words : (command x y w h last : List ℕ) → All IsWordByte command → All IsWordByte x → All IsWordByte y → All IsWordByte w → All IsWordByte h → All IsWordByte last → words_of (command ++ (32 ∷ x ++ 32 ∷ y ++ 32 ∷ w ++ 32 ∷ h) ++ 32 ∷ last) ≡ command ∷ x ∷ y ∷ w ∷ h ∷ last ∷ []
six-words command x y w h last a b c d e f =
    ap words_of (grouped command x y w h last)
    ∙ word-first command _ a
    ∙ ap (λ ws. command ∷ ws) (word-first x _ b
    ∙ ap (λ ws. x ∷ ws) (word-first y _ c
    ∙ ap (λ ws. y ∷ ws) (word-first w _ d
    ∙ ap (λ ws. w ∷ ws) (word-first h _ e
    ∙ ap (λ ws. h ∷ ws) (word-last last f)))))

fill_word : All IsWordByte (codes "fill")
fill_word = All-from_recursion IsWordByte (codes "fill") (omega arith, (omega arith, (omega arith, (omega arith, tt))))

blit_word : All IsWordByte (codes "blit")
blit_word = All-from_recursion IsWordByte (codes "blit") (omega arith, (omega arith, (omega arith, (omega arith, tt))))

cut_word : All IsWordByte (codes "cut")
cut_word = All-from_recursion IsWordByte (codes "cut") (omega arith, (omega arith, (omega arith, tt)))

copy_word : All IsWordByte (codes "copy")
copy_word = All-from_recursion IsWordByte (codes "copy") (omega arith, (omega arith, (omega arith, (omega arith, tt))))

-- the seven words of a copy
grouped_copy : (command x y w h to_x to_y : List ℕ) → command ++ (32 ∷ x ++ 32 ∷ y ++ 32 ∷ w ++ 32 ∷ h) ++ 32 ∷ to_x ++ 32 ∷ to_y ≡ command ++ 32 ∷ (x ++ 32 ∷ (y ++ 32 ∷ (w ++ 32 ∷ (h ++ 32 ∷ (to_x ++ 32 ∷ to_y)))))
grouped_copy command x y w h to_x to_y =
    append_assoc (command ++ (32 ∷ x ++ 32 ∷ y ++ 32 ∷ w ++ 32 ∷ h)) (32 ∷ to_x) (32 ∷ to_y) ∙ grouped command x y w h (to_x ++ 32 ∷ to_y)

seven-words : (command x y w h to_x to_y : List ℕ) → All IsWordByte command → All IsWordByte x → All IsWordByte y → All IsWordByte w → All IsWordByte h → All IsWordByte to_x → All IsWordByte to_y
    → words_of (command ++ (32 ∷ x ++ 32 ∷ y ++ 32 ∷ w ++ 32 ∷ h) ++ 32 ∷ to_x ++ 32 ∷ to_y) ≡ command ∷ x ∷ y ∷ w ∷ h ∷ to_x ∷ to_y ∷ []
seven-words command x y w h to_x to_y a b c d e f g =
    ap words_of (grouped_copy command x y w h to_x to_y)
    ∙ word-first command _ a
    ∙ ap (λ ws. command ∷ ws) (word-first x _ b
    ∙ ap (λ ws. x ∷ ws) (word-first y _ c
    ∙ ap (λ ws. y ∷ ws) (word-first w _ d
    ∙ ap (λ ws. w ∷ ws) (word-first h _ e
    ∙ ap (λ ws. h ∷ ws) (word-first to_x _ f
    ∙ ap (λ ws. to_x ∷ ws) (word-last to_y g))))))

sides-drawn : (r : Rect) → IsSpellableRect r → not (r.w == 0 || r.h == 0) ≡ true
sides-drawn r s =
    ap not (or_from (r.w == 0) (r.h == 0) (ne_eqb r.w 0 (λ e. omega (arith, s.wide))) (ne_eqb r.h 0 (λ e. omega (arith, s.high))))

fill-read : (r : Rect) (c : Rgb) → IsSpellableRect r → IsSpellableColour c → fill_of (decimal r.x) (decimal r.y) (decimal r.w) (decimal r.h) (colour_text c) ≡ Ok (Fill r c)
fill-read r c s colour =
    let one : n_colours 1 (colour_text c) ≡ Some (c ∷ []) = ap (n_colours 1) (sym (append-nil (colour_text c))) ∙ n_colours-read 1 (c ∷ []) refl (All-cons IsSpellableColour c [] colour (All-nil IsSpellableColour)) in
    rw (rect-read r s, sides-drawn r s, one)

blit-read : (r : Rect) (pixels : List Rgb) → IsSpellableRect r → AreSpellablePixels r pixels → blit_of (decimal r.x) (decimal r.y) (decimal r.w) (decimal r.h) (flat_map colour_text pixels) ≡ Ok (Blit r pixels)
blit-read r pixels s p =
    rw (rect-read r s, sides-drawn r s, le-leb (r.w * r.h) most_pixels p.few, n_colours-read (r.w * r.h) pixels p.count p.colours)

copy-read : (r : Rect) (to_x to_y : ℕ) → IsSpellable (Copy r to_x to_y) → copy_of (decimal r.x ∷ decimal r.y ∷ decimal r.w ∷ decimal r.h ∷ decimal to_x ∷ decimal to_y ∷ []) ≡ Ok (Copy r to_x to_y)
copy-read r to_x to_y s = rw (rect-read r s.0, number-read to_x s.1, number-read to_y s.2, sides-drawn r s.0)

line-read : (version : ℕ) (line : Line) → IsSpellable line → IsOfVersion version line → line_of version (line_text line) ≡ Ok line
line-read version (Fill r c) s v =
    line_of-words version (line_text (Fill r c)) (codes "fill") _ (six-words (codes "fill") (decimal r.x) (decimal r.y) (decimal r.w) (decimal r.h) (colour_text c) fill_word (decimal-word r.x s.0.x) (decimal-word r.y s.0.y) (decimal-word r.w s.0.w) (decimal-word r.h s.0.h) (colour-word c))
    ∙ fill-read r c s.0 s.1
line-read version (Blit r pixels) s v =
    line_of-words version (line_text (Blit r pixels)) (codes "blit") _ (six-words (codes "blit") (decimal r.x) (decimal r.y) (decimal r.w) (decimal r.h) (flat_map colour_text pixels) blit_word (decimal-word r.x s.0.x) (decimal-word r.y s.0.y) (decimal-word r.w s.0.w) (decimal-word r.h s.0.h) (colours-word pixels))
    ∙ blit-read r pixels s.0 s.1
line-read version (Copy r to_x to_y) s v =
    rw v
    (line_of-words 2 (line_text (Copy r to_x to_y)) (codes "copy") _ (seven-words (codes "copy") (decimal r.x) (decimal r.y) (decimal r.w) (decimal r.h) (decimal to_x) (decimal to_y) copy_word (decimal-word r.x s.0.x) (decimal-word r.y s.0.y) (decimal-word r.w s.0.w) (decimal-word r.h s.0.h) (decimal-word to_x s.1) (decimal-word to_y s.2))
    ∙ copy-read r to_x to_y s)
line-read version Cut s v = line_of-words version (codes "cut") (codes "cut") [] (word-last (codes "cut") cut_word)

-- ---- scripts

spaced-bytes : (w : List ℕ) → All IsWordByte w → All IsLineByte (32 ∷ w)
spaced-bytes w h = All-cons IsLineByte 32 w (omega arith) (lines_of_words w h)

rect-bytes : (r : Rect) → IsSpellableRect r → All IsLineByte (rect_text r)
rect-bytes r s =
    All-append IsLineByte (spaced r.x ++ spaced r.y ++ spaced r.w) (spaced r.h)
    (All-append IsLineByte (spaced r.x ++ spaced r.y) (spaced r.w)
    (All-append IsLineByte (spaced r.x) (spaced r.y) (spaced-bytes (decimal r.x) (decimal-word r.x s.x)) (spaced-bytes (decimal r.y) (decimal-word r.y s.y)))
    (spaced-bytes (decimal r.w) (decimal-word r.w s.w)))
    (spaced-bytes (decimal r.h) (decimal-word r.h s.h))

paint-bytes : (command last : List ℕ) (r : Rect) → All IsWordByte command → IsSpellableRect r → All IsWordByte last → All IsLineByte (command ++ rect_text r ++ 32 ∷ last)
paint-bytes command last r a s b =
    All-append IsLineByte (command ++ rect_text r) (32 ∷ last) (All-append IsLineByte command (rect_text r) (lines_of_words command a) (rect-bytes r s)) (spaced-bytes last b)

line-bytes : (line : Line) → IsSpellable line → All IsLineByte (line_text line)
line-bytes (Fill r c) s = paint-bytes (codes "fill") (colour_text c) r fill_word s.0 (colour-word c)
line-bytes (Blit r pixels) s = paint-bytes (codes "blit") (flat_map colour_text pixels) r blit_word s.0 (colours-word pixels)
line-bytes (Copy r to_x to_y) s =
    All-append IsLineByte (codes "copy" ++ rect_text r ++ spaced to_x) (spaced to_y)
    (All-append IsLineByte (codes "copy" ++ rect_text r) (spaced to_x) (All-append IsLineByte (codes "copy") (rect_text r) (lines_of_words (codes "copy") copy_word) (rect-bytes r s.0)) (spaced-bytes (decimal to_x) (decimal-word to_x s.1)))
    (spaced-bytes (decimal to_y) (decimal-word to_y s.2))
line-bytes Cut s = lines_of_words (codes "cut") cut_word

lines-read : (version n : ℕ) (lines : List Line) → AreSpellable lines → AreOfVersion version lines → pieces_script version n (pieces_of (lines_text lines)) ≡ Ok lines
unfolding pieces_script
lines-read version n [] s v = refl
lines-read version n (line ∷ lines) s v =
    let rest = lines_text lines in
    let here = All-head IsSpellable line lines s in
    let cut : pieces_of ((line_text line ++ 10 ∷ []) ++ rest) ≡ line_text line ∷ pieces_of rest =
    ap pieces_of (append_assoc (line_text line) (10 ∷ []) rest) ∙ slice_split_at (λ c. c == 10) (line_text line) 10 rest (no_line_feed (line_text line) (line-bytes line here)) refl in
    ap (pieces_script version n) cut
    ∙ pieces-line version n (line_text line) (pieces_of rest) (split-first (λ c. c == 10) rest)
    ∙ ap (λ r. at_line n r >>- λ l. pieces_script version (n + 1) (pieces_of rest) >>- λ ls. Ok (l ∷ ls)) (line-read version line here (All-head (IsOfVersion version) line lines v))
    ∙ ap (λ r. r >>- λ ls. Ok (line ∷ ls)) (lines-read version (n + 1) lines (All-tail IsSpellable line lines s) (All-tail (IsOfVersion version) line lines v))

-- no line begins as the line that says version 2 does
not_version_line : (lines : List Line) (rest : List ℕ) → lines_text lines ≡ version_line ++ rest → ⊥
not_version_line [] rest e = absurd (let first : 0 ≡ 112 = ap (λ (l : List ℕ). get_or l 0 0) e in omega arith)
not_version_line (Fill r c ∷ lines) rest e = absurd (let first : 102 ≡ 112 = ap (λ (l : List ℕ). get_or l 0 0) e in omega arith)
not_version_line (Blit r pixels ∷ lines) rest e = absurd (let first : 98 ≡ 112 = ap (λ (l : List ℕ). get_or l 0 0) e in omega arith)
not_version_line (Copy r to_x to_y ∷ lines) rest e = absurd (let first : 99 ≡ 112 = ap (λ (l : List ℕ). get_or l 0 0) e in omega arith)
not_version_line (Cut ∷ lines) rest e = absurd (let first : 99 ≡ 112 = ap (λ (l : List ℕ). get_or l 0 0) e in omega arith)

version-cases : (version : ℕ) → IsVersion version → (version ≡ 1) ⊎ (version ≡ 2)
version-cases version is = elim (cases_lt version 2) [ inl low ↦ inl (omega (arith, is.low)) | inr high ↦ inr (omega (arith, is.high)) ]

pub script-read : EachScriptIsReadBack
unfolding script_text
script-read version lines is s v = go (version-cases version is)
  where
    go : (version ≡ 1) ⊎ (version ≡ 2) → IsReadAs (script_text version lines) version lines
    go (inl one) =
        let read = read-version_1 (lines_text lines) (not_version_line lines) in
        let fit : AreOfVersion 1 lines = subst (λ (n : ℕ). AreOfVersion n lines) one v in
        subst (λ (n : ℕ). IsReadAs (script_text n lines) n lines) (sym one)
        (record { has_version = sym read.0; has_lines = read.1 ∙ lines-read 1 1 lines s fit })
    go (inr two) =
        let read = read-version_2 (version_line ++ lines_text lines) (lines_text lines) refl in
        let fit : AreOfVersion 2 lines = subst (λ (n : ℕ). AreOfVersion n lines) two v in
        subst (λ (n : ℕ). IsReadAs (script_text n lines) n lines) (sym two)
        (record { has_version = sym read.0; has_lines = read.1 ∙ lines-read 2 2 lines s fit })

pub script_text-nil : (version : ℕ) → script_text version [] ≡ (if version == 2 then version_line else [])
unfolding script_text
script_text-nil version = append-nil (if version == 2 then version_line else [])

-- one more line of text
pub script_text-more : (version : ℕ) (lines : List Line) (i : ℕ) (line : Line) → i < length lines → get_or lines i Cut ≡ line → script_text version (take (i + 1) lines) ≡ script_text version (take i lines) ++ (line_text line ++ 10 ∷ [])
unfolding script_text
script_text-more version lines i line h e =
    let first : List ℕ = if version == 2 then version_line else [] in
    ap (λ l. first ++ lines_text l) (take_more lines i Cut h ∙ ap (λ l. take i lines ++ l ∷ []) e)
    ∙ ap (λ t. first ++ t) (flat_map-append (λ l. line_text l ++ 10 ∷ []) (take i lines) (line ∷ []))
    ∙ ap (λ t. first ++ (lines_text (take i lines) ++ t)) (append-nil (line_text line ++ 10 ∷ []))
    ∙ sym (append_assoc first (lines_text (take i lines)) (line_text line ++ 10 ∷ []))

pub lent-some : (o : Option (Bor Line)) (line : Line) → option_copied o ≡ Some line → is_some o ≡ true
lent-some None line e = cc
lent-some (Some x) line e = refl
