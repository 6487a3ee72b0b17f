-- The paint script: its text, and how it is read.
use Rattle.std.specs.Prelude.{ℕ, ◌+◌, ◌-◌, ◌*◌, ◌/◌, ◌%◌, Bool, true, false, not, ◌||◌, ◌&&◌, List, [], ◌∷◌, ◌++◌, length, drop, flat_map, Option, Some, None, Result, Ok, Err, ◌==◌, nat_lt, nat_le, decimal, codes, bytes_eq, if◌then◌else◌}
use Rattle.std.specs.List.{slice_split, starts_with}
use Rattle.std.specs.Str.Parse.{digits_value}
use Rattle.recorder_model.specs.declared.refusal.Cause.{Cause}
use Rattle.recorder_model.specs.declared.refusal.Cause.TheVariants.{NoLineFeed, UnknownCommand, WordCount, BadNumber, ZeroSize, TooManyPixels, BadColour}
use Rattle.h265_model.specs.Bits.{◌>>=◌, ◌>>-◌}
use Rattle.h265_model.specs.declared.rect.Rect.{Rect}
use Rattle.h265_model.specs.declared.rgb.Rgb.{Rgb}
use Rattle.recorder_model.specs.declared.line.Line.{Line}
use Rattle.recorder_model.specs.declared.line.Line.TheVariants.{Fill, Blit, Copy, Cut}

-- the limits on a number, and on the pixels of a blit
abbrev pub most_number : ℕ
most_number = 65535

abbrev pub most_pixels : ℕ
most_pixels = 4096

-- ---- versions

-- the first line of a script of version 2
abbrev pub version_line : List ℕ
version_line = codes "paint 2" ++ 10 ∷ []

-- a file is of version 2 exactly where it begins with that line
unfoldable pub has_version_line : List ℕ → Bool
has_version_line file = starts_with ◌==◌ file version_line

abbrev pub version_of : List ℕ → ℕ
version_of file = if has_version_line file then 2 else 1

-- ---- the text of a script

-- the two digits of a byte, and the six of a colour
abbrev pub hex_digit : ℕ → ℕ
hex_digit d = if nat_lt d 10 then 48 + d else 87 + d

abbrev pub hex_byte : ℕ → List ℕ
hex_byte n = hex_digit (n / 16) ∷ hex_digit (n % 16) ∷ []

abbrev pub colour_text : Rgb → List ℕ
colour_text c = hex_byte c.r ++ hex_byte c.g ++ hex_byte c.b

-- a number with a space before it
abbrev pub spaced : ℕ → List ℕ
spaced n = 32 ∷ decimal n

abbrev pub rect_text : Rect → List ℕ
rect_text r = spaced r.x ++ spaced r.y ++ spaced r.w ++ spaced r.h

abbrev pub line_text : Line → List ℕ
line_text (Fill r c) = codes "fill" ++ rect_text r ++ 32 ∷ colour_text c
line_text (Blit r pixels) = codes "blit" ++ rect_text r ++ 32 ∷ flat_map colour_text pixels
line_text (Copy r to_x to_y) = codes "copy" ++ rect_text r ++ spaced to_x ++ spaced to_y
line_text Cut = codes "cut"

-- each line with its line feed
abbrev pub lines_text : List Line → List ℕ
lines_text lines = flat_map (λ line. line_text line ++ 10 ∷ []) lines

-- the one spelling of a script of a version
unfoldable pub script_text : ℕ → List Line → List ℕ
script_text version lines = (if version == 2 then version_line else []) ++ lines_text lines

-- ---- reading

-- a line's number, from 1, and the first cause that applies to it
pub record BadLine : Type 0 where
  pub line : ℕ
  pub cause : Cause

abbrev pub all_digits : List ℕ → Bool
all_digits [] = true
all_digits (c ∷ cs) = nat_le 48 c && nat_le c 57 && all_digits cs

-- decimal digits, at least one, without a leading zero
abbrev pub is_numeral : List ℕ → Bool
is_numeral [] = false
is_numeral (c ∷ []) = nat_le 48 c && nat_le c 57
is_numeral (c ∷ d ∷ cs) = nat_le 49 c && nat_le c 57 && all_digits (d ∷ cs)

-- the number of a word, of at most this size
unfoldable pub number_up_to : ℕ → List ℕ → Option ℕ
number_up_to most word = if is_numeral word && nat_le (digits_value 10 word) most then Some (digits_value 10 word) else None

-- what a hexadecimal digit is worth
abbrev pub hex_value : ℕ → Option ℕ
hex_value c = if nat_le 48 c && nat_le c 57 then Some (c - 48) else (if nat_le 97 c && nat_le c 102 then Some (c - 87) else None)

abbrev pub byte_at : ℕ → ℕ → Option ℕ
byte_at high low = hex_value high >>= λ h. hex_value low >>= λ l. Some (16 * h + l)

-- the colours that six digits each spell
unfoldable pub colours : List ℕ → Option (List Rgb)
colours [] = Some []
colours (a ∷ b ∷ c ∷ d ∷ e ∷ f ∷ rest) = do
  r ← byte_at a b
  g ← byte_at c d
  b ← byte_at e f
  others ← colours rest
  Some (record { r = r; g = g; b = b } ∷ others)
colours _ = None

-- a word of exactly n colours
abbrev pub n_colours : ℕ → List ℕ → Option (List Rgb)
n_colours n word = if length word == 6 * n then colours word else None

abbrev pub first_colour : List Rgb → Rgb
first_colour [] = record { r = 0; g = 0; b = 0 }
first_colour (c ∷ cs) = c

-- four words as the numbers of a rectangle
abbrev pub rect_of : List ℕ → List ℕ → List ℕ → List ℕ → Option Rect
rect_of x y w h = do
  x ← number_up_to most_number x
  y ← number_up_to most_number y
  w ← number_up_to most_number w
  h ← number_up_to most_number h
  Some (record { x = x; y = y; w = w; h = h })

abbrev pub or_cause : {A : Type 0} → Cause → Option A → Result A Cause
or_cause cause None = Err cause
or_cause cause (Some x) = Ok x

abbrev pub check : Cause → Bool → Result (Unit {0}) Cause
check cause true = Ok tt
check cause false = Err cause

-- the words after `fill` and `blit`, in the order of the causes
abbrev pub fill_of : List ℕ → List ℕ → List ℕ → List ℕ → List ℕ → Result Line Cause
fill_of x y w h colour =
    or_cause BadNumber (rect_of x y w h) >>- λ r.
    check ZeroSize (not (r.w == 0 || r.h == 0)) >>- λ _.
    or_cause BadColour (n_colours 1 colour) >>- λ cs.
    Ok (Fill r (first_colour cs))

abbrev pub blit_of : List ℕ → List ℕ → List ℕ → List ℕ → List ℕ → Result Line Cause
blit_of x y w h pixels =
    or_cause BadNumber (rect_of x y w h) >>- λ r.
    check ZeroSize (not (r.w == 0 || r.h == 0)) >>- λ _.
    check TooManyPixels (nat_le (r.w * r.h) most_pixels) >>- λ _.
    or_cause BadColour (n_colours (r.w * r.h) pixels) >>- λ cs.
    Ok (Blit r cs)

abbrev pub paint_of : (List ℕ → List ℕ → List ℕ → List ℕ → List ℕ → Result Line Cause) → List (List ℕ) → Result Line Cause
paint_of f (x ∷ y ∷ w ∷ h ∷ last ∷ []) = f x y w h last
paint_of f _ = Err WordCount

-- the words after `copy`
abbrev pub copy_of : List (List ℕ) → Result Line Cause
copy_of (x ∷ y ∷ w ∷ h ∷ to_x ∷ to_y ∷ []) =
    or_cause BadNumber (rect_of x y w h) >>- λ r.
    or_cause BadNumber (number_up_to most_number to_x) >>- λ to_x.
    or_cause BadNumber (number_up_to most_number to_y) >>- λ to_y.
    check ZeroSize (not (r.w == 0 || r.h == 0)) >>- λ _.
    Ok (Copy r to_x to_y)
copy_of _ = Err WordCount

abbrev pub cut_of : List (List ℕ) → Result Line Cause
cut_of [] = Ok Cut
cut_of _ = Err WordCount

-- the line that these words are in a script of a version, or the first cause that applies
abbrev pub words_line : ℕ → List (List ℕ) → Result Line Cause
words_line version [] = Err UnknownCommand
words_line version (first ∷ others) =
    if bytes_eq first (codes "fill") then paint_of fill_of others
    else if bytes_eq first (codes "blit") then paint_of blit_of others
    else if bytes_eq first (codes "cut") then cut_of others
    else if version == 2 && bytes_eq first (codes "copy") then copy_of others
    else Err UnknownCommand

unfoldable pub line_of : ℕ → List ℕ → Result Line Cause
line_of version text = words_line version (slice_split (λ c. c == 32) text)

abbrev pub at_line : {A : Type 0} → ℕ → Result A Cause → Result A BadLine
at_line n (Ok x) = Ok x
at_line n (Err cause) = Err (record { line = n; cause = cause })

-- the pieces between line feeds, from line n on: the last must be empty
unfoldable pub pieces_script : ℕ → ℕ → List (List ℕ) → Result (List Line) BadLine
pieces_script version n [] = Ok []
pieces_script version n ([] ∷ []) = Ok []
pieces_script version n ((c ∷ cs) ∷ []) = Err (record { line = n; cause = NoLineFeed })
pieces_script version n (piece ∷ next ∷ pieces) =
    at_line n (line_of version piece) >>- λ line. pieces_script version (n + 1) (next ∷ pieces) >>- λ lines. Ok (line ∷ lines)

-- the lines of a file, or its first bad line. The first line of a file of version 2 is line 1, and is none of the script
unfoldable pub script_of : List ℕ → Result (List Line) BadLine
script_of file =
    if has_version_line file then pieces_script 2 2 (slice_split (λ c. c == 10) (drop (length version_line) file))
    else pieces_script 1 1 (slice_split (λ c. c == 10) file)

-- ---- what stands in a script

abbrev pub is_cut : Line → Bool
is_cut (Fill r c) = false
is_cut (Blit r pixels) = false
is_cut (Copy r to_x to_y) = false
is_cut Cut = true
