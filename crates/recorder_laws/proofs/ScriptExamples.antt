-- Worked scripts, computed.
use Rattle.std.specs.Prelude.{◌≡◌, ℕ, List, [], ◌∷◌, ◌++◌, codes, Ok, Err, Result, refl}
use Rattle.std.specs.Fmt.{digits}
use Rattle.recorder_model.specs.declared.line.Line.{Line}
use Rattle.recorder_model.specs.declared.line.Line.TheVariants.{Fill, Copy, Cut}
use Rattle.recorder_model.specs.declared.refusal.Cause.{Cause}
use Rattle.recorder_model.specs.declared.refusal.Cause.TheVariants.{NoLineFeed, UnknownCommand, WordCount, BadNumber, ZeroSize, TooManyPixels, BadColour}
use Rattle.recorder_model.specs.Script.{BadLine, line_of, pieces_script, script_of, script_text, has_version_line, version_of, colours, number_up_to}

abbrev bad : ℕ → Cause → Result (List Line) BadLine
bad n cause = Err (record { line = n; cause = cause })

module _ where
  zero_size : script_of (codes "fill 0 0 0 5 ffffff" ++ 10 ∷ []) ≡ bad 1 ZeroSize
  unfolding script_of has_version_line pieces_script line_of number_up_to colours
  zero_size = refl

  no_line_feed : script_of (codes "cut") ≡ bad 1 NoLineFeed
  unfolding script_of has_version_line pieces_script line_of
  no_line_feed = refl

  word_count : script_of (codes "cut" ++ 10 ∷ codes "cut " ++ 10 ∷ []) ≡ bad 2 WordCount
  unfolding script_of has_version_line pieces_script line_of
  word_count = refl

  unknown : script_of (10 ∷ []) ≡ bad 1 UnknownCommand
  unfolding script_of has_version_line pieces_script line_of
  unknown = refl

  leading_zero : script_of (codes "fill 00 0 1 1 ffffff" ++ 10 ∷ []) ≡ bad 1 BadNumber
  unfolding script_of has_version_line pieces_script line_of number_up_to colours
  leading_zero = refl

  too_large : script_of (codes "fill 65536 0 1 1 ffffff" ++ 10 ∷ []) ≡ bad 1 BadNumber
  unfolding script_of has_version_line pieces_script line_of number_up_to colours
  too_large = refl

  upper_case : script_of (codes "fill 0 0 1 1 FFFFFF" ++ 10 ∷ []) ≡ bad 1 BadColour
  unfolding script_of has_version_line pieces_script line_of number_up_to colours
  upper_case = refl

  short : script_of (codes "blit 0 0 2 1 ff0000" ++ 10 ∷ []) ≡ bad 1 BadColour
  unfolding script_of has_version_line pieces_script line_of number_up_to colours
  short = refl

  too_many : script_of (codes "blit 0 0 65 64 0" ++ 10 ∷ []) ≡ bad 1 TooManyPixels
  unfolding script_of has_version_line pieces_script line_of number_up_to colours
  too_many = refl

  fill_ok : script_of (codes "fill 0 0 32 32 ff8040" ++ 10 ∷ codes "cut" ++ 10 ∷ []) ≡ Ok (Fill (record { x = 0; y = 0; w = 32; h = 32 }) (record { r = 255; g = 128; b = 64 }) ∷ Cut ∷ [])
  unfolding script_of has_version_line pieces_script line_of number_up_to colours
  fill_ok = refl

  -- scripts of version 2: the first line is line 1, and none of the script
  copy_in_version_1 : script_of (codes "copy 0 0 1 1 0 0" ++ 10 ∷ []) ≡ bad 1 UnknownCommand
  unfolding script_of has_version_line pieces_script line_of
  copy_in_version_1 = refl

  copy_words : script_of (codes "paint 2" ++ 10 ∷ codes "copy 0 0 1 1 0" ++ 10 ∷ []) ≡ bad 2 WordCount
  unfolding script_of has_version_line pieces_script line_of
  copy_words = refl

  version_later : script_of (codes "cut" ++ 10 ∷ codes "paint 2" ++ 10 ∷ []) ≡ bad 2 UnknownCommand
  unfolding script_of has_version_line pieces_script line_of
  version_later = refl

  version_twice : script_of (codes "paint 2" ++ 10 ∷ codes "paint 2" ++ 10 ∷ []) ≡ bad 2 UnknownCommand
  unfolding script_of has_version_line pieces_script line_of
  version_twice = refl

  version_open : script_of (codes "paint 2") ≡ bad 1 NoLineFeed
  unfolding script_of has_version_line pieces_script line_of
  version_open = refl

  copy_number : script_of (codes "paint 2" ++ 10 ∷ codes "copy 0 0 0 1 0 65536" ++ 10 ∷ []) ≡ bad 2 BadNumber
  unfolding script_of has_version_line pieces_script line_of number_up_to
  copy_number = refl

  copy_side : script_of (codes "paint 2" ++ 10 ∷ codes "copy 0 0 0 1 0 0" ++ 10 ∷ []) ≡ bad 2 ZeroSize
  unfolding script_of has_version_line pieces_script line_of number_up_to
  copy_side = refl

  abbrev copying : List ℕ
  copying = codes "paint 2" ++ 10 ∷ codes "copy 1 2 3 4 5 6" ++ 10 ∷ codes "cut" ++ 10 ∷ []

  abbrev copied : List Line
  copied = Copy (record { x = 1; y = 2; w = 3; h = 4 }) 5 6 ∷ Cut ∷ []

  copy_ok : script_of copying ≡ Ok copied
  unfolding script_of has_version_line pieces_script line_of number_up_to
  copy_ok = refl

  copy_version : version_of copying ≡ 2
  unfolding has_version_line
  copy_version = refl

  copy_text : script_text 2 copied ≡ copying
  unfolding script_text digits
  copy_text = refl
