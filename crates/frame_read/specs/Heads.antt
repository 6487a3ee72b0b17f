-- The head of a frame (Netpbm's PPM format): `P6`, the width, the height and the greatest value of a sample, each followed by
-- white space or a comment. More of these may stand before each number. The samples follow the one white space, or the
-- comment, behind the last number.
use Rattle.std.specs.Prelude.{ℕ, Bool, true, false, not, ◌||◌, ◌&&◌, List, [], ◌∷◌, Option, Some, None, Result, Ok, Err, ◌==◌, if◌then◌else◌}
use Rattle.h265_model.specs.Bits.{◌>>-◌}
use Rattle.h265_model.specs.Plain.{Size}
use Rattle.h265_model.specs.Settings.{is_size}
use Rattle.frame_read.specs.declared.error.Flaw.{Flaw}
use Rattle.frame_read.specs.declared.error.Flaw.TheVariants.{NotP6, OtherMaximum, NoSize, AnotherSize, Truncated}
use Rattle.frame_read.specs.declared.error.HeadNumber.TheVariants.{Width, Height, Maximum}
use Rattle.frame_read.specs.Numbers.{is_white, opens_comment, before_number, number_from}

-- the first byte, which must pass a test, and what follows it
abbrev pub byte_of : (ℕ → Bool) → List ℕ → Result (ℕ × List ℕ) Flaw
byte_of test [] = Err Truncated
byte_of test (c ∷ cs) = if test c then Ok (c, cs) else Err NotP6

-- white space or the beginning of a comment: whether it is that, and what follows
abbrev pub gap_of : List ℕ → Result (Bool × List ℕ) Flaw
gap_of bytes = byte_of (λ c. is_white c || opens_comment c) bytes >>- λ gap. Ok (opens_comment gap.0, gap.1)

-- `P6`, and the same
abbrev pub magic_of : List ℕ → Result (Bool × List ℕ) Flaw
magic_of bytes = byte_of (λ c. c == 80) bytes >>- λ p. byte_of (λ c. c == 54) p.1 >>- λ six. gap_of six.1

-- the size is that of the frames before, if there are some
abbrev pub is_like : Option Size → ℕ → ℕ → Bool
is_like None w h = true
is_like (Some size) w h = size.w == w && size.h == h

-- the size that these numbers give
abbrev pub size_of : Option Size → ℕ → ℕ → ℕ → Result Size Flaw
size_of like w h maximum =
    if not (maximum == 255) then Err (OtherMaximum maximum)
    else if not (is_size (record { w = w; h = h })) then Err (NoSize w h)
    else if is_like like w h then Ok (record { w = w; h = h })
    else Err (AnotherSize w h)

-- the size in a head, where frames of some size may have come before, and what follows the head
unfoldable pub head_of : Option Size → List ℕ → Result (Size × List ℕ) Flaw
head_of like bytes =
    magic_of bytes >>- λ magic.
    number_from Width (before_number magic.0) magic.1 >>- λ w.
    number_from Height (before_number false) w.1 >>- λ h.
    number_from Maximum (before_number false) h.1 >>- λ maximum.
    size_of like w.0 h.0 maximum.0 >>- λ size.
    Ok (size, maximum.1)

-- the same, or nothing where there are no bytes
abbrev pub next_head : Option Size → List ℕ → Result (Option Size × List ℕ) Flaw
next_head like [] = Ok (None, [])
next_head like (c ∷ cs) = head_of like (c ∷ cs) >>- λ head. Ok (Some head.0, head.1)
