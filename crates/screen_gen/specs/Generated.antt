-- The paint scripts of a number.
use Rattle.std.specs.Prelude.{ℕ, zero, suc, ◌+◌, ◌*◌, ◌/◌, ◌%◌, ◌^◌, ◌&&◌, List, [], ◌∷◌, map, ◌==◌, nat_lt, if◌then◌else◌, Bool, ◌≡◌}
use Rattle.rand_xoshiro.specs.SplitMix64.{mix_u64}
use Rattle.h265_model.specs.Plain.{below}
use Rattle.h265_model.specs.declared.rect.Rect.{Rect}
use Rattle.h265_model.specs.declared.rgb.Rgb.{Rgb}
use Rattle.recorder_model.specs.declared.line.Line.{Line}
use Rattle.recorder_model.specs.declared.line.Line.TheVariants.{Fill, Blit, Cut}

-- how many clients there are, and how many lines each has
abbrev pub clients : ℕ
clients = 4

abbrev pub line_count : ℕ
line_count = 60

-- a generator's state after n words
unfoldable pub state_after : ℕ → ℕ → ℕ
state_after state zero = state
state_after state (suc n) = state_after (mix_u64 state).1 n

-- a word modulo 2 ^ 24 as the number RRGGBB
abbrev pub colour_of : ℕ → Rgb
colour_of word = let number : ℕ = word % 16777216 in record { r = number / 65536; g = number / 256 % 256; b = number % 256 }

-- the colours of the next n words
unfoldable pub colours : ℕ → ℕ → List Rgb
colours state zero = []
colours state (suc n) = colour_of (mix_u64 state).0 ∷ colours (mix_u64 state).1 n

-- a rectangle from four words, with the most that its sides are
abbrev pub rect_of : ℕ → ℕ → ℕ → ℕ → ℕ → ℕ → Rect
rect_of x y w h most_w most_h = record { x = x % 640; y = y % 360; w = 1 + w % most_w; h = 1 + h % most_h }

-- the line of six words, and the state after the words of its pixels. Three of four lines are fills.
unfoldable pub line_of : ℕ → ℕ → ℕ → ℕ → ℕ → ℕ → ℕ → Line × ℕ
line_of kind x y w h last state =
    let small : Rect = rect_of x y w h 32 32 in
    if nat_lt (kind % 4) 3 then (Fill (rect_of x y w h 200 120) (colour_of last), state)
    else (Blit small (colours state (small.w * small.h)), state_after state (small.w * small.h))

-- the next line that paints, and the state after it
unfoldable pub drawn : ℕ → Line × ℕ
drawn state =
    let a : ℕ × ℕ = mix_u64 state in
    let b : ℕ × ℕ = mix_u64 a.1 in
    let c : ℕ × ℕ = mix_u64 b.1 in
    let d : ℕ × ℕ = mix_u64 c.1 in
    let e : ℕ × ℕ = mix_u64 d.1 in
    let f : ℕ × ℕ = mix_u64 e.1 in
    line_of a.0 b.0 c.0 d.0 e.0 f.0 f.1

-- each tenth line of client 0 is a cut
abbrev pub is_cut : ℕ → ℕ → Bool
is_cut client index = client == 0 && index % 10 == 9

-- n lines of a client from this index on
unfoldable pub lines_from : ℕ → ℕ → ℕ → ℕ → List Line
lines_from client state index zero = []
lines_from client state index (suc n) =
    if is_cut client index then Cut ∷ lines_from client state (index + 1) n
    else (drawn state).0 ∷ lines_from client (drawn state).1 (index + 1) n

-- a line with this index, and the states before it and after it
abbrev pub IsNext : ℕ → ℕ → ℕ → Line → ℕ → Type 0
IsNext client index before line after = (n : ℕ) → lines_from client before index (suc n) ≡ line ∷ lines_from client after (index + 1) n

abbrev pub client_script : ℕ → ℕ → List Line
client_script number client = lines_from client ((number + client) % 2 ^ 64) 0 line_count

abbrev pub generated : ℕ → List (List Line)
generated number = map (client_script number) (below clients)
