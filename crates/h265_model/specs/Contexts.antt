-- The context variables: 130 bytes, each twice pStateIdx and valMps (9.3.2.2, 9.3.4.3.2).
use Rattle.std.specs.Prelude.{◌≡◌, ℕ, zero, suc, ◌+◌, ◌*◌, ◌/◌, ◌-◌, ◌%◌, ◌^◌, ◌<◌, min, max, Bool, List, [], length, map, get_or, set, ◌==◌, nat_le, if◌then◌else◌, ℤ, pos, negsuc, ◌+ℤ◌, ◌-ℤ◌, ◌*ℤ◌}
use Rattle.std.specs.List.{AllByRecursion}
use Rattle.std.specs.Bool.{beq}
use Rattle.h265_model.specs.declared.leaf.SliceKind.{SliceKind}
use Rattle.h265_model.specs.declared.leaf.SliceKind.TheVariants.{I, P}
use Rattle.h265_model.specs.Tables.{lps_ranges, states_after_lps, init_values_I, init_values_P}
use Rattle.h265_model.specs.Bits.{digit}

-- x >> k: an arithmetic shift to the right, which rounds down (5.5)
abbrev pub shift_right : ℤ → ℕ → ℤ
shift_right (pos n) k = pos (n / 2 ^ k)
shift_right (negsuc n) k = negsuc (n / 2 ^ k)

-- Clip3 (5.8)
abbrev pub clip : ℕ → ℕ → ℤ → ℕ
clip low high (pos n) = max low (min high n)
clip low high (negsuc n) = low

-- valMps and pStateIdx from preCtxState, as a byte (9.3.2.2)
abbrev pub byte_of : ℕ → ℕ
byte_of pre = if nat_le 64 pre then 2 * (pre - 64) + 1 else 2 * (63 - pre)

-- the byte that an initValue stands for at SliceQpY 26 (9.3.2.2)
abbrev pub initial : ℕ → ℕ
initial v =
    let slope : ℤ = pos (v / 16 * 5) -ℤ pos 45 in
    let shift : ℤ = pos (v % 16 * 8) -ℤ pos 16 in
    byte_of (clip 1 126 (shift_right (slope *ℤ pos 26) 4 +ℤ shift))

-- initValue of each context variable, by the initType of a slice (9.3.2.2)
abbrev pub init_values : SliceKind → List ℕ
init_values I = init_values_I
init_values P = init_values_P

-- the context variables at the start of a slice (9.3.2.2)
unfoldable pub start : SliceKind → List ℕ
start kind = map initial (init_values kind)

-- pStateIdx of a context variable (9.3.2.2)
abbrev pub state_of : ℕ → ℕ
state_of byte = byte / 2

-- valMps of a context variable, the more probable value (9.3.2.2)
abbrev pub mps : ℕ → Bool
mps byte = byte % 2 == 1

-- ivlLpsRange: the share of the less probable value, in a range of this qRangeIdx (9.3.4.3.2.1)
unfoldable pub lps_range : ℕ → ℕ → ℕ
lps_range byte quarter = get_or (get_or lps_ranges (state_of byte) []) quarter 0

-- a context variable of this pStateIdx and this valMps, as a byte (9.3.2.2)
abbrev pub byte_with : ℕ → Bool → ℕ
byte_with state value = 2 * state + digit value

-- the state transition: the context variable after a bin. In state 0 a less probable value becomes the more probable
-- one (9.3.4.3.2.2)
unfoldable pub next : ℕ → Bool → ℕ
next byte bin =
    if beq bin (mps byte) then byte_with (min 62 (state_of byte + 1)) (mps byte)
    else if state_of byte == 0 then byte_with (get_or states_after_lps 0 0) bin
    else byte_with (get_or states_after_lps (state_of byte) 0) (mps byte)

-- the context variables after a bin under context n (9.3.4.3.2.2)
abbrev pub step : List ℕ → ℕ → Bool → List ℕ
step contexts n bin = set contexts n (next (get_or contexts n 0) bin)

-- the context variables at the start of a row of coding tree blocks, by how many of them wide the picture is and
-- what the row above had after its second one (9.3.1)
unfoldable pub row_start : SliceKind → ℕ → ℕ → List ℕ → List ℕ
row_start kind width zero above = start kind
row_start kind width (suc row) above = if nat_le 2 width then above else start kind

-- what a list of context variables is (9.3.2.2)
pub record AreContexts (contexts : List ℕ) : Type 0 where
  pub many : length contexts ≡ 130
  pub each : AllByRecursion (λ byte. byte < 126) contexts
