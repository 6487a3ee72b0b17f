-- Bit strings, the most significant bit first, and the descriptors of syntax elements (7.2, 9.2).
use Rattle.std.specs.Prelude.{ℕ, zero, suc, ◌+◌, ◌-◌, ◌*◌, ◌/◌, ◌%◌, ◌^◌, Bool, true, false, List, [], ◌∷◌, ◌++◌, length, take, drop, replicate, flat_map, Option, Some, None, Result, Ok, Err, ℤ, pos, negsuc, ◌==◌, nat_lt, nat_le, if◌then◌else◌}

infixl 10 ◌>>=◌
-- what is done with a value where there is one (plain)
abbrev pub ◌>>=◌ : {A B : Type 0} → Option A → (A → Option B) → Option B
None >>= f = None
(Some x) >>= f = f x

infixl 10 ◌>>-◌
-- what is done with a value where there is no error (plain)
abbrev pub ◌>>-◌ : {A B E : Type 0} → Result A E → (A → Result B E) → Result B E
(Ok x) >>- f = f x
(Err e) >>- f = Err e

-- how many binary digits a number has, of at most n (plain)
unfoldable pub digits_up_to : ℕ → ℕ → ℕ
digits_up_to zero v = 0
digits_up_to (suc n) v = if nat_le (2 ^ n) v then suc n else digits_up_to n v

-- how many binary digits a number has, of at most 64 (plain)
abbrev pub digit_count : ℕ → ℕ
digit_count v = digits_up_to 64 v

-- u(n) of v: its n low digits, the most significant first (7.2)
unfoldable pub u : ℕ → ℕ → List Bool
u zero v = []
u (suc n) v = (v / 2 ^ n % 2 == 1) ∷ u n v

-- ue(v) of k: the digits of k + 1 after one zero fewer than there are (9.2.1)
unfoldable pub ue : ℕ → List Bool
ue k = replicate (digit_count (k + 1) - 1) false ++ u (digit_count (k + 1)) (k + 1)

-- codeNum of a signed value (9.2.2)
abbrev pub code_number : ℤ → ℕ
code_number (pos zero) = 0
code_number (pos (suc n)) = 2 * n + 1
code_number (negsuc n) = 2 * n + 2

-- se(v) of a signed value: ue(v) of its codeNum (9.2.2)
abbrev pub se : ℤ → List Bool
se z = ue (code_number z)

-- rbsp_trailing_bits and byte_alignment after n bits: a one, and zeros to the byte (7.3.2.11, 7.3.2.12)
abbrev pub alignment : ℕ → List Bool
alignment n = true ∷ replicate (7 - n % 8) false

-- a bit as a number (plain)
abbrev pub digit : Bool → ℕ
digit true = 1
digit false = 0

-- the number that digits spell, the first the most significant, after the number n (7.2, read_bits)
unfoldable pub value_after : ℕ → List Bool → ℕ
value_after n [] = n
value_after n (b ∷ bs) = value_after (2 * n + digit b) bs

-- the number that digits spell, the first the most significant (7.2, read_bits)
abbrev pub value : List Bool → ℕ
value bs = value_after 0 bs

-- bytes as bits, each with its most significant bit first (7.2)
abbrev pub bits : List ℕ → List Bool
bits bytes = flat_map (u 8) bytes

-- whole bytes from bits, each with its most significant bit first (7.2)
unfoldable pub bytes : List Bool → List ℕ
bytes (a ∷ b ∷ c ∷ d ∷ e ∷ f ∷ g ∷ h ∷ rest) = value (a ∷ b ∷ c ∷ d ∷ e ∷ f ∷ g ∷ h ∷ []) ∷ bytes rest
bytes _ = []

-- Reading gives a value and the bits that are left. All that is read is made of whole bytes.

-- read_bits(n), and the bits that are left (7.2)
unfoldable pub read_u : ℕ → List Bool → Option (ℕ × List Bool)
read_u n bs = if nat_lt (length bs) n then None else Some (value (take n bs), drop n bs)

-- the parsing of ue(v) whose leadingZeroBits so far are z, of at most 31 (9.2.1)
unfoldable pub read_ue_after : ℕ → List Bool → Option (ℕ × List Bool)
read_ue_after z [] = None
read_ue_after z (false ∷ bs) = read_ue_after (z + 1) bs
read_ue_after z (true ∷ bs) = if nat_lt 31 z then None else read_u z bs >>= λ low. Some (2 ^ z - 1 + low.0, low.1)

-- the parsing of ue(v) (9.2.1)
abbrev pub read_ue : List Bool → Option (ℕ × List Bool)
read_ue bs = read_ue_after 0 bs

-- the signed value of a codeNum (9.2.2)
abbrev pub signed_of : ℕ → ℤ
signed_of k = if k % 2 == 1 then pos ((k + 1) / 2) else (if k == 0 then pos 0 else negsuc (k / 2 - 1))

-- the parsing of se(v) (9.2.2)
abbrev pub read_se : List Bool → Option (ℤ × List Bool)
read_se bs = read_ue bs >>= λ k. Some (signed_of k.0, k.1)

-- all of these bits are zeros (plain)
abbrev pub all_zero : List Bool → Bool
all_zero [] = true
all_zero (true ∷ bs) = false
all_zero (false ∷ bs) = all_zero bs

-- a list without members (plain)
abbrev pub is_empty : {A : Type 0} → List A → Bool
is_empty [] = true
is_empty (x ∷ xs) = false

-- the parsing of byte_alignment and rbsp_trailing_bits: a one, and zeros to the byte; the bits left tell where the
-- byte ends (7.3.2.11, 7.3.2.12)
unfoldable pub read_alignment : List Bool → Option (List Bool)
read_alignment [] = None
read_alignment (false ∷ bs) = None
read_alignment (true ∷ bs) = if all_zero (take (length bs % 8) bs) then Some (drop (length bs % 8) bs) else None
