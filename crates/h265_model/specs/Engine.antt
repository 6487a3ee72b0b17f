-- The arithmetic decoding engine, and readers made of it (9.3.2.5, 9.3.4.3).
use Rattle.std.specs.Prelude.{◌≡◌, ℕ, zero, suc, ◌+◌, ◌*◌, ◌/◌, ◌-◌, ◌%◌, ◌^◌, Bool, true, false, not, List, [], ◌∷◌, length, get_or, nat_le, nat_lt, if◌then◌else◌, Option, Some, None}
use Rattle.h265_model.specs.declared.Bin.{Bin}
use Rattle.h265_model.specs.declared.Place.{Place}
use Rattle.h265_model.specs.declared.Item.{Item}
use Rattle.h265_model.specs.declared.Place.TheVariants.{Context, Bypass, Terminate}
use Rattle.h265_model.specs.declared.Item.TheVariants as items
use Rattle.h265_model.specs.Contexts.{lps_range, mps, step}
use Rattle.h265_model.specs.Bits.{digit, is_empty, digits_up_to, read_u, read_alignment, ◌>>=◌ as and_then}

-- ---- bytes

-- u(8) n times: the next n bytes, and the bits left (7.2)
abbrev pub read_bytes : ℕ → List Bool → Option (List ℕ × List Bool)
read_bytes zero bits = Some ([], bits)
read_bytes (suc n) bits =
    and_then (read_u 8 bits) (λ first.
    and_then (read_bytes n first.1) (λ others.
    Some (first.0 ∷ others.0, others.1)))

-- ---- the engine

-- the arithmetic decoding engine: ivlCurrRange and ivlOffset, the contexts, the bit read last and the bits not read
-- yet, which end with a byte (9.3.2.5, 9.3.4.3.1)
pub record Engine : Type 0 where
  pub range : ℕ
  pub offset : ℕ
  pub contexts : List ℕ
  pub last : Bool
  pub bits : List Bool

-- read_bits(1) into ivlOffset: one more bit for the offset (9.3.4.3.3)
abbrev pub take_bit : Engine → List Bool → Option Engine
take_bit e [] = None
take_bit e (b ∷ bits) = Some (record e { offset = 2 * e.offset + digit b; last = b; bits = bits })

-- n more bits into ivlOffset (9.3.4.3.3)
abbrev pub shift_in : ℕ → Engine → Option Engine
shift_in zero e = Some e
shift_in (suc n) e = and_then (take_bit e e.bits) (λ d. shift_in n d)

-- the start of the engine on a row of bits, by read_bits(9). An ivlOffset of 510 or 511 isn't allowed (9.3.2.5)
unfoldable pub start : List ℕ → List Bool → Option Engine
start contexts bits =
    and_then (shift_in 9 (record { range = 510; offset = 0; contexts = contexts; last = false; bits = bits })) (λ e.
    if nat_lt e.offset 510 then Some e else None)

-- how often RenormD doubles an ivlCurrRange below 512: until it has nine digits (9.3.4.3.3)
unfoldable pub doublings : ℕ → ℕ
doublings range = 9 - digits_up_to 9 range

-- RenormD: the range doubles until it is at least 256, and the offset takes a bit each time (9.3.4.3.3)
unfoldable pub renormalised : Engine → Option Engine
renormalised e = shift_in (doublings e.range) (record e { range = e.range * 2 ^ doublings e.range })

-- a parsing of slice data: it gives a value and the engine after it, or nothing (9.3.1)
abbrev pub Reader : Type 0 → Type 0
Reader A = Engine → Option (A × Engine)

infixl 10 ◌>>=◌
-- one parsing after another, which may look at what the first gives (plain)
abbrev pub ◌>>=◌ : {A B : Type 0} → Reader A → (A → Reader B) → Reader B
◌>>=◌ read f e = and_then (read e) (λ found. f found.0 found.1)

-- a parsing that asks for no bin (plain)
abbrev pub give : {A : Type 0} → A → Reader A
give x e = Some (x, e)

-- a parsing that no bits have (plain)
abbrev pub refuse : {A : Type 0} → Reader A
refuse e = None

-- the value read, at the engine that is left (plain)
abbrev pub with_bin : Bool → Option Engine → Option (Bool × Engine)
with_bin value left = and_then left (λ e. Some (value, e))

-- DecodeDecision: a bin under context n (9.3.4.3.2.1)
unfoldable pub context_read : ℕ → Reader Bool
context_read n e =
    let byte : ℕ = get_or e.contexts n 0 in
    let small : ℕ = lps_range byte (e.range / 64 % 4) in
    let large : ℕ = e.range - small in
    if nat_le large e.offset
    then with_bin (not (mps byte)) (renormalised (record e { range = small; offset = e.offset - large; contexts = step e.contexts n (not (mps byte)) }))
    else with_bin (mps byte) (renormalised (record e { range = large; contexts = step e.contexts n (mps byte) }))

-- DecodeBypass: a bin without a context (9.3.4.3.4)
unfoldable pub bypass_read : Reader Bool
bypass_read e =
    and_then (shift_in 1 e) (λ d.
    if nat_le d.range d.offset then Some (true, record d { offset = d.offset - d.range }) else Some (false, d))

-- DecodeTerminate: a bin before termination. After a 1 nothing is renormalised here: the bit that read_bits(1) gives
-- then was the last one read (9.3.4.3.5)
unfoldable pub terminate_read : Reader Bool
terminate_read e =
    let d : Engine = record e { range = e.range - 2 } in
    if nat_le d.range d.offset then Some (true, d) else with_bin false (renormalised d)

-- DecodeBin: a bin by its context, in bypass mode or before termination (9.3.4.3.1)
abbrev pub bin : Place → Reader Bool
bin (Context n) = context_read n
bin Bypass = bypass_read
bin Terminate = terminate_read

-- after a terminating bin 1 the bit read last is a 1, and zeros follow to the byte: the bits after them (9.3.4.3.5,
-- 7.3.2.11, 7.3.2.12, 7.3.8.5 with pcm_alignment_zero_bit)
unfoldable pub aligned : Engine → Option (List Bool)
aligned e = read_alignment (e.last ∷ e.bits)

-- pcm_sample: n samples of 8 bits after a terminating bin 1. The engine starts anew after them, and keeps the
-- contexts (7.3.8.7, 9.3.2.5)
unfoldable pub samples : ℕ → Reader (List ℕ)
samples n e =
    and_then (aligned e) (λ bits.
    and_then (read_bytes n bits) (λ found.
    and_then (start e.contexts found.1) (λ d.
    Some (found.0, d))))

-- the alignment is there, and nothing after it (7.3.2.10)
abbrev pub at_end : Option (List Bool) → Bool
at_end None = false
at_end (Some bits) = is_empty bits

-- after a terminating bin 1 nothing but its zeros is left: rbsp_slice_segment_trailing_bits, or byte_alignment at
-- the end of a substream (7.3.2.10, 7.3.8.1)
unfoldable pub is_done : Engine → Bool
is_done e = at_end (aligned e)

-- ---- what an engine spells

-- laws of reading, this project's own: what is asked for at once: one bin, or a whole run of samples
pub data Part : Type 0 where
  One : Bin → Part
  Run : List ℕ → Part

-- laws of reading, this project's own: a sample before these parts
abbrev pub sample_first : ℕ → List Part → List Part
sample_first x [] = Run (x ∷ []) ∷ []
sample_first x (One b ∷ parts) = Run (x ∷ []) ∷ One b ∷ parts
sample_first x (Run xs ∷ parts) = Run (x ∷ xs) ∷ parts

-- laws of reading, this project's own: the parts that a list of items is asked for by
abbrev pub parts_of : List Item → List Part
parts_of [] = []
parts_of (items.Bin b ∷ rest) = One b ∷ parts_of rest
parts_of (items.Sample x ∷ rest) = sample_first x (parts_of rest)

-- laws of reading, this project's own: asked for these parts in order, the engine gives them and is then the other
-- one
abbrev pub Gives : List Part → Engine → Engine → Type 0
Gives [] e left = e ≡ left
Gives (One b ∷ parts) e left = (d : Engine) × (bin b.place e ≡ Some (b.value, d)) × Gives parts d left
Gives (Run xs ∷ parts) e left = (d : Engine) × (samples (length xs) e ≡ Some (xs, d)) × Gives parts d left

-- laws of reading, this project's own: asked for these items in order, the engine gives them
abbrev pub Spells : Engine → List Item → Type 0
Spells e list = (left : Engine) × Gives (parts_of list) e left

-- laws of reading, this project's own: the reader reads this value off every engine that spells these items, and
-- leaves it as asking for them does
pub record Reads {A : Type 0} (read : Reader A) (list : List Item) (value : A) : Type 0 where
  pub from : (e left : Engine) → Gives (parts_of list) e left → read e ≡ Some (value, left)

-- laws of reading, this project's own: the same of a reader whose value may tell of the contexts that it began with
pub record ReadsWith {A : Type 0} (read : Reader A) (list : List Item) (value : List ℕ → A) : Type 0 where
  pub from : (e left : Engine) → Gives (parts_of list) e left → read e ≡ Some (value e.contexts, left)
