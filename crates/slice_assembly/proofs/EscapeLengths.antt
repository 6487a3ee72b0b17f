-- How long bytes with emulation prevention are.
use Rattle.std.proofs.Common.{ℕ, ◌-◌, ◌*◌, ◌^◌, ◌<◌, ◌≤◌, true, false, cond, List, [], ◌∷◌, length, arith}
use Rattle.std.specs.Prelude.{◌&&◌, ◌==◌, nat_le, slice_index}
use Rattle.h265_model.specs.NalUnits.{escape_after, escape}
use Rattle.slice_assembly.specs.Substreams.{IsSubstream}

-- none is left out
pub not_shorter : (p q : ℕ) (bytes : List ℕ) → length bytes ≤ length (escape_after p q bytes)
unfolding escape_after
not_shorter p q [] = omega arith
not_shorter p q (b ∷ bytes) =
    elim (p == 0 && q == 0 && nat_le b 3) as (λ v. length (b ∷ bytes) ≤ length (cond v (3 ∷ b ∷ escape_after 3 b bytes) (b ∷ escape_after q b bytes))) [
      | true ↦ omega (arith, not_shorter 3 b bytes)
      | false ↦ omega (arith, not_shorter q b bytes)
    ]

-- at most one is put before each
pub at_most_doubled : (p q : ℕ) (bytes : List ℕ) → length (escape_after p q bytes) ≤ 2 * length bytes
unfolding escape_after
at_most_doubled p q [] = omega arith
at_most_doubled p q (b ∷ bytes) =
    elim (p == 0 && q == 0 && nat_le b 3) as (λ v. length (cond v (3 ∷ b ∷ escape_after 3 b bytes) (b ∷ escape_after q b bytes)) ≤ 2 * length (b ∷ bytes)) [
      | true ↦ omega (arith, at_most_doubled 3 b bytes)
      | false ↦ omega (arith, at_most_doubled q b bytes)
    ]

-- an entry point is a number of 32 bits other than 0
pub fits : (bytes : List ℕ) → IsSubstream bytes → length (escape bytes) < 2 ^ 32
fits bytes is = let few = is.1 in omega (arith, at_most_doubled 255 255 bytes)

some_bytes : (bytes : List ℕ) → 0 < slice_index bytes (length bytes - 1) → 0 < length bytes
some_bytes [] h = absurd (omega arith)
some_bytes (b ∷ bytes) h = omega arith

pub some_escaped : (bytes : List ℕ) → IsSubstream bytes → 0 < length (escape bytes)
some_escaped bytes is = omega (arith, some_bytes bytes is.0, not_shorter 255 255 bytes)
