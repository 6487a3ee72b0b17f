-- Bytes with and without emulation prevention.
use Rattle.std.specs.Prelude.{◌≡◌, ◌≤◌, ℕ, ◌==◌, ◌&&◌, List, length, take, drop, Option, Some, None, nat_le, if◌then◌else◌}

-- how many bytes a byte takes after p and q, with its emulation prevention (7.4.2.1)
abbrev pub cost : ℕ → ℕ → ℕ → ℕ
cost p q b = if p == 0 && q == 0 && nat_le b 3 then 2 else 1

-- the place of a cut of these bytes, or nothing just where there is no cut
abbrev pub Cuts : Option ℕ → Option (List ℕ × List ℕ) → List ℕ → Type 0
Cuts None cut bytes = cut ≡ None
Cuts (Some at) cut bytes = (at ≤ length bytes) × (cut ≡ Some (take at bytes, drop at bytes))
