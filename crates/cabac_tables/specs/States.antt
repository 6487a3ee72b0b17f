-- Bytes of contexts.
use Rattle.std.specs.Prelude.{◌≡◌, ℕ, ◌<◌, List, length, get_or}

-- 130 bytes below 126
pub record AreStates (bytes : List ℕ) : Type 0 where
  pub many : length bytes ≡ 130
  pub each : (n : ℕ) → get_or bytes n 0 < 126
