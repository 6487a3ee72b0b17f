-- A mode, read step by step.
use Rattle.std.proofs.Common.{◌≡◌, refl, sym, ◌∙◌, ap, ℕ, zero, suc, ◌<◌, ◌≤◌, Bool, true, false, Some, None, Option, List, [], ◌∷◌, length, get_or, arith}
use Rattle.std.specs.Prelude.{if◌then◌else◌}
use Rattle.h265_model.specs.declared.Place.TheVariants.{Bypass}
use Rattle.h265_model.specs.Bits.{◌>>=◌ as and_then}
use Rattle.h265_model.specs.Engine.{Engine, ◌>>=◌, give, bypass_read, context_read}
use Rattle.h265_model.specs.Binarise.{tr_read, tr_from, fl_read}
use Rattle.h265_model.specs.Modes.{mode_read, mode_with, AreThree}
use Rattle.residual_read.proofs.Steps.{then_some, then_none}

abbrev second_then : Bool × Engine → Option (ℕ × Engine)
second_then found = (if found.0 then tr_from (λ _. Bypass) 2 0 else give 1) found.1

abbrev first_then : Bool × Engine → Option (ℕ × Engine)
first_then found = (if found.0 then tr_from (λ _. Bypass) 1 1 else give 0) found.1

pub index_none : (e : Engine) → bypass_read e ≡ None → tr_read (λ _. Bypass) 2 e ≡ None
index_none e h = then_none (bypass_read e) first_then h

pub index_zero : (e d : Engine) → bypass_read e ≡ Some (false, d) → tr_read (λ _. Bypass) 2 e ≡ Some (0, d)
index_zero e d h = then_some (bypass_read e) (false, d) first_then h

pub index_ends : (e d : Engine) → bypass_read e ≡ Some (true, d) → bypass_read d ≡ None → tr_read (λ _. Bypass) 2 e ≡ None
index_ends e d h k = then_some (bypass_read e) (true, d) first_then h ∙ then_none (bypass_read d) second_then k

pub index_one : (e d f : Engine) → bypass_read e ≡ Some (true, d) → bypass_read d ≡ Some (false, f) → tr_read (λ _. Bypass) 2 e ≡ Some (1, f)
index_one e d f h k = then_some (bypass_read e) (true, d) first_then h ∙ then_some (bypass_read d) (false, f) second_then k

pub index_two : (e d f : Engine) → bypass_read e ≡ Some (true, d) → bypass_read d ≡ Some (true, f) → tr_read (λ _. Bypass) 2 e ≡ Some (2, f)
index_two e d f h k = then_some (bypass_read e) (true, d) first_then h ∙ then_some (bypass_read d) (true, f) second_then k

-- ---- a mode

abbrev index_then : List ℕ → ℕ × Engine → Option (ℕ × Engine)
index_then list found = Some (get_or list found.0 0, found.1)

abbrev remainder_then : List ℕ → ℕ × Engine → Option (ℕ × Engine)
remainder_then list found = Some (mode_with found.0 list, found.1)

abbrev flag_then : List ℕ → Bool × Engine → Option (ℕ × Engine)
flag_then list found = (if found.0 then (tr_read (λ i. Bypass) 2 >>= λ i. give (get_or list i 0)) else (fl_read 5 >>= λ remainder. give (mode_with remainder list))) found.1

mode_open : (list : List ℕ) (e : Engine) → mode_read list e ≡ and_then (context_read 9 e) (flag_then list)
unfolding mode_read
mode_open list e = refl

pub mode_none : (list : List ℕ) (e : Engine) → context_read 9 e ≡ None → mode_read list e ≡ None
mode_none list e h = mode_open list e ∙ then_none (context_read 9 e) (flag_then list) h

pub listed_none : (list : List ℕ) (e d : Engine) → context_read 9 e ≡ Some (true, d) → tr_read (λ _. Bypass) 2 d ≡ None → mode_read list e ≡ None
listed_none list e d h k = mode_open list e ∙ then_some (context_read 9 e) (true, d) (flag_then list) h ∙ then_none (tr_read (λ _. Bypass) 2 d) (index_then list) k

pub listed_some : (list : List ℕ) (index mode : ℕ) (e d f : Engine) → context_read 9 e ≡ Some (true, d) → tr_read (λ _. Bypass) 2 d ≡ Some (index, f) → mode ≡ get_or list index 0 → mode_read list e ≡ Some (mode, f)
listed_some list index mode e d f h k is =
    mode_open list e ∙ then_some (context_read 9 e) (true, d) (flag_then list) h ∙ then_some (tr_read (λ _. Bypass) 2 d) (index, f) (index_then list) k
    ∙ ap (λ (m : ℕ). Some (m, f)) (sym is)

pub other_none : (list : List ℕ) (e d : Engine) → context_read 9 e ≡ Some (false, d) → fl_read 5 d ≡ None → mode_read list e ≡ None
other_none list e d h k = mode_open list e ∙ then_some (context_read 9 e) (false, d) (flag_then list) h ∙ then_none (fl_read 5 d) (remainder_then list) k

pub other_some : (list : List ℕ) (remainder mode : ℕ) (e d f : Engine) → context_read 9 e ≡ Some (false, d) → fl_read 5 d ≡ Some (remainder, f) → mode ≡ mode_with remainder list → mode_read list e ≡ Some (mode, f)
other_some list remainder mode e d f h k is =
    mode_open list e ∙ then_some (context_read 9 e) (false, d) (flag_then list) h ∙ then_some (fl_read 5 d) (remainder, f) (remainder_then list) k
    ∙ ap (λ (m : ℕ). Some (m, f)) (sym is)

-- ---- three candidates

pub three_long : (list : List ℕ) → AreThree list → length list ≡ 3
three_long list are = ap length are.is

pub three_low : (list : List ℕ) (i : ℕ) → AreThree list → i ≤ 2 → get_or list i 0 < 35
three_low list i are h = rw are.is (go i h)
  where
    go : (i : ℕ) → i ≤ 2 → get_or (are.first ∷ are.second ∷ are.third ∷ []) i 0 < 35
    go zero h = are.are.first
    go (suc zero) h = are.are.second
    go (suc (suc zero)) h = are.are.third
    go (suc (suc (suc i))) h = absurd (omega arith)

pub three_is : (list : List ℕ) (a b c : ℕ) → AreThree list → a ≡ get_or list 0 0 → b ≡ get_or list 1 0 → c ≡ get_or list 2 0 → a ∷ b ∷ c ∷ [] ≡ list
three_is list a b c are ea eb ec = rw (ea, eb, ec) (rw are.is refl)
