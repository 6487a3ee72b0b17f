-- A coding tree unit and the flag behind it, read part by part.
use Rattle.std.proofs.Common.{◌≡◌, refl, sym, ◌∙◌, ap, ℕ, Bool, true, false, Some, None, Option, List}
use Rattle.std.specs.Prelude.{if◌then◌else◌}
use Rattle.std.specs.Bool.{beq}
use Rattle.h265_model.specs.declared.leaf.SliceKind.{SliceKind}
use Rattle.h265_model.specs.Bits.{◌>>=◌ as and_then}
use Rattle.h265_model.specs.Engine.{Engine, give, refuse, terminate_read}
use Rattle.h265_model.specs.Plain.{Size}
use Rattle.h265_model.specs.Motion.{Moving}
use Rattle.h265_model.specs.Tree.{ReadUnit, ReadCtu, ctu_read}
use Rattle.residual_read.proofs.Steps.{then_some, then_none}
use Rattle.tree_read.specs.Rows.{flagged_read}

abbrev read_of : List ReadUnit → List ℕ → ReadCtu
read_of units contexts = record { units = units; contexts = contexts }

abbrev flag_then : List ReadUnit → List ℕ → Bool → Bool × Engine → Option (ReadCtu × Engine)
flag_then units contexts ends found = (if beq found.0 ends then give (read_of units contexts) else refuse) found.1

abbrev pub units_then : Bool → List ReadUnit × Engine → Option (ReadCtu × Engine)
units_then ends found = and_then (terminate_read found.1) (flag_then found.0 found.1.contexts ends)

flagged_open : (kind : SliceKind) (size : Size) (before : List Moving) (ctu : ℕ) (ends : Bool) (e : Engine) → flagged_read kind size before ctu ends e ≡ and_then (ctu_read kind size before ctu e) (units_then ends)
unfolding flagged_read
flagged_open kind size before ctu ends e = refl

pub flagged_none : (kind : SliceKind) (size : Size) (before : List Moving) (ctu : ℕ) (ends : Bool) (e : Engine) → ctu_read kind size before ctu e ≡ None → flagged_read kind size before ctu ends e ≡ None
flagged_none kind size before ctu ends e h = flagged_open kind size before ctu ends e ∙ then_none (ctu_read kind size before ctu e) (units_then ends) h

past_units : (kind : SliceKind) (size : Size) (before : List Moving) (ctu : ℕ) (ends : Bool) (units : List ReadUnit) (e d : Engine) → ctu_read kind size before ctu e ≡ Some (units, d)
    → flagged_read kind size before ctu ends e ≡ and_then (terminate_read d) (flag_then units d.contexts ends)
past_units kind size before ctu ends units e d h = flagged_open kind size before ctu ends e ∙ then_some (ctu_read kind size before ctu e) (units, d) (units_then ends) h

pub flag_none : (kind : SliceKind) (size : Size) (before : List Moving) (ctu : ℕ) (ends : Bool) (e d : Engine) (Holds : List ReadUnit → Type 0)
    → (units : List ReadUnit) × (ctu_read kind size before ctu e ≡ Some (units, d)) × Holds units → terminate_read d ≡ None → flagged_read kind size before ctu ends e ≡ None
flag_none kind size before ctu ends e d Holds (units, h, holds) i = past_units kind size before ctu ends units e d h ∙ then_none (terminate_read d) (flag_then units d.contexts ends) i

pub flag_other : (kind : SliceKind) (size : Size) (before : List Moving) (ctu : ℕ) (ends flag : Bool) (e d f : Engine) (Holds : List ReadUnit → Type 0)
    → (units : List ReadUnit) × (ctu_read kind size before ctu e ≡ Some (units, d)) × Holds units → terminate_read d ≡ Some (flag, f) → beq flag ends ≡ false → flagged_read kind size before ctu ends e ≡ None
flag_other kind size before ctu ends flag e d f Holds (units, h, holds) i other =
    past_units kind size before ctu ends units e d h ∙ then_some (terminate_read d) (flag, f) (flag_then units d.contexts ends) i
    ∙ ap (λ (b : Bool). (if b then give (read_of units d.contexts) else refuse) f) other

pub flag_same : (kind : SliceKind) (size : Size) (before : List Moving) (ctu : ℕ) (ends flag : Bool) (contexts : List ℕ) (e d f : Engine) (Holds : List ReadUnit → Type 0)
    → (units : List ReadUnit) × (ctu_read kind size before ctu e ≡ Some (units, d)) × Holds units → terminate_read d ≡ Some (flag, f) → beq flag ends ≡ true → contexts ≡ d.contexts
    → (units : List ReadUnit) × (flagged_read kind size before ctu ends e ≡ Some (record { units = units; contexts = contexts }, f)) × Holds units
flag_same kind size before ctu ends flag contexts e d f Holds (units, h, holds) i same is = (
  units,
  past_units kind size before ctu ends units e d h ∙ then_some (terminate_read d) (flag, f) (flag_then units d.contexts ends) i
      ∙ ap (λ (b : Bool). (if b then give (read_of units d.contexts) else refuse) f) same ∙ ap (λ (l : List ℕ). Some (read_of units l, f)) (sym is),
  holds,
)
