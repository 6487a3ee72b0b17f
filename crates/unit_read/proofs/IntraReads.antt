-- An intra unit, read part by part.
use Rattle.std.proofs.Common.{◌≡◌, refl, sym, ◌∙◌, ap, subst, ℕ, Bool, true, false, Some, None, Option, List, [], ◌∷◌}
use Rattle.std.specs.Prelude.{if◌then◌else◌, ℤ}
use Rattle.std.specs.Bool.{beq}
use Rattle.h265_model.specs.Bits.{◌>>=◌ as and_then}
use Rattle.h265_model.specs.Engine.{Engine, refuse, context_read}
use Rattle.h265_model.specs.Modes.{mode_read}
use Rattle.h265_model.specs.Motion.{Moving, leaves}
use Rattle.h265_model.specs.Tree.{Content, Levels, intra_read, component_read, candidates_at}
use Rattle.h265_model.specs.Plain.{block_at}
use Rattle.residual_read.proofs.Steps.{then_some, then_none}
use Rattle.unit_read.specs.declared.intra.Flags.{Flags}
use Rattle.unit_read.specs.Intra.{flags_read, planes_read, intra_of, GivesIntra}
use Rattle.h265_model.specs.declared.block.CodingBlock.{CodingBlock}

abbrev luma_then : Bool → Bool → Bool × Engine → Option (Flags × Engine)
luma_then cb cr found = Some (record { cb = cb; cr = cr; luma = found.0 }, found.1)

abbrev cr_then : Bool → Bool × Engine → Option (Flags × Engine)
cr_then cb found = and_then (context_read 11 found.1) (luma_then cb found.0)

abbrev cb_then : Bool × Engine → Option (Flags × Engine)
cb_then found = and_then (context_read 12 found.1) (cr_then found.0)

abbrev rest_read : Engine → Option (Flags × Engine)
rest_read e = and_then (context_read 12 e) cb_then

abbrev chroma_then : Bool × Engine → Option (Flags × Engine)
chroma_then found = (if beq found.0 false then rest_read else (λ e. None)) found.1

flags_open : (e : Engine) → flags_read e ≡ and_then (context_read 10 e) chroma_then
unfolding flags_read
flags_open e = refl

pub chroma_none : (e : Engine) → context_read 10 e ≡ None → flags_read e ≡ None
chroma_none e h = flags_open e ∙ then_none (context_read 10 e) chroma_then h

pub chroma_other : (e d : Engine) → context_read 10 e ≡ Some (true, d) → flags_read e ≡ None
chroma_other e d h = flags_open e ∙ then_some (context_read 10 e) (true, d) chroma_then h

pub cb_none : (e d : Engine) → context_read 10 e ≡ Some (false, d) → context_read 12 d ≡ None → flags_read e ≡ None
cb_none e d h i = flags_open e ∙ then_some (context_read 10 e) (false, d) chroma_then h ∙ then_none (context_read 12 d) cb_then i

pub cr_none : (e d f : Engine) (cb : Bool) → context_read 10 e ≡ Some (false, d) → context_read 12 d ≡ Some (cb, f) → context_read 12 f ≡ None → flags_read e ≡ None
cr_none e d f cb h i j = flags_open e ∙ then_some (context_read 10 e) (false, d) chroma_then h ∙ then_some (context_read 12 d) (cb, f) cb_then i ∙ then_none (context_read 12 f) (cr_then cb) j

pub luma_none : (e d f g : Engine) (cb cr : Bool) → context_read 10 e ≡ Some (false, d) → context_read 12 d ≡ Some (cb, f) → context_read 12 f ≡ Some (cr, g) → context_read 11 g ≡ None → flags_read e ≡ None
luma_none e d f g cb cr h i j k =
    flags_open e ∙ then_some (context_read 10 e) (false, d) chroma_then h ∙ then_some (context_read 12 d) (cb, f) cb_then i ∙ then_some (context_read 12 f) (cr, g) (cr_then cb) j
    ∙ then_none (context_read 11 g) (luma_then cb cr) k

pub flags_all : (e d f g l : Engine) (cb cr luma : Bool) → context_read 10 e ≡ Some (false, d) → context_read 12 d ≡ Some (cb, f) → context_read 12 f ≡ Some (cr, g) → context_read 11 g ≡ Some (luma, l)
    → flags_read e ≡ Some (record { cb = cb; cr = cr; luma = luma }, l)
flags_all e d f g l cb cr luma h i j k =
    flags_open e ∙ then_some (context_read 10 e) (false, d) chroma_then h ∙ then_some (context_read 12 d) (cb, f) cb_then i ∙ then_some (context_read 12 f) (cr, g) (cr_then cb) j
    ∙ then_some (context_read 11 g) (luma, l) (luma_then cb cr) k

-- ---- the three components

abbrev third_then : List ℤ → List ℤ → List ℤ × Engine → Option (List (List ℤ) × Engine)
third_then first second found = Some (first ∷ second ∷ found.0 ∷ [], found.1)

abbrev second_then : ℕ → ℕ → Flags → List ℤ → List ℤ × Engine → Option (List (List ℤ) × Engine)
second_then log2 mode flags first found = and_then (component_read log2 mode 2 flags.cr found.1) (third_then first found.0)

abbrev first_then : ℕ → ℕ → Flags → List ℤ × Engine → Option (List (List ℤ) × Engine)
first_then log2 mode flags found = and_then (component_read log2 mode 1 flags.cb found.1) (second_then log2 mode flags found.0)

planes_open : (log2 mode : ℕ) (flags : Flags) (e : Engine) → planes_read log2 mode flags e ≡ and_then (component_read log2 mode 0 flags.luma e) (first_then log2 mode flags)
unfolding planes_read
planes_open log2 mode flags e = refl

pub first_none : (log2 mode : ℕ) (flags : Flags) (e : Engine) → component_read log2 mode 0 flags.luma e ≡ None → planes_read log2 mode flags e ≡ None
first_none log2 mode flags e h = planes_open log2 mode flags e ∙ then_none (component_read log2 mode 0 flags.luma e) (first_then log2 mode flags) h

pub second_none : (log2 mode : ℕ) (flags : Flags) (first : List ℤ) (e d : Engine) → component_read log2 mode 0 flags.luma e ≡ Some (first, d) → component_read log2 mode 1 flags.cb d ≡ None → planes_read log2 mode flags e ≡ None
second_none log2 mode flags first e d h i =
    planes_open log2 mode flags e ∙ then_some (component_read log2 mode 0 flags.luma e) (first, d) (first_then log2 mode flags) h ∙ then_none (component_read log2 mode 1 flags.cb d) (second_then log2 mode flags first) i

pub third_none : (log2 mode : ℕ) (flags : Flags) (first second : List ℤ) (e d f : Engine) → component_read log2 mode 0 flags.luma e ≡ Some (first, d) → component_read log2 mode 1 flags.cb d ≡ Some (second, f)
    → component_read log2 mode 2 flags.cr f ≡ None → planes_read log2 mode flags e ≡ None
third_none log2 mode flags first second e d f h i j =
    planes_open log2 mode flags e ∙ then_some (component_read log2 mode 0 flags.luma e) (first, d) (first_then log2 mode flags) h
    ∙ then_some (component_read log2 mode 1 flags.cb d) (second, f) (second_then log2 mode flags first) i ∙ then_none (component_read log2 mode 2 flags.cr f) (third_then first second) j

pub planes_all : (log2 mode : ℕ) (flags : Flags) (first second third : List ℤ) (e d f g : Engine) → component_read log2 mode 0 flags.luma e ≡ Some (first, d) → component_read log2 mode 1 flags.cb d ≡ Some (second, f)
    → component_read log2 mode 2 flags.cr f ≡ Some (third, g) → planes_read log2 mode flags e ≡ Some (first ∷ second ∷ third ∷ [], g)
planes_all log2 mode flags first second third e d f g h i j =
    planes_open log2 mode flags e ∙ then_some (component_read log2 mode 0 flags.luma e) (first, d) (first_then log2 mode flags) h
    ∙ then_some (component_read log2 mode 1 flags.cb d) (second, f) (second_then log2 mode flags first) i ∙ then_some (component_read log2 mode 2 flags.cr f) (third, g) (third_then first second) j

-- ---- a unit

abbrev planes_then : ℕ → List (List ℤ) × Engine → Option (Content × Engine)
planes_then mode found = Some (Levels mode found.0, found.1)

abbrev flags_then : ℕ → ℕ → Flags × Engine → Option (Content × Engine)
flags_then log2 mode found = and_then (planes_read log2 mode found.0 found.1) (planes_then mode)

abbrev mode_then : ℕ → ℕ × Engine → Option (Content × Engine)
mode_then log2 found = and_then (flags_read found.1) (flags_then log2 found.0)

intra_open : (list : List ℕ) (log2 : ℕ) (e : Engine) → intra_of list log2 e ≡ and_then (mode_read list e) (mode_then log2)
unfolding intra_of
intra_open list log2 e = refl

pub mode_ends : (list : List ℕ) (log2 : ℕ) (e : Engine) → mode_read list e ≡ None → intra_of list log2 e ≡ None
mode_ends list log2 e h = intra_open list log2 e ∙ then_none (mode_read list e) (mode_then log2) h

pub flags_end : (list : List ℕ) (log2 mode : ℕ) (e d : Engine) → mode_read list e ≡ Some (mode, d) → flags_read d ≡ None → intra_of list log2 e ≡ None
flags_end list log2 mode e d h i = intra_open list log2 e ∙ then_some (mode_read list e) (mode, d) (mode_then log2) h ∙ then_none (flags_read d) (flags_then log2 mode) i

pub planes_end : (list : List ℕ) (log2 mode : ℕ) (flags : Flags) (e d f : Engine) → mode_read list e ≡ Some (mode, d) → flags_read d ≡ Some (flags, f) → planes_read log2 mode flags f ≡ None → intra_of list log2 e ≡ None
planes_end list log2 mode flags e d f h i j =
    intra_open list log2 e ∙ then_some (mode_read list e) (mode, d) (mode_then log2) h ∙ then_some (flags_read d) (flags, f) (flags_then log2 mode) i ∙ then_none (planes_read log2 mode flags f) (planes_then mode) j

pub intra_all : (list : List ℕ) (log2 mode : ℕ) (flags : Flags) (planes : List (List ℤ)) (e d f g : Engine) → mode_read list e ≡ Some (mode, d) → flags_read d ≡ Some (flags, f) → planes_read log2 mode flags f ≡ Some (planes, g)
    → intra_of list log2 e ≡ Some (Levels mode planes, g)
intra_all list log2 mode flags planes e d f g h i j =
    intra_open list log2 e ∙ then_some (mode_read list e) (mode, d) (mode_then log2) h ∙ then_some (flags_read d) (flags, f) (flags_then log2 mode) i ∙ then_some (planes_read log2 mode flags f) (planes, g) (planes_then mode) j

-- ---- the unit of the definitions

joined_planes : (log2 mode : ℕ) (flags : Flags) (e : Engine)
    → and_then (component_read log2 mode 0 flags.luma e) (λ first. and_then (component_read log2 mode 1 flags.cb first.1) (λ second. and_then (component_read log2 mode 2 flags.cr second.1) (λ third. Some (Levels mode (first.0 ∷ second.0 ∷ third.0 ∷ []), third.1))))
    ≡ and_then (planes_read log2 mode flags e) (planes_then mode)
joined_planes log2 mode flags e = go (component_read log2 mode 0 flags.luma e) ∙ ap (λ (o : Option (List (List ℤ) × Engine)). and_then o (planes_then mode)) (sym (planes_open log2 mode flags e))
  where
    third : (first second : List ℤ) (o : Option (List ℤ × Engine)) → and_then o (λ third. Some (Levels mode (first ∷ second ∷ third.0 ∷ []), third.1)) ≡ and_then (and_then o (third_then first second)) (planes_then mode)
    third first second None = refl
    third first second (Some (levels, d)) = refl

    second : (first : List ℤ) (o : Option (List ℤ × Engine)) → and_then o (λ second. and_then (component_read log2 mode 2 flags.cr second.1) (λ third. Some (Levels mode (first ∷ second.0 ∷ third.0 ∷ []), third.1))) ≡ and_then (and_then o (second_then log2 mode flags first)) (planes_then mode)
    second first None = refl
    second first (Some (levels, d)) = third first levels (component_read log2 mode 2 flags.cr d)

    go : (o : Option (List ℤ × Engine)) → and_then o (λ first. and_then (component_read log2 mode 1 flags.cb first.1) (λ second. and_then (component_read log2 mode 2 flags.cr second.1) (λ third. Some (Levels mode (first.0 ∷ second.0 ∷ third.0 ∷ []), third.1)))) ≡ and_then (and_then o (first_then log2 mode flags)) (planes_then mode)
    go None = refl
    go (Some (levels, d)) = second levels (component_read log2 mode 1 flags.cb d)

abbrev all_of : ℕ → ℕ → Flags × Engine → Option (Content × Engine)
all_of log2 mode found = and_then (component_read log2 mode 0 found.0.luma found.1) (λ first. and_then (component_read log2 mode 1 found.0.cb first.1) (λ second. and_then (component_read log2 mode 2 found.0.cr second.1) (λ third. Some (Levels mode (first.0 ∷ second.0 ∷ third.0 ∷ []), third.1))))

abbrev luma_all : ℕ → ℕ → Bool → Bool → Bool × Engine → Option (Content × Engine)
luma_all log2 mode cb cr found = all_of log2 mode (record { cb = cb; cr = cr; luma = found.0 }, found.1)

abbrev cr_all : ℕ → ℕ → Bool → Bool × Engine → Option (Content × Engine)
cr_all log2 mode cb found = and_then (context_read 11 found.1) (luma_all log2 mode cb found.0)

abbrev cb_all : ℕ → ℕ → Bool × Engine → Option (Content × Engine)
cb_all log2 mode found = and_then (context_read 12 found.1) (cr_all log2 mode found.0)

abbrev flags_left : ℕ → ℕ → Engine → Option (Content × Engine)
flags_left log2 mode e = and_then (context_read 12 e) (cb_all log2 mode)

abbrev chroma_all : ℕ → ℕ → Bool × Engine → Option (Content × Engine)
chroma_all log2 mode found = (if beq found.0 false then flags_left log2 mode else refuse) found.1

joined_flags : (log2 mode : ℕ) (e : Engine) → and_then (context_read 10 e) (chroma_all log2 mode) ≡ and_then (flags_read e) (flags_then log2 mode)
joined_flags log2 mode e = chroma (context_read 10 e) ∙ ap (λ (o : Option (Flags × Engine)). and_then o (flags_then log2 mode)) (sym (flags_open e))
  where
    luma : (cb cr : Bool) (o : Option (Bool × Engine)) → and_then o (luma_all log2 mode cb cr) ≡ and_then (and_then o (luma_then cb cr)) (flags_then log2 mode)
    luma cb cr None = refl
    luma cb cr (Some (b, d)) = joined_planes log2 mode (record { cb = cb; cr = cr; luma = b }) d

    cr_of : (cb : Bool) (o : Option (Bool × Engine)) → and_then o (cr_all log2 mode cb) ≡ and_then (and_then o (cr_then cb)) (flags_then log2 mode)
    cr_of cb None = refl
    cr_of cb (Some (b, d)) = luma cb b (context_read 11 d)

    cb_of : (o : Option (Bool × Engine)) → and_then o (cb_all log2 mode) ≡ and_then (and_then o cb_then) (flags_then log2 mode)
    cb_of None = refl
    cb_of (Some (b, d)) = cr_of b (context_read 12 d)

    chroma : (o : Option (Bool × Engine)) → and_then o (chroma_all log2 mode) ≡ and_then (and_then o chroma_then) (flags_then log2 mode)
    chroma None = refl
    chroma (Some (true, d)) = refl
    chroma (Some (false, d)) = cb_of (context_read 12 d)

-- what is read of an intra unit, by the candidates that the units before give
pub intra_is : (before : List Moving) (x y log2 : ℕ) (e : Engine) → intra_read before (block_at x y log2) e ≡ intra_of (candidates_at (leaves before) x y) log2 e
intra_is before x y log2 e = go (mode_read (candidates_at (leaves before) x y) e) ∙ sym (intra_open (candidates_at (leaves before) x y) log2 e)
  where
    go : (o : Option (ℕ × Engine)) → and_then o (λ mode. and_then (context_read 10 mode.1) (chroma_all log2 mode.0)) ≡ and_then o (mode_then log2)
    go None = refl
    go (Some (mode, d)) = joined_flags log2 mode d

pub as_unit : (result : Option ℕ) (first second third : List ℤ) (list : List ℕ) (log2 : ℕ) (e d : Engine) → GivesIntra result first second third (intra_of list log2 e) d
    → (before : List Moving) (block : CodingBlock) → block.log2 ≡ log2 → list ≡ candidates_at (leaves before) block.x block.y → GivesIntra result first second third (intra_read before block e) d
as_unit result first second third list log2 e d given before block same is =
    subst (λ (r : Option (Content × Engine)). GivesIntra result first second third r d)
    (ap (λ (n : ℕ). intra_of list n e) (sym same) ∙ (ap (λ (l : List ℕ). intra_of l block.log2 e) is ∙ sym (intra_is before block.x block.y block.log2 e))) given
