-- What a sink of bins and samples stands for, and how that grows.
use Rattle.std.specs.Prelude.{◌≡◌, ℕ, List, [], ◌∷◌, ◌++◌, map, Result, Ok, Err}
use Rattle.h265_model.specs.declared.Item.{Item}
use Rattle.h265_model.specs.declared.Item.TheVariants as items
use Rattle.h265_model.specs.declared.memory.NoMemory.{NoMemory}
use Rattle.h265_model.specs.Code.{Phase, Plain, Ended, Filled, phase_after}

-- the lists of items that a sink stands for, each from the contexts beside it
abbrev pub Meaning : Type 1
Meaning = List Item → List ℕ → Type 0

-- whatever list it stood for, it stands for that list followed by these items
pub record Grew (list : List Item) (before after : Meaning) : Type 0 where
  pub from : (front : List Item) (contexts : List ℕ) → before front contexts → after (front ++ list) contexts

-- whatever list it stood for, it stands for
pub record Kept (before after : Meaning) : Type 0 where
  pub from : (front : List Item) (contexts : List ℕ) → before front contexts → after front contexts

-- of this list it took all but the rest
pub record TookAllBut (rest list : List Item) (before after : Meaning) : Type 0 where
  pub taken : List Item
  pub whole : list ≡ taken ++ rest
  pub grew : Grew taken before after

-- it took a front of this list
pub record TookFront (list : List Item) (before after : Meaning) : Type 0 where
  pub rest : List Item
  pub took : TookAllBut rest list before after

-- a call that takes all of the list or, for want of memory, nothing
abbrev pub Takes : List Item → Meaning → Meaning → Result (Unit {0}) NoMemory → Type 0
Takes list before after (Ok done) = Grew list before after
Takes list before after (Err refused) = Kept before after

-- a call that takes all of the list or, for want of memory, a front of it
abbrev pub Writes : List Item → Meaning → Meaning → Result (Unit {0}) NoMemory → Type 0
Writes list before after (Ok done) = Grew list before after
Writes list before after (Err refused) = TookFront list before after

-- samples as items
abbrev pub sample_items : List ℕ → List Item
sample_items samples = map (λ x. items.Sample x) samples

-- a bin may come
abbrev pub IsOpen : Phase → Type 0
IsOpen Plain = Unit {0}
IsOpen Filled = Unit {0}
IsOpen Ended = ⊥

-- the phase after a list
abbrev pub phase_then : Phase → List Item → Phase
phase_then phase [] = phase
phase_then phase (items.Bin b ∷ list) = phase_then (phase_after b.place b.value) list
phase_then phase (items.Sample x ∷ list) = phase_then Filled list
