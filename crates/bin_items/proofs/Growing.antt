-- Growth in steps.
use Rattle.std.proofs.Common.{◌≡◌, refl, sym, ◌∙◌, ap, subst, ℕ, List, [], ◌∷◌, ◌++◌, append_assoc, Result, Ok, Err, ◌<◌, length, arith}
use Rattle.std.proofs.lemmas.List.{append-nil}
use Rattle.std.proofs.lemmas.Result.{err_from_is_err_and}
use Rattle.std.specs.Result.{IsErrAnd}
use Rattle.h265_model.specs.declared.Item.{Item}
use Rattle.h265_model.specs.declared.Item.TheVariants as items
use Rattle.h265_model.specs.declared.memory.NoMemory.{NoMemory}
use Rattle.h265_model.specs.Code.{Phase, Filled, phase_after}
use Rattle.bin_items.specs.Growth.{Meaning, Grew, Kept, TookAllBut, TookFront, Takes, Writes, IsOpen, phase_then, sample_items}

-- ---- whole lists

pub kept_same : (meaning : Meaning) → Kept meaning meaning
kept_same meaning = record { from = λ front contexts h. h }

pub grew_none : (before after : Meaning) → Kept before after → Grew [] before after
grew_none before after k = record { from = λ front contexts h. subst (λ l. after l contexts) (sym (append-nil front)) (k.from front contexts h) }

pub grew_same : (meaning : Meaning) → Grew [] meaning meaning
grew_same meaning = grew_none meaning meaning (kept_same meaning)

pub grew_then : (a b : List Item) (before between after : Meaning) → Grew a before between → Grew b between after → Grew (a ++ b) before after
grew_then a b before between after g h = record {
  from = λ front contexts p. subst (λ l. after l contexts) (append_assoc front a b) (h.from (front ++ a) contexts (g.from front contexts p));
}

pub grew_as : (a b : List Item) (before after : Meaning) → a ≡ b → Grew a before after → Grew b before after
grew_as a b before after e g = subst (λ l. Grew l before after) e g

-- ---- of a list, what is left to take

pub nothing_taken : (list : List Item) (meaning : Meaning) → TookAllBut list list meaning meaning
nothing_taken list meaning = record { taken = []; whole = refl; grew = grew_same meaning }

pub took_more : (list a rest : List Item) (before between after : Meaning) →
    TookAllBut (a ++ rest) list before between → Grew a between after → TookAllBut rest list before after
took_more list a rest before between after t g = record {
  taken = t.taken ++ a;
  whole = t.whole ∙ sym (append_assoc t.taken a rest);
  grew = grew_then t.taken a before between after t.grew g;
}

pub took_one_more : (list : List Item) (item : Item) (rest : List Item) (before between after : Meaning) →
    TookAllBut (item ∷ rest) list before between → Grew (item ∷ []) between after → TookAllBut rest list before after
took_one_more list item rest before between after t g = took_more list (item ∷ []) rest before between after t g

pub took_none : (list rest : List Item) (before between after : Meaning) →
    TookAllBut rest list before between → Kept between after → TookAllBut rest list before after
took_none list rest before between after t k = took_more list [] rest before between after t (grew_none between after k)

pub took_as : (list rest other : List Item) (before after : Meaning) → rest ≡ other → TookAllBut rest list before after → TookAllBut other list before after
took_as list rest other before after e t = subst (λ l. TookAllBut l list before after) e t

pub took_all : (list : List Item) (before after : Meaning) → TookAllBut [] list before after → Grew list before after
took_all list before after t = grew_as t.taken list before after (sym (t.whole ∙ append-nil t.taken)) t.grew

pub took_front : (list rest : List Item) (before after : Meaning) → TookAllBut rest list before after → TookFront list before after
took_front list rest before after t = record { rest = rest; took = t }

-- a call stopped in mid-list
pub stopped : (list a rest : List Item) (before between after : Meaning) →
    TookAllBut (a ++ rest) list before between → TookFront a between after → TookFront list before after
stopped list a rest before between after t f = record {
  rest = f.rest ++ rest;
  took = took_more list f.took.taken (f.rest ++ rest) before between after (took_as list (a ++ rest) (f.took.taken ++ (f.rest ++ rest)) before between
      (ap (λ l. l ++ rest) f.took.whole ∙ append_assoc f.took.taken f.rest rest) t) f.took.grew;
}

-- ---- calls one after another

pub front_kept : (list : List Item) (before after : Meaning) → Kept before after → TookFront list before after
front_kept list before after k = took_front list list before after (took_none list list before before after (nothing_taken list before) k)

pub front_first : (a b : List Item) (before after : Meaning) → TookFront a before after → TookFront (a ++ b) before after
front_first a b before after f = stopped (a ++ b) a b before before after (nothing_taken (a ++ b) before) f

pub front_then : (a b : List Item) (before between after : Meaning) → Grew a before between → TookFront b between after → TookFront (a ++ b) before after
front_then a b before between after g f =
    stopped (a ++ b) b [] before between after
    (took_as (a ++ b) b (b ++ []) before between (sym (append-nil b)) (took_more (a ++ b) a b before before between (nothing_taken (a ++ b) before) g)) f

pub front_as : (a b : List Item) (before after : Meaning) → a ≡ b → TookFront a before after → TookFront b before after
front_as a b before after e f = subst (λ l. TookFront l before after) e f

pub writes_took : (list : List Item) (before after : Meaning) (result : Result (Unit {0}) NoMemory) → Takes list before after result → Writes list before after result
writes_took list before after (Ok done) t = t
writes_took list before after (Err refused) t = front_kept list before after t

pub writes_then : (a b : List Item) (before between after : Meaning) (result : Result (Unit {0}) NoMemory) →
    Grew a before between → Writes b between after result → Writes (a ++ b) before after result
writes_then a b before between after (Ok done) g w = grew_then a b before between after g w
writes_then a b before between after (Err refused) g w = front_then a b before between after g w

pub writes_first : (a b : List Item) (before after : Meaning) (refused : NoMemory) → Writes a before after (Err refused) → Writes (a ++ b) before after (Err refused)
writes_first a b before after refused w = front_first a b before after w

pub writes_as : (a b : List Item) (before after : Meaning) (result : Result (Unit {0}) NoMemory) → a ≡ b → Writes a before after result → Writes b before after result
writes_as a b before after result e w = subst (λ l. Writes l before after result) e w

-- where `?` returns early
pub writes_at_err : (list : List Item) (before after : Meaning) (Q : NoMemory → Type 0) (result : Result (Unit {0}) NoMemory) →
    IsErrAnd result Q → TookFront list before after → Writes list before after result
writes_at_err list before after Q result e t = let p = err_from_is_err_and result e in rw p.1 t

-- ---- phases

pub open_as : (phase other : Phase) → phase ≡ other → IsOpen other → IsOpen phase
open_as phase other e h = subst IsOpen (sym e) h

pub phase_then-append : (phase : Phase) (a b : List Item) → phase_then phase (a ++ b) ≡ phase_then (phase_then phase a) b
phase_then-append phase [] b = refl
phase_then-append phase (items.Bin x ∷ a) b = phase_then-append (phase_after x.place x.value) a b
phase_then-append phase (items.Sample x ∷ a) b = phase_then-append Filled a b

after_samples : (phase : Phase) (samples : List ℕ) → phase ≡ Filled → phase_then phase (sample_items samples) ≡ Filled
after_samples phase [] e = e
after_samples phase (x ∷ samples) e = after_samples Filled samples refl

pub phase_then-samples : (phase : Phase) (list : List Item) (samples : List ℕ) → 0 < length samples → phase_then phase (list ++ sample_items samples) ≡ Filled
phase_then-samples phase list [] h = absurd (omega arith)
phase_then-samples phase list (x ∷ samples) h = phase_then-append phase list (sample_items (x ∷ samples)) ∙ after_samples Filled samples refl

-- ---- the same with one item in front

pub grew_next : (item : Item) (b : List Item) (before between after : Meaning) → Grew (item ∷ []) before between → Grew b between after → Grew (item ∷ b) before after
grew_next item b before between after g h = grew_then (item ∷ []) b before between after g h

pub front_next : (item : Item) (b : List Item) (before between after : Meaning) → Grew (item ∷ []) before between → TookFront b between after → TookFront (item ∷ b) before after
front_next item b before between after g f = front_then (item ∷ []) b before between after g f

pub writes_next : (item : Item) (b : List Item) (before between after : Meaning) (result : Result (Unit {0}) NoMemory) →
    Grew (item ∷ []) before between → Writes b between after result → Writes (item ∷ b) before after result
writes_next item b before between after result g w = writes_then (item ∷ []) b before between after result g w

-- for `search` in callers
pub ruleset steps = (open_as, grew_then, grew_next, front_then, front_next, front_first, front_kept, writes_then, writes_next, writes_took, writes_at_err)
