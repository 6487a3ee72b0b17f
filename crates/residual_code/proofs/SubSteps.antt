-- What was written of the sub-blocks before the last one.
use Rattle.std.proofs.Common.{◌≡◌, refl, subst, ℕ, ◌+◌, ◌-◌, ◌<◌, ◌≤◌, Bool, List, ◌∷◌, arith}
use Rattle.std.specs.Prelude.{ℤ}
use Rattle.h265_model.specs.Residual as residual
use Rattle.h265_model.specs.Residual.{sub_items, sub_at, ended_at_zero, nonzero}
use Rattle.bin_items.specs.Growth.{Meaning, Grew, TookAllBut, TookFront}
use Rattle.bin_items.proofs.Growing.{nothing_taken, took_more, took_as, took_all, stopped}
use Rattle.residual_code.specs.Parts.{down, coded_at, sub_part}
use Rattle.scan_orders.specs.Marks.{AreMarks}
use Rattle.residual_code.proofs.SubLaws.{sub_more, subs_end}

-- of the sub-blocks before a number, those before another are left, where these flags came first
pub record Done (s : residual.Shape) (F : ℕ → List ℤ) (number left : ℕ) (flags : List Bool) (first ended : Bool) (marks : List Bool) (before now : Meaning) : Type 0 where
  pub later : List Bool
  pub are : AreMarks s left later marks
  pub taken : TookAllBut (sub_items s later ended (down F left)) (sub_items s flags first (down F number)) before now

pub done_none : (s : residual.Shape) (F : ℕ → List ℤ) (number : ℕ) (flags : List Bool) (first : Bool) (marks : List Bool) (meaning : Meaning) → AreMarks s number flags marks
    → Done s F number number flags first first marks meaning meaning
done_none s F number flags first marks meaning are = record { later = flags; are = are; taken = nothing_taken _ meaning }

pub done_more : (s : residual.Shape) (F : ℕ → List ℤ) (number left : ℕ) (flags : List Bool) (first ended after : Bool) (marks marks_after : List Bool) (before now next : Meaning) → 0 < left
    → after ≡ ended_at_zero ended (nonzero (F (left - 1)))
    → ((later : List Bool) → AreMarks s (left - 1 + 1) later marks → AreMarks s (left - 1) (coded_at (left - 1) (F (left - 1)) ∷ later) marks_after)
    → ((later : List Bool) → AreMarks s (left - 1 + 1) later marks → Grew (sub_part s (sub_at s (left - 1) later) ended (F (left - 1))) now next)
    → Done s F number left flags first ended marks before now → Done s F number (left - 1) flags first after marks_after before next
done_more s F number left flags first ended after marks marks_after before now next some e remark write d =
    let n : left ≡ left - 1 + 1 = omega arith in
    let are : AreMarks s (left - 1 + 1) d.later marks = subst (λ k. AreMarks s k d.later marks) n d.are in
    record {
      later = coded_at (left - 1) (F (left - 1)) ∷ d.later;
      are = remark d.later are;
      taken = took_more _ _ _ _ _ _ (took_as _ _ _ _ _ (sub_more s F d.later ended after left some e) d.taken) (write d.later are);
    }

pub done_stopped : (s : residual.Shape) (F : ℕ → List ℤ) (number left : ℕ) (flags : List Bool) (first ended : Bool) (marks : List Bool) (before now next : Meaning) → 0 < left
    → ((later : List Bool) → AreMarks s (left - 1 + 1) later marks → TookFront (sub_part s (sub_at s (left - 1) later) ended (F (left - 1))) now next)
    → Done s F number left flags first ended marks before now → TookFront (sub_items s flags first (down F number)) before next
done_stopped s F number left flags first ended marks before now next some write d =
    let n : left ≡ left - 1 + 1 = omega arith in
    let are : AreMarks s (left - 1 + 1) d.later marks = subst (λ k. AreMarks s k d.later marks) n d.are in
    stopped _ _ _ _ _ _ (took_as _ _ _ _ _ (sub_more s F d.later ended (ended_at_zero ended (nonzero (F (left - 1)))) left some refl) d.taken) (write d.later are)

pub done_all : (s : residual.Shape) (F : ℕ → List ℤ) (number left : ℕ) (flags : List Bool) (first ended : Bool) (marks : List Bool) (before now : Meaning) → left ≤ 0
    → Done s F number left flags first ended marks before now → Grew (sub_items s flags first (down F number)) before now
done_all s F number left flags first ended marks before now none d = took_all _ _ _ (took_as _ _ _ _ _ (subs_end s F d.later ended left none) d.taken)
