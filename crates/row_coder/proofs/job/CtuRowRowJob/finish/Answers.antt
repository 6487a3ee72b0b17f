use Rattle.std.proofs.Common.{◌≡◌, ℕ, ◌+◌, ◌/◌, false, ap, sym, ◌∙◌, subst, refl}
use Rattle.std.specs.Prelude.{◌==◌, Result, Ok, Err, IfOk}
use Rattle.std.specs.Arc.{arc_value}
use Rattle.std.proofs.lemmas.Bool.{eq-eqb, ne_eqb}
use Rattle.h265_model.specs.Plain.{Size, ctus}
use Rattle.cabac_bytes.specs.State.{State, stands_for, phase_of}
use Rattle.px_plane.specs.Planes.{Planes}
use Rattle.row_coder.specs.Rows.{plan_of, leaves_of, IsCoded}
use Rattle.row_coder.proofs.RowSteps.{all_coded, open_phase, last_phase, row_ended, slice_ended}
use Rattle.row_coder.proofs.job.CtuRowRowJob.finish.Goals as goal
use Rattle.row_coder.proofs.job.CtuRowRowJob.finish.Goals.{then-not-is_last+in_ok-bin, else-not-is_last}

pub bin-requires-clause-not_ended : goal.bin-requires-clause-not_ended
unfolding plan_of
bin-requires-clause-not_ended c =
    let s = c.self.inside in
    let p : Planes = arc_value s.picture in
    let all = rw (← c.self.view_is) at c.requires.all in
    let so : IsCoded p s.kind s.number s.above.items (leaves_of s.plans.items) s.inherited s.grid s.coder (ctus p.size.w) =
    all_coded p s.kind s.number s.above.items (leaves_of s.plans.items) s.inherited s.grid s.coder s.coded c.self.invariant.under_way (all ∙ c.self.invariant.trees.many) c.self.invariant.narrow in
    let ch : (c.h.result + 31) / 32 ≡ ctus p.size.h = ap (λ (k : ℕ). ctus k) (c.h.ensures.value ∙ ap (λ (z : Size). z.h) (c.size.ensures.value ∙ ap (λ (q : Planes). q.size) c.deref.ensures)) in
    let more : (s.number + 1 == ctus p.size.h) ≡ false = ap (λ (k : ℕ). s.number + 1 == k) (sym ch) ∙ ne_eqb _ _ c.if-not-is_last.true in
    open_phase p s.kind s.number s.above.items (leaves_of s.plans.items) s.inherited s.grid s.coder (ctus p.size.w) c.self.invariant.wide c.self.invariant.number refl so more

pub finish-requires : goal.finish-requires
unfolding plan_of
finish-requires c =
    let s = c.self.inside in
    let p : Planes = arc_value s.picture in
    let all = rw (← c.self.view_is) at c.requires.all in
    let so : IsCoded p s.kind s.number s.above.items (leaves_of s.plans.items) s.inherited s.grid s.coder (ctus p.size.w) =
    all_coded p s.kind s.number s.above.items (leaves_of s.plans.items) s.inherited s.grid s.coder s.coded c.self.invariant.under_way (all ∙ c.self.invariant.trees.many) c.self.invariant.narrow in
    let ch : (c.h.result + 31) / 32 ≡ ctus p.size.h = ap (λ (k : ℕ). ctus k) (c.h.ensures.value ∙ ap (λ (z : Size). z.h) (c.size.ensures.value ∙ ap (λ (q : Planes). q.size) c.deref.ensures)) in
    elim c.if-not-is_last.branch [
      | then-not-is_last+in_ok-bin w ↦ ap (λ (k : State). phase_of k) w.coder-is ∙ w.in_ok-bin.ensures.phase
      | else-not-is_last w ↦ ap (λ (k : State). phase_of k) w.coder-is
          ∙ last_phase p s.kind s.number s.above.items (leaves_of s.plans.items) s.inherited s.grid s.coder (ctus p.size.w) refl so (ap (λ (k : ℕ). s.number + 1 == k) (sym ch) ∙ eq-eqb _ _ w.if-not-is_last.false)
    ]

-- what holds of an answer
if_ok : {A E : Type 0} (r : Result A E) (P Q : A → Type 0) → ((a : A) → P a → Q a) → IfOk r P → IfOk r Q
if_ok (Ok a) P Q f h = f a h
if_ok (Err e) P Q f h = tt

pub returns : goal.returns
unfolding plan_of
returns c =
    let s = c.self.inside in
    let p : Planes = arc_value s.picture in
    let all = rw (← c.self.view_is) at c.requires.all in
    let so : IsCoded p s.kind s.number s.above.items (leaves_of s.plans.items) s.inherited s.grid s.coder (ctus p.size.w) =
    all_coded p s.kind s.number s.above.items (leaves_of s.plans.items) s.inherited s.grid s.coder s.coded c.self.invariant.under_way (all ∙ c.self.invariant.trees.many) c.self.invariant.narrow in
    let ch : (c.h.result + 31) / 32 ≡ ctus p.size.h = ap (λ (k : ℕ). ctus k) (c.h.ensures.value ∙ ap (λ (z : Size). z.h) (c.size.ensures.value ∙ ap (λ (q : Planes). q.size) c.deref.ensures)) in
    rw (← c.self.view_is)
    (if_ok c.finish.result _ _
    (λ bytes known. elim c.if-not-is_last.branch [
      | then-not-is_last+in_ok-bin w ↦ row_ended p s.kind s.number s.above.items (leaves_of s.plans.items) s.inherited s.grid s.coder w.bin.new.self (ctus p.size.w) bytes.items refl so
          (ap (λ (k : ℕ). s.number + 1 == k) (sym ch) ∙ ne_eqb _ _ w.if-not-is_last.true) w.in_ok-bin.ensures.taken
          (λ list contexts from. known list contexts (subst (λ (k : State). stands_for k list contexts) (sym w.coder-is) from))
      | else-not-is_last w ↦ slice_ended p s.kind s.number s.above.items (leaves_of s.plans.items) s.inherited s.grid s.coder (ctus p.size.w) bytes.items refl so
          (ap (λ (k : ℕ). s.number + 1 == k) (sym ch) ∙ eq-eqb _ _ w.if-not-is_last.false)
          (λ list contexts from. known list contexts (subst (λ (k : State). stands_for k list contexts) (sym w.coder-is) from))
    ]) c.finish.ensures)
