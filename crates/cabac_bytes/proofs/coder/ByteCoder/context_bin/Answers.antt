use Rattle.std.proofs.Common.{◌≡◌, refl, ◌∙◌, ap, ℕ, ◌/◌, ◌%◌, List, get_or, bit_and}
use Rattle.std.proofs.lemmas.Nat.{and_mask}
use Rattle.cabac_bytes.specs.State.{State}
use Rattle.cabac_bytes.proofs.Steps.{half_left, stepped}
use Rattle.cabac_bytes.proofs.coder.ByteCoder.context_bin.Goals as goal

pub share-low-requires-clause-least : goal.share-low-requires-clause-least
share-low-requires-clause-least c =
    let s = c.self.inside in
    let least = c.self.invariant.least (rw (← c.self.view_is) at c.requires.not_ended) in
    let quarter : bit_and (s.range / 64) 3 ≡ s.range / 64 % 4 = and_mask (s.range / 64) 2 in
    half_left c.get-state.result s.range c.lps-small.result c.get-state.ensures.below least c.self.invariant.most (rw quarter at c.lps-small.ensures.value)

pub returns-clause-ok : goal.returns-clause-ok
returns-clause-ok c =
    let old = c.args.self.now in
    let i = c.self-2.inside in
    let t : State = record { pending = i.pending; low = i.low; range = i.range; width = i.width; contexts = i.contexts } in
    let contexts : c.self.inside.contexts ≡ old.contexts = ap (λ (s : State). s.contexts) c.self.view_is in
    let range : c.self.inside.range ≡ old.range = ap (λ (s : State). s.range) c.self.view_is in
    let byte = c.get-state.ensures.value ∙ ap (λ (l : List ℕ). get_or l c.args.n 0) contexts in
    let bit : bit_and c.get-state.result 1 ≡ c.get-state.result % 2 = and_mask c.get-state.result 1 in
    let quarter : bit_and (c.self.inside.range / 64) 3 ≡ old.range / 64 % 4 = and_mask (c.self.inside.range / 64) 2 ∙ ap (λ (r : ℕ). r / 64 % 4) range in
    let low : c.renormalise.inside.low ≡ old.low = ap (λ (s : State). s.low) c.renormalise.view_is in
    (stepped old t c.args.n c.args.value _ c.lps-small.result c.share-low.result.0 c.share-low.result.1 c.step.new.self (rw (byte, quarter) at c.lps-small.ensures.value) (rw (bit, byte) refl)
    (rw range at c.share-low.ensures.low) (rw range at c.share-low.ensures.range) (rw (low, ← c.self-2.view_is) at c.in_ok-renormalise.ensures.ok) c.step.ensures)
