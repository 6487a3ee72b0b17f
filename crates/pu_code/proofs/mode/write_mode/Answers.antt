use Rattle.std.proofs.Common.{sym, ◌∙◌, ap, get_or}
use Rattle.bin_items.proofs.Growing.{writes_as}
use Rattle.pu_code.proofs.ModeLaws.{first_is, second_is, third_is, other_is}
use Rattle.pu_code.proofs.mode.write_mode.Goals as goal

pub returns-then-mode-a-clause-taken : goal.returns-then-mode-a-clause-taken
returns-then-mode-a-clause-taken g c =
    writes_as _ _ _ _ _ (sym (first_is c.args.mode c.args.candidates.now.items (c.if-mode-a.true ∙ ap (λ l. get_or l 0 0) c.deref.ensures.0))) c.write_index.ensures.taken

pub returns-then-mode-b-clause-taken : goal.returns-then-mode-b-clause-taken
returns-then-mode-b-clause-taken g c =
    writes_as _ _ _ _ _ (sym (second_is c.args.mode c.args.candidates.now.items (λ e. c.if-mode-a.false (e ∙ sym (ap (λ l. get_or l 0 0) c.deref.ensures.0)))
    (c.if-mode-b.true ∙ ap (λ l. get_or l 1 0) c.deref-2.ensures.0))) c.write_index-then-mode-b.ensures.taken

pub returns-then-mode-c-clause-taken : goal.returns-then-mode-c-clause-taken
returns-then-mode-c-clause-taken g c =
    writes_as _ _ _ _ _ (sym (third_is c.args.mode c.args.candidates.now.items (λ e. c.if-mode-a.false (e ∙ sym (ap (λ l. get_or l 0 0) c.deref.ensures.0)))
    (λ e. c.if-mode-b.false (e ∙ sym (ap (λ l. get_or l 1 0) c.deref-2.ensures.0))) (c.if-mode-c.true ∙ ap (λ l. get_or l 2 0) c.deref-3.ensures.0))) c.write_index-then-mode-c.ensures.taken

pub returns-else-mode-c-clause-taken : goal.returns-else-mode-c-clause-taken
returns-else-mode-c-clause-taken g c =
    writes_as _ _ _ _ _ (sym (other_is c.args.mode c.args.candidates.now.items _ _ _ c.remainder.result c.requires.candidates (ap (λ l. get_or l 0 0) c.deref.ensures.0) (ap (λ l. get_or l 1 0) c.deref-2.ensures.0)
    (ap (λ l. get_or l 2 0) c.deref-3.ensures.0) c.if-mode-a.false c.if-mode-b.false c.if-mode-c.false c.remainder.ensures.value)) c.write_remainder.ensures.taken
