use Rattle.std.proofs.Common.{◌≡◌, ℕ, ◌+◌, ◌*◌, ◌/◌, ◌≤◌, List, ap, sym, ◌∙◌, subst, arith}
use Rattle.h265_model.specs.Plain.{ctus}
use Rattle.h265_model.specs.Contexts.{row_start}
use Rattle.cabac_bytes.specs.State.{stands_for}
use Rattle.row_sequence.specs.Sequence.{CtuItems, ends_of, flagged, handed_of, contexts_of}
use Rattle.row_sequence.proofs.Sequences.{coded, half_stands, whole_stands, next_handed}
use Rattle.row_sequence.proofs.rows.code_row.Goals as goal

pub returns-clause-bytes : goal.returns-clause-bytes
returns-clause-bytes g c =
    let items : CtuItems = g.W.UnitWriter.items c.args.writer.now in
    let wide : (c.w.result + 31) / 32 ≡ ctus c.args.size.w = ap (λ (k : ℕ). (k + 31) / 32) c.w.ensures.value in
    let start : c.first_of.result ≡ contexts_of c.args.kind c.args.size items c.args.row =
    c.first_of.ensures (handed_of c.args.kind c.args.size items c.args.row) (λ two. c.requires.handed (subst (λ (k : ℕ). 2 ≤ k) wide two))
    ∙ ap (λ (k : ℕ). row_start c.args.kind k c.args.row (handed_of c.args.kind c.args.size items c.args.row)) wide in
    let half = half_stands c.args.ending c.args.size items c.args.row c.first_few-few.result c.new-coder.result c.write_units.new.coder c.first_of.result c.new-coder.ensures.stands_for c.in_ok-write_units.ensures.written in
    coded c.args.ending c.args.kind c.args.size items c.args.row c.first_of.result c.in_ok-bytes.bytes.items start
    (c.in_ok-bytes.ensures items c.first_of.result
    (whole_stands c.args.ending c.args.size items (g.W.UnitWriter.items c.write_units.new.writer) c.args.row c.first_few-few.result ((c.w.result + 31) / 32) c.write_units.new.coder c.write_units-2.new.coder c.first_of.result
    c.write_units.ensures.items wide half c.in_ok-write_units-2.ensures.written))

pub returns-clause-second : goal.returns-clause-second
returns-clause-second g c = λ two.
    let items : CtuItems = g.W.UnitWriter.items c.args.writer.now in
    let wide : (c.w.result + 31) / 32 ≡ ctus c.args.size.w = ap (λ (k : ℕ). (k + 31) / 32) c.w.ensures.value in
    let start : c.first_of.result ≡ contexts_of c.args.kind c.args.size items c.args.row =
    c.first_of.ensures (handed_of c.args.kind c.args.size items c.args.row) (λ two. c.requires.handed (subst (λ (k : ℕ). 2 ≤ k) wide two))
    ∙ ap (λ (k : ℕ). row_start c.args.kind k c.args.row (handed_of c.args.kind c.args.size items c.args.row)) wide in
    let half = half_stands c.args.ending c.args.size items c.args.row c.first_few-few.result c.new-coder.result c.write_units.new.coder c.first_of.result c.new-coder.ensures.stands_for c.in_ok-write_units.ensures.written in
    next_handed c.args.ending c.args.kind c.args.size items c.args.row c.first_few-few.result c.write_units.new.coder c.contexts-second.result
    (c.first_few-few.ensures.two (subst (λ (k : ℕ). 2 ≤ k) (sym wide) two))
    (subst (λ (f : List ℕ). stands_for c.write_units.new.coder (flagged (ends_of c.args.ending c.args.size) c.args.size items c.args.row c.first_few-few.result) f) start half) c.contexts-second.ensures
