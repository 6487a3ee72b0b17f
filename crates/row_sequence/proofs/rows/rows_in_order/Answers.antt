use Rattle.std.proofs.Common.{◌≡◌, refl, ℕ, ◌+◌, ◌*◌, map, ap, ◌∙◌, subst, arith}
use Rattle.h265_model.specs.Plain.{ctus}
use Rattle.row_sequence.specs.Sequence.{CtuItems, handed_of, code_of}
use Rattle.row_sequence.proofs.Sequences.{first_handed, row_more}
use Rattle.row_sequence.proofs.rows.rows_in_order.Goals as goal

pub loop-row-init : goal.loop-row-init
loop-row-init g c =
    let none : 0 ≡ 0 * ctus c.args.size.w = omega arith in
    record {
      size = refl;
      items = refl;
      next = subst (λ (k : ℕ). g.W.UnitWriter.is_at c.args.writer.now k) none c.requires.first;
      handed = λ two. c.start-handed.ensures ∙ first_handed c.args.kind c.args.size (g.W.UnitWriter.items c.args.writer.now);
      rows = ap (map (λ row. row.items)) c.in_ok-rows.ensures.items;
    }

pub loop-row-preserved : goal.loop-row-preserved
loop-row-preserved g c = record {
  size = c.code_row.ensures.size ∙ c.loop-row.invariant.size;
  items = c.code_row.ensures.items ∙ c.loop-row.invariant.items;
  next = c.in_ok-coded.ensures.next;
  handed = λ two. c.in_ok-coded.ensures.second two ∙ ap (λ (i : CtuItems). handed_of c.args.kind c.args.size i (c.loop-row.row + 1)) c.loop-row.invariant.items;
  rows = row_more (λ row. row.items) (code_of c.args.ending c.args.kind c.args.size (g.W.UnitWriter.items c.args.writer.now)) c.loop-row.rows.items c.push.new.self.items c.in_ok-coded.coded.bytes c.loop-row.row
      c.in_ok-push.ensures.items c.loop-row.invariant.rows
      (c.in_ok-coded.ensures.bytes ∙ ap (λ (i : CtuItems). code_of c.args.ending c.args.kind c.args.size i c.loop-row.row) c.loop-row.invariant.items);
}
