use Rattle.std.proofs.Common.{rules, arith, refl, ◌≡◌, ◌<◌, ◌+◌, length, List, Some, sym, ap, ◌∙◌, subst, ℕ}
use Rattle.row_board.specs.declared.knowledge.Stage.TheVariants.{Lost}
use Rattle.row_board.specs.Rows.{job_fits, claim_of, at_stage}
use Rattle.row_board.specs.declared.knowledge.Claimed.{Claimed}
use Rattle.row_board.proofs.Claims.{Inside, inside-claim, inside-change}
use Rattle.row_board.proofs.Keeps.{loses}
use Rattle.row_board.proofs.board.Board.lose.Goals as goal

pub store-requires : goal.store-requires
store-requires g c =
    let table : c.seat.inside.seat.table_id ≡ c.self.inside.table.shared.table_id = search rules in
    let knows = ap (λ p. p.knows) c.seat.view_is in
    let e = ap (λ z. z.slots) table in
    let f = c.self.invariant.0 in
    let is : c.number-slot.result ≡ c.args.row.now = c.number-slot.ensures in
    let r = c.number-slot.result in
    let mine : claim_of r c.seat.inside.seat.me.0.rows ≡ Some c.requires.mine.0 = ap (λ v. claim_of r v.rows) knows ∙ (ap (λ q. claim_of q c.args.seat.now.knows.rows) is ∙ c.requires.mine.1) in
    let below = inside-claim c.seat.inside.seat.table_id.slots r c.requires.mine.0 c.seat.inside.seat.me.0.rows mine c.seat.invariant.inside in
    let within : r + 1 < c.self.inside.table.shared.table_id.words = omega arith in (
      table,
      within,
      loses (job_fits g.J.RowJob.plan g.J.RowJob.begun) _ _ r _ c.requires.mine.0
          record { live = c.seat.invariant.live; mine = mine; open_yet = c.requires.mine.2 }
          c.seat.invariant.idle,
    )

pub wake_one-requires : goal.wake_one-requires
wake_one-requires g c =
    let table : c.seat.inside.seat.table_id ≡ c.self.inside.table.shared.table_id = search rules in
    let knows = ap (λ p. p.knows) c.seat.view_is in
    let e = ap (λ z. z.slots) table in
    let f = c.self.invariant.0 in
    let is : c.number-slot.result ≡ c.args.row.now = c.number-slot.ensures in
    let r = c.number-slot.result in
    let mine : claim_of r c.seat.inside.seat.me.0.rows ≡ Some c.requires.mine.0 = ap (λ v. claim_of r v.rows) knows ∙ (ap (λ q. claim_of q c.args.seat.now.knows.rows) is ∙ c.requires.mine.1) in
    let below = inside-claim c.seat.inside.seat.table_id.slots r c.requires.mine.0 c.seat.inside.seat.me.0.rows mine c.seat.invariant.inside in
    omega arith

pub invariant_of-seat : goal.invariant_of-seat
invariant_of-seat g c =
    let did = c.store.ensures.2 c.number-slot.result refl in record {
      live = subst (λ (n : ℕ). 0 < n) (sym (ap (λ m. m.0.weight) did)) c.seat.invariant.live;
      idle = ap (λ m. m.0.picked) did ∙ c.seat.invariant.idle;
      sized = ap (λ m. length m.0.want) did ∙ (c.seat.invariant.sized ∙ sym (ap (λ z. z.slots) c.store.ensures.0));
      inside = subst (λ (x : ℕ × List Claimed). Inside x.0 x.1) (λ i. (sym (ap (λ z. z.slots) c.store.ensures.0) i, sym (ap (λ m. m.0.rows) did) i))
          (inside-change (at_stage Lost) (λ _. refl) c.seat.inside.seat.table_id.slots c.number-slot.result c.seat.inside.seat.me.0.rows c.seat.invariant.inside);
      bare = ap (λ m. m.1) did ∙ c.seat.invariant.bare;
    }
