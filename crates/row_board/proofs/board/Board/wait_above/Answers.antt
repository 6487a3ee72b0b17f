use Rattle.std.proofs.Common.{rules, arith, ◌≡◌, Some, ap, ◌∙◌}
use Rattle.row_board.specs.Rows.{claim_of}
use Rattle.row_board.proofs.Claims.{inside-claim}
use Rattle.row_board.proofs.board.Board.wait_above.Goals as goal

pub park-requires : goal.park-requires
park-requires g c =
    let table : c.seat.inside.seat.table_id ≡ c.self.inside.table.shared.table_id = search rules in
    let knows = ap (λ p. p.knows) c.seat.view_is in
    let e = ap (λ z. z.slots) table in
    let f = c.self.invariant.0 in
    let at : c.number.result ≡ c.args.row.now = c.number.ensures in
    let r = c.number.result in
    let mine : claim_of r c.seat.inside.seat.me.0.rows ≡ Some c.requires.mine.0 = ap (λ v. claim_of r v.rows) knows ∙ (ap (λ q. claim_of q c.args.seat.now.knows.rows) at ∙ c.requires.mine.1) in
    let below = inside-claim c.seat.inside.seat.table_id.slots r c.requires.mine.0 c.seat.inside.seat.me.0.rows mine c.seat.invariant.inside in
    omega arith
