use Rattle.std.proofs.Common.{rules, arith, refl, ◌≡◌, ◌<◌, ◌≤◌, ◌+◌, ◌∷◌, length, List, Some, sym, ap, ◌∙◌, subst, ℕ}
use Rattle.atomic_table.specs.Table.{rest}
use Rattle.row_board.specs.declared.piece.Piece.TheVariants.{Nothing}
use Rattle.row_board.specs.declared.knowledge.Stage.TheVariants.{Published}
use Rattle.row_board.specs.declared.knowledge.Knowledge.{Knowledge}
use Rattle.row_board.specs.Rows.{job_fits, claim_of, change, at_stage, wanted}
use Rattle.row_board.specs.declared.knowledge.Claimed.{Claimed}
use Rattle.row_board.proofs.Claims.{Inside, same_claim, inside-claim, inside-change}
use Rattle.row_board.proofs.Keeps.{picks, publishes}
use Rattle.row_board.proofs.board.Board.publish.Goals as goal

pub load-requires : goal.load-requires
load-requires g c =
    let table : c.seat.inside.seat.table_id ≡ c.self.inside.table.shared.table_id = search rules in
    let knows = ap (λ p. p.knows) c.seat.view_is in
    let e = ap (λ z. z.slots) table in
    let f = c.self.invariant.0 in
    let at : c.number-slot.result ≡ c.args.row.now = c.number-slot.ensures in
    let r = c.number-slot.result in
    let mine : claim_of r c.seat.inside.seat.me.0.rows ≡ Some c.requires.mine.0 = ap (λ v. claim_of r v.rows) knows ∙ (ap (λ q. claim_of q c.args.seat.now.knows.rows) at ∙ c.requires.mine.1) in
    let below = inside-claim c.seat.inside.seat.table_id.slots r c.requires.mine.0 c.seat.inside.seat.me.0.rows mine c.seat.invariant.inside in
    let within : r + 1 < c.self.inside.table.shared.table_id.words = omega arith in (
      table,
      within,
      picks (job_fits g.J.RowJob.plan g.J.RowJob.begun) _ _ r _ c.requires.mine.0
          record { live = c.seat.invariant.live; mine = mine; open_yet = c.requires.mine.2 }
          c.seat.invariant.idle,
    )

pub exchange-requires : goal.exchange-requires
exchange-requires g c =
    let got = c.load.ensures.2 c.number-slot.result refl in
    let now = ap (λ m. m.1) got in
    (search rules, (_, now ∙ ap (λ cs. (c.number-slot.result, Nothing) ∷ rest cs) (sym now)))

pub store-requires : goal.store-requires
store-requires g c =
    let table : c.seat.inside.seat.table_id ≡ c.self.inside.table.shared.table_id = search rules in
    let is = ap (λ p. p.knows) c.seat.view_is in
    let got = c.load.ensures.2 c.number-slot.result refl in
    let now = c.exchange.ensures.3 in
    let knows = ap (λ m. m.0) now ∙ ap (λ m. m.0) got in
    let e = ap (λ z. z.slots) table in
    let f = c.self.invariant.0 in
    let at : c.number-slot.result ≡ c.args.row.now = c.number-slot.ensures in
    let r = c.number-slot.result in
    let mine : claim_of r c.seat.inside.seat.me.0.rows ≡ Some c.requires.mine.0 = ap (λ v. claim_of r v.rows) is ∙ (ap (λ q. claim_of q c.args.seat.now.knows.rows) at ∙ c.requires.mine.1) in
    let below = inside-claim c.seat.inside.seat.table_id.slots r c.requires.mine.0 c.seat.inside.seat.me.0.rows mine c.seat.invariant.inside in
    let within : r + 1 < c.self.inside.table.shared.table_id.words = omega arith in (
      search rules,
      within,
      publishes (job_fits g.J.RowJob.plan g.J.RowJob.begun) _ _ r _ c.requires.mine.0 c.args.contexts _
          record {
            live = subst (λ (n : ℕ). 0 < n) (sym (ap (λ v. v.weight) knows)) c.seat.invariant.live;
            mine = ap (λ v. claim_of r v.rows) knows ∙ mine;
            open_yet = c.requires.mine.2;
          }
          (ap (λ v. v.picked) knows)
          (ap (λ m. m.1) now)
          (subst (λ (n : ℕ). 2 ≤ n) (sym (ap (λ v. v.width) knows ∙ ap (λ v. v.width) is)) c.requires.wide)
          (c.requires.contexts ∙ ap (wanted c.args.seat.now.knows.want) (sym at) ∙ sym (ap (λ v. wanted v.want r) knows ∙ ap (λ v. wanted v.want r) is))
          (λ p. let took = c.requires.synced (let e = at in omega arith) in ap (λ (x : Claimed). x.synced) (same_claim c.requires.mine.0 took.0 (sym c.requires.mine.1 ∙ took.1)) ∙ took.2),
    )

pub wake_one-requires : goal.wake_one-requires
wake_one-requires g c =
    let table : c.seat.inside.seat.table_id ≡ c.self.inside.table.shared.table_id = search rules in
    let knows = ap (λ p. p.knows) c.seat.view_is in
    let e = ap (λ z. z.slots) table in
    let f = c.self.invariant.0 in
    let at : c.number-slot.result ≡ c.args.row.now = c.number-slot.ensures in
    let r = c.number-slot.result in
    let mine : claim_of r c.seat.inside.seat.me.0.rows ≡ Some c.requires.mine.0 = ap (λ v. claim_of r v.rows) knows ∙ (ap (λ q. claim_of q c.args.seat.now.knows.rows) at ∙ c.requires.mine.1) in
    let below = inside-claim c.seat.inside.seat.table_id.slots r c.requires.mine.0 c.seat.inside.seat.me.0.rows mine c.seat.invariant.inside in
    omega arith

pub invariant_of-seat : goal.invariant_of-seat
invariant_of-seat g c =
    let got = c.load.ensures.2 c.number-slot.result refl in
    let now = c.exchange.ensures.3 in
    let knows = ap (λ m. m.0) now ∙ ap (λ m. m.0) got in
    let did = c.store.ensures.2 c.number-slot.result refl in
    let same = c.store.ensures.0 ∙ (c.exchange.ensures.0 ∙ c.load.ensures.0) in record {
      live = subst (λ (n : ℕ). 0 < n) (sym (ap (λ m. m.0.weight) did ∙ ap (λ v. v.weight) knows)) c.seat.invariant.live;
      idle = ap (λ m. m.0.picked) did;
      sized = ap (λ m. length m.0.want) did ∙ (ap (λ v. length v.want) knows ∙ (c.seat.invariant.sized ∙ sym (ap (λ z. z.slots) same)));
      inside = subst (λ (x : ℕ × List Claimed). Inside x.0 x.1) (λ i. (sym (ap (λ z. z.slots) same) i, sym (ap (λ m. m.0.rows) did ∙ ap (λ v. change c.number-slot.result (at_stage Published) v.rows) knows) i))
          (inside-change (at_stage Published) (λ _. refl) c.seat.inside.seat.table_id.slots c.number-slot.result c.seat.inside.seat.me.0.rows c.seat.invariant.inside);
      bare = ap (λ m. m.1) did ∙ (ap (λ m. rest m.1) now ∙ (ap (λ m. rest m.1) got ∙ c.seat.invariant.bare));
    }

pub returns-clause-shown : goal.returns-clause-shown
returns-clause-shown g c =
    let r = c.number-slot.result in
    let at : c.number-slot.result ≡ c.args.row.now = c.number-slot.ensures in
    let is = ap (λ p. p.knows) c.seat.view_is in
    let got = c.load.ensures.2 r refl in
    let now = c.exchange.ensures.3 in
    let knows = ap (λ m. m.0) now ∙ ap (λ m. m.0) got in
    let did = c.store.ensures.2 r refl in
    let v : Knowledge = c.seat.inside.seat.me.0 in
    let idle : record v { rows = change r (at_stage Published) v.rows; picked = 0 } ≡ record v { rows = change r (at_stage Published) v.rows } = λ i. record v { rows = change r (at_stage Published) v.rows; picked = sym c.seat.invariant.idle i } in
    ap (λ m. m.0) did ∙ (ap (λ (u : Knowledge). record u { rows = change r (at_stage Published) u.rows; picked = 0 }) knows ∙ (idle ∙ (ap (λ (u : Knowledge). record u { rows = change r (at_stage Published) u.rows }) is
    ∙ ap (λ (q : ℕ). record c.args.seat.now.knows { rows = change q (at_stage Published) c.args.seat.now.knows.rows }) at)))
