use Rattle.std.proofs.Common.{rules, arith, refl, ◌≡◌, ◌≢◌, Some, ◌⊎◌, ◌<◌, ◌-◌, ◌∷◌, List, length, sym, ap, ◌∙◌, subst, ⊎_elim, ℕ}
use mathlib.Core.Logic.{dite}
use native.Mathlib.Decide.{ℕ_discrete}
use Rattle.atomic_table.specs.Table.{rest}
use Rattle.row_board.specs.declared.piece.Piece.TheVariants.{Shown}
use Rattle.row_board.specs.Rows.{job_fits, claim_of, in_sync}
use Rattle.row_board.specs.declared.knowledge.Claimed.{Claimed}
use Rattle.row_board.proofs.Claims.{Inside, inside-claim, inside-change, claim-change-same}
use Rattle.row_board.proofs.Keeps.{syncs, lays_taken}
use Rattle.row_board.proofs.board.Board.try_sync.Goals as goal

pub compare_exchange-found-requires : goal.compare_exchange-found-requires
compare_exchange-found-requires g c =
    let table : c.seat.inside.seat.table_id ≡ c.self.inside.table.shared.table_id = search rules in
    let knows = ap (λ p. p.knows) c.seat.view_is in
    let e = ap (λ z. z.slots) table in
    let f = c.self.invariant.0 in
    let at : c.number-place.result ≡ c.args.row.now = c.number-place.ensures in
    let r = c.number-place.result in
    let mine : claim_of r c.seat.inside.seat.me.0.rows ≡ Some c.requires.mine.0 = ap (λ v. claim_of r v.rows) knows ∙ (ap (λ q. claim_of q c.args.seat.now.knows.rows) at ∙ c.requires.mine.1) in
    let under = inside-claim c.seat.inside.seat.table_id.slots r c.requires.mine.0 c.seat.inside.seat.me.0.rows mine c.seat.invariant.inside in
    let within : r < c.self.inside.table.shared.table_id.words = omega arith in (
      table,
      within,
      syncs (job_fits g.J.RowJob.plan g.J.RowJob.begun) _ _ r _ c.requires.mine.0
          c.seat.invariant.live
          mine
          (let b = c.requires.below in let e = at in omega arith)
          c.requires.mine.2,
    )

-- a word that is neither 0 nor 3 was 1
was_one : {A B : Type 0} (n : ℕ) → (n ≡ 1 → A) × (n ≢ 1 → B × ((n ≡ 0) ⊎ (n ≡ 3))) → n ≢ 0 → n ≢ 3 → A
was_one n told not_zero not_three = dite (ℕ_discrete n 1) told.0 (λ miss. absurd (⊎_elim not_zero not_three (told.1 miss).1))

pub exchange-piece-requires : goal.exchange-piece-requires
exchange-piece-requires g c =
    let took = was_one c.compare_exchange-found.result c.compare_exchange-found.ensures.2 c.if-found-eq0.false c.if-found-eq3.false in
    let now = ap (λ m. m.1) took.1 in
    (search rules, (_, now ∙ ap (λ cs. (c.number-place.result - 1, Shown took.0) ∷ rest cs) (sym now)))

pub load-requires : goal.load-requires
load-requires g c =
    let took = was_one c.compare_exchange-found.result c.compare_exchange-found.ensures.2 c.if-found-eq0.false c.if-found-eq3.false in
    let now = c.exchange-piece.ensures.3 in
    let is = ap (λ p. p.knows) c.seat.view_is in
    let knows = ap (λ m. m.0) now ∙ ap (λ m. m.0) took.1 in
    let at : c.number-place.result ≡ c.args.row.now = c.number-place.ensures in
    let r = c.number-place.result in
    let mine = ap (λ v. claim_of r v.rows) is ∙ (ap (λ q. claim_of q c.args.seat.now.knows.rows) at ∙ c.requires.mine.1) in (
      search rules,
      search rules,
      lays_taken (job_fits g.J.RowJob.plan g.J.RowJob.begun) _ _ r _ (in_sync c.requires.mine.0) _
          (subst (λ (n : ℕ). 0 < n) (sym (ap (λ v. v.weight) knows)) c.seat.invariant.live)
          (ap (λ v. claim_of r v.rows) knows ∙ claim-change-same in_sync (λ _. refl) r c.requires.mine.0 c.seat.inside.seat.me.0.rows mine)
          refl
          (ap (λ v. v.picked) knows ∙ c.seat.invariant.idle)
          (ap (λ m. m.1) now),
    )

pub invariant_of-seat-2 : goal.invariant_of-seat-2
invariant_of-seat-2 g c =
    let took = was_one c.compare_exchange-found.result c.compare_exchange-found.ensures.2 c.if-found-eq0.false c.if-found-eq3.false in
    let now = c.exchange-piece.ensures.3 in
    let knows = ap (λ m. m.0) now ∙ ap (λ m. m.0) took.1 in
    let did = c.load.ensures.2 in
    let same = c.load.ensures.0 ∙ (c.exchange-piece.ensures.0 ∙ c.compare_exchange-found.ensures.0) in record {
      live = subst (λ (n : ℕ). 0 < n) (sym (ap (λ m. m.0.weight) did ∙ ap (λ v. v.weight) knows)) c.seat.invariant.live;
      idle = ap (λ m. m.0.picked) did;
      sized = ap (λ m. length m.0.want) did ∙ (ap (λ v. length v.want) knows ∙ (c.seat.invariant.sized ∙ sym (ap (λ z. z.slots) same)));
      inside = subst (λ (x : ℕ × List Claimed). Inside x.0 x.1) (λ i. (sym (ap (λ z. z.slots) same) i, sym (ap (λ m. m.0.rows) did ∙ ap (λ v. v.rows) knows) i))
          (inside-change in_sync (λ _. refl) c.seat.inside.seat.table_id.slots c.number-place.result c.seat.inside.seat.me.0.rows c.seat.invariant.inside);
      bare = ap (λ m. m.1) did ∙ (ap (λ m. rest m.1) now ∙ (ap (λ m. rest m.1) took.1 ∙ c.seat.invariant.bare));
    }
