use Rattle.std.proofs.Common.{rules, refl, ◌<◌, ◌∷◌, false, sym, ap, ◌∙◌, subst, ℕ}
use Rattle.atomic_table.specs.Table.{rest}
use Rattle.row_board.specs.declared.piece.Piece.TheVariants.{Job}
use Rattle.row_board.specs.Rows.{job_fits, claim_of}
use Rattle.row_board.specs.declared.knowledge.Stage.TheVariants.{Open}
use Rattle.row_board.proofs.Claims.{claim-here}
use Rattle.row_board.proofs.Keeps.{claims_next, lays}
use Rattle.row_board.proofs.board.Board.claim.Goals as goal

pub fetch_add-old-requires : goal.fetch_add-old-requires
fetch_add-old-requires g c =
    let fresh = ap (λ p. p.knows.met_none) c.seat.view_is ∙ c.requires.goes_on in
    (search rules, search rules, claims_next (job_fits g.J.RowJob.plan g.J.RowJob.begun) _ _ _ c.seat.invariant.live fresh c.seat.invariant.idle)

pub exchange-piece-requires : goal.exchange-piece-requires
exchange-piece-requires g c =
    let took = c.fetch_add-old.ensures.2.0 (search rules) in
    let now = ap (λ m. m.1) took.1 in
    (search rules, (_, now ∙ ap (λ cs. (c.fetch_add-old.result, Job took.0) ∷ rest cs) (sym now)))

pub load-requires : goal.load-requires
load-requires g c =
    let took = c.fetch_add-old.ensures.2.0 (search rules) in
    let now = c.exchange-piece.ensures.3 in
    let knows = ap (λ m. m.0) now ∙ ap (λ m. m.0) took.1 in
    let r = c.fetch_add-old.result in (
      search rules,
      search rules,
      lays (job_fits g.J.RowJob.plan g.J.RowJob.begun) _ _ r _ (record { row = r; stage = Open; synced = false }) _
          record {
            live = subst (λ (n : ℕ). 0 < n) (sym (ap (λ v. v.weight) knows)) c.seat.invariant.live;
            mine = ap (λ v. claim_of r v.rows) knows ∙ claim-here r (record { row = r; stage = Open; synced = false }) c.seat.inside.seat.me.0.rows refl;
            open_yet = refl;
          }
          (ap (λ v. v.picked) knows)
          (ap (λ m. m.1) now),
    )
