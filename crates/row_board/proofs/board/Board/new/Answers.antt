use Rattle.std.proofs.Common.{rules, arith, refl, add-one, replicate, ◌≡◌, ◌<◌, ◌+◌, ◌∷◌, map, length, List, sym, ap, ◌∙◌, subst, ℕ}
use Rattle.std.proofs.lemmas.Grind.{common_steps}
use Rattle.atomic_table.specs.Table.{opening}
use Rattle.row_board.specs.declared.piece.Piece.{Piece}
use Rattle.row_board.specs.declared.piece.Piece.TheVariants.{Job}
use Rattle.row_board.specs.Rows.{Kept, job_fits, opening_view}
use Rattle.row_board.proofs.Claims.{Inside}
use Rattle.row_board.proofs.Opening.{opens, planned, many, length-want, length-planned}
use Rattle.row_board.proofs.board.Board.new.Goals as goal

pub new-requires : goal.new-requires
new-requires g c =
    let n : ℕ = length c.args.jobs.items in
    let filled : c.as_slice.result.now ≡ replicate (n + 1) 0 = first_of (search rules, grind (arith, common_steps)) in
    let words : c.as_slice.result.now ≡ 0 ∷ replicate n 0 = filled ∙ rw add-one refl in
    let items : c.in_ok-slots.slots.items ≡ map Job c.args.jobs.items = search rules in
    subst (λ (y : List ℕ × List (Piece g.row.J.Denot) × List g.row.J.Denot). Kept (job_fits g.J.RowJob.plan g.J.RowJob.begun) (opening y.0 y.1 (opening_view (map g.J.RowJob.plan y.2))))
    (λ i. (sym words i, sym items i, sym (ap (λ v. v.items) c.of.ensures) i))
    (opens g.J.RowJob.plan g.J.RowJob.begun (g.met.J.RowJob g.world.𝓛 g.world.𝓜 g.world.𝓡 ((λ s x. x), (λ x. x), (λ x. x), λ x. x)).hands_on c.args.jobs.items n refl c.requires.some c.requires.few c.requires.fresh c.requires.widths)

pub invariant_of-result-2 : goal.invariant_of-result-2
invariant_of-result-2 g c =
    let ok = c.in-Ok.ensures.ok in
    let me = ok.4 in
    let plan = g.J.RowJob.plan in
    let begun = g.J.RowJob.begun in
    let items : c.in_ok-slots.slots.items ≡ map Job c.args.jobs.items = search rules in
    let kept = c.of.result.value.items in
    let jobs = ap (λ v. length v.items) c.of.ensures in
    let want = length-want (planned plan begun kept) (many plan begun kept) ∙ length-planned plan kept in record {
      live = subst (λ (k : ℕ). 0 < k) (sym (ap (λ m. m.0.weight) me)) (omega arith);
      idle = ap (λ m. m.0.picked) me;
      sized = ap (λ m. length m.0.want) me ∙ (want ∙ (jobs ∙ (sym (ap length items ∙ length-planned Job c.args.jobs.items) ∙ (sym ok.1 ∙ sym (ap (λ z. z.slots) ok.2)))));
      inside = subst (Inside _) (sym (ap (λ m. m.0.rows) me)) tt;
      bare = ap (λ m. m.1) me;
    }
