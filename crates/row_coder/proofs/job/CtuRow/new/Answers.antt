use Rattle.std.proofs.Common.{◌≡◌, ℕ, List, [], ap, sym, ◌∙◌, subst, refl}
use Rattle.std.specs.Prelude.{None}
use Rattle.std.specs.Arc.{arc_value}
use Rattle.std.specs.List.{AllByRecursion}
use Rattle.h265_model.specs.Code.{Plain}
use Rattle.h265_laws.proofs.PictureLaw.{IsFit, size_fits}
use Rattle.bin_items.proofs.Growing.{open_as}
use Rattle.px_plane.specs.Planes.{Planes}
use Rattle.pu_code.specs.Cells.{IsUnit}
use Rattle.cabac_bytes.specs.State.{stands_for, phase_of}
use Rattle.row_coder.specs.Rows.{leaves_of}
use Rattle.row_coder.proofs.RowSteps.{coded_none}
use Rattle.row_coder.proofs.job.CtuRow.new.Goals as goal

pub invariant_of-result : goal.invariant_of-result
invariant_of-result c =
    let p : Planes = arc_value c.args.now in
    let sz : c.size-size.result ≡ p.size = c.size-size.ensures.value ∙ ap (λ (q : Planes). q.size) c.deref.ensures in
    let fit : IsFit p.size = subst IsFit sz (size_fits c.size-size.result c.size-size.ensures.within) in
    record {
      wide = fit.wide;
      narrow = fit.narrow;
      few = fit.low;
      number = c.requires.row;
      trees = c.requires.plans;
      fresh = λ not_begun. refl;
      bare = λ not_begun. refl;
      under_way = coded_none p c.args.kind c.args.row c.new.result.items (leaves_of c.args.plans.items) None None c.new-2.result fit.wide c.requires.row
          (subst (AllByRecursion (IsUnit p.size)) (sym c.new.ensures.items) tt)
          refl
          (subst (λ (l : List ℕ). stands_for c.new-2.result [] l) c.start.ensures c.new-2.ensures.stands_for)
          (open_as (phase_of c.new-2.result) Plain c.new-2.ensures.phase tt);
    }
