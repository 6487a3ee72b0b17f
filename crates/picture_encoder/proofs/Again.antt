-- The picture before the last one, and the last one, which its job makes of it.
use Rattle.std.proofs.Common.{◌≡◌, refl, sym, ◌∙◌, ap, subst, ℕ, ◌≤◌, ◌+◌, List, [], Bool, true, false, length}
use Rattle.std.specs.Prelude.{Option, Some, None, IfSome, slice_index_or}
use Rattle.std.specs.Arc.{arc_value}
use Rattle.std.proofs.lemmas.Bool.{both_ways}
use Rattle.std.proofs.lemmas.List.{get_or_default}
use Rattle.h265_model.specs.declared.job.Job.{Job}
use Rattle.h265_model.specs.Plain.{Size}
use Rattle.h265_model.specs.Tiles.{tile_count}
use Rattle.h265_model.specs.Raster.{planes}
use Rattle.px_plane.specs.Planes.{Planes, planes_of, picture_of, IsPicture, Stores}
use Rattle.px_plane.specs.Tiles.{IsJobOf, laid_first, laid}
use Rattle.px_plane.proofs.Shown.{planes_from_stores, stores_from_planes}
use Rattle.picture_encoder.specs.declared.before.Before.{Before}
use Rattle.h265_model.specs.declared.extra.Extra.{Extra}
use Rattle.picture_encoder.specs.Coded.{IsLaid, IsWhole, after_slice, last_or_black}
use Rattle.picture_encoder.specs.Planning.{AreFlagged, IsKept, IsKeptBut}
use Rattle.picture_encoder.proofs.Following.{kept_but}

-- what was laid is the picture that the job makes
pub is_laid : (old new : Planes) (job : Job) → IsPicture new → new.size ≡ old.size → Stores new (laid old job) → IsLaid old job new
is_laid old new job whole size stores = record {
  size = size;
  planes = planes_from_stores new (laid old job) whole stores ∙ ap (λ (s : Size). planes s (laid old job)) size;
}

same_planes : (p q : Planes) → p.size ≡ q.size → planes_of p ≡ planes_of q → p ≡ q
same_planes p q size e =
    let g : p.g ≡ q.g = cc in
    let b : p.b ≡ q.b = cc in
    let r : p.r ≡ q.r = cc in
    ap (λ (s : Size). record { size = s; g = p.g; b = p.b; r = p.r }) size
    ∙ (ap (λ (l : List ℕ). record { size = q.size; g = l; b = p.b; r = p.r }) g
    ∙ (ap (λ (l : List ℕ). record { size = q.size; g = q.g; b = l; r = p.r }) b
    ∙ ap (λ (l : List ℕ). record { size = q.size; g = q.g; b = q.b; r = l }) r))

-- a job makes one picture of another
pub laid_once : (old : Planes) (job : Job) (p q : Planes) → IsLaid old job p → IsLaid old job q → p ≡ q
laid_once old job p q f g = same_planes p q (f.size ∙ sym g.size) (f.planes ∙ sym g.planes)

-- a job that lists no tile leaves a picture as it is
pub laid_same : (old now : Planes) (job : Job) → IsPicture old → length job.tiles ≡ 0 → IsLaid old job now → now ≡ old
laid_same old now job whole none made =
    let same : Stores old (laid old job) = record { each = λ c x y hc hx hy. ap (λ (n : ℕ). laid_first old job n c x y) (sym none) } in
    laid_once old job now old made (is_laid old old job whole refl same)

-- outside the listed tiles it is the one before
pub kept_laid : (old new : Planes) (job : Job) → IsLaid old job new → IsKeptBut job.tiles old new
kept_laid old new job f = kept_but old new job f.size (stores_from_planes new (laid old job) (f.planes ∙ ap (λ (s : Size). planes s (laid old job)) (sym f.size)))

pub kept_flags : (flags : List Bool) (tiles : List ℕ) (last now : Planes) (n : ℕ) → length flags ≡ n → n ≡ tile_count last.size → AreFlagged flags tiles → IsKeptBut tiles last now → IsKept flags last now
kept_flags flags tiles last now n long count flagged kept = record {
  size = kept.size;
  long = long ∙ (count ∙ ap tile_count kept.size);
  same = λ tile inside free. kept.same tile inside (λ listed. both_ways (slice_index_or flags tile false) free (ap (λ (t : ℕ). slice_index_or flags t false) (sym (sym (get_or_default tiles listed.0 tile 0 listed.1) ∙ listed.2)) ∙ flagged listed.0 listed.1));
}

pub last_sized : (size : Size) (last : Option Planes) → IfSome last (λ p. p.size ≡ size) → (last_or_black size last).size ≡ size
last_sized size None sized = refl
last_sized size (Some last) sized = sized

-- what is kept after one picture more
pub one_kept : (size : Size) (effort : ℕ) (count : ℕ) (last : Option Planes) (before : Option Before) (job : Job) (now : Planes) → effort ≤ 2 → IfSome last (λ p. p.size ≡ size)
    → IsJobOf size job → IsLaid (last_or_black size last) job now → IfSome before (λ b. last ≡ Some (arc_value b.picture)) → IfSome before (λ b. b.job ≡ job)
    → IsWhole size effort (count + 1) (Some now) before
one_kept size effort count last None job now low sized fits made picture same = record { low = low; sized = made.size ∙ last_sized size last sized; none = λ none. absurd (both_ways true none refl); again = tt }
one_kept size effort count last (Some b) job now low sized fits made picture same =
    let is : (last_or_black size last).size ≡ size = last_sized size last sized in
    let old : last_or_black size last ≡ arc_value b.picture = ap (last_or_black size) picture in
    record {
      low = low;
      sized = made.size ∙ is;
      none = λ none. absurd (both_ways true none refl);
      again = record {
        fits = subst (λ (s : Size). IsJobOf s b.job) (sym (ap (λ (p : Planes). p.size) (sym old) ∙ is)) (subst (IsJobOf size) (sym same) fits);
        makes = subst (λ (p : Planes). IsLaid p b.job now) old (subst (λ (j : Job). IsLaid (last_or_black size last) j now) (sym same) made);
      };
    }

-- what stands after a slice is the same again where a job lists no tile
pub after_same : (extra : Extra) (last : Planes) (after : Option (List ℕ)) (bytes : List ℕ) (job : Job) (now : Planes) → after ≡ Some bytes
    → IfSome after (λ b. b ≡ after_slice extra last) → IsPicture last → length job.tiles ≡ 0 → IsLaid last job now → bytes ≡ after_slice extra now
after_same extra last after bytes job now is_after follows whole none made =
    let kept : bytes ≡ after_slice extra last = subst (λ (o : Option (List ℕ)). IfSome o (λ b. b ≡ after_slice extra last)) is_after follows in
    kept ∙ ap (after_slice extra) (sym (laid_same last now job whole none made))
