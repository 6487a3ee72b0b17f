use Rattle.std.proofs.Common.{◌≡◌, ℕ, ◌+◌, ◌*◌, ◌-◌, ◌<◌, ◌≤◌, length, get_or, ap, ◌∙◌, arith, List}
use Rattle.std.proofs.lemmas.Nat.{mul-le}
use Rattle.h265_model.specs.Plain.{coded}
use Rattle.px_plane.specs.Planes.{Planes, picture_of, plane_of}
use Rattle.px_plane.proofs.Below.{row_is}
use Rattle.px_plane.proofs.Shown.{picture_at}
use Rattle.px_plane.proofs.picture.Picture.row_at.Goals as goal

pub returns-clause-samples : goal.returns-clause-samples
returns-clause-samples c =
    let plane : List ℕ = c.plane-plane.result.now in
    let stride : ℕ = c.coded_side-stride.result in
    let cw : ℕ = coded c.args.self.now.size.w in
    let e : stride ≡ cw = c.coded_side-stride.ensures.value ∙ ap (λ (p : Planes). coded p.size.w) c.self.view_is in
    let at : ℕ = c.args.y * stride + c.args.x in
    let n : at + c.args.n - at ≡ c.args.n = omega arith in
    let row_ends : (c.args.y + 1) * stride ≤ coded c.args.self.now.size.h * stride = mul-le (c.args.y + 1) stride (coded c.args.self.now.size.h) stride (omega arith) (omega arith) in
    let area : length plane ≡ coded c.args.self.now.size.h * stride = rw e (omega arith) in
    let long : at + c.args.n ≤ length plane = omega arith in
    let f : ℕ → ℕ = λ i. picture_of c.args.self.now c.args.component (c.args.x + i) c.args.y in
    let each : (i : ℕ) → i < c.args.n → f i ≡ get_or plane (at + i) 0 = λ i h.
    picture_at c.args.self.now c.args.component (c.args.x + i) c.args.y (omega arith) c.requires.down
    ∙ rw (c.plane-plane.ensures.plane, e) (ap (λ (k : ℕ). get_or (plane_of c.args.self.now c.args.component) k 0) (omega arith)) in
    rw n (row_is plane at c.args.n f long each)
