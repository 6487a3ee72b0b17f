-- Where sub-blocks and their levels are.
use Rattle.std.proofs.Common.{◌≡◌, ◌∙◌, ap, ◌-◌, ◌^◌, ◌<◌, ◌≤◌, ℕ, arith}
use Rattle.h265_model.specs.Residual.{place_at, sub_scan}
use Rattle.scan_orders.proofs.ScanPlaces.{IsPlaced, placed}
use Rattle.residual_read.specs.declared.shape.Shape.{Shape}
use Rattle.residual_read.specs.declared.shape.SubBlock.{SubBlock}
use Rattle.residual_read.specs.Parts.{IsShape, IsSubBlock, shape_of}

pub sub_low : (s : Shape) (b : SubBlock) → IsShape s → IsSubBlock s b → (b.x < 2 ^ (s.log2 - 2)) × (b.y < 2 ^ (s.log2 - 2))
sub_low s b is at =
    let low : 3 ≤ s.log2 = is.low in
    let high : s.log2 ≤ 5 = is.high in
    let p : IsPlaced s.scan (s.log2 - 2) b.number = placed s.scan (s.log2 - 2) b.number (omega arith) (omega arith) at.number in
    (rw at.x p.x, rw at.y p.y)

pub place_is : (s : Shape) (b : SubBlock) (number : ℕ) → IsSubBlock s b → b.number ≡ number → (b.x ≡ (place_at (sub_scan (shape_of s)) number).0) × (b.y ≡ (place_at (sub_scan (shape_of s)) number).1)
place_is s b number at e = (at.x ∙ ap (λ n. (place_at (sub_scan (shape_of s)) n).0) e, at.y ∙ ap (λ n. (place_at (sub_scan (shape_of s)) n).1) e)
