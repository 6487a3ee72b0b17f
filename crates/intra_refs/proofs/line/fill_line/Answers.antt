use Rattle.std.proofs.Common.{◌≡◌, ℕ, ◌+◌, ◌*◌, arith, Option, List, set, ◌++◌, length, drop, ◌∙◌}
use Rattle.std.proofs.lemmas.List.{length-take-le, length-drop, length-set, length-append}
use Rattle.h265_model.specs.Plain.{side}
use Rattle.px_plane.specs.Planes.{picture_of}
use Rattle.intra_refs.specs.Neighbours.{neighbour, carried, IsFilled}
use Rattle.intra_refs.proofs.Filling.{whole_line, line_is, corner_is, line_long, length-mid}
use Rattle.intra_refs.proofs.line.fill_line.Goals as goal

pub returns : goal.returns
returns c =
    let p = picture_of c.args.picture.now in
    let n : ℕ = c.side_of-n.result in
    let is : n ≡ side c.args.block = c.side_of-n.ensures.value in
    let f : ℕ → Option ℕ = neighbour c.args.picture.now.size p c.args.component c.args.block in
    let first : ℕ = c.first_sample-first.result in
    let left : IsFilled c.fill_left_side-below.new.line first f (2 * n) = rw is c.fill_left_side-below.ensures.filled in
    let below : c.fill_left_side-below.result ≡ carried first f (2 * n) = rw is c.fill_left_side-below.ensures.carried in
    let here : c.corner.result ≡ f (2 * n) = rw is c.corner.ensures in
    let top : IsFilled c.fill_row_above.new.line c.unwrap_or-before.result (λ i. f (2 * n + 1 + i)) (2 * n) = rw is c.fill_row_above.ensures in
    let corner : c.unwrap_or-before.result ≡ carried first f (2 * n + 1) =
    corner_is c.corner.result f first c.fill_left_side-below.result c.unwrap_or-before.result n here below c.unwrap_or-before.ensures in
    let line : List ℕ = set (c.fill_left_side-below.new.line ++ drop (2 * n) c.args.line.now) (2 * n) c.unwrap_or-before.result in
    let long_left : length c.fill_left_side-below.new.line ≡ 2 * n = c.fill_left_side-below.auto.line ∙ length-take-le (2 * n) c.args.line.now (omega arith) in
    let rest : length (drop (2 * n) c.args.line.now) ≡ 2 * n + 1 = length-drop (2 * n) c.args.line.now ∙ omega arith in
    let long : length line ≡ 4 * n + 1 = length-set (c.fill_left_side-below.new.line ++ drop (2 * n) c.args.line.now) (2 * n) c.unwrap_or-before.result ∙ (length-append c.fill_left_side-below.new.line (drop (2 * n) c.args.line.now) ∙ omega arith) in
    let long_top : length c.fill_row_above.new.line ≡ 2 * n = c.fill_row_above.auto.line ∙ (length-mid (2 * n + 1) line ∙ omega arith) in
    line_is c.args.picture.now.size p c.args.component c.args.block first _ c.first_sample-first.ensures (line_long line c.fill_row_above.new.line (2 * n + 1) (omega arith) (omega arith) ∙ (long ∙ omega arith))
    (λ i h. whole_line c.fill_left_side-below.new.line (drop (2 * n) c.args.line.now) c.fill_row_above.new.line f first c.unwrap_or-before.result c.fill_left_side-below.result n _
    left long_left rest corner top long_top i (omega arith))
