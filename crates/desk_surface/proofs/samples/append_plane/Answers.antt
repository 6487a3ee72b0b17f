use Rattle.std.proofs.Common.{◌≡◌, ℕ, ◌+◌, List, ◌++◌, ap, sym, ◌∙◌, append_assoc, arith}
use Rattle.h265_model.specs.Plain.{row_values, place_values}
use Rattle.px_plane.specs.Planes.{picture_of}
use Rattle.desk_surface.proofs.RowsMore.{rows-more}
use Rattle.desk_surface.proofs.samples.append_plane.Goals as goal

pub loop-row-preserved : goal.loop-row-preserved
loop-row-preserved c =
    let f : ℕ → ℕ → ℕ = λ i j. picture_of c.args.picture.now c.args.component (c.args.x + i) (c.args.y + j) in
    let old : List ℕ = c.args.out.now.items in
    let row : c.append_row.new.out.items ≡ c.loop-row.out.items ++ row_values 32 (λ i. f i c.loop-row.row) = c.in_ok-append_row.ensures in
    row ∙ (ap (λ l. l ++ row_values 32 (λ i. f i c.loop-row.row)) c.loop-row.invariant ∙ (append_assoc old (place_values 32 c.loop-row.row f) (row_values 32 (λ i. f i c.loop-row.row)) ∙ ap (λ l. old ++ l) (sym (rows-more 32 c.loop-row.row f))))

pub returns : goal.returns
returns c =
    let f : ℕ → ℕ → ℕ = λ i j. picture_of c.args.picture.now c.args.component (c.args.x + i) (c.args.y + j) in
    let all : c.loop-row.row ≡ 32 = let most = c.loop-row.auto.row-end in let least = c.loop-row-test.false in omega arith in
    c.loop-row.invariant ∙ ap (λ (n : ℕ). c.args.out.now.items ++ place_values 32 n f) all
