use Rattle.std.proofs.Common.{◌≡◌, ◌∙◌, ◌≤◌, ◌+◌, ◌-◌, ◌*◌, ◌%◌, ◌^◌, ap, refl, ℕ, length, get_or, take, drop, arith, rules}
use Rattle.std.specs.Prelude.{pos}
use Rattle.std.proofs.lemmas.List.{places}
use Rattle.h265_model.specs.Residual.{level_at}
use Rattle.residual_code.specs.Parts.{shape_of}
use Rattle.residual_code.proofs.LoadLaws.{row_within, row_read, load_long, load_more, load_done}
use Rattle.residual_code.proofs.tile.load.Goals as goal

pub slice_bounds-copy_from_slice-end : goal.slice_bounds-copy_from_slice-end
slice_bounds-copy_from_slice-end c =
    row_within c.args.shape.log2 c.args.x c.args.y c.loop-row.row _ _ c.requires.shape.low c.requires.shape.high c.requires.x c.requires.y (omega arith) refl c.requires.long

pub loop-row-preserved : goal.loop-row-preserved
loop-row-preserved c =
    let s = c.args.shape in
    let row : ℕ = c.loop-row.row in
    let at : ℕ = (4 * c.args.y + row) * 2 ^ s.log2 % 4294967296 + 4 * c.args.x in
    let n : at + 4 - at ≡ 4 = omega arith in
    let k : 4 * row + 4 - 4 * row ≡ 4 = omega arith in
    let within : at + 4 ≤ length c.args.levels.now = row_within s.log2 c.args.x c.args.y row at (length c.args.levels.now) c.requires.shape.low c.requires.shape.high c.requires.x c.requires.y (omega arith) refl c.requires.long in
    let after : c.copy_from_slice.new.self ≡ take (at + 4 - at) (drop at c.args.levels.now) = c.copy_from_slice.ensures.after in
    let four : length c.copy_from_slice.new.self ≡ 4 = rw (after, n) (search (places, rules)) in
    record {
      long = load_long c.loop-row.tile c.copy_from_slice.new.self (4 * row) (4 * row + 4 - 4 * row) c.loop-row.invariant.long (omega arith) (omega arith);
      rows = load_more c.loop-row.tile c.copy_from_slice.new.self row (4 * row + 4 - 4 * row) (λ x y. level_at (shape_of s) c.args.levels.now (c.args.x, c.args.y) (x, y)) c.loop-row.invariant.long (omega arith) four
          (λ x h. ap (λ l. get_or l x (pos 0)) after ∙ row_read s.log2 c.args.x c.args.y row at (at + 4 - at) x c.args.levels.now c.requires.shape.low c.requires.shape.high c.requires.x c.requires.y (omega arith) refl n h)
          c.loop-row.invariant.rows;
    }

pub returns : goal.returns
returns c = load_done c.loop-row.tile c.loop-row.row (λ x y. level_at (shape_of c.args.shape) c.args.levels.now (c.args.x, c.args.y) (x, y)) c.loop-row.invariant.long (omega arith) c.loop-row.invariant.rows
