use Rattle.std.proofs.Common.{◌-◌, sym, ◌∙◌, ap}
use Rattle.bit_string.specs.Parts.{Cursor}
use Rattle.slice_head.specs.Answers.{front_of}
use Rattle.slice_head.proofs.OffsetLaws.{front_differs, passed_on, not_aligned, head_read}
use Rattle.slice_head.proofs.reading.read_head.Goals as goal

pub returns-in-Err-clause-answer : goal.returns-in-Err-clause-answer
returns-in-Err-clause-answer c =
    let front = ap (λ (k : Cursor). front_of c.args.idr (c.args.rows - 1) k.left) (sym c.new-from.ensures.whole) ∙ c.in-Err.ensures.read in
    front_differs c.args.rbsp.now c.args.idr c.args.rows c.in-Err.field front

pub returns-in-Err-read_entries-clause-answer : goal.returns-in-Err-read_entries-clause-answer
returns-in-Err-read_entries-clause-answer c =
    let front = ap (λ (k : Cursor). front_of c.args.idr (c.args.rows - 1) k.left) (sym c.new-from.ensures.whole) ∙ c.in-Ok.ensures.read in
    passed_on c.args.rbsp.now c.args.idr c.args.rows c.in-Ok.poc c.read_front.new.from.left c.read_entries.new.from.left c.in-Err-read_entries.error front c.in-Err-read_entries.ensures

pub returns-in-Err-aligned_length-clause-answer : goal.returns-in-Err-aligned_length-clause-answer
returns-in-Err-aligned_length-clause-answer c =
    let front = ap (λ (k : Cursor). front_of c.args.idr (c.args.rows - 1) k.left) (sym c.new-from.ensures.whole) ∙ c.in-Ok.ensures.read in
    not_aligned c.args.rbsp.now c.args.idr c.args.rows c.in-Ok.poc c.read_front.new.from.left c.in-Ok-read_entries.offsets c.read_entries.new.from.left c.in-Err-aligned_length.field front c.in-Ok-read_entries.ensures c.in-Err-aligned_length.ensures.found

pub returns-in-Ok-aligned_length-clause-answer : goal.returns-in-Ok-aligned_length-clause-answer
returns-in-Ok-aligned_length-clause-answer c =
    let front = ap (λ (k : Cursor). front_of c.args.idr (c.args.rows - 1) k.left) (sym c.new-from.ensures.whole) ∙ c.in-Ok.ensures.read in
    head_read c.args.rbsp.now c.args.idr c.args.rows c.in-Ok.poc c.read_front.new.from.left c.in-Ok-read_entries.offsets c.read_entries.new.from.left c.in-Ok-aligned_length.length
    front c.in-Ok-read_entries.ensures c.in-Ok-aligned_length.ensures.found
