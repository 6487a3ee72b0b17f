use Rattle.h265_model.specs.Bits.{read_u, read_alignment}
use Rattle.bit_string.proofs.ReadLaws.{read_some, read_none, trailing_done, trailing_more, trailing_none, aligned_some, aligned_none}
use Rattle.bit_string.proofs.fields.read_trailing.Goals as goal

pub returns-in-None : goal.returns-in-None
returns-in-None c = trailing_none c.args.number c.args.from.now.left (aligned_none (read_alignment c.args.from.now.left) c.in-None.ensures.value)

pub returns-in-None-bits : goal.returns-in-None-bits
returns-in-None-bits c =
    let left = c.args.from.now.left in
    let rest = c.align_one.new.self in
    let aligned = aligned_some (read_alignment left) c.args.from.now rest c.in-Some.ensures.value c.in-Some.ensures.after in
    trailing_done c.args.number left rest.left aligned (read_none (read_u 1 rest.left) c.in-None-bits.ensures.value)

pub returns-in-Some-bits : goal.returns-in-Some-bits
returns-in-Some-bits c =
    let left = c.args.from.now.left in
    let rest = c.align_one.new.self in
    let last = c.bits.new.self in
    let aligned = aligned_some (read_alignment left) c.args.from.now rest c.in-Some.ensures.value c.in-Some.ensures.after in
    trailing_more c.args.number c.in-Some-bits.field-0 left rest.left last.left aligned
    (read_some (read_u 1 rest.left) c.in-Some-bits.field-0 rest last c.in-Some-bits.ensures.value c.in-Some-bits.ensures.after)
