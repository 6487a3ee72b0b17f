use Rattle.std.proofs.Common.{◌≡◌, ℕ, suc, ◌+◌, ◌-◌, List, Bool, Result, Ok, sym, ◌∙◌, ap, arith}
use Rattle.h265_model.specs.Bits.{read_u}
use Rattle.h265_model.specs.SliceHead.{read_offsets}
use Rattle.bit_string.proofs.ReadLaws.{read_some, read_none}
use Rattle.slice_head.proofs.OffsetLaws.{put_before, offset_read, offset_ends, offset_overflows, offsets_done}
use Rattle.slice_head.proofs.reading.read_offsets.Goals as goal
use Rattle.slice_head.proofs.reading.read_offsets.Goals.{in_default-via-in-Some+else-last-lt4294967295, in_default-via-in_default}

pub returns-in_default : goal.returns-in_default
returns-in_default c =
    let l = c.loop in
    let k = c.args.count - l.counter in
    let j = c.args.count - (l.counter + 1) in
    let more : k ≡ suc j = omega arith in
    elim c.in_default.branch [
      | in_default-via-in-Some+else-last-lt4294967295 w ↦
          l.invariant
          ∙ offset_overflows k j w.in-Some.last l.from.left c.bits.new.self.left l.offsets.items more
          (read_some (read_u 32 l.from.left) w.in-Some.last l.from c.bits.new.self (sym w.in-Some.is ∙ c.bits.ensures.value) c.bits.ensures.after) w.if-last-lt4294967295.false
      | in_default-via-in_default w ↦
          l.invariant ∙ offset_ends k j l.from.left l.offsets.items more (read_none (read_u 32 l.from.left) (sym w.in_default.is ∙ c.bits.ensures.value))
    ]

pub loop-preserved : goal.loop-preserved
loop-preserved c =
    let l = c.loop in
    let k = c.args.count - l.counter in
    let j = c.args.count - (l.counter + 1) in
    let more : k ≡ suc j = omega arith in
    let v = c.in-Some.last in
    let new = c.bits.new.self in
    l.invariant
    ∙ offset_read k j v l.from.left new.left l.offsets.items more (read_some (read_u 32 l.from.left) v l.from new c.in-Some.ensures.value c.in-Some.ensures.after) c.if-last-lt4294967295.true
    ∙ ap (λ items. put_before items (read_offsets j new.left)) (sym c.in-Ok.ensures.items)

pub returns : goal.returns
returns c =
    let l = c.loop in
    let k = c.args.count - l.counter in
    let none : k ≡ 0 = omega arith in
    let F : List ℕ → Result (List ℕ × List Bool) ℕ = λ items. Ok (items, l.from.left) in
    l.invariant ∙ offsets_done k l.from.left l.offsets.items none ∙ ap F (sym c.from_vec.ensures)
