use Rattle.std.proofs.Common.{◌≡◌, sym, ◌∙◌}
use Rattle.std.specs.Prelude.{◌↔◌, IsTrue}
use Rattle.h265_model.specs.Hash.{hash_of_planes}
use Rattle.px_plane.specs.Planes.{planes_of}
use Rattle.stream_decode.proofs.NextUnits.{no_hash, taken_passes, taken_fails, unit_taken}
use Rattle.stream_decode.proofs.hash.pass_hash.Goals as goal

pub returns-then-not-is_at_hash : goal.returns-then-not-is_at_hash
returns-then-not-is_at_hash c = λ size segments poc.
    no_hash size segments (record { poc = poc; planes = planes_of c.args.picture.now }) c.args.cursor.now (sym c.is_at_hash.ensures ∙ c.if-not-is_at_hash.true)

pub returns-then-branch : goal.returns-then-branch
returns-then-branch c = λ size segments poc.
    let t = unit_taken c.in_ok-next.field-0 c.in-Some.field-0 c.next.new.rbsp.items c.args.cursor.now c.next.new.self c.in-Some.is c.in_ok-next.ensures.taken in
    let fits : IsTrue c.in_ok-hash_fits-in-Some.field-0 ↔ (c.next.new.rbsp.items ≡ hash_of_planes (planes_of c.args.picture.now)) = rw (← c.deref.ensures.value) c.in_ok-hash_fits-in-Some.ensures in
    taken_passes size segments (record { poc = poc; planes = planes_of c.args.picture.now }) c.args.cursor.now c.next.new.self (record { header = c.in-Some.field-0; rbsp = c.next.new.rbsp.items }) c.in_ok-hash_fits-in-Some.field-0
    (sym c.is_at_hash.ensures ∙ c.if-not-is_at_hash.false) t.0 t.1 fits c.if-branch.true

pub returns-else-branch : goal.returns-else-branch
returns-else-branch c = λ size segments poc.
    let t = unit_taken c.in_ok-next.field-0 c.in-Some.field-0 c.next.new.rbsp.items c.args.cursor.now c.next.new.self c.in-Some.is c.in_ok-next.ensures.taken in
    let fits : IsTrue c.in_ok-hash_fits-in-Some.field-0 ↔ (c.next.new.rbsp.items ≡ hash_of_planes (planes_of c.args.picture.now)) = rw (← c.deref.ensures.value) c.in_ok-hash_fits-in-Some.ensures in
    rw c.number-at.ensures
    (taken_fails size segments (record { poc = poc; planes = planes_of c.args.picture.now }) c.args.cursor.now c.next.new.self (record { header = c.in-Some.field-0; rbsp = c.next.new.rbsp.items }) c.in_ok-hash_fits-in-Some.field-0
    (sym c.is_at_hash.ensures ∙ c.if-not-is_at_hash.false) t.0 fits c.if-branch.false)
