use Rattle.std.proofs.Common.{◌≡◌, ◌-◌, ap, sym, arith}
use Rattle.cabac_bytes.specs.Pending.{limit}
use Rattle.cabac_bytes.specs.State.{State}
use Rattle.cabac_bytes.proofs.Shown.{split, low_digits, Wide, kept_room, advanced}
use Rattle.cabac_bytes.proofs.coder.ByteCoder.advance.Goals as goal

pub pass_four-requires : goal.pass_four-requires
pass_four-requires c =
    let least = c.requires.least in
    let s = split c.args.low c.args.range c.args.width (limit c.args.self.now.pending.held) (omega arith) (omega arith) c.requires.room in
    let e : c.args.self.now.pending.held ≡ c.self.inside.pending.held = ap (λ (s : State). s.pending.held) (sym c.self.view_is) in
    rw e at s.fits

pub invariant_of-self-2 : goal.invariant_of-self-2
invariant_of-self-2 c =
    let s : State = record { pending = c.self.inside.pending; low = c.args.low; range = c.args.range; width = c.args.width; contexts = c.self.inside.contexts } in
    let e : c.args.self.now.pending.held ≡ c.self.inside.pending.held = ap (λ (s : State). s.pending.held) (sym c.self.view_is) in
    let w : Wide s = record { from = omega arith; to = c.requires.to; least = c.requires.least; most = c.requires.most; room = rw (← e) c.requires.room } in
    kept_room s c.pass_four.new.self _ w c.in_ok-pass_four.ensures.ok (low_digits c.args.low (c.args.width - 32) (omega arith))

pub returns-clause-ok : goal.returns-clause-ok
returns-clause-ok c =
    let s : State = record { pending = c.self.inside.pending; low = c.args.low; range = c.args.range; width = c.args.width; contexts = c.self.inside.contexts } in
    let e : c.args.self.now.pending.held ≡ c.self.inside.pending.held = ap (λ (s : State). s.pending.held) (sym c.self.view_is) in
    let w : Wide s = record { from = omega arith; to = c.requires.to; least = c.requires.least; most = c.requires.most; room = rw (← e) c.requires.room } in
    rw (← c.self.view_is) (advanced s c.pass_four.new.self _ w c.in_ok-pass_four.ensures.ok (low_digits c.args.low (c.args.width - 32) (omega arith)))
