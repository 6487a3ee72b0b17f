use Rattle.std.proofs.Common.{◌≡◌, ℕ, ◌∷◌, ◌++◌, refl, ap, sym, subst, ◌∙◌, length, length-append, arith}
use Rattle.live_desk.specs.Opening.{AreClients}
use Rattle.live_desk.proofs.Fresh.{next_within, next_fresh, fresh_is_client, one_client_more, none_yet, split_more}
use Rattle.live_desk.proofs.opening.hand_out.Goals as goal

pub loop-pass-init : goal.loop-pass-init
loop-pass-init c = record { split = sym c.into_iter-pass-iterator.ensures.into_iter_gives.0; clients = none_yet c.args.passes.items c.args.clients.now.items c.requires.room.0; room = refl }

pub overflow_cast-client : goal.overflow_cast-client
overflow_cast-client c =
    let split : c.args.passes.items ≡ c.loop-pass.yielded ++ c.in-Some.pass ∷ c.next.new.self.rest.items = c.loop-pass.invariant.split ∙ ap (λ l. c.loop-pass.yielded ++ l) c.in-Some.ensures.steps.0 in
    omega (arith, c.len-client.ensures, c.loop-pass.clients.ok, c.loop-pass.invariant.clients.many, next_within _ _ _ _ split, c.requires.few, c.requires.fresh.many)

pub offset_bounds-lengths-client : goal.offset_bounds-lengths-client
offset_bounds-lengths-client c =
    let split : c.args.passes.items ≡ c.loop-pass.yielded ++ c.in-Some.pass ∷ c.next.new.self.rest.items = c.loop-pass.invariant.split ∙ ap (λ l. c.loop-pass.yielded ++ l) c.in-Some.ensures.steps.0 in
    omega (arith, c.len-client.ensures, c.loop-pass.clients.ok, c.loop-pass.invariant.clients.many, next_within _ _ _ _ split, c.requires.few, c.requires.fresh.many)

pub bounds-lengths-client : goal.bounds-lengths-client
bounds-lengths-client c =
    let split : c.args.passes.items ≡ c.loop-pass.yielded ++ c.in-Some.pass ∷ c.next.new.self.rest.items = c.loop-pass.invariant.split ∙ ap (λ l. c.loop-pass.yielded ++ l) c.in-Some.ensures.steps.0 in
    omega (arith, c.len-client.ensures, c.loop-pass.clients.ok, c.loop-pass.invariant.clients.many, next_within _ _ _ _ split, c.requires.fresh.many)

pub invariant_of-push_reserved : goal.invariant_of-push_reserved
invariant_of-push_reserved c =
    let split : c.args.passes.items ≡ c.loop-pass.yielded ++ c.in-Some.pass ∷ c.next.new.self.rest.items = c.loop-pass.invariant.split ∙ ap (λ l. c.loop-pass.yielded ++ l) c.in-Some.ensures.steps.0 in
    let at : c.len-client.result ≡ length c.loop-pass.yielded = omega (arith, c.len-client.ensures, c.loop-pass.clients.ok, c.loop-pass.invariant.clients.many) in
    fresh_is_client c.in-Some.pass c.len-client.result _ (next_fresh c.args.passes.items c.loop-pass.yielded c.next.new.self.rest.items c.args.lengths.now c.in-Some.pass c.len-client.result c.requires.fresh split at)

pub push_reserved-requires : goal.push_reserved-requires
push_reserved-requires c =
    let split : c.args.passes.items ≡ c.loop-pass.yielded ++ c.in-Some.pass ∷ c.next.new.self.rest.items = c.loop-pass.invariant.split ∙ ap (λ l. c.loop-pass.yielded ++ l) c.in-Some.ensures.steps.0 in
    omega (arith, c.loop-pass.clients.ok, c.loop-pass.invariant.clients.many, c.loop-pass.invariant.room, next_within _ _ _ _ split, c.requires.fresh.many, c.requires.room.1)

pub loop-pass-preserved : goal.loop-pass-preserved
loop-pass-preserved c =
    let split : c.args.passes.items ≡ c.loop-pass.yielded ++ c.in-Some.pass ∷ c.next.new.self.rest.items = c.loop-pass.invariant.split ∙ ap (λ l. c.loop-pass.yielded ++ l) c.in-Some.ensures.steps.0 in
    let at : c.len-client.result ≡ length c.loop-pass.yielded = omega (arith, c.len-client.ensures, c.loop-pass.clients.ok, c.loop-pass.invariant.clients.many) in
    record {
      split = split ∙ split_more c.loop-pass.yielded c.in-Some.pass c.next.new.self.rest.items;
      clients = one_client_more c.args.passes.items c.loop-pass.yielded c.next.new.self.rest.items c.args.lengths.now c.in-Some.pass c.len-client.result c.loop-pass.clients.items c.push_reserved.new.self.items c.requires.fresh split at c.loop-pass.invariant.clients
          c.push_reserved.ensures.items;
      room = c.push_reserved.ensures.capacity ∙ c.loop-pass.invariant.room;
    }

pub returns : goal.returns
returns c =
    let split = ap length c.loop-pass.invariant.split ∙ length-append c.loop-pass.yielded c.loop-pass.pass-iterator.rest.items in
    let all : length c.loop-pass.yielded ≡ length c.args.lengths.now = omega (arith, split, c.in-None.ensures.steps.0, c.loop-pass.pass-iterator.rest.ok, c.requires.fresh.many) in
    subst (λ (n : ℕ). AreClients c.args.passes.items n c.loop-pass.clients.items) all c.loop-pass.invariant.clients
