use Rattle.std.proofs.Common.{arith, rules, true≢false, ◌≡◌, ◌<◌, ◌+◌, ◌*◌, ◌∷◌, ◌++◌, [], length, Some, sym, ap, ◌∙◌, subst, ℕ}
use Rattle.atomic_table.specs.Table.{rest}
use Rattle.recorder_model.specs.Turn.{author}
use Rattle.turn_lock.specs.Turns.{made_by, gives_entry}
use Rattle.turn_lock.proofs.Steps.{adds_entry}
use Rattle.turn_lock.proofs.turn.Turn.leave_with_entry.Goals as goal

pub store-requires : goal.store-requires
store-requires g c =
    let now = c.exchange.ensures.3 in
    let is = ap (λ p. p.knows) c.pass.view_is in
    let knows = ap (λ m. m.0) now ∙ is in
    let out = c.pass.invariant.out (ap (λ v. v.holds) is ∙ c.requires.holds) in
    let word : c.pass.inside.word + 1 ≡ 2 * (length c.pass.inside.seat.me.0.base + 1) = let w = out.1 in omega arith in (
      search rules,
      search rules,
      adds_entry g.S.Told.setting g.S.Told.history g.S.Told.mark _ _ _ c.requires.author.0 _ c.args.state c.args.entry
          record {
            live = subst (λ (n : ℕ). 0 < n) (sym (ap (λ m. m.0.weight) now)) c.pass.invariant.live;
            holds = ap (λ v. v.holds) knows ∙ c.requires.holds;
            carried = ap (λ m. m.1) now ∙ ap (λ cs. (0, Some c.args.state) ∷ rest cs) out.0;
            setting = c.requires.setting ∙ sym (ap (λ v. v.setting) knows);
            mark = λ e. c.requires.mark (sym (ap (λ v. v.base_mark) knows) ∙ e);
          }
          (c.requires.history ∙ sym (ap (λ v. v.base ++ c.args.entry ∷ []) knows))
          (word ∙ sym (ap (λ m. 2 * (length m.0.base + 1)) now))
          (ap (λ v. made_by (author v.passes c.args.entry) v.made) knows ∙ c.requires.author.1),
    )

-- what the store did, at the state and the entry that were given
did : (g : _) (c : goal.After-store g) → c.store.new.seat.me ≡ (gives_entry c.exchange.new.seat.me.0 c.args.entry (g.S.Told.mark c.args.state), [])
did g c =
    let now = c.exchange.ensures.3 in
    let is = ap (λ p. p.knows) c.pass.view_is in
    let out = c.pass.invariant.out (ap (λ v. v.holds) is ∙ c.requires.holds) in
    c.store.ensures.2 c.args.state c.args.entry (ap (λ m. m.1) now ∙ ap (λ cs. (0, Some c.args.state) ∷ rest cs) out.0) (c.requires.history ∙ sym (ap (λ v. v.base ++ c.args.entry ∷ []) (ap (λ m. m.0) now ∙ is)))

pub invariant_of-pass : goal.invariant_of-pass
invariant_of-pass g c =
    let d = did g c in
    let now = c.exchange.ensures.3 in record {
      live = subst (λ (n : ℕ). 0 < n) (sym (ap (λ m. m.0.weight) d ∙ ap (λ m. m.0.weight) now)) c.pass.invariant.live;
      idle = λ _. ap (λ m. m.1) d;
      out = λ e. absurd (true≢false (sym e ∙ ap (λ m. m.0.holds) d));
    }

pub returns-clause-left : goal.returns-clause-left
returns-clause-left g c =
    let knows = ap (λ m. m.0) c.exchange.ensures.3 ∙ ap (λ p. p.knows) c.pass.view_is in
    ap (λ m. m.0) (did g c) ∙ ap (λ v. gives_entry v c.args.entry (g.S.Told.mark c.args.state)) knows
