use Rattle.std.proofs.Common.{◌≡◌, ◌++◌, ◌∷◌, [], OnOk, Bool, sym, subst}
use Rattle.h265_model.specs.Bits.{u}
use Rattle.h265_model.specs.Fields.{fixed, fields_bits}
use Rattle.h265_model.specs.ParamSets.{flag}
use Rattle.param_sets.proofs.writing.write_flag.Goals as goal

pub returns-then-value : goal.returns-then-value
unfolding fields_bits u
returns-then-value c =
    subst (λ (b : Bool). OnOk c.put.result (c.put.new.self ≡ c.args.out.now ++ fields_bits (fixed 3 1 (flag b) ∷ []))) (sym c.if-value.true) c.put.ensures.ok

pub returns-else-value : goal.returns-else-value
unfolding fields_bits u
returns-else-value c =
    subst (λ (b : Bool). OnOk c.put-else-value.result (c.put-else-value.new.self ≡ c.args.out.now ++ fields_bits (fixed 3 1 (flag b) ∷ []))) (sym c.if-value.false) c.put-else-value.ensures.ok
