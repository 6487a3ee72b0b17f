-- What is written of a sub-block's flag.
use Rattle.std.proofs.Common.{◌≡◌, ◌≢◌, refl, ℕ, zero, suc, Bool, false, [], ◌∷◌, arith}
use Rattle.std.proofs.lemmas.Bool.Decides.{nat_tests}
use Rattle.std.specs.Prelude.{◌==◌}
use Rattle.h265_model.specs.Plain.{context_bin}
use Rattle.h265_model.specs.Residual.{sub_block_context}
use Rattle.residual_code.specs.declared.shape.Shape.{Shape}
use Rattle.residual_code.specs.declared.shape.SubBlock.{SubBlock}
use Rattle.residual_code.specs.Parts.{shape_of, sub_of, flag_part}

pub flag_written : (s : Shape) (b : SubBlock) (coded : Bool) (context : ℕ) → (b.number == 0) ≡ false → context ≡ sub_block_context s.component b.right b.below
    → context_bin coded context ∷ [] ≡ flag_part (shape_of s) (sub_of b) coded
flag_written s b coded context e c = rw (c, e) refl

pub not_zero : (n : ℕ) → n ≢ 0 → (n == 0) ≡ false
not_zero zero h = absurd (h refl)
not_zero (suc n) h = grind (arith, nat_tests)
