-- What the parts of a vector difference and of a moved unit make together.
use Rattle.std.proofs.Common.{◌≡◌, refl, sym, ◌∙◌, ap, ℕ, zero, suc, ◌-◌, ◌<◌, Bool, true, false, List, [], ◌∷◌, ◌++◌, append_assoc, arith}
use Rattle.std.specs.Prelude.{ℤ, nat_abs, nat_lt}
use Rattle.std.proofs.lemmas.Bool.{lt-ltb}
use Rattle.h265_model.specs.declared.Item.{Item}
use Rattle.h265_model.specs.declared.leaf.SliceKind.{SliceKind}
use Rattle.h265_model.specs.declared.block.CodingBlock.{CodingBlock}
use Rattle.h265_model.specs.declared.moves.Vector.{Vector}
use Rattle.h265_model.specs.declared.moves.MoveLeaf.{MoveLeaf}
use Rattle.h265_model.specs.declared.moves.MoveKind.{MoveKind}
use Rattle.h265_model.specs.declared.moves.MoveKind.TheVariants as moves
use Rattle.h265_model.specs.Plain.{context_bin, bypass_bin}
use Rattle.h265_model.specs.SyntaxElements.{cu_transquant_bypass_flag, pred_mode_flag, part_mode, abs_mvd_greater0_flag, abs_mvd_greater1_flag, merge_flag}
use Rattle.h265_model.specs.Binarise.{eg, bypass_bins}
use Rattle.h265_model.specs.Residual.{is_negative}
use Rattle.h265_model.specs.Motion.{Moving, leaves, predictor, predictors, difference, difference_items, second_is_nearer, greater1_of, size_items, part_items, move_items}
use Rattle.h265_model.specs.MotionChoice.{unit_at}
use Rattle.h265_model.specs.Tree.{Source, skip_context, moved_unit, move_unit, still_unit, unit_of_kind}
use Rattle.motion_code.specs.Parts.{rest_items, sign_items, greater0_items, part_flags, both_parts, moved_front, moved_end}

-- ---- parts of a difference

pub greater0_is : (d : Vector) (x y : ℕ) → x ≡ nat_abs d.x → y ≡ nat_abs d.y
    → context_bin (nat_lt 0 x) abs_mvd_greater0_flag ∷ context_bin (nat_lt 0 y) abs_mvd_greater0_flag ∷ [] ≡ greater0_items d
greater0_is d x y e f = rw (e, f) refl

one_less : (n : ℕ) → nat_lt 1 (suc n) ≡ nat_lt 0 n
one_less zero = refl
one_less (suc n) = lt-ltb 1 (suc (suc n)) (omega arith) ∙ sym (lt-ltb 0 (suc n) (omega arith))

pub greater1_none : (n size : ℕ) → size ≡ n → size ≡ 0 → [] ≡ greater1_of n
greater1_none zero size e h = refl
greater1_none (suc n) size e h = absurd (omega arith)

pub greater1_some : (n size : ℕ) → size ≡ n → (size ≡ 0 → ⊥) → context_bin (nat_lt 1 size) abs_mvd_greater1_flag ∷ [] ≡ greater1_of n
greater1_some zero size e h = absurd (h e)
greater1_some (suc n) size e h = ap (λ (b : Bool). context_bin b abs_mvd_greater1_flag ∷ []) (ap (λ m. nat_lt 1 m) e ∙ one_less n)

pub sign_some : (size : ℕ) (negative : Bool) → (size ≡ 0 → ⊥) → bypass_bin negative ∷ [] ≡ sign_items size negative
sign_some zero negative h = absurd (h refl)
sign_some (suc n) negative h = refl

pub rest_some : (size : ℕ) → (size < 2 → ⊥) → bypass_bins (eg 1 (size - 2)) ≡ rest_items size
rest_some zero h = absurd (h (omega arith))
rest_some (suc zero) h = absurd (h (omega arith))
rest_some (suc (suc n)) h = let e : suc (suc n) - 2 ≡ n = omega arith in ap (λ m. bypass_bins (eg 1 m)) e

size_is : (n : ℕ) (negative : Bool) → rest_items n ++ sign_items n negative ≡ size_items n negative
size_is zero negative = refl
size_is (suc zero) negative = refl
size_is (suc (suc n)) negative = refl

pub part_is : (part : ℤ) (size : ℕ) (negative : Bool) → size ≡ nat_abs part → negative ≡ is_negative part → rest_items size ++ sign_items size negative ≡ part_items part
part_is part size negative e f = ap (λ n. rest_items n ++ sign_items n negative) e ∙ (size_is (nat_abs part) negative ∙ ap (size_items (nat_abs part)) f)

pub difference_is : (d : Vector) → greater0_items d ++ (part_flags d ++ both_parts d) ≡ difference_items d
unfolding difference_items
difference_is d = ap (λ (l : List Item). greater0_items d ++ l) (append_assoc (greater1_of (nat_abs d.x)) (greater1_of (nat_abs d.y)) (both_parts d))

-- ---- a moved unit

pub vector_is : (v p d : Vector) (both : Vector × Vector) (second : Bool) → second ≡ second_is_nearer v both → p ≡ predictor second both → d ≡ difference v p
    → context_bin false merge_flag ∷ (difference_items d ++ moved_end second) ≡ move_items v both
unfolding move_items
vector_is v p d both second e f g = ap (λ (w : Vector). context_bin false merge_flag ∷ (difference_items w ++ moved_end second)) (g ∙ ap (difference v) f)
    ∙ ap (λ (s : Bool). context_bin false merge_flag ∷ (difference_items (difference v (predictor s both)) ++ moved_end s)) e

pub front_is : (before : List Moving) (block : CodingBlock) (context : ℕ) → context ≡ skip_context (leaves before) block.x block.y
    → context_bin true cu_transquant_bypass_flag ∷ context_bin false context ∷ context_bin false pred_mode_flag ∷ context_bin true part_mode ∷ [] ≡ moved_front before block
front_is before block context e =
    ap (λ n. context_bin true cu_transquant_bypass_flag ∷ context_bin false n ∷ context_bin false pred_mode_flag ∷ context_bin true part_mode ∷ []) e

pub moved_is : (before : List Moving) (block : CodingBlock) (v : Vector) (both : Vector × Vector) → both ≡ predictors before block
    → moved_front before block ++ move_items v both ≡ moved_unit before (unit_at block (moves.Move v)) v
unfolding moved_unit
moved_is before block v both e = ap (λ (p : Vector × Vector). moved_front before block ++ move_items v p) e

pub move_is : (kind : SliceKind) (source : Source) (before : List Moving) (unit : MoveLeaf) (v : Vector) → unit.kind ≡ moves.Move v
    → moved_unit before (unit_at unit.block (moves.Move v)) v ≡ move_unit kind source before unit
unfolding move_unit moved_unit
move_is kind source before unit v e = rw e refl

-- a unit that isn't moved
pub still_is : (kind : SliceKind) (source : Source) (before : List Moving) (unit : MoveLeaf) → ((v : Vector) → unit.kind ≡ moves.Move v → ⊥) → still_unit kind source before unit ≡ move_unit kind source before unit
unfolding move_unit
still_is kind source before unit h = go unit.kind refl
  where
    go : (k : MoveKind) → unit.kind ≡ k → still_unit kind source before unit ≡ unit_of_kind kind source before unit k
    go moves.Skip e = refl
    go (moves.Move v) e = absurd (h v e)
    go moves.Pcm e = refl
    go (moves.Intra mode) e = refl
