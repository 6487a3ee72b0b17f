-- Whether a block is split, read or inferred.
use Rattle.std.proofs.Common.{◌≡◌, sym, ◌∙◌, ap, subst, ℕ, zero, suc, ◌+◌, ◌-◌, ◌*◌, ◌/◌, ◌%◌, ◌^◌, ◌<◌, ◌≤◌, Bool, true, false, not, Some, Option, List, pow-suc, arith}
use Rattle.std.specs.Prelude.{if◌then◌else◌}
use Rattle.std.proofs.lemmas.Bool.{and_parts, leb-true}
use Rattle.h265_model.specs.declared.Place.TheVariants.{Context}
use Rattle.h265_model.specs.declared.leaf.Leaf.{Leaf}
use Rattle.h265_model.specs.Engine.{Engine, bin, give, context_read}
use Rattle.h265_model.specs.Plain.{block_at, Size, coded}
use Rattle.h265_model.specs.Predict.{is_inside}
use Rattle.h265_model.specs.Tree.{is_whole, split_context}
use Rattle.std.proofs.lemmas.Bool.{ltb-true}
use Rattle.cabac_dec.specs.State.{Answers}
use Rattle.tree_read.specs.Blocks.{split_read, IsWhole}

pub split_zero : (size : Size) (list : List Leaf) (depth x y : ℕ) (e : Engine) → depth ≡ 0 → split_read size list depth x y e ≡ Some (false, e)
unfolding split_read
split_zero size list depth x y e h = ap (λ (n : ℕ). split_read size list n x y e) h

twice : (k : ℕ) → 2 * 2 ^ (3 + k) ≡ 2 ^ (3 + suc k)
twice k =
    let s : 3 + suc k ≡ suc (3 + k) = omega arith in
    let p : 2 ^ (3 + suc k) ≡ 2 ^ (3 + k) * 2 = ap (λ (n : ℕ). 2 ^ n) s ∙ pow-suc 2 (3 + k) in
    omega arith

split_deep : (size : Size) (list : List Leaf) (depth n x y : ℕ) (e : Engine) (whole : Bool) → 0 < depth → n ≡ 2 ^ (3 + depth) → is_whole size n x y ≡ whole
    → split_read size list depth x y e ≡ (if not whole then give true else bin (Context (split_context list (block_at x y (3 + depth))))) e
unfolding split_read
split_deep size list zero n x y e whole h q i = absurd (omega arith)
split_deep size list (suc k) n x y e whole h q i =
    let d : 4 + k ≡ 3 + suc k = omega arith in
    ap (λ (m : ℕ). (if not (is_whole size m x y) then give true else bin (Context (split_context list (block_at x y (4 + k))))) e) (twice k ∙ sym q)
    ∙ ap (λ (b : Bool). (if not b then give true else bin (Context (split_context list (block_at x y (4 + k))))) e) i
    ∙ ap (λ (m : ℕ). (if not whole then give true else bin (Context (split_context list (block_at x y m)))) e) d

pub split_part : (size : Size) (list : List Leaf) (depth n x y : ℕ) (e : Engine) → 0 < depth → n ≡ 2 ^ (3 + depth) → is_whole size n x y ≡ false → split_read size list depth x y e ≡ Some (true, e)
split_part size list depth n x y e h q i = split_deep size list depth n x y e false h q i

pub split_flag : (size : Size) (list : List Leaf) (depth n x y context : ℕ) (r : Option Bool) (e d : Engine) → 0 < depth → n ≡ 2 ^ (3 + depth) → is_whole size n x y ≡ true → depth < 3 → context ≡ split_context list (block_at x y (3 + depth))
    → Answers r (context_read context e) d → Answers r (split_read size list depth x y e) d
split_flag size list depth n x y context r e d h q i small is answers =
    subst (λ (o : Option (Bool × Engine)). Answers r o d) (ap (λ (k : ℕ). context_read k e) is ∙ sym (split_deep size list depth n x y e true h q i)) answers

pub whole_eight : (size : Size) (depth x y : ℕ) → depth ≡ 0 → x % 2 ^ (3 + depth) ≡ 0 → y % 2 ^ (3 + depth) ≡ 0 → x < coded size.w → y < coded size.h → IsWhole size (3 + depth) x y
whole_eight size depth x y h ex ey hx hy = subst (λ (n : ℕ). IsWhole size (3 + n) x y) (sym h) (go (subst (λ (n : ℕ). x % 2 ^ (3 + n) ≡ 0) h ex) (subst (λ (n : ℕ). y % 2 ^ (3 + n) ≡ 0) h ey))
  where
    eight : (x w : ℕ) → x % 8 ≡ 0 → x < coded w → x + 8 ≤ coded w
    eight x w e h = omega arith

    go : x % 8 ≡ 0 → y % 8 ≡ 0 → IsWhole size 3 x y
    go ax ay = record { across = eight x size.w ax hx; down = eight y size.h ay hy }

pub whole_from : (size : Size) (depth n x y : ℕ) → n ≡ 2 ^ (3 + depth) → is_whole size n x y ≡ true → IsWhole size (3 + depth) x y
whole_from size depth n x y q h = subst (λ (m : ℕ). (x + m ≤ coded size.w) × (y + m ≤ coded size.h) → IsWhole size (3 + depth) x y) (sym q) (λ p. record { across = p.0; down = p.1 })
    (leb-true _ _ (and_parts _ _ h).0, leb-true _ _ (and_parts _ _ h).1)

-- a quarter's coordinate
pub record IsQuartered (depth n x most : ℕ) : Type 0 where
  pub whole : x % 2 ^ (4 + (depth - 1)) ≡ 0
  pub first : x % 2 ^ (3 + (depth - 1)) ≡ 0
  pub second : (x + n) % 2 ^ (3 + (depth - 1)) ≡ 0
  pub place : (x + n) / 32 < most

pub quartered : (depth n x most : ℕ) → depth < 3 → 0 < depth → n ≡ 2 ^ (3 + (depth - 1)) → x % 2 ^ (3 + depth) ≡ 0 → x / 32 < most → IsQuartered depth n x most
quartered zero n x most h k q e p = absurd (omega arith)
quartered (suc zero) n x most h k q e p = let f : x % 16 ≡ 0 = e in let m : n ≡ 8 = q in record { whole = omega arith; first = omega arith; second = omega arith; place = omega arith }
quartered (suc (suc zero)) n x most h k q e p = let f : x % 32 ≡ 0 = e in let m : n ≡ 16 = q in record { whole = omega arith; first = omega arith; second = omega arith; place = omega arith }
quartered (suc (suc (suc d))) n x most h k q e p = absurd (omega arith)

pub inside_parts : (size : Size) (x y : ℕ) → is_inside size x y ≡ true → (x < coded size.w) × (y < coded size.h)
inside_parts size x y h = (ltb-true _ _ (and_parts _ _ h).0, ltb-true _ _ (and_parts _ _ h).1)

pub by_one : (depth : ℕ) → 0 < depth → depth ≡ suc (depth - 1)
by_one depth h = omega arith
