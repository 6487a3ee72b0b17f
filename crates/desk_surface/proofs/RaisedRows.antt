-- Which flags are raised by a row of tiles.
use Rattle.std.proofs.Common.{◌≡◌, ℕ, ◌+◌, ◌*◌, ◌-◌, ◌<◌, ◌≤◌, ◌||◌, ◌⊎◌, Bool, true, false, List, length, get_or, replicate, refl, arith, ◌∙◌, sym, ap, inl, inr}
use Rattle.std.proofs.lemmas.List.{places, get_or-replicate, length-replicate}
use Rattle.std.proofs.lemmas.Bool.{cases_lt, cases_order}
use Rattle.std.proofs.lemmas.Bool.Decides.{nat_tests}
use Rattle.std.proofs.lemmas.Nat.{mul-le}
use borrow.Rule.Slice.PartMut.{put_mid}
use Rattle.desk_surface.specs.Damage.{is_between}

flag_before : (xs ys : List Bool) (a k i : ℕ) → a ≤ length xs → i < a → get_or (put_mid a k xs ys) i false ≡ get_or xs i false
flag_before xs ys a k i le lt = grind (arith, places)

flag_in : (xs ys : List Bool) (a k i j : ℕ) → a ≤ length xs → i ≡ a + j → j < length ys → get_or (put_mid a k xs ys) i false ≡ get_or ys j false
flag_in xs ys a k i j le e lt = grind (arith, places)

flag_behind : (xs ys : List Bool) (a k i : ℕ) → a + k ≤ length xs → length ys ≡ k → a + k ≤ i → get_or (put_mid a k xs ys) i false ≡ get_or xs i false
flag_behind xs ys a k i le e lt = grind (arith, places)

-- another row has another place, and its flags stay
other_row : (left right top j x y : ℕ) → (y < j) ⊎ (j < y) → is_between left right top (j + 1) x y ≡ is_between left right top j x y
other_row left right top j x y (inl h) = grind (arith, nat_tests)
other_row left right top j x y (inr h) = grind (arith, nat_tests)

beside : (left right top j x : ℕ) → (x < left) ⊎ (right ≤ x) → is_between left right top (j + 1) x j ≡ false
beside left right top j x (inl h) = grind (arith, nat_tests)
beside left right top j x (inr h) = grind (arith, nat_tests)

beside_before : (left right top j x : ℕ) → is_between left right top j x j ≡ false
beside_before left right top j x = grind (arith, nat_tests)

within : (left right top j x : ℕ) → left ≤ x → x < right → top ≤ j → is_between left right top (j + 1) x j ≡ true
within left right top j x a b c = grind (arith, nat_tests)

or_true : (a : Bool) → (a || true) ≡ true
or_true true = refl
or_true false = refl

or_false : (a : Bool) → (a || false) ≡ a
or_false true = refl
or_false false = refl

module _ (old now : List Bool) (across left right top j : ℕ) (some : 0 < across) (columns : left ≤ right) (wide : right ≤ across) (rows : top ≤ j) (tall : (j + 1) * across ≤ length now) where
  abbrev pub marks : List Bool
  marks = replicate (right - left) true

  abbrev pub marked : List Bool
  marked = put_mid (j * across + left) (right - left) now marks

  long : length marks ≡ right - left
  long = length-replicate (right - left) true

  pub flag_at : (x y : ℕ) → x < across → get_or now (y * across + x) false ≡ (get_or old (y * across + x) false || is_between left right top j x y)
      → get_or marked (y * across + x) false ≡ (get_or old (y * across + x) false || is_between left right top (j + 1) x y)
  flag_at x y in_row was = elim (cases_order y j) [
    | inr (inl less) ↦
        let h : (y + 1) * across ≤ j * across = mul-le (y + 1) across j across (omega arith) (omega arith) in
        flag_before now marks (j * across + left) (right - left) (y * across + x) (omega arith) (omega arith)
        ∙ (was ∙ ap (λ b. get_or old (y * across + x) false || b) (sym (other_row left right top j x y (inl less))))
    | inr (inr more) ↦
        let h : (j + 1) * across ≤ y * across = mul-le (j + 1) across y across (omega arith) (omega arith) in
        flag_behind now marks (j * across + left) (right - left) (y * across + x) (omega arith) long (omega arith)
        ∙ (was ∙ ap (λ b. get_or old (y * across + x) false || b) (sym (other_row left right top j x y (inr more))))
    | inl same ↦ in_this x y in_row same was (cases_lt x left) (cases_lt x right)
  ]
    where
      in_this : (x y : ℕ) → x < across → y ≡ j → get_or now (y * across + x) false ≡ (get_or old (y * across + x) false || is_between left right top j x y)
          → (x < left) ⊎ (left ≤ x) → (x < right) ⊎ (right ≤ x) → get_or marked (y * across + x) false ≡ (get_or old (y * across + x) false || is_between left right top (j + 1) x y)
      in_this x y in_row same was (inl low) r =
          let e : y * across ≡ j * across = ap (λ n. n * across) same in
          flag_before now marks (j * across + left) (right - left) (y * across + x) (omega arith) (omega arith)
          ∙ (was ∙ ap (λ b. get_or old (y * across + x) false || b) (rw same (beside_before left right top j x ∙ sym (beside left right top j x (inl low)))))
      in_this x y in_row same was (inr high) (inr beyond) =
          let e : y * across ≡ j * across = ap (λ n. n * across) same in
          flag_behind now marks (j * across + left) (right - left) (y * across + x) (omega arith) long (omega arith)
          ∙ (was ∙ ap (λ b. get_or old (y * across + x) false || b) (rw same (beside_before left right top j x ∙ sym (beside left right top j x (inr beyond)))))
      in_this x y in_row same was (inr high) (inl inside) =
          let e : y * across ≡ j * across = ap (λ n. n * across) same in
          flag_in now marks (j * across + left) (right - left) (y * across + x) (x - left) (omega arith) (omega arith) (omega (arith, long))
          ∙ (get_or-replicate (right - left) (x - left) true false (omega arith)
          ∙ (sym (or_true (get_or old (y * across + x) false)) ∙ ap (λ b. get_or old (y * across + x) false || b) (rw same (sym (within left right top j x high inside rows)))))
