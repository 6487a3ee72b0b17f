-- A mode that was written is read.
use Rattle.std.proofs.Common.{◌≡◌, refl, sym, ◌∙◌, ap, ℕ, ◌+◌, ◌-◌, ◌<◌, ◌≤◌, List, [], ◌∷◌, Bool, true, false, cond, length, arith, ⊎_elim}
use Rattle.std.specs.Prelude.{get_or, nat_lt, min, max, ◌==◌, ◌≢◌}
use Rattle.std.specs.List.{filter}
use Rattle.std.proofs.lemmas.Bool.{cond-true, cond-false, eqb-true, eqb-false, cases_lt}
use Rattle.std.proofs.lemmas.Bool.Decides.{nat_tests}
use Rattle.h265_model.specs.declared.Place.TheVariants.{Context, Bypass}
use Rattle.h265_model.specs.declared.Item.{Item}
use Rattle.h265_model.specs.Plain.{context_bin}
use Rattle.h265_model.specs.Engine.{◌>>=◌, give, Reads}
use Rattle.h265_model.specs.Binarise.{tr, fl, bypass_bins, tr_read, fl_read}
use Rattle.h265_model.specs.Modes.{mode_items, mode_read, index_items, remainder_of, mode_with, past, AreCandidates}
use Rattle.h265_laws.proofs.Reading.{reads_as, reads_bin, reads_map, reads_fl, reads_tr_bypass}

-- how many of a list are below a mode
below_one : ℕ → ℕ → ℕ
below_one a mode = cond (nat_lt a mode) 1 0

abbrev list_of : ℕ → ℕ → ℕ → List ℕ
list_of a b c = a ∷ b ∷ c ∷ []

count_three : (a b c mode : ℕ) → length (filter (λ m. nat_lt m mode) (list_of a b c)) ≡ cond (nat_lt a mode) 1 0 + cond (nat_lt b mode) 1 0 + cond (nat_lt c mode) 1 0
count_three a b c mode = go (nat_lt a mode) (nat_lt b mode) (nat_lt c mode)
  where
    go : (x y z : Bool) → length (cond x (a ∷ cond y (b ∷ cond z (c ∷ []) []) (cond z (c ∷ []) [])) (cond y (b ∷ cond z (c ∷ []) []) (cond z (c ∷ []) []))) ≡ cond x 1 0 + cond y 1 0 + cond z 1 0
    go true true true = refl
    go true true false = refl
    go true false true = refl
    go true false false = refl
    go false true true = refl
    go false true false = refl
    go false false true = refl
    go false false false = refl

-- growing past the members gives the mode back
past_least : (low mid high mode k : ℕ) → low < mid → mid < high → mode ≢ low → mode ≢ mid → mode ≢ high
    → k + (cond (nat_lt low mode) 1 0 + cond (nat_lt mid mode) 1 0 + cond (nat_lt high mode) 1 0) ≡ mode
    → past high (past mid (past low k)) ≡ mode
past_least low mid high mode k h1 h2 n1 n2 n3 e = grind (arith, nat_tests)

abbrev one : ℕ → ℕ → ℕ
one a mode = cond (nat_lt a mode) 1 0

-- the same of three modes in any order
raised : (a b c low mid high mode k : ℕ) → min a (min b c) ≡ low → max a (max b c) ≡ high → a + b + c - low - high ≡ mid
    → past high (past mid (past low k)) ≡ mode → mode_with k (list_of a b c) ≡ mode
raised a b c low mid high mode k l h m e = rw (l, h, m) e

ordered : (a b c mode k : ℕ) → AreCandidates a b c → mode ≢ a → mode ≢ b → mode ≢ c → k + (one a mode + one b mode + one c mode) ≡ mode → mode_with k (list_of a b c) ≡ mode
ordered a b c mode k are na nb nc e = ⊎_elim
    (λ (ab : a < b). ⊎_elim
    (λ (bc : b < c). raised a b c a b c mode k (omega arith) (omega arith) (omega arith) (past_least a b c mode k ab bc na nb nc e))
    (λ (cb : c ≤ b). ⊎_elim
    (λ (ac : a < c). raised a b c a c b mode k (omega arith) (omega arith) (omega arith) (past_least a c b mode k ac (strict c b are.b_c cb) na nc nb (omega arith)))
    (λ (ca : c ≤ a). raised a b c c a b mode k (omega arith) (omega arith) (omega arith) (past_least c a b mode k (strict c a are.a_c ca) ab nc na nb (omega arith)))
    (cases_lt a c))
    (cases_lt b c))
    (λ (ba : b ≤ a). ⊎_elim
    (λ (ac : a < c). raised a b c b a c mode k (omega arith) (omega arith) (omega arith) (past_least b a c mode k (strict b a are.a_b ba) ac nb na nc (omega arith)))
    (λ (ca : c ≤ a). ⊎_elim
    (λ (bc : b < c). raised a b c b c a mode k (omega arith) (omega arith) (omega arith) (past_least b c a mode k bc (strict c a are.a_c ca) nb nc na (omega arith)))
    (λ (cb : c ≤ b). raised a b c c b a mode k (omega arith) (omega arith) (omega arith) (past_least c b a mode k (strict c b are.b_c cb) (strict b a are.a_b ba) nc nb na (omega arith)))
    (cases_lt b c))
    (cases_lt a c))
    (cases_lt a b)
  where
    strict : (x y : ℕ) → (y ≢ x) → x ≤ y → x < y
    strict x y n h = omega arith

counted_below : (a b c mode : ℕ) → a ≢ b → a ≢ c → b ≢ c → cond (nat_lt a mode) 1 0 + cond (nat_lt b mode) 1 0 + cond (nat_lt c mode) 1 0 ≤ mode
counted_below a b c mode ab ac bc = grind (arith, nat_tests)

counted_enough : (a b c mode : ℕ) → a < 35 → b < 35 → c < 35 → mode < 35 → a ≢ b → a ≢ c → b ≢ c → mode ≢ a → mode ≢ b → mode ≢ c
    → mode < 32 + (cond (nat_lt a mode) 1 0 + cond (nat_lt b mode) 1 0 + cond (nat_lt c mode) 1 0)
counted_enough a b c mode ha hb hc hm ab ac bc na nb nc = grind (arith, nat_tests)

-- the law
reads_listed : (i a b c : ℕ) → i ≤ 2 → Reads (mode_read (list_of a b c)) (index_items i) (get_or (list_of a b c) i 0)
unfolding mode_read
reads_listed i a b c h =
    reads_bin (Context 9) true (λ listed. cond listed (tr_read (λ n. Bypass) 2 >>= λ n. give (get_or (list_of a b c) n 0)) (fl_read 5 >>= λ remainder. give (mode_with remainder (list_of a b c))))
    (bypass_bins (tr 2 i)) (get_or (list_of a b c) i 0)
    (reads_map (tr_read (λ n. Bypass) 2) (λ n. get_or (list_of a b c) n 0) (bypass_bins (tr 2 i)) i (reads_tr_bypass 2 i h))

reads_other : (mode a b c : ℕ) → mode < 35 → AreCandidates a b c → mode ≢ a → mode ≢ b → mode ≢ c
    → Reads (mode_read (list_of a b c)) (context_bin false 9 ∷ bypass_bins (fl 5 (remainder_of mode (list_of a b c)))) mode
unfolding mode_read
reads_other mode a b c h are na nb nc =
    let k : ℕ = remainder_of mode (list_of a b c) in
    let counted : length (filter (λ m. nat_lt m mode) (list_of a b c)) ≡ one a mode + one b mode + one c mode = count_three a b c mode in
    let most : one a mode + one b mode + one c mode ≤ mode = counted_below a b c mode are.a_b are.a_c are.b_c in
    let least : mode < 32 + (one a mode + one b mode + one c mode) = counted_enough a b c mode are.first are.second are.third h are.a_b are.a_c are.b_c na nb nc in
    let is : k ≡ mode - (one a mode + one b mode + one c mode) = ap (λ (n : ℕ). mode - n) counted in
    let few : k < 32 = omega arith in
    let back : k + (one a mode + one b mode + one c mode) ≡ mode = omega arith in
    reads_as (mode_read (list_of a b c)) _ (context_bin false 9 ∷ bypass_bins (fl 5 k)) (mode_with k (list_of a b c)) mode refl (ordered a b c mode k are na nb nc back)
    (reads_bin (Context 9) false (λ listed. cond listed (tr_read (λ n. Bypass) 2 >>= λ n. give (get_or (list_of a b c) n 0)) (fl_read 5 >>= λ remainder. give (mode_with remainder (list_of a b c))))
    (bypass_bins (fl 5 k)) (mode_with k (list_of a b c))
    (reads_map (fl_read 5) (λ remainder. mode_with remainder (list_of a b c)) (bypass_bins (fl 5 k)) k (reads_fl 5 k few)))

pub mode_law : (mode a b c : ℕ) → mode < 35 → AreCandidates a b c → Reads (mode_read (a ∷ b ∷ c ∷ [])) (mode_items mode (a ∷ b ∷ c ∷ [])) mode
unfolding mode_items
mode_law mode a b c h are = go (mode == a) refl (mode == b) refl (mode == c) refl
  where
    other : List Item
    other = context_bin false 9 ∷ bypass_bins (fl 5 (remainder_of mode (list_of a b c)))

    go : (x : Bool) → (mode == a) ≡ x → (y : Bool) → (mode == b) ≡ y → (z : Bool) → (mode == c) ≡ z
        → Reads (mode_read (list_of a b c)) (cond (mode == a) (index_items 0) (cond (mode == b) (index_items 1) (cond (mode == c) (index_items 2) other))) mode
    go true e y f z g = reads_as (mode_read (list_of a b c)) (index_items 0) _ a mode (sym (cond-true (mode == a) _ _ e)) (sym (eqb-true mode a e)) (reads_listed 0 a b c (omega arith))
    go false e true f z g = reads_as (mode_read (list_of a b c)) (index_items 1) _ b mode
        (sym (cond-false (mode == a) _ _ e ∙ cond-true (mode == b) _ _ f)) (sym (eqb-true mode b f)) (reads_listed 1 a b c (omega arith))
    go false e false f true g = reads_as (mode_read (list_of a b c)) (index_items 2) _ c mode
        (sym (cond-false (mode == a) _ _ e ∙ (cond-false (mode == b) _ _ f ∙ cond-true (mode == c) _ _ g))) (sym (eqb-true mode c g)) (reads_listed 2 a b c (omega arith))
    go false e false f false g = reads_as (mode_read (list_of a b c)) other _ mode mode
        (sym (cond-false (mode == a) _ _ e ∙ (cond-false (mode == b) _ _ f ∙ cond-false (mode == c) _ _ g))) refl
        (reads_other mode a b c h are (eqb-false mode a e) (eqb-false mode b f) (eqb-false mode c g))
