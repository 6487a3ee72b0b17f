-- What can be said of all that a reader gives.
use Rattle.std.proofs.Common.{◌≡◌, refl, sym, ◌∙◌, pow-suc, ap, subst, ℕ, zero, suc, ◌+◌, ◌*◌, ◌^◌, ◌<◌, ◌≤◌, min, max, List, [], ◌∷◌, Bool, true, false, cond, arith}
use Rattle.std.specs.Prelude.{Option, Some, None, get_or, nat_le}
use Rattle.std.specs.Bool.{beq}
use Rattle.h265_model.specs.declared.Place.{Place}
use Rattle.h265_model.specs.declared.Place.TheVariants.{Context, Bypass}
use Rattle.h265_model.specs.Bits.{digit, ◌>>=◌ as and_then}
use Rattle.h265_model.specs.Engine.{Engine, Reader, ◌>>=◌, give, refuse, bin}
use Rattle.h265_model.specs.Binarise.{tr_read, fl_from, fl_read}
use Rattle.h265_model.specs.Modes.{past, mode_with, mode_read, AreThree}
use Rattle.h265_model.specs.Tree.{expect}

pub record Yields {A : Type 0} (T : A → Type 0) (read : Reader A) : Type 0 where
  pub from : (e left : Engine) (a : A) → read e ≡ Some (a, left) → T a

abbrev value_or : {A : Type 0} → A → Option (A × Engine) → A
value_or a None = a
value_or a (Some p) = p.0

pub yields_any : {A : Type 0} (read : Reader A) → Yields (λ a. Unit {0}) read
yields_any read = record { from = λ e left a h. tt }

pub yields_give : {A : Type 0} (T : A → Type 0) (a : A) → T a → Yields T (give a)
yields_give T a t = record { from = λ e left v h. subst T (ap (value_or a) h) t }

pub yields_refuse : {A : Type 0} (T : A → Type 0) → Yields T refuse
yields_refuse T = record { from = λ e left v h. absurd (cc) }

pub yields_more : {A : Type 0} (S T : A → Type 0) (read : Reader A) → ((a : A) → S a → T a) → Yields S read → Yields T read
yields_more S T read f y = record { from = λ e left a h. f a (y.from e left a h) }

pub yields_bind : {A B : Type 0} (S : A → Type 0) (T : B → Type 0) (read : Reader A) (f : A → Reader B) → Yields S read → ((a : A) → S a → Yields T (f a)) → Yields T (read >>= f)
yields_bind {A = A} {B = B} S T read f y each = record { from = λ e left b h. go e left b (read e) refl h }
  where
    go : (e left : Engine) (b : B) (o : Option (A × Engine)) → read e ≡ o → and_then o (λ found. f found.0 found.1) ≡ Some (b, left) → T b
    go e left b None q h = absurd (cc)
    go e left b (Some found) q h = (each found.0 (y.from e found.1 found.0 q)).from found.1 left b h

pub yields_after : {A B : Type 0} (T : B → Type 0) (read : Reader A) (f : A → Reader B) → ((a : A) → Yields T (f a)) → Yields T (read >>= f)
yields_after T read f each = yields_bind (λ a. Unit {0}) T read f (yields_any read) (λ a t. each a)

pub yields_cond : {A : Type 0} (T : A → Type 0) (b : Bool) (x y : Reader A) → Yields T x → Yields T y → Yields T (cond b x y)
yields_cond T true x y hx hy = hx
yields_cond T false x y hx hy = hy

pub yields_expect : {A : Type 0} (T : A → Type 0) (place : Place) (value : Bool) (read : Reader A) → Yields T read → Yields T (expect place value read)
yields_expect T place value read y = yields_after T (bin place) (λ b. cond (beq b value) read refuse) (λ b. yields_cond T (beq b value) read refuse y (yields_refuse T))

-- ---- modes

digit_below : (b : Bool) → digit b < 2
digit_below true = omega arith
digit_below false = omega arith

yields_fl : (n head m : ℕ) → head < m → Yields (λ v. v < m * 2 ^ n) (fl_from head n)
yields_fl zero head m h = yields_give (λ v. v < m * 2 ^ 0) head (omega arith)
yields_fl (suc n) head m h =
    yields_after (λ v. v < m * 2 ^ suc n) (bin Bypass) (λ b. fl_from (2 * head + digit b) n)
    (λ b. let d : digit b < 2 = digit_below b in
    yields_more (λ v. v < 2 * m * 2 ^ n) (λ v. v < m * 2 ^ suc n) (fl_from (2 * head + digit b) n) (λ v k. let e : 2 * m * 2 ^ n ≡ m * 2 ^ suc n = doubled m n in subst (λ (x : ℕ). v < x) e k)
    (yields_fl n (2 * head + digit b) (2 * m) (omega arith)))
  where
    by_two : (a p : ℕ) → 2 * a * p ≡ a * (p * 2)
    by_two a p = omega arith

    doubled : (a k : ℕ) → 2 * a * 2 ^ k ≡ a * 2 ^ suc k
    doubled a k = by_two a (2 ^ k) ∙ ap (λ (p : ℕ). a * p) (sym (pow-suc 2 k))

past_most : (member mode : ℕ) → past member mode ≤ suc mode
past_most member mode = go (nat_le member mode)
  where
    go : (b : Bool) → cond b (suc mode) mode ≤ suc mode
    go true = omega arith
    go false = omega arith

with_most : (r : ℕ) (list : List ℕ) → r < 32 → mode_with r list < 35
with_most r list h =
    let a : ℕ = get_or list 0 0 in
    let b : ℕ = get_or list 1 0 in
    let c : ℕ = get_or list 2 0 in
    let low : ℕ = min a (min b c) in
    let high : ℕ = max a (max b c) in
    three low _ high (past_most low r) (past_most _ (past low r)) (past_most high _)
  where
    three : (x y z : ℕ) → past x r ≤ suc r → past y (past x r) ≤ suc (past x r) → past z (past y (past x r)) ≤ suc (past y (past x r)) → past z (past y (past x r)) < 35
    three x y z p q s = omega arith

at_most : (list : List ℕ) (i : ℕ) → AreThree list → get_or list i 0 < 35
at_most list i t = subst (λ (l : List ℕ). get_or l i 0 < 35) (sym t.is) (go i)
  where
    go : (j : ℕ) → get_or (t.first ∷ t.second ∷ t.third ∷ []) j 0 < 35
    go zero = t.are.first
    go (suc zero) = t.are.second
    go (suc (suc zero)) = t.are.third
    go (suc (suc (suc j))) = omega arith

pub yields_mode : (list : List ℕ) → AreThree list → Yields (λ m. m < 35) (mode_read list)
unfolding mode_read
yields_mode list t =
    yields_after (λ m. m < 35) (bin (Context 9)) _ (λ listed.
    yields_cond (λ m. m < 35) listed (tr_read (λ i. Bypass) 2 >>= λ i. give (get_or list i 0)) (fl_read 5 >>= λ remainder. give (mode_with remainder list))
    (yields_after (λ m. m < 35) (tr_read (λ i. Bypass) 2) (λ i. give (get_or list i 0)) (λ i. yields_give (λ m. m < 35) (get_or list i 0) (at_most list i t)))
    (yields_bind (λ r. r < 1 * 2 ^ 5) (λ m. m < 35) (fl_read 5) (λ remainder. give (mode_with remainder list)) (yields_fl 5 0 1 (omega arith))
    (λ r h. yields_give (λ m. m < 35) (mode_with r list) (with_most r list (let k : r < 32 = h in k)))))
