-- The words of a generator, and what they give.
use Rattle.std.proofs.Common.{◌≡◌, refl, sym, ◌∙◌, ap, subst, ℕ, zero, suc, ◌+◌, ◌%◌, ◌*◌, ◌<◌, ◌≤◌, true, false, List, [], ◌∷◌, ◌++◌, length, get_or, arith}
use Rattle.std.specs.Prelude.{nat_lt}
use Rattle.std.specs.List.{All}
use Rattle.std.proofs.lemmas.Bool.Decides.{nat_tests}
use Rattle.std.proofs.lemmas.Nat.{mul-le}
use Rattle.rand_xoshiro.specs.SplitMix64.{mix_u64}
use Rattle.h265_model.specs.declared.rect.Rect.{Rect}
use Rattle.h265_model.specs.declared.rgb.Rgb.{Rgb}
use Rattle.paint_script.specs.Spellable.{IsSpellable, IsSpellableColour}
use Rattle.recorder_model.specs.declared.line.Line.{Line}
use Rattle.recorder_model.specs.declared.line.Line.TheVariants.{Fill, Blit}
use Rattle.screen_gen.specs.Generated.{state_after, colour_of, colours, rect_of, line_of, drawn}

state_next : (state n : ℕ) → state_after state (suc n) ≡ (mix_u64 (state_after state n)).1
unfolding state_after
state_next state zero = refl
state_next state (suc n) = state_next (mix_u64 state).1 n

colours_next : (state n : ℕ) → colours state (suc n) ≡ colours state n ++ colour_of (mix_u64 (state_after state n)).0 ∷ []
unfolding state_after colours
colours_next state zero = refl
colours_next state (suc n) = ap (λ l. colour_of (mix_u64 state).0 ∷ l) (colours_next (mix_u64 state).1 n)

plus_one : (n : ℕ) → n + 1 ≡ suc n
plus_one n = omega arith

-- one more word
pub state_more : (state n : ℕ) → state_after state (n + 1) ≡ (mix_u64 (state_after state n)).1
state_more state n = ap (λ (m : ℕ). state_after state m) (plus_one n) ∙ state_next state n

pub colours_more : (state n : ℕ) → colours state (n + 1) ≡ colours state n ++ colour_of (mix_u64 (state_after state n)).0 ∷ []
colours_more state n = ap (λ (m : ℕ). colours state m) (plus_one n) ∙ colours_next state n

pub colours_count : (state n : ℕ) → length (colours state n) ≡ n
unfolding colours
colours_count state zero = refl
colours_count state (suc n) = ap (λ (m : ℕ). suc m) (colours_count (mix_u64 state).1 n)

pub spellable_colour : (word : ℕ) → IsSpellableColour (colour_of word)
spellable_colour word = record { r = omega arith; g = omega arith; b = omega arith }

pub spellable_colours : (state n : ℕ) → All IsSpellableColour (colours state n)
unfolding colours
spellable_colours state zero = λ k d less. absurd (omega arith)
spellable_colours state (suc n) =
    let others = spellable_colours (mix_u64 state).1 n in
    let list : List Rgb = colour_of (mix_u64 state).0 ∷ colours (mix_u64 state).1 n in
    λ k d. elim k as (λ k. k < length list → IsSpellableColour (get_or list k d)) [
      | zero ↦ λ less. spellable_colour (mix_u64 state).0
      | suc k ↦ λ less. others k d (omega arith)
    ]

-- ---- a line

test_is : (v : ℕ) → v < 3 → nat_lt v 3 ≡ true
test_is v h = grind (arith, nat_tests)

test_fails : (v : ℕ) → 3 ≤ v → nat_lt v 3 ≡ false
test_fails v h = grind (arith, nat_tests)

fill_of : (kind x y w h last state : ℕ) → kind % 4 < 3 → (Fill (rect_of x y w h 200 120) (colour_of last), state) ≡ line_of kind x y w h last state
unfolding line_of
fill_of kind x y w h last state is = rw (test_is (kind % 4) is) refl

blit_of : (kind x y w h last state : ℕ) → 3 ≤ kind % 4 →
    (Blit (rect_of x y w h 32 32) (colours state ((1 + w % 32) * (1 + h % 32))), state_after state ((1 + w % 32) * (1 + h % 32))) ≡ line_of kind x y w h last state
unfolding line_of
blit_of kind x y w h last state is = rw (test_fails (kind % 4) is) refl

pub fill_is : (kind x y w h last state : ℕ) (r : Rect) (colour : Rgb) → kind % 4 < 3 → r ≡ rect_of x y w h 200 120 → colour ≡ colour_of last → (Fill r colour, state) ≡ line_of kind x y w h last state
fill_is kind x y w h last state r colour is e f =
    let F : Rect → Line × ℕ = λ r. (Fill r colour, state) in
    let G : Rgb → Line × ℕ = λ c. (Fill (rect_of x y w h 200 120) c, state) in
    ap F e ∙ ap G f ∙ fill_of kind x y w h last state is

pub blit_is : (kind x y w h last state : ℕ) (r : Rect) (pixels : List Rgb) (after : ℕ) → 3 ≤ kind % 4 → r ≡ rect_of x y w h 32 32 → pixels ≡ colours state (r.w * r.h) → after ≡ state_after state (r.w * r.h) →
    (Blit r pixels, after) ≡ line_of kind x y w h last state
blit_is kind x y w h last state r pixels after is e f g =
    let F : List Rgb → Line × ℕ = λ p. (Blit r p, after) in
    let G : ℕ → Line × ℕ = λ a. (Blit r (colours state (r.w * r.h)), a) in
    let H : Rect → Line × ℕ = λ r. (Blit r (colours state (r.w * r.h)), state_after state (r.w * r.h)) in
    ap F f ∙ ap G g ∙ ap H e ∙ blit_of kind x y w h last state is

-- six words one after another
pub drawn_is : (s0 s1 s2 s3 s4 s5 s6 kind x y w h last : ℕ) → (kind, s1) ≡ mix_u64 s0 → (x, s2) ≡ mix_u64 s1 → (y, s3) ≡ mix_u64 s2 → (w, s4) ≡ mix_u64 s3 → (h, s5) ≡ mix_u64 s4 → (last, s6) ≡ mix_u64 s5 →
    line_of kind x y w h last s6 ≡ drawn s0
unfolding drawn
drawn_is s0 s1 s2 s3 s4 s5 s6 kind x y w h last a b c d e f =
    ap (λ (p : ℕ × ℕ). line_of kind x y w h p.0 p.1) f
    ∙ ap (λ (p : ℕ × ℕ). line_of kind x y w p.0 (mix_u64 p.1).0 (mix_u64 p.1).1) e
    ∙ ap (λ (p : ℕ × ℕ). let q : ℕ × ℕ = mix_u64 p.1 in line_of kind x y p.0 q.0 (mix_u64 q.1).0 (mix_u64 q.1).1) d
    ∙ ap (λ (p : ℕ × ℕ). let o : ℕ × ℕ = mix_u64 p.1 in let q : ℕ × ℕ = mix_u64 o.1 in line_of kind x p.0 o.0 q.0 (mix_u64 q.1).0 (mix_u64 q.1).1) c
    ∙ ap (λ (p : ℕ × ℕ). let n : ℕ × ℕ = mix_u64 p.1 in let o : ℕ × ℕ = mix_u64 n.1 in let q : ℕ × ℕ = mix_u64 o.1 in line_of kind p.0 n.0 o.0 q.0 (mix_u64 q.1).0 (mix_u64 q.1).1) b
    ∙ ap (λ (p : ℕ × ℕ). let m : ℕ × ℕ = mix_u64 p.1 in let n : ℕ × ℕ = mix_u64 m.1 in let o : ℕ × ℕ = mix_u64 n.1 in let q : ℕ × ℕ = mix_u64 o.1 in line_of p.0 m.0 n.0 o.0 q.0 (mix_u64 q.1).0 (mix_u64 q.1).1) a

spellable_blit : (x y w h state : ℕ) → IsSpellable (Blit (rect_of x y w h 32 32) (colours state ((1 + w % 32) * (1 + h % 32))))
spellable_blit x y w h state =
    let few : (1 + w % 32) * (1 + h % 32) ≤ 32 * 32 = mul-le (1 + w % 32) (1 + h % 32) 32 32 (omega arith) (omega arith) in (
      record { x = omega arith; y = omega arith; w = omega arith; h = omega arith; wide = omega arith; high = omega arith },
      record { count = colours_count state ((1 + w % 32) * (1 + h % 32)); few = omega (arith, few); colours = spellable_colours state ((1 + w % 32) * (1 + h % 32)) },
    )

pub spellable_blit_is : (x y w h state : ℕ) (r : Rect) (pixels : List Rgb) → r ≡ rect_of x y w h 32 32 → pixels ≡ colours state (r.w * r.h) → IsSpellable (Blit r pixels)
spellable_blit_is x y w h state r pixels e f =
    let P : List Rgb → Type 0 = λ p. IsSpellable (Blit r p) in
    let Q : Rect → Type 0 = λ r. IsSpellable (Blit r (colours state (r.w * r.h))) in
    subst P (sym f) (subst Q (sym e) (spellable_blit x y w h state))
