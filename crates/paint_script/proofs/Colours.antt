-- Colours, six digits at a time.
use Rattle.std.proofs.Common.{◌≡◌, ℕ, ◌+◌, ◌*◌, ◌≤◌, List, [], ◌∷◌, ◌++◌, length, drop, take, refl, sym, ap, ◌∙◌, arith, Option, Some, None, ◌==◌}
use Rattle.std.proofs.lemmas.Bool.{cond-true, cond-false, eq-eqb, ne_eqb}
use Rattle.std.proofs.lemmas.List.{drop_all, append_assoc, append-nil, length-drop, drop-drop}
use Rattle.h265_model.specs.Bits.{◌>>=◌}
use Rattle.recorder_model.specs.Script.{byte_at, colours, n_colours}
use Rattle.h265_model.specs.declared.rgb.Rgb.{Rgb}
use Rattle.paint_script.specs.Paint.{colour_of}

-- these colours before those that are read of the rest
abbrev pub onto_colours : List Rgb → Option (List Rgb) → Option (List Rgb)
onto_colours before None = None
onto_colours before (Some others) = Some (before ++ others)

-- a colour, and those of the rest
abbrev pub and_others : Option Rgb → Option (List Rgb) → Option (List Rgb)
and_others None others = None
and_others (Some c) others = onto_colours (c ∷ []) others

bind-others : (r g b : Option ℕ) (others : Option (List Rgb)) → (r >>= λ r. g >>= λ g. b >>= λ b. others >>= λ cs. Some (record { r = r; g = g; b = b } ∷ cs)) ≡ and_others (r >>= λ r. g >>= λ g. b >>= λ b. Some (record { r = r; g = g; b = b })) others
bind-others None g b others = refl
bind-others (Some r) None b others = refl
bind-others (Some r) (Some g) None others = refl
bind-others (Some r) (Some g) (Some b) None = refl
bind-others (Some r) (Some g) (Some b) (Some others) = refl

pub colours-step : (w : List ℕ) → 6 ≤ length w → colours w ≡ and_others (colour_of w) (colours (drop 6 w))
unfolding colours
colours-step [] h = absurd (omega arith)
colours-step (a ∷ []) h = absurd (omega arith)
colours-step (a ∷ b ∷ []) h = absurd (omega arith)
colours-step (a ∷ b ∷ c ∷ []) h = absurd (omega arith)
colours-step (a ∷ b ∷ c ∷ d ∷ []) h = absurd (omega arith)
colours-step (a ∷ b ∷ c ∷ d ∷ e ∷ []) h = absurd (omega arith)
colours-step (a ∷ b ∷ c ∷ d ∷ e ∷ f ∷ rest) h = bind-others (byte_at a b) (byte_at c d) (byte_at e f) (colours rest)

pub colours-nil : colours [] ≡ Some []
unfolding colours
colours-nil = refl

-- one colour
pub n_colours-one : (w : List ℕ) → length w ≡ 6 → n_colours 1 w ≡ and_others (colour_of w) (Some [])
n_colours-one w h =
    let rest : drop 6 w ≡ [] = drop_all 6 w (omega arith) in
    cond-true (length w == 6) (colours w) None (eq-eqb _ _ h)
    ∙ colours-step w (omega arith) ∙ ap (λ r. and_others (colour_of w) (colours r)) rest ∙ ap (and_others (colour_of w)) colours-nil

pub n_colours-other : (n : ℕ) (w : List ℕ) → (length w ≡ 6 * n → ⊥) → n_colours n w ≡ None
n_colours-other n w h = cond-false (length w == 6 * n) (colours w) None (ne_eqb _ _ h)

-- what one word says of its colour
pub one_colour-read : (w : List ℕ) (c : Rgb) → length w ≡ 6 → colour_of w ≡ Some c → n_colours 1 w ≡ Some (c ∷ [])
one_colour-read w c h e = n_colours-one w h ∙ ap (λ o. and_others o (Some [])) e

pub one_colour-none : (w : List ℕ) → length w ≡ 6 → colour_of w ≡ None → n_colours 1 w ≡ None
one_colour-none w h e = n_colours-one w h ∙ ap (λ o. and_others o (Some [])) e

colour_of-take : (v : List ℕ) → 6 ≤ length v → colour_of (take 6 v) ≡ colour_of v
colour_of-take [] h = absurd (omega arith)
colour_of-take (a ∷ []) h = absurd (omega arith)
colour_of-take (a ∷ b ∷ []) h = absurd (omega arith)
colour_of-take (a ∷ b ∷ c ∷ []) h = absurd (omega arith)
colour_of-take (a ∷ b ∷ c ∷ d ∷ []) h = absurd (omega arith)
colour_of-take (a ∷ b ∷ c ∷ d ∷ e ∷ []) h = absurd (omega arith)
colour_of-take (a ∷ b ∷ c ∷ d ∷ e ∷ f ∷ rest) h = refl

onto-onto : (before : List Rgb) (c : Rgb) (others : Option (List Rgb)) → onto_colours before (onto_colours (c ∷ []) others) ≡ onto_colours (before ++ c ∷ []) others
onto-onto before c None = refl
onto-onto before c (Some others) = ap Some (sym (append_assoc before (c ∷ []) others))

-- what a word says from its colour at `at` on
colours-at : (w : List ℕ) (at : ℕ) → at + 6 ≤ length w → colours (drop at w) ≡ and_others (colour_of (take 6 (drop at w))) (colours (drop (at + 6) w))
colours-at w at h =
    let long : 6 ≤ length (drop at w) = rw length-drop (omega arith) in
    colours-step (drop at w) long
    ∙ ap (λ o. and_others o (colours (drop 6 (drop at w)))) (sym (colour_of-take (drop at w) long))
    ∙ ap (λ r. and_others (colour_of (take 6 (drop at w))) (colours r)) (drop-drop 6 at w)

-- the next colour of a word
pub colours-more : (before : List Rgb) (w : List ℕ) (at : ℕ) (c : Rgb) → at + 6 ≤ length w → colours w ≡ onto_colours before (colours (drop at w)) → colour_of (take 6 (drop at w)) ≡ Some c → colours w ≡ onto_colours (before ++ c ∷ []) (colours (drop (at + 6) w))
colours-more before w at c h e is =
    e ∙ ap (onto_colours before) (colours-at w at h ∙ ap (λ o. and_others o (colours (drop (at + 6) w))) is) ∙ onto-onto before c (colours (drop (at + 6) w))

pub colours-stop : (before : List Rgb) (w : List ℕ) (at : ℕ) → at + 6 ≤ length w → colours w ≡ onto_colours before (colours (drop at w)) → colour_of (take 6 (drop at w)) ≡ None → colours w ≡ None
colours-stop before w at h e is =
    e ∙ ap (onto_colours before) (colours-at w at h ∙ ap (λ o. and_others o (colours (drop (at + 6) w))) is)

pub n_colours-some : (n : ℕ) (w : List ℕ) → length w ≡ 6 * n → n_colours n w ≡ colours w
n_colours-some n w h = cond-true (length w == 6 * n) (colours w) None (eq-eqb _ _ h)

pub colours-end : (before : List Rgb) (w : List ℕ) (at : ℕ) → length w ≤ at → colours w ≡ onto_colours before (colours (drop at w)) → colours w ≡ Some before
colours-end before w at h e =
    e ∙ ap (λ r. onto_colours before (colours r)) (drop_all at w h) ∙ ap (onto_colours before) colours-nil ∙ ap Some (append-nil before)
