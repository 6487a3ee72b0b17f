-- Frames behind others have their size.
use Rattle.std.proofs.Common.{◌≡◌, ℕ, Bool, true, false, cond, List, [], ◌∷◌, Option, Some, None, Result, Ok, Err, refl, sym, ap, ◌∙◌}
use Rattle.std.specs.Prelude.{not, ◌==◌}
use Rattle.std.proofs.lemmas.Bool.{eqb-true, and_parts}
use Rattle.h265_model.specs.Bits.{◌>>-◌}
use Rattle.h265_model.specs.Plain.{Size}
use Rattle.h265_model.specs.Settings.{is_size}
use Rattle.frame_read.specs.declared.error.Flaw.{Flaw}
use Rattle.frame_read.specs.declared.error.Flaw.TheVariants.{OtherMaximum, NoSize, AnotherSize}
use Rattle.frame_read.specs.declared.error.HeadNumber.TheVariants.{Width, Height, Maximum}
use Rattle.frame_read.specs.Numbers.{before_number, number_from}
use Rattle.frame_read.specs.Heads.{magic_of, size_of, is_like, head_of, next_head}
use Rattle.frame_read.proofs.HeadParts.{from_width, from_height, from_maximum, judged}

-- a size and what follows it
abbrev followed_by : List ℕ → Size → Result (Size × List ℕ) Flaw
followed_by bytes size = Ok (size, bytes)

abbrev some_head : Size × List ℕ → Result (Option Size × List ℕ) Flaw
some_head head = Ok (Some head.0, head.1)

-- a value that was made of two steps
bind_is : {A B : Type 0} (r : Result A Flaw) (f : A → Result B Flaw) (v : B) → (r >>- f) ≡ Ok v → (x : A) × (f x ≡ Ok v)
bind_is (Ok x) f v e = (x, e)
bind_is (Err flaw) f v e = absurd cc

size_is : (s : Size) (w h maximum : ℕ) (size : Size) → size_of (Some s) w h maximum ≡ Ok size → size ≡ s
size_is s w h maximum size e = go (not (maximum == 255)) (not (is_size (record { w = w; h = h }))) (is_like (Some s) w h) refl e
  where
    go : (a b c : Bool) → is_like (Some s) w h ≡ c
        → cond a (Err (OtherMaximum maximum)) (cond b (Err (NoSize w h)) (cond c (Ok (record { w = w; h = h })) (Err (AnotherSize w h)))) ≡ Ok size → size ≡ s
    go true b c like e = absurd cc
    go false true c like e = absurd cc
    go false false false like e = absurd cc
    go false false true like e =
        let both = and_parts (s.w == w) (s.h == h) like in
        let wide : s.w ≡ w = eqb-true s.w w both.0 in
        let high : s.h ≡ h = eqb-true s.h h both.1 in
        let made : Size = record { w = w; h = h } in
        let same : made ≡ size = cc in
        sym same ∙ (ap (λ (k : ℕ). let t : Size = record { w = k; h = h } in t) (sym wide) ∙ ap (λ (k : ℕ). let t : Size = record { w = s.w; h = k } in t) (sym high))

judged_is : (s : Size) (w h maximum : ℕ) (bytes rest : List ℕ) (size : Size) → judged (Some s) w h maximum bytes ≡ Ok (size, rest) → size ≡ s
judged_is s w h maximum bytes rest size e = go (size_of (Some s) w h maximum) refl e
  where
    go : (r : Result Size Flaw) → size_of (Some s) w h maximum ≡ r → (r >>- followed_by bytes) ≡ Ok (size, rest) → size ≡ s
    go (Ok found) is e =
        let pair : (found, bytes) ≡ (size, rest) = cc in
        let same : found ≡ size = ap (λ (t : Size × List ℕ). t.0) pair in
        sym same ∙ size_is s w h maximum found is
    go (Err flaw) is e = absurd cc

head_like : (s : Size) (bytes rest : List ℕ) (size : Size) → head_of (Some s) bytes ≡ Ok (size, rest) → size ≡ s
unfolding head_of
head_like s bytes rest size e =
    let magic = bind_is (magic_of bytes) (λ x. from_width (Some s) x.0 x.1) (size, rest) e in
    let w = bind_is (number_from Width (before_number magic.0.0) magic.0.1) (λ x. from_height (Some s) x.0 x.1) (size, rest) magic.1 in
    let h = bind_is (number_from Height (before_number false) w.0.1) (λ x. from_maximum (Some s) w.0.0 x.0 x.1) (size, rest) w.1 in
    let maximum = bind_is (number_from Maximum (before_number false) h.0.1) (λ x. judged (Some s) w.0.0 h.0.0 x.0 x.1) (size, rest) h.1 in
    judged_is s w.0.0 h.0.0 maximum.0.0 maximum.0.1 rest size maximum.1

-- a head behind frames has their size
pub like_is : (s : Size) (bytes rest : List ℕ) (size : Size) → next_head (Some s) bytes ≡ Ok (Some size, rest) → size ≡ s
like_is s [] rest size e =
    let pair : (None, []) ≡ (Some size, rest) = cc in
    let none : None ≡ Some size = ap (λ (t : Option Size × List ℕ). t.0) pair in
    absurd cc
like_is s (c ∷ cs) rest size e = go (head_of (Some s) (c ∷ cs)) refl e
  where
    go : (r : Result (Size × List ℕ) Flaw) → head_of (Some s) (c ∷ cs) ≡ r → (r >>- some_head) ≡ Ok (Some size, rest) → size ≡ s
    go (Ok head) is e =
        let pair : (Some head.0, head.1) ≡ (Some size, rest) = cc in
        let some : Some head.0 ≡ Some size = ap (λ (t : Option Size × List ℕ). t.0) pair in
        let same : head.0 ≡ size = cc in
        sym same ∙ head_like s (c ∷ cs) head.1 head.0 is
    go (Err flaw) is e = absurd cc
