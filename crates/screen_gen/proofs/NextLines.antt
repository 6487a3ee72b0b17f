-- One more line of a client.
use Rattle.std.proofs.Common.{◌≡◌, refl, sym, ◌∙◌, ap, ℕ, suc, ◌+◌, ◌-◌, ◌<◌, true, false, List, [], ◌∷◌, ◌++◌, append_assoc, arith}
use Rattle.std.specs.Prelude.{Result, Ok, Err, IfOk}
use Rattle.std.proofs.lemmas.List.{append-nil}
use Rattle.recorder_model.specs.declared.line.Line.{Line}
use Rattle.recorder_model.specs.declared.line.Line.TheVariants.{Cut}
use Rattle.screen_gen.specs.Generated.{drawn, is_cut, lines_from, IsNext}

pub cut_next : (client index state : ℕ) → is_cut client index ≡ true → IsNext client index state Cut state
unfolding lines_from
cut_next client index state h n = rw h refl

pub paint_next : (client index state : ℕ) → is_cut client index ≡ false → IsNext client index state (drawn state).0 (drawn state).1
unfolding lines_from
paint_next client index state h n = rw h refl

pub paint_is_next : (client index state next : ℕ) (line : Line) → is_cut client index ≡ false → (line, next) ≡ drawn state → IsNext client index state line next
paint_is_next client index state next line h is n =
    paint_next client index state h n ∙ ap (λ (p : Line × ℕ). p.0 ∷ lines_from client p.1 (index + 1) n) (sym is)

-- lines so far with those that are to come
pub one_line : (client index state next : ℕ) (line : Line) (front : List Line) → index < 60 → IsNext client index state line next →
    (front ++ (line ∷ [])) ++ lines_from client next (index + 1) (60 - (index + 1)) ≡ front ++ lines_from client state index (60 - index)
one_line client index state next line front less is =
    let left = 60 - (index + 1) in
    let many : suc left ≡ 60 - index = omega arith in
    append_assoc front (line ∷ []) (lines_from client next (index + 1) left)
    ∙ ap (λ l. front ++ l) (sym (is left))
    ∙ ap (λ n. front ++ lines_from client state index n) many

pub no_more : (client state index : ℕ) (front : List Line) → 60 - index ≡ 0 → front ++ lines_from client state index (60 - index) ≡ front
unfolding lines_from
no_more client state index front h = rw h (append-nil front)

-- the same of a line that may be there
pub paint_may_be_next : {E : Type 0} (client index state next : ℕ) (r : Result Line E) → is_cut client index ≡ false → IfOk r (λ line. (line, next) ≡ drawn state) → IfOk r (λ line. IsNext client index state line next)
paint_may_be_next client index state next (Ok line) h is = paint_is_next client index state next line h is
paint_may_be_next client index state next (Err e) h is = tt
