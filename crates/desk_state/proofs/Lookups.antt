-- Reading a client's line.
use Rattle.std.proofs.Common.{◌≡◌, ℕ, ◌<◌, List, [], length, get_or, Option, Some, None, Result, Ok, Err, OnErr, IsSome, refl, sym, ap, subst, ◌∙◌, arith, inl, inr}
use Rattle.std.specs.Prelude.{slice_index_or}
use Rattle.std.specs.List.{slice_get}
use Rattle.std.specs.Option.{option_copied}
use Rattle.std.specs.Borrow.{Bor}
use Rattle.std.proofs.lemmas.Bool.{cases_lt}
use Rattle.std.proofs.lemmas.List.{get_or_past}
use Rattle.std.proofs.lemmas.Option.{slice_get-get_or, get_or_from_slice_get, none-some}
use Rattle.recorder_model.specs.declared.line.Line.{Line}
use Rattle.recorder_model.specs.declared.line.Line.TheVariants.{Fill, Blit, Copy, Cut}
use Rattle.recorder_model.specs.Painting.{accepted_line}
use Rattle.recorder_model.specs.Histories.{script_length}
use Rattle.paint_script.specs.Spellable.{IsSpellable, AreSpellable}
use Rattle.paint_script.specs.Scripts.{Script, lines_lent}
use Rattle.desk_surface.specs.Damage.{HasPixels}

-- what a look-up found
pub read_at : {X : Type 0} (r : Option (Bor X)) (x : Bor X) (xs : List X) (i : ℕ) (d : X) → option_copied r ≡ slice_get xs i → r ≡ Some x → get_or xs i d ≡ x.now
read_at r x xs i d e is = get_or_from_slice_get xs i x.now d (sym e ∙ ap option_copied is)

-- a look-up within the list finds something
pub found : {X : Type 0} (r : Option (Bor X)) (xs : List X) (i : ℕ) (d : X) → option_copied r ≡ slice_get xs i → i < length xs → IsSome r
found None xs i d e less = absurd (none-some (get_or xs i d) (e ∙ slice_get-get_or xs i d less))
found (Some x) xs i d e less = refl

-- the lines of a script that is lent
pub lines_read : (r : Option (Bor Script)) (script : Bor Script) (scripts : List (List Line)) (i : ℕ) → lines_lent r ≡ slice_get scripts i → r ≡ Some script → get_or scripts i [] ≡ script.now.lines
lines_read r script scripts i e is = get_or_from_slice_get scripts i script.now.lines [] (sym e ∙ ap lines_lent is)

-- a script of the list is lent
pub script_found : (r : Option (Bor Script)) (scripts : List (List Line)) (i : ℕ) → lines_lent r ≡ slice_get scripts i → i < length scripts → IsSome r
script_found None scripts i e less = absurd (none-some (get_or scripts i []) (e ∙ slice_get-get_or scripts i [] less))
script_found (Some x) scripts i e less = refl

pub client_there : (scripts : List (List Line)) (client index : ℕ) → index < script_length scripts client → client < length scripts
client_there scripts client index there = elim (cases_lt client (length scripts)) [
  | inl l ↦ l
  | inr le ↦ absurd (let e = ap length (get_or_past scripts client [] le) in omega (arith, e, there))
]

-- the line of a client's script
pub line_there : (scripts : List (List Line)) (client index : ℕ) (r : Option (Bor Script)) (script : Bor Script) → lines_lent r ≡ slice_get scripts client → r ≡ Some script → index < script_length scripts client → index < length script.now.lines
line_there scripts client index r script e is there = let l = ap length (lines_read r script scripts client e is) in omega (arith, l, there)

pub line_read : (scripts : List (List Line)) (client index : ℕ) (r : Option (Bor Script)) (script : Bor Script) (q : Option (Bor Line)) (line : Bor Line)
    → lines_lent r ≡ slice_get scripts client → r ≡ Some script → option_copied q ≡ slice_get script.now.lines index → q ≡ Some line → accepted_line scripts client index ≡ line.now
line_read scripts client index r script q line e is f at = ap (λ (l : List Line). slice_index_or l index Cut) (lines_read r script scripts client e is) ∙ read_at q line script.now.lines index Cut f at

pixels_of : (line : Line) → IsSpellable line → HasPixels line
pixels_of (Fill r c) is = tt
pixels_of (Blit r pixels) is = is.1.count
pixels_of (Copy r to_x to_y) is = tt
pixels_of Cut is = tt

pub pixels_read : (script : List Line) (index : ℕ) (q : Option (Bor Line)) (line : Bor Line) → AreSpellable script → option_copied q ≡ slice_get script index → q ≡ Some line → index < length script → HasPixels line.now
pixels_read script index q line are f at less = subst HasPixels (read_at q line script index Cut f at) (pixels_of (slice_index_or script index Cut) (are index Cut less))

pub on_err : {A E : Type 0} (r : Result A E) (P : Type 0) → P → OnErr r P
on_err (Ok x) P p = tt
on_err (Err e) P p = p
