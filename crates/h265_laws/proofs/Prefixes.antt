-- Pieces of a list of pictures begin those of a longer list.
use Rattle.std.proofs.Common.{false, ◌≡◌, ℕ, ◌+◌, List, [], ◌∷◌, ◌++◌, length, Option, Some, None, refl, sym, ◌∙◌, ap, arith}
use Rattle.std.specs.List.{last_or}
use Rattle.h265_model.specs.Settings.{Settings, has_segments}
use Rattle.h265_model.specs.Raster.{Raster}
use Rattle.h265_model.specs.NalUnits.{stream_bytes}
use Rattle.h265_model.specs.ParamSets.{param_units}
use Rattle.h265_model.specs.Stream.{pieces, pieces_after, picture_piece}
use Rattle.h265_laws.specs.Laws.{EachPrefixIsKept}

pieces_after-split : (settings : Settings) (n : ℕ) (before : Option Raster) (ps qs : List Raster) → (rest : List (List ℕ)) × (pieces_after settings n before (ps ++ qs) ≡ pieces_after settings n before ps ++ rest)
unfolding pieces_after
pieces_after-split settings n before [] qs = (pieces_after settings n before qs, refl)
pieces_after-split settings n before (p ∷ ps) qs =
    let others = pieces_after-split settings (n + 1) (Some p) ps qs in
    (others.0, ap (λ l. picture_piece settings n before p ∷ l) others.1)

pub prefixes : EachPrefixIsKept
unfolding pieces
prefixes settings ps qs =
    let others = pieces_after-split settings 0 None ps qs in
    (others.0, ap (λ l. stream_bytes (param_units settings.size (has_segments settings.extra)) ∷ l) others.1)

-- ---- one picture more

pieces_after-append : (settings : Settings) (n : ℕ) (before : Option Raster) (ps : List Raster) (now : Raster) →
    pieces_after settings n before (ps ++ now ∷ []) ≡ pieces_after settings n before ps ++ picture_piece settings (n + length ps) (last_or before ps) now ∷ []
unfolding pieces_after
pieces_after-append settings n before [] now =
    let e : n + 0 ≡ n = omega arith in
    ap (λ (m : ℕ). picture_piece settings m before now ∷ []) (sym e)
pieces_after-append settings n before (p ∷ ps) now =
    let e : (n + 1) + length ps ≡ n + length (p ∷ ps) = omega arith in
    ap (λ (l : List (List ℕ)). picture_piece settings n before p ∷ l)
    (pieces_after-append settings (n + 1) (Some p) ps now
    ∙ ap (λ (m : ℕ). pieces_after settings (n + 1) (Some p) ps ++ picture_piece settings m (last_or (Some p) ps) now ∷ []) e)

-- one more picture is one more piece
pub pieces-append : (settings : Settings) (ps : List Raster) (now : Raster) →
    pieces settings (ps ++ now ∷ []) ≡ pieces settings ps ++ picture_piece settings (length ps) (last_or None ps) now ∷ []
unfolding pieces
pieces-append settings ps now =
    let e : 0 + length ps ≡ length ps = omega arith in
    ap (λ (l : List (List ℕ)). stream_bytes (param_units settings.size (has_segments settings.extra)) ∷ l)
    (pieces_after-append settings 0 None ps now
    ∙ ap (λ (m : ℕ). pieces_after settings 0 None ps ++ picture_piece settings m (last_or None ps) now ∷ []) e)
