-- Lines that a script gets, one after another.
use Rattle.std.proofs.Common.{◌≡◌, refl, sym, ◌∙◌, ap, subst, ℕ, ◌<◌, List, [], ◌∷◌, ◌++◌, length, append_assoc, Option, Some, None, arith}
use Rattle.std.specs.Prelude.{false, fold, Result, Ok, Err, OnOk}
use Rattle.std.specs.Borrow.{Bor}
use Rattle.std.specs.List.{slice_get}
use Rattle.std.specs.Option.{option_copied, IsSome}
use Rattle.std.proofs.lemmas.List.{append-nil}
use Rattle.std.proofs.lemmas.List.Sums.{fold-append}
use Rattle.std.proofs.Math.Seq.{get_or-append_seam}
use Rattle.std.proofs.lemmas.Option.{slice_get-get_or}
use Rattle.h265_model.specs.Plain.{Size}
use Rattle.h265_model.proofs.ListParts.{all_append}
use Rattle.recorder_model.specs.declared.line.Line.{Line}
use Rattle.recorder_model.specs.Script.{is_cut}
use Rattle.recorder_model.specs.Painting.{Shown, painted}
use Rattle.px_plane.specs.Planes.{Planes, ShowsColours}
use Rattle.paint_script.specs.Scripts.{Script}
use Rattle.frame_paints.specs.Lines.{Went}

pub went_none : (p : Planes) (s : Script) → Went p s p s
went_none p s = record { size = refl; version = refl; lines = []; added = sym (append-nil s.lines); paint = tt; shows = λ before h. h }

pub went_same : (p : Planes) (s t : Script) → t ≡ s → Went p s p t
went_same p s t same = subst (λ (u : Script). Went p s p u) (sym same) (went_none p s)

pub went_line : (p q : Planes) (s t : Script) (line : Line) → q.size ≡ p.size → t ≡ record { version = s.version; lines = s.lines ++ line ∷ [] } → is_cut line ≡ false
    → ((before : Shown) → ShowsColours p before → ShowsColours q (painted p.size before line)) → Went p s q t
went_line p q s t line size added paints shows = record {
  size = size;
  version = ap (λ (u : Script). u.version) added;
  lines = line ∷ [];
  added = ap (λ (u : Script). u.lines) added;
  paint = (paints, tt);
  shows = shows;
}

pub went_on : (p q r : Planes) (s t u : Script) → Went p s q t → Went q t r u → Went p s r u
went_on p q r s t u a b = record {
  size = b.size ∙ a.size;
  version = b.version ∙ a.version;
  lines = a.lines ++ b.lines;
  added = b.added ∙ (ap (λ (l : List Line). l ++ b.lines) a.added ∙ append_assoc s.lines a.lines b.lines);
  paint = all_append (λ line. is_cut line ≡ false) a.lines b.lines a.paint b.paint;
  shows = λ before h.
      let same : fold (painted q.size) (fold (painted p.size) before a.lines) b.lines ≡ fold (painted p.size) before (a.lines ++ b.lines) =
      ap (λ (size : Size). fold (painted size) (fold (painted p.size) before a.lines) b.lines) a.size ∙ sym (fold-append (painted p.size) before a.lines b.lines) in
      subst (ShowsColours r) same (b.shows (fold (painted p.size) before a.lines) (a.shows before h));
}

-- ---- the last line of a script

pub last_line : (lines all : List Line) (line : Line) (index : ℕ) → all ≡ lines ++ line ∷ [] → index ≡ length lines → slice_get all index ≡ Some line
last_line lines all line index added at =
    ap (λ (l : List Line). slice_get l index) added
    ∙ (ap (λ (i : ℕ). slice_get (lines ++ line ∷ []) i) at
    ∙ (slice_get-get_or (lines ++ line ∷ []) (length lines) line (long lines)
    ∙ ap Some (get_or-append_seam lines line [] line)))
  where
    long : (xs : List Line) → length xs < length (xs ++ line ∷ [])
    long [] = omega arith
    long (x ∷ xs) = let h : length xs < length (xs ++ line ∷ []) = long xs in omega arith

pub lent_some : (lent : Option (Bor Line)) (line : Line) → option_copied lent ≡ Some line → IsSome lent
lent_some None line e = cc
lent_some (Some b) line e = refl

-- what is lent is that line
pub lent_line : (lent : Option (Bor Line)) (found : Bor Line) (line : Line) → option_copied lent ≡ Some line → lent ≡ Some found → found.now ≡ line
lent_line lent found line is lends = let e : Some found.now ≡ Some line = sym (ap option_copied lends) ∙ is in cc

pub on_ok_both : {T E P Q R : Type 0} → (r : Result T E) → (P → Q → R) → OnOk r P → OnOk r Q → OnOk r R
on_ok_both (Ok x) f p q = f p q
on_ok_both (Err e) f p q = tt
