-- A file among others, put together from its bytes and the others.
use Rattle.std.proofs.Common.{◌≡◌, ℕ, ◌+◌, List, [], ◌++◌, length, append_assoc, Option, Some, None, cond, refl, sym, ◌∙◌, ap, subst}
use Rattle.std.specs.Prelude.{option_map, slice_index_or}
use Rattle.std.specs.Ordering.{nat_cmp, is_eq}
use Rattle.std.specs.declared.cmp.Ordering.{Ordering}
use Rattle.std.specs.declared.cmp.Ordering.TheVariants.{Less, Equal, Greater}
use Rattle.std.specs.Cmp.Lexicographic.{slice_cmp, nat_list_cmp_total}
use Rattle.std.specs.FinMap.{get, insert, remove, get-insert, get-remove, get_tied, same_map, slice_cmp-IsAntisymmetric, nat_cmp-IsAntisymmetric}
use Rattle.std.proofs.lemmas.List.{append-nil}
use Rattle.h265_model.specs.Settings.{Settings}
use Rattle.h265_model.specs.Raster.{Raster}
use Rattle.h265_model.specs.Stream.{pieces}
use Rattle.recorder_model.specs.Files.{Files, file_at, WhereTold}
use Rattle.recorder_model.specs.FileLaws.{insert_again}
use Rattle.recorder_model.specs.Headline.{IsCutShort}
use Rattle.edges.specs.Sunk.{IsThere}
use Rattle.recorder.specs.declared.record.RecordEnd.{RecordEnd}
use Rattle.recorder.specs.declared.record.RecordEnd.TheVariants as end
use Rattle.recorder.specs.Ends.{Ends, first_pieces}
use Rattle.screenrec.specs.Together.{EndsInFile}

-- the other files are as they were, and this one is there
pub restored : (x y : Files) (out : List ℕ) → remove y out ≡ remove x out → get y out ≡ Some (file_at y out) → y ≡ insert x out (file_at y out)
restored x y out others there =
    same_map nat_list_cmp_total (slice_cmp-IsAntisymmetric nat_cmp-IsAntisymmetric) _ _ (λ q.
    at q (slice_cmp nat_cmp q out) refl
    (sym (get-remove nat_list_cmp_total y out q) ∙ ap (λ (m : Files). get m q) others ∙ get-remove nat_list_cmp_total x out q)
    ∙ sym (get-insert nat_list_cmp_total x out (file_at y out) q))
  where
    at : (q : List ℕ) (r : Ordering) → slice_cmp nat_cmp q out ≡ r → cond (is_eq r) None (get y q) ≡ cond (is_eq r) None (get x q) →
        get y q ≡ cond (is_eq r) (Some (file_at y out)) (get x q)
    at q Less e h = h
    at q Equal e h = sym (get_tied nat_list_cmp_total y q out e) ∙ there
    at q Greater e h = h

grown_to : (x y : Files) (out bytes : List ℕ) → remove y out ≡ remove x out → get y out ≡ Some (file_at y out) → file_at x out ≡ [] → file_at y out ≡ file_at x out ++ bytes → y ≡ insert x out bytes
grown_to x y out bytes others there empty grown =
    restored x y out others there ∙ ap (insert x out) (grown ∙ ap (λ (l : List ℕ). l ++ bytes) empty)

in_file : (settings : Settings) (ps : List Raster) (wanted taken : ℕ) (out : List ℕ) (x y : Files) (answer : RecordEnd) → remove y out ≡ remove x out → get y out ≡ Some (file_at y out) →
    Ends settings ps wanted taken (Some (file_at x out)) (Some (file_at y out)) answer → file_at x out ≡ [] → EndsInFile settings out ps wanted taken x y answer
in_file settings ps wanted taken out x y (end.Ok written) others there e empty = record {
  all = e.all;
  counted = e.counted;
  stored = grown_to x y out (first_pieces settings ps (wanted + 1)) others there empty e.told;
}
in_file settings ps wanted taken out x y (end.SinkFault written) others there e empty = record {
  whole = e.whole;
  part = e.told.0;
  is_part = e.told.1;
  stored = grown_to x y out (first_pieces settings ps e.whole ++ e.told.0) others there empty (e.told.2 ∙ append_assoc (file_at x out) (first_pieces settings ps e.whole) e.told.0);
  counted = e.counted;
}
in_file settings ps wanted taken out x y (end.NoMemory written) others there e empty = (
  record {
    whole = e.whole;
    part = [];
    is_part = (slice_index_or (pieces settings ps) e.whole [], refl);
    stored = grown_to x y out (first_pieces settings ps e.whole) others there empty e.told ∙ ap (insert x out) (sym (append-nil (first_pieces settings ps e.whole)));
    counted = e.counted;
  },
  e.counted ∙ ap length (sym (e.told ∙ ap (λ (l : List ℕ). l ++ first_pieces settings ps e.whole) empty)),
)
in_file settings ps wanted taken out x y (end.Ended written) others there e empty = (
  record {
    whole = e.whole;
    part = [];
    is_part = (slice_index_or (pieces settings ps) e.whole [], refl);
    stored = grown_to x y out (first_pieces settings ps e.whole) others there empty e.told ∙ ap (insert x out) (sym (append-nil (first_pieces settings ps e.whole)));
    counted = e.counted;
  },
  e.counted ∙ ap length (sym (e.told ∙ ap (λ (l : List ℕ). l ++ first_pieces settings ps e.whole) empty)),
)

-- what a sink over the file tells of it
pub sunk : (settings : Settings) (ps : List Raster) (wanted taken : ℕ) (a b : Option Files) (out now_out : List ℕ) (answer : RecordEnd) → IsThere b now_out →
    Ends settings ps wanted taken (option_map (λ files. file_at files out) a) (option_map (λ files. file_at files now_out) b) answer →
    WhereTold {A = List ℕ × Files} (option_map (λ files. (out, remove files out)) a) (option_map (λ files. (now_out, remove files now_out)) b) (λ was now. now ≡ was) →
    WhereTold a b (λ before after. file_at before out ≡ [] → EndsInFile settings out ps wanted taken before after answer)
sunk settings ps wanted taken a None out now_out answer there e beside = tt
sunk settings ps wanted taken None (Some y) out now_out answer there e beside = absurd beside
sunk settings ps wanted taken (Some x) (Some y) out now_out answer there e beside =
    let name : now_out ≡ out = ap (λ (p : List ℕ × Files). p.0) beside in
    let others : remove y out ≡ remove x out = ap (λ (n : List ℕ). remove y n) (sym name) ∙ ap (λ (p : List ℕ × Files). p.1) beside in
    in_file settings ps wanted taken out x y answer others
    (subst (λ (n : List ℕ). get y n ≡ Some (file_at y n)) name there)
    (subst (λ (n : List ℕ). Ends settings ps wanted taken (Some (file_at x out)) (Some (file_at y n)) answer) name e)

-- ---- after the file was made

again : (x y : Files) (out bytes : List ℕ) → y ≡ insert x out [] → insert y out bytes ≡ insert x out bytes
again x y out bytes e = ap (λ (m : Files). insert m out bytes) e ∙ insert_again x out [] bytes

cut_short_from : (settings : Settings) (out : List ℕ) (ps : List Raster) (x y z : Files) (written : ℕ) → y ≡ insert x out [] → IsCutShort settings out ps y z written → IsCutShort settings out ps x z written
cut_short_from settings out ps x y z written e s = record {
  whole = s.whole;
  part = s.part;
  is_part = s.is_part;
  stored = s.stored ∙ again x y out (first_pieces settings ps s.whole ++ s.part) e;
  counted = s.counted;
}

pub ends_from : (settings : Settings) (out : List ℕ) (ps : List Raster) (wanted taken : ℕ) (x y z : Files) (answer : RecordEnd) → y ≡ insert x out [] →
    EndsInFile settings out ps wanted taken y z answer → EndsInFile settings out ps wanted taken x z answer
ends_from settings out ps wanted taken x y z (end.Ok written) e s = record {
  all = s.all;
  counted = s.counted;
  stored = s.stored ∙ again x y out (first_pieces settings ps (wanted + 1)) e;
}
ends_from settings out ps wanted taken x y z (end.SinkFault written) e s = cut_short_from settings out ps x y z written e s
ends_from settings out ps wanted taken x y z (end.NoMemory written) e s = (cut_short_from settings out ps x y z written e s.0, s.1)
ends_from settings out ps wanted taken x y z (end.Ended written) e s = (cut_short_from settings out ps x y z written e s.0, s.1)
