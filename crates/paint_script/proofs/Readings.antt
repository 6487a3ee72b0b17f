-- Reading a script, one line at a time.
use Rattle.std.proofs.Common.{◌≡◌, ℕ, ◌+◌, ◌==◌, List, [], ◌∷◌, ◌++◌, length, refl, sym, ap, ◌∙◌, Result, Ok, Err, arith, ◌<◌, Bool, true, false, drop}
use Rattle.std.proofs.lemmas.List.{append_assoc, append-nil, length_push, nil_from_length}
use Rattle.std.specs.List.{slice_split}
use Rattle.std.proofs.lemmas.Slice.Eq.{starts_is}
use Rattle.std.proofs.lemmas.Bool.{cond-true, cond-false}
use Rattle.std.proofs.lemmas.Bool.Decides.{Decides-eqb}
use Rattle.recorder_model.specs.declared.line.Line.{Line}
use Rattle.recorder_model.specs.declared.refusal.Cause.{Cause}
use Rattle.recorder_model.specs.declared.refusal.Cause.TheVariants.{NoLineFeed}
use Rattle.recorder_model.specs.Script.{BadLine, version_line, has_version_line, version_of, line_of, pieces_script, script_of, at_line}
use Rattle.h265_model.specs.Bits.{◌>>-◌}
use Rattle.paint_script.proofs.Splits.{HasFirst, split-first}

-- these lines before those that are read of the rest
abbrev pub after_lines : List Line → Result (List Line) BadLine → Result (List Line) BadLine
after_lines before (Ok lines) = Ok (before ++ lines)
after_lines before (Err bad) = Err bad

after_lines-after : (before : List Line) (line : Line) (read : Result (List Line) BadLine) → after_lines before (after_lines (line ∷ []) read) ≡ after_lines (before ++ line ∷ []) read
after_lines-after before line (Ok lines) = ap Ok (sym (append_assoc before (line ∷ []) lines))
after_lines-after before line (Err bad) = refl

-- the pieces of a text with a line feed
pub pieces-line : (version n : ℕ) (piece : List ℕ) (pieces : List (List ℕ)) → HasFirst pieces → pieces_script version n (piece ∷ pieces) ≡ (at_line n (line_of version piece) >>- λ line. pieces_script version (n + 1) pieces >>- λ lines. Ok (line ∷ lines))
unfolding pieces_script
pieces-line version n piece [] more = let no : [] ≡ more.first ∷ more.others = more.is in cc
pieces-line version n [] (next ∷ pieces) more = refl
pieces-line version n (c ∷ cs) (next ∷ pieces) more = refl

pub onto-line : (line : Line) (read : Result (List Line) BadLine) → (read >>- λ lines. Ok (line ∷ lines)) ≡ after_lines (line ∷ []) read
onto-line line (Ok lines) = refl
onto-line line (Err bad) = refl

-- the pieces of a text, cut at its line feeds
abbrev pub pieces_of : List ℕ → List (List ℕ)
pieces_of text = slice_split (λ c. c == 10) text

-- `before` are the lines of the file up to here, `text` is what is left, and the number of the script's first line is its version
pub record IsReadSoFar (version : ℕ) (file : List ℕ) (before : List Line) (text : List ℕ) : Type 0 where
  pub is : script_of file ≡ after_lines before (pieces_script version (length before + version) (pieces_of text))

after_lines-nil : (read : Result (List Line) BadLine) → read ≡ after_lines [] read
after_lines-nil (Ok lines) = refl
after_lines-nil (Err bad) = refl

pub read-start : (version : ℕ) (file text : List ℕ) → script_of file ≡ pieces_script version version (pieces_of text) → IsReadSoFar version file [] text
read-start version file text e =
    let first : version ≡ length {A = Line} [] + version = omega arith in
    record { is = e ∙ after_lines-nil (pieces_script version version (pieces_of text)) ∙ ap (λ (n : ℕ). after_lines [] (pieces_script version n (pieces_of text))) first }

pub read-line : (version : ℕ) (file : List ℕ) (before : List Line) (text piece next : List ℕ) (line : Line) → IsReadSoFar version file before text → pieces_of text ≡ piece ∷ pieces_of next → line_of version piece ≡ Ok line → IsReadSoFar version file (before ++ line ∷ []) next
read-line version file before text piece next line so_far cut e =
    let n : ℕ = length before + version in
    let rest = pieces_script version (n + 1) (pieces_of next) in
    let here : pieces_script version n (pieces_of text) ≡ after_lines (line ∷ []) rest =
    ap (pieces_script version n) cut
    ∙ pieces-line version n piece (pieces_of next) (split-first (λ c. c == 10) next)
    ∙ ap (λ r. at_line n r >>- λ l. rest >>- λ lines. Ok (l ∷ lines)) e
    ∙ onto-line line rest in
    let number : n + 1 ≡ length (before ++ line ∷ []) + version = omega (arith, length_push before line) in
    record {
      is = so_far.is ∙ ap (after_lines before) here ∙ after_lines-after before line rest
          ∙ ap (λ m. after_lines (before ++ line ∷ []) (pieces_script version m (pieces_of next))) number;
    }

pub read-bad : (version : ℕ) (file : List ℕ) (before : List Line) (text piece next : List ℕ) (cause : Cause) → IsReadSoFar version file before text → pieces_of text ≡ piece ∷ pieces_of next → line_of version piece ≡ Err cause → script_of file ≡ Err (record { line = length before + version; cause = cause })
read-bad version file before text piece next cause so_far cut e =
    let n : ℕ = length before + version in
    so_far.is
    ∙ ap (λ p. after_lines before (pieces_script version n p)) cut
    ∙ ap (after_lines before) (pieces-line version n piece (pieces_of next) (split-first (λ c. c == 10) next) ∙ ap (λ r. at_line n r >>- λ l. pieces_script version (n + 1) (pieces_of next) >>- λ lines. Ok (l ∷ lines)) e)

last-empty : (version n : ℕ) → pieces_script version n ([] ∷ []) ≡ Ok []
unfolding pieces_script
last-empty version n = refl

last-open : (version n : ℕ) (text : List ℕ) → 0 < length text → pieces_script version n (text ∷ []) ≡ Err (record { line = n; cause = NoLineFeed })
unfolding pieces_script
last-open version n [] h = absurd (omega arith)
last-open version n (c ∷ cs) h = refl

pub read-end : (version : ℕ) (file : List ℕ) (before : List Line) (text : List ℕ) → IsReadSoFar version file before text → pieces_of text ≡ text ∷ [] → length text ≡ 0 → script_of file ≡ Ok before
read-end version file before text so_far cut empty =
    let nil : text ≡ [] = nil_from_length text empty in
    so_far.is
    ∙ ap (λ p. after_lines before (pieces_script version (length before + version) p)) (cut ∙ ap (λ t. t ∷ []) nil)
    ∙ ap (after_lines before) (last-empty version (length before + version)) ∙ ap Ok (append-nil before)

pub read-open : (version : ℕ) (file : List ℕ) (before : List Line) (text : List ℕ) → IsReadSoFar version file before text → pieces_of text ≡ text ∷ [] → 0 < length text → script_of file ≡ Err (record { line = length before + version; cause = NoLineFeed })
read-open version file before text so_far cut open_end =
    so_far.is
    ∙ ap (λ p. after_lines before (pieces_script version (length before + version) p)) cut
    ∙ ap (after_lines before) (last-open version (length before + version) text open_end)

-- ---- versions

starts : (file : List ℕ) → (has_version_line file ≡ true → file ≡ version_line ++ drop (length version_line) file) × ((rest : List ℕ) → file ≡ version_line ++ rest → has_version_line file ≡ true)
unfolding has_version_line
starts file = starts_is Decides-eqb file version_line (has_version_line file) refl

-- a file that begins with the line that says version 2
pub read-version_2 : (file rest : List ℕ) → file ≡ version_line ++ rest → (2 ≡ version_of file) × (script_of file ≡ pieces_script 2 2 (pieces_of rest))
unfolding script_of
read-version_2 file rest e =
    let has : has_version_line file ≡ true = (starts file).1 rest e in
    let left : drop (length version_line) file ≡ rest = ap (drop (length version_line)) e in (
      sym (cond-true (has_version_line file) 2 1 has),
      cond-true (has_version_line file) _ _ has ∙ ap (λ (l : List ℕ). pieces_script 2 2 (pieces_of l)) left,
    )

-- any other file
pub read-version_1 : (file : List ℕ) → ((rest : List ℕ) → file ≡ version_line ++ rest → ⊥) → (1 ≡ version_of file) × (script_of file ≡ pieces_script 1 1 (pieces_of file))
unfolding script_of
read-version_1 file none = go (has_version_line file) refl
  where
    go : (b : Bool) → has_version_line file ≡ b → (1 ≡ version_of file) × (script_of file ≡ pieces_script 1 1 (pieces_of file))
    go true e = absurd (none (drop (length version_line) file) ((starts file).0 e))
    go false e = (sym (cond-false (has_version_line file) 2 1 e), cond-false (has_version_line file) _ _ e)
