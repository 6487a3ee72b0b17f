-- Files one after another, and whether their scripts are accepted.
use Rattle.std.proofs.Common.{◌≡◌, ℕ, zero, suc, ◌+◌, ◌<◌, ◌≤◌, true, false, List, [], ◌∷◌, ◌++◌, length, take, take_all, Option, Some, None, Result, Ok, Err, refl, sym, ◌∙◌, ap, subst, arith}
use Rattle.std.specs.Prelude.{count_by, nat_lt, slice_index_or, IsOk, is_ok}
use Rattle.std.specs.Borrow.{Bor}
use Rattle.std.proofs.lemmas.List.{take_more}
use Rattle.std.proofs.lemmas.Bool.Decides.{nat_tests}
use Rattle.std.proofs.lemmas.List.Sums.{sum_by-cons}
use Rattle.recorder_model.specs.declared.refusal.Cause.{Cause}
use Rattle.recorder_model.specs.declared.refusal.LimitKind.TheVariants.{Lines, Cuts}
use Rattle.recorder_model.specs.declared.line.Line.{Line}
use Rattle.paint_script.specs.Scripts.{Script}
use Rattle.recorder_model.specs.Script.{script_of, is_cut}
use Rattle.h265_model.specs.Bits.{◌>>-◌}
use Rattle.recorder_model.specs.Files.{Files, file_at, WhereTold}
use Rattle.recorder_model.specs.FileLaws.{told_on, told_same}
use Rattle.recorder_model.specs.Headline.{most_bytes, most_lines, most_cuts, Refusal, TooLarge, BadPaint, Limit, sized, in_file, within, scripts_after, scripts_of, contents}
use Rattle.command_line.specs.Views.{texts}
use Rattle.screenrec.specs.declared.outcome.Status.{Status}
use Rattle.screenrec.specs.declared.outcome.Status.TheVariants as status
use Rattle.screenrec.specs.Accepted.{name_at, all_lines, all_cuts, Accepts, AcceptsAll, IsOfTheFile}
use Rattle.screenrec.proofs.StoredLaws.{told_as}

over : (most n : ℕ) → most < n → nat_lt most n ≡ true
over most n h = grind (arith, nat_tests)

within_it : (most n : ℕ) → n ≤ most → nat_lt most n ≡ false
within_it most n h = grind (arith, nat_tests)

-- ---- one file

module _ (file lines cuts : ℕ) (bytes : List ℕ) where
  pub one_too_large : most_bytes < length bytes → scripts_after file lines cuts (bytes ∷ []) ≡ Err (TooLarge file)
  unfolding scripts_after
  one_too_large h = rw (over most_bytes (length bytes) h) refl

  pub one_bad : (line : ℕ) (cause : Cause) → length bytes ≤ most_bytes → script_of bytes ≡ Err (record { line = line; cause = cause }) →
      scripts_after file lines cuts (bytes ∷ []) ≡ Err (BadPaint file line cause)
  unfolding scripts_after
  one_bad line cause h e = rw (within_it most_bytes (length bytes) h, e) refl

  pub many_lines : (script : List Line) → length bytes ≤ most_bytes → script_of bytes ≡ Ok script → most_lines < lines + length script →
      scripts_after file lines cuts (bytes ∷ []) ≡ Err (Limit Lines)
  unfolding scripts_after
  many_lines script h e more = rw (within_it most_bytes (length bytes) h, e, over most_lines (lines + length script) more) refl

  pub many_cuts : (script : List Line) → length bytes ≤ most_bytes → script_of bytes ≡ Ok script → lines + length script ≤ most_lines →
      most_cuts < cuts + count_by is_cut script → scripts_after file lines cuts (bytes ∷ []) ≡ Err (Limit Cuts)
  unfolding scripts_after
  many_cuts script h e few more =
      rw (within_it most_bytes (length bytes) h, e, within_it most_lines (lines + length script) few, over most_cuts (cuts + count_by is_cut script) more) refl

  pub one_accepted : (script : List Line) → length bytes ≤ most_bytes → script_of bytes ≡ Ok script → lines + length script ≤ most_lines →
      cuts + count_by is_cut script ≤ most_cuts → scripts_after file lines cuts (bytes ∷ []) ≡ Ok (script ∷ [])
  unfolding scripts_after
  one_accepted script h e few few_cuts =
      rw (within_it most_bytes (length bytes) h, e, within_it most_lines (lines + length script) few, within_it most_cuts (cuts + count_by is_cut script) few_cuts) refl

pub told_too_large : (a b : Option Files) (file lines cuts : ℕ) (name : List ℕ) →
    WhereTold a b (λ before after. (after ≡ before) × (most_bytes < length (file_at before name))) →
    WhereTold a b (λ before after. (after ≡ before) × (scripts_after file lines cuts (file_at before name ∷ []) ≡ Err (TooLarge file)))
told_too_large a None file lines cuts name told = tt
told_too_large None (Some y) file lines cuts name told = absurd told
told_too_large (Some x) (Some y) file lines cuts name told = (told.0, one_too_large file lines cuts (file_at x name) told.1)

-- ---- files in front of others

-- the script of one file
abbrev next : ℕ → ℕ → ℕ → List ℕ → Result (List Line) Refusal
next file lines cuts bytes =
    sized file bytes >>- λ bytes.
    in_file file (script_of bytes) >>- λ script.
    within (lines + length script) (cuts + count_by is_cut script) >>- λ _.
    Ok script

-- the scripts of the files after it
abbrev others : ℕ → ℕ → ℕ → List (List ℕ) → List Line → Result (List (List Line)) Refusal
others file lines cuts files script =
    scripts_after (file + 1) (lines + length script) (cuts + count_by is_cut script) files >>- λ more. Ok (script ∷ more)

first_and_others : (file lines cuts : ℕ) (bytes : List ℕ) (files : List (List ℕ)) →
    scripts_after file lines cuts (bytes ∷ files) ≡ (next file lines cuts bytes >>- others file lines cuts files)
unfolding scripts_after
first_and_others file lines cuts bytes files = go (sized file bytes)
  where
    limits : (r : Result (Unit {0}) Refusal) (script : List Line) → (r >>- λ _. others file lines cuts files script) ≡ ((r >>- λ _. Ok script) >>- others file lines cuts files)
    limits (Ok u) script = refl
    limits (Err e) script = refl

    lines_of : (r : Result (List Line) Refusal) →
        (r >>- λ script. within (lines + length script) (cuts + count_by is_cut script) >>- λ _. others file lines cuts files script)
        ≡ ((r >>- λ script. within (lines + length script) (cuts + count_by is_cut script) >>- λ _. Ok script) >>- others file lines cuts files)
    lines_of (Ok script) = limits (within (lines + length script) (cuts + count_by is_cut script)) script
    lines_of (Err e) = refl

    go : (r : Result (List ℕ) Refusal) →
        (r >>- λ bytes. in_file file (script_of bytes) >>- λ script. within (lines + length script) (cuts + count_by is_cut script) >>- λ _. others file lines cuts files script)
        ≡ ((r >>- λ bytes. in_file file (script_of bytes) >>- λ script. within (lines + length script) (cuts + count_by is_cut script) >>- λ _. Ok script) >>- others file lines cuts files)
    go (Ok bytes) = lines_of (in_file file (script_of bytes))
    go (Err e) = refl

-- A refusal of the files in front refuses all.
pub refused_in_front : (file lines cuts : ℕ) (xs ys : List (List ℕ)) (e : Refusal) → scripts_after file lines cuts xs ≡ Err e → scripts_after file lines cuts (xs ++ ys) ≡ Err e
unfolding scripts_after
refused_in_front file lines cuts [] ys e is = cc
refused_in_front file lines cuts (bytes ∷ xs) ys e is =
    first_and_others file lines cuts bytes (xs ++ ys)
    ∙ first (next file lines cuts bytes) (λ script. refused_in_front (file + 1) (lines + length script) (cuts + count_by is_cut script) xs ys)
    (sym (first_and_others file lines cuts bytes xs) ∙ is)
  where
    rest : (script : List Line) (r s : Result (List (List Line)) Refusal) → ((e : Refusal) → r ≡ Err e → s ≡ Err e) → (r >>- λ more. Ok (script ∷ more)) ≡ Err e → (s >>- λ more. Ok (script ∷ more)) ≡ Err e
    rest script (Ok more) s h is = cc
    rest script (Err f) s h is = ap (λ (t : Result (List (List Line)) Refusal). t >>- λ more. Ok (script ∷ more)) (h f refl) ∙ is

    first : (r : Result (List Line) Refusal) →
        ((script : List Line) (e : Refusal) → scripts_after (file + 1) (lines + length script) (cuts + count_by is_cut script) xs ≡ Err e →
        scripts_after (file + 1) (lines + length script) (cuts + count_by is_cut script) (xs ++ ys) ≡ Err e) →
        (r >>- others file lines cuts xs) ≡ Err e → (r >>- others file lines cuts (xs ++ ys)) ≡ Err e
    first (Ok script) h is =
        rest script (scripts_after (file + 1) (lines + length script) (cuts + count_by is_cut script) xs)
        (scripts_after (file + 1) (lines + length script) (cuts + count_by is_cut script) (xs ++ ys)) (h script) is
    first (Err f) h is = is

same_totals : (files : List (List ℕ)) (f l c g m d : ℕ) → f ≡ g → l ≡ m → c ≡ d → scripts_after f l c files ≡ scripts_after g m d files
same_totals files f l c g m d p q r =
    ap (λ (n : ℕ). scripts_after n l c files) p ∙ ap (λ (n : ℕ). scripts_after g n c files) q ∙ ap (λ (n : ℕ). scripts_after g m n files) r

with_none : (r : Result (List (List Line)) Refusal) → r ≡ (r >>- λ more. Ok ([] ++ more))
with_none (Ok more) = refl
with_none (Err e) = refl

with_more : (script : List Line) (front : List (List Line)) (r : Result (List (List Line)) Refusal) →
    ((r >>- λ more. Ok (front ++ more)) >>- λ more. Ok (script ∷ more)) ≡ (r >>- λ more. Ok ((script ∷ front) ++ more))
with_more script front (Ok more) = refl
with_more script front (Err e) = refl

-- Files that are accepted count on.
pub accepted_in_front : (file lines cuts : ℕ) (xs ys : List (List ℕ)) (scripts : List (List Line)) → scripts_after file lines cuts xs ≡ Ok scripts →
    scripts_after file lines cuts (xs ++ ys)
    ≡ (scripts_after (file + length xs) (lines + all_lines scripts) (cuts + all_cuts scripts) ys >>- λ more. Ok (scripts ++ more))
unfolding scripts_after
accepted_in_front file lines cuts [] ys scripts is =
    let none : scripts ≡ [] = cc in
    with_none (scripts_after file lines cuts ys)
    ∙ ap (λ (r : Result (List (List Line)) Refusal). r >>- λ more. Ok ([] ++ more)) (same_totals ys file lines cuts (file + 0) (lines + 0) (cuts + 0) (omega arith) (omega arith) (omega arith))
    ∙ ap (λ (s : List (List Line)). scripts_after (file + 0) (lines + all_lines s) (cuts + all_cuts s) ys >>- λ more. Ok (s ++ more)) (sym none)
accepted_in_front file lines cuts (bytes ∷ xs) ys scripts is =
    first_and_others file lines cuts bytes (xs ++ ys)
    ∙ first (next file lines cuts bytes)
    (λ script. accepted_in_front (file + 1) (lines + length script) (cuts + count_by is_cut script) xs ys)
    (sym (first_and_others file lines cuts bytes xs) ∙ is)
  where
    On : Result (List (List Line)) Refusal
    On = scripts_after (file + length (bytes ∷ xs)) (lines + all_lines scripts) (cuts + all_cuts scripts) ys >>- λ more. Ok (scripts ++ more)

    rest : (script : List Line) (r s : Result (List (List Line)) Refusal) →
        ((found : List (List Line)) → r ≡ Ok found →
        s ≡ (scripts_after (file + 1 + length xs) (lines + length script + all_lines found) (cuts + count_by is_cut script + all_cuts found) ys >>- λ more. Ok (found ++ more))) →
        (r >>- λ more. Ok (script ∷ more)) ≡ Ok scripts → (s >>- λ more. Ok (script ∷ more)) ≡ On
    rest script (Ok found) s h is =
        let all : scripts ≡ script ∷ found = cc in
        ap (λ (t : Result (List (List Line)) Refusal). t >>- λ more. Ok (script ∷ more)) (h found refl)
        ∙ with_more script found (scripts_after (file + 1 + length xs) (lines + length script + all_lines found) (cuts + count_by is_cut script + all_cuts found) ys)
        ∙ ap (λ (t : Result (List (List Line)) Refusal). t >>- λ more. Ok ((script ∷ found) ++ more))
        (same_totals ys (file + 1 + length xs) (lines + length script + all_lines found) (cuts + count_by is_cut script + all_cuts found)
        (file + length (bytes ∷ xs)) (lines + all_lines (script ∷ found)) (cuts + all_cuts (script ∷ found)) (omega arith)
        (omega (arith, sum_by-cons length script found)) (omega (arith, sum_by-cons (count_by is_cut) script found)))
        ∙ ap (λ (s : List (List Line)). scripts_after (file + length (bytes ∷ xs)) (lines + all_lines s) (cuts + all_cuts s) ys >>- λ more. Ok (s ++ more)) (sym all)
    rest script (Err e) s h is = absurd (cc)

    first : (r : Result (List Line) Refusal) →
        ((script : List Line) (found : List (List Line)) → scripts_after (file + 1) (lines + length script) (cuts + count_by is_cut script) xs ≡ Ok found →
        scripts_after (file + 1) (lines + length script) (cuts + count_by is_cut script) (xs ++ ys)
        ≡ (scripts_after (file + 1 + length xs) (lines + length script + all_lines found) (cuts + count_by is_cut script + all_cuts found) ys >>- λ more. Ok (found ++ more))) →
        (r >>- others file lines cuts xs) ≡ Ok scripts → (r >>- others file lines cuts (xs ++ ys)) ≡ On
    first (Ok script) h is =
        rest script (scripts_after (file + 1) (lines + length script) (cuts + count_by is_cut script) xs)
        (scripts_after (file + 1) (lines + length script) (cuts + count_by is_cut script) (xs ++ ys)) (h script) is
    first (Err f) h is = absurd (cc)

from_none : (files : List (List ℕ)) (f l c : ℕ) → scripts_after (0 + f) (0 + l) (0 + c) files ≡ scripts_after f l c files
from_none files f l c = same_totals files (0 + f) (0 + l) (0 + c) f l c (omega arith) (omega arith) (omega arith)

-- one more file that is accepted, or refused
pub one_more_accepted : (xs : List (List ℕ)) (bytes : List ℕ) (scripts : List (List Line)) (script : List Line) → scripts_after 0 0 0 xs ≡ Ok scripts →
    scripts_after (length xs) (all_lines scripts) (all_cuts scripts) (bytes ∷ []) ≡ Ok (script ∷ []) → scripts_after 0 0 0 (xs ++ bytes ∷ []) ≡ Ok (scripts ++ script ∷ [])
one_more_accepted xs bytes scripts script front one =
    accepted_in_front 0 0 0 xs (bytes ∷ []) scripts front
    ∙ ap (λ (r : Result (List (List Line)) Refusal). r >>- λ more. Ok (scripts ++ more)) (from_none (bytes ∷ []) (length xs) (all_lines scripts) (all_cuts scripts) ∙ one)

pub one_more_refused : (xs ys : List (List ℕ)) (bytes : List ℕ) (scripts : List (List Line)) (e : Refusal) → scripts_after 0 0 0 xs ≡ Ok scripts →
    scripts_after (length xs) (all_lines scripts) (all_cuts scripts) (bytes ∷ []) ≡ Err e → scripts_after 0 0 0 (xs ++ bytes ∷ ys) ≡ Err e
one_more_refused xs ys bytes scripts e front one =
    accepted_in_front 0 0 0 xs (bytes ∷ ys) scripts front
    ∙ ap (λ (r : Result (List (List Line)) Refusal). r >>- λ more. Ok (scripts ++ more))
    (from_none (bytes ∷ ys) (length xs) (all_lines scripts) (all_cuts scripts) ∙ refused_in_front (length xs) (all_lines scripts) (all_cuts scripts) (bytes ∷ []) ys e one)

-- ---- names

pub named : (names : List (Bor (List ℕ))) (i : ℕ) (name : Bor (List ℕ)) → i < length names → name ≡ slice_index_or names i name → name_at names i ≡ name.now
named [] i name less e = absurd (omega (arith, less))
named (x ∷ names) zero name less e = ap (λ (b : Bor (List ℕ)). b.now) (sym e)
named (x ∷ names) (suc i) name less e = named names i name (omega (arith, less)) e

-- the bytes of the names in front, this one and those behind it
split_at : (names : List (Bor (List ℕ))) (i : ℕ) → i < length names →
    (behind : List (List ℕ)) × (texts names ≡ take i (texts names) ++ name_at names i ∷ behind)
split_at [] i less = absurd (omega arith)
split_at (x ∷ names) zero less = (texts names, refl)
split_at (x ∷ names) (suc i) less =
    let more = split_at names i (omega arith) in
    (more.0, ap (λ (l : List (List ℕ)). x.now ∷ l) more.1)

taken_length : (names : List (Bor (List ℕ))) (i : ℕ) → i ≤ length names → length (take i (texts names)) ≡ i
taken_length [] zero less = refl
taken_length [] (suc i) less = absurd (omega arith)
taken_length (x ∷ names) zero less = refl
taken_length (x ∷ names) (suc i) less = ap (λ (n : ℕ). suc n) (taken_length names i (omega arith))

length-texts : (names : List (Bor (List ℕ))) → length (texts names) ≡ length names
length-texts [] = refl
length-texts (x ∷ names) = ap (λ (n : ℕ). suc n) (length-texts names)

contents_taken : (x : Files) (names : List (List ℕ)) (i : ℕ) → take i (contents x names) ≡ contents x (take i names)
contents_taken x [] zero = refl
contents_taken x [] (suc i) = refl
contents_taken x (name ∷ names) zero = refl
contents_taken x (name ∷ names) (suc i) = ap (λ (l : List (List ℕ)). file_at x name ∷ l) (contents_taken x names i)

contents_length : (x : Files) (names : List (List ℕ)) → length (contents x names) ≡ length names
contents_length x [] = refl
contents_length x (name ∷ names) = ap (λ (n : ℕ). suc n) (contents_length x names)

contents_split : (x : Files) (front behind : List (List ℕ)) (name : List ℕ) → contents x (front ++ name ∷ behind) ≡ contents x front ++ file_at x name ∷ contents x behind
contents_split x [] behind name = refl
contents_split x (f ∷ front) behind name = ap (λ (l : List (List ℕ)). file_at x f ∷ l) (contents_split x front behind name)

taken_more : (names : List (Bor (List ℕ))) (i : ℕ) → i < length names → take (i + 1) (texts names) ≡ take i (texts names) ++ name_at names i ∷ []
taken_more names i less = take_more (texts names) i [] (subst (λ (n : ℕ). i < n) (sym (length-texts names)) less)

module _ (x : Files) (names : List (Bor (List ℕ))) (file lines cuts : ℕ) (scripts : List (List Line)) where
  -- the files before this one were accepted
  abbrev pub IsSoFar : Type 0
  IsSoFar = (scripts_of (contents x (take file (texts names))) ≡ Ok scripts) × (lines ≡ all_lines scripts) × (cuts ≡ all_cuts scripts)

  at_its_place : file < length names → length (contents x (take file (texts names))) ≡ file
  at_its_place less = contents_length x (take file (texts names)) ∙ taken_length names file (omega (arith, less))

  moved : file < length names → IsSoFar → (files : List (List ℕ)) →
      scripts_after (length (contents x (take file (texts names)))) (all_lines scripts) (all_cuts scripts) files ≡ scripts_after file lines cuts files
  moved less so_far files = same_totals files _ _ _ file lines cuts (at_its_place less) (sym so_far.1) (sym so_far.2)

  refused_with : file < length names → IsSoFar → (e : Refusal) → scripts_after file lines cuts (file_at x (name_at names file) ∷ []) ≡ Err e →
      scripts_of (contents x (texts names)) ≡ Err e
  refused_with less so_far e one =
      let split = split_at names file less in
      ap (λ (l : List (List ℕ)). scripts_of (contents x l)) split.1
      ∙ ap (λ (l : List (List ℕ)). scripts_of l) (contents_split x (take file (texts names)) split.0 (name_at names file))
      ∙ one_more_refused (contents x (take file (texts names))) (contents x split.0) (file_at x (name_at names file)) scripts e so_far.0
      (moved less so_far (file_at x (name_at names file) ∷ []) ∙ one)

  -- A refusal of this file refuses all.
  pub all_refused : (s : Status) → file < length names → IsSoFar → IsOfTheFile file s → Accepts file lines cuts (file_at x (name_at names file)) (Err s) →
      AcceptsAll (contents x (texts names)) (Err s)
  all_refused (status.BadPaint f l c) less so_far h a = refused_with less so_far (BadPaint f l c) a
  all_refused (status.Limit w) less so_far h a = refused_with less so_far (Limit w) a
  all_refused (status.InputFault f) less so_far h a =
      subst (λ (n : ℕ). IsOk (scripts_of (take n (contents x (texts names))))) (sym h)
      (ap (λ (l : List (List ℕ)). is_ok (scripts_of l)) (contents_taken x (texts names) file) ∙ ap is_ok so_far.0)
  all_refused (status.TooLarge f) less so_far h a = refused_with less so_far (TooLarge f) a
  all_refused status.NoMemory less so_far h a = tt
  all_refused status.Ok less so_far h a = absurd h
  all_refused status.Usage less so_far h a = absurd h
  all_refused status.SinkFault less so_far h a = absurd h
  all_refused status.ReportFault less so_far h a = absurd h
  all_refused (status.BadStream at) less so_far h a = absurd h

  -- One more is accepted.
  pub more_accepted : (script : List Line) → file < length names → IsSoFar → scripts_after file lines cuts (file_at x (name_at names file) ∷ []) ≡ Ok (script ∷ []) →
      scripts_of (contents x (take (file + 1) (texts names))) ≡ Ok (scripts ++ script ∷ [])
  more_accepted script less so_far one =
      ap (λ (l : List (List ℕ)). scripts_of (contents x l)) (taken_more names file less)
      ∙ ap (λ (l : List (List ℕ)). scripts_of l) (contents_split x (take file (texts names)) [] (name_at names file))
      ∙ one_more_accepted (contents x (take file (texts names))) (file_at x (name_at names file)) scripts script so_far.0
      (moved less so_far (file_at x (name_at names file) ∷ []) ∙ one)

-- ---- what is told

abbrev pub ToldSoFar : Option Files → Option Files → List (Bor (List ℕ)) → ℕ → List (List Line) → Type 0
ToldSoFar a b names file scripts = WhereTold a b (λ before now. (now ≡ before) × (scripts_of (contents before (take file (texts names))) ≡ Ok scripts))

pub none_so_far : (a : Option Files) (names : List (Bor (List ℕ))) → ToldSoFar a a names 0 []
unfolding scripts_after
none_so_far a names = told_same a (λ before now. (now ≡ before) × (scripts_of (contents before (take 0 (texts names))) ≡ Ok [])) (λ x. (refl, refl))

pub told_refused : (a b c : Option Files) (names : List (Bor (List ℕ))) (file lines cuts : ℕ) (scripts : List (List Line)) (s : Status) → file < length names →
    lines ≡ all_lines scripts → cuts ≡ all_cuts scripts → IsOfTheFile file s → ToldSoFar a b names file scripts →
    WhereTold b c (λ before after. (after ≡ before) × Accepts file lines cuts (file_at before (name_at names file)) (Err s)) →
    WhereTold a c (λ before after. (after ≡ before) × AcceptsAll (contents before (texts names)) (Err s))
told_refused a b c names file lines cuts scripts s less lines_so cuts_so h so_far told =
    told_on a b c (λ before now. (now ≡ before) × (scripts_of (contents before (take file (texts names))) ≡ Ok scripts))
    (λ before after. (after ≡ before) × Accepts file lines cuts (file_at before (name_at names file)) (Err s))
    (λ before after. (after ≡ before) × AcceptsAll (contents before (texts names)) (Err s)) so_far told
    (λ x y z p q. (
      q.0 ∙ p.0,
      all_refused x names file lines cuts scripts s less (p.1, lines_so, cuts_so) h
          (subst (λ (m : Files). Accepts file lines cuts (file_at m (name_at names file)) (Err s)) p.0 q.1),
    ))

pub told_accepted : (a b c : Option Files) (names : List (Bor (List ℕ))) (file lines cuts : ℕ) (scripts : List (List Line)) (script : Script) → file < length names →
    lines ≡ all_lines scripts → cuts ≡ all_cuts scripts → ToldSoFar a b names file scripts →
    WhereTold b c (λ before after. (after ≡ before) × Accepts file lines cuts (file_at before (name_at names file)) (Ok script)) →
    ToldSoFar a c names (file + 1) (scripts ++ script.lines ∷ [])
told_accepted a b c names file lines cuts scripts script less lines_so cuts_so so_far told =
    told_on a b c (λ before now. (now ≡ before) × (scripts_of (contents before (take file (texts names))) ≡ Ok scripts))
    (λ before after. (after ≡ before) × Accepts file lines cuts (file_at before (name_at names file)) (Ok script))
    (λ before after. (after ≡ before) × (scripts_of (contents before (take (file + 1) (texts names))) ≡ Ok (scripts ++ script.lines ∷ []))) so_far told
    (λ x y z p q. (
      q.0 ∙ p.0,
      more_accepted x names file lines cuts scripts script.lines less (p.1, lines_so, cuts_so)
          (subst (λ (m : Files). Accepts file lines cuts (file_at m (name_at names file)) (Ok script)) p.0 q.1),
    ))

-- all names were read
pub told_whole : (a b : Option Files) (names : List (Bor (List ℕ))) (file : ℕ) (scripts : List (List Line)) → length names ≤ file → ToldSoFar a b names file scripts →
    WhereTold a b (λ before after. (after ≡ before) × (scripts_of (contents before (texts names)) ≡ Ok scripts))
told_whole a b names file scripts all told =
    told_as a b (λ before now. (now ≡ before) × (scripts_of (contents before (take file (texts names))) ≡ Ok scripts))
    (λ before after. (after ≡ before) × (scripts_of (contents before (texts names)) ≡ Ok scripts)) told
    (λ x y p. (p.0, ap (λ (l : List (List ℕ)). scripts_of (contents x l)) (sym (take_all file (texts names) (omega (arith, length-texts names, all)))) ∙ p.1))

-- the name is that of this number
pub told_named : (a b : Option Files) (names : List (Bor (List ℕ))) (file lines cuts : ℕ) (name : Bor (List ℕ)) (result : Result Script Status) → file < length names → name ≡ slice_index_or names file name →
    WhereTold a b (λ before after. (after ≡ before) × Accepts file lines cuts (file_at before name.now) result) →
    WhereTold a b (λ before after. (after ≡ before) × Accepts file lines cuts (file_at before (name_at names file)) result)
told_named a b names file lines cuts name result less e told =
    subst (λ (n : List ℕ). WhereTold a b (λ before after. (after ≡ before) × Accepts file lines cuts (file_at before n) result)) (sym (named names file name less e)) told
