-- Scripts that are played in rounds.
use Rattle.std.proofs.Common.{◌≡◌, ℕ, zero, suc, ◌+◌, ◌-◌, ◌<◌, ◌%◌, ◌^◌, Bool, true, false, cond, List, [], ◌∷◌, ◌++◌, length, map, Option, refl, sym, ◌∙◌, ap, arith, zero-add}
use Rattle.std.specs.Prelude.{count_by, not}
use Rattle.std.specs.List.{range_with_len}
use Rattle.std.proofs.lemmas.List.FromFn.{map-range_with_len_more}
use Rattle.recorder_model.specs.declared.entry.Entry.{Entry}
use Rattle.recorder_model.specs.declared.entry.Entry.TheVariants as entry
use Rattle.recorder_model.specs.declared.line.Line.{Line}
use Rattle.recorder_model.specs.declared.line.Line.TheVariants.{Cut}
use Rattle.h265_model.specs.Plain.{below}
use Rattle.recorder_model.specs.Script.{is_cut}
use Rattle.recorder_model.specs.Painting.{accepted_line, lines_of}
use Rattle.h265_model.specs.Stream.{stream_of}
use Rattle.recorder_model.specs.Histories.{cuts, paints, script_length}
use Rattle.recorder_model.specs.Report.{report_text}
use Rattle.recorder_model.specs.Headline.{report_of}
use Rattle.recorder_model.specs.Files.{IsPrefix, WhereTold}
use Rattle.screen_gen.specs.Generated.{clients, line_count, is_cut as cuts_at, drawn, lines_from, generated}
use Rattle.screenrec.specs.Demo.{turn_entry, demo_order, demo_settings, HasRounds, IsPlayedDemo}
use Rattle.screenrec.specs.Stored.{stream_after}
use Rattle.screenrec.proofs.AloneLaws.{count_both}
use Rattle.screenrec.proofs.StoredLaws.{told_as}

-- ---- the scripts of a number

many_lines : (client state index n : ℕ) → length (lines_from client state index n) ≡ n
unfolding lines_from
many_lines client state index zero = refl
many_lines client state index (suc n) = go (cuts_at client index) (many_lines client state (index + 1) n) (many_lines client (drawn state).1 (index + 1) n)
  where
    go : (b : Bool) → length (lines_from client state (index + 1) n) ≡ n → length (lines_from client (drawn state).1 (index + 1) n) ≡ n →
        length (cond b (Cut ∷ lines_from client state (index + 1) n) ((drawn state).0 ∷ lines_from client (drawn state).1 (index + 1) n)) ≡ suc n
    go true p q = ap (λ (m : ℕ). suc m) p
    go false p q = ap (λ (m : ℕ). suc m) q

long_scripts : (number client : ℕ) → client < clients → script_length (generated number) client ≡ line_count
long_scripts number zero less = many_lines 0 ((number + 0) % 2 ^ 64) 0 line_count
long_scripts number (suc zero) less = many_lines 1 ((number + 1) % 2 ^ 64) 0 line_count
long_scripts number (suc (suc zero)) less = many_lines 2 ((number + 2) % 2 ^ 64) 0 line_count
long_scripts number (suc (suc (suc zero))) less = many_lines 3 ((number + 3) % 2 ^ 64) 0 line_count
long_scripts number (suc (suc (suc (suc client)))) less = absurd (omega arith)

pub generated_rounds : (number : ℕ) → HasRounds (generated number)
generated_rounds number = record { many = refl; long = long_scripts number }

-- ---- turns

pub lines_of-append : (scripts : List (List Line)) (h : List Entry) (client index : ℕ) →
    lines_of scripts (h ++ entry.Line client index ∷ []) ≡ lines_of scripts h ++ accepted_line scripts client index ∷ []
unfolding lines_of
lines_of-append scripts [] client index = refl
lines_of-append scripts (entry.Line c i ∷ h) client index = ap (λ (l : List Line). accepted_line scripts c i ∷ l) (lines_of-append scripts h client index)
lines_of-append scripts (entry.Take n ∷ h) client index = lines_of-append scripts h client index

pub one_turn : (n : ℕ) → map turn_entry (below n) ++ turn_entry n ∷ [] ≡ map turn_entry (below (n + 1))
one_turn n = sym (map-range_with_len_more turn_entry 0 n n (zero-add n))

-- in 240 turns all lines of four clients are played
pub all_turns : map turn_entry (below 240) ≡ demo_order
all_turns = refl

length_turns : (scripts : List (List Line)) (n k : ℕ) → length (lines_of scripts (map turn_entry (range_with_len k n))) ≡ n
unfolding lines_of
length_turns scripts zero k = refl
length_turns scripts (suc n) k = ap suc (length_turns scripts n (k + 1))

-- what 240 turns come to
pub rounds_played : (scripts : List (List Line)) (order : List Entry) (cut painted written n : ℕ) → n ≡ 240 → order ≡ map turn_entry (below n) →
    cut ≡ count_by is_cut (lines_of scripts (map turn_entry (below n))) → painted ≡ 240 - cut →
    written ≡ length (stream_after demo_settings (lines_of scripts (map turn_entry (below n)))) → IsPlayedDemo scripts order cut painted written
unfolding stream_of
rounds_played scripts order cut painted written n all rounds cut_so painted_so counted =
    let turns : map turn_entry (below n) ≡ demo_order = ap (λ (m : ℕ). map turn_entry (below m)) all ∙ all_turns in
    let many : length (lines_of scripts (map turn_entry (below n))) ≡ 240 = length_turns scripts n 0 ∙ all in
    let painted_is : painted ≡ count_by (λ line. not (is_cut line)) (lines_of scripts (map turn_entry (below n))) =
    omega (arith, many, cut_so, painted_so, count_both is_cut (lines_of scripts (map turn_entry (below n)))) in
    record {
      rounds = rounds ∙ turns;
      cut_so = cut_so ∙ ap (λ (h : List Entry). count_by is_cut (lines_of scripts h)) turns;
      painted_so = painted_is ∙ ap (λ (h : List Entry). count_by (λ line. not (is_cut line)) (lines_of scripts h)) turns;
      counted = counted ∙ ap (λ (h : List Entry). length (stream_after demo_settings (lines_of scripts h))) turns;
    }

-- the report
pub demo_report : (scripts : List (List Line)) (order : List Entry) (cut painted written : ℕ) → IsPlayedDemo scripts order cut painted written →
    report_text cut painted written ≡ report_of scripts order written
demo_report scripts order cut painted written is =
    ap (λ (n : ℕ). report_text n painted written) is.cut_so
    ∙ ap (λ (n : ℕ). report_text (cuts scripts demo_order) n written) is.painted_so
    ∙ ap (λ (h : List Entry). report_text (cuts scripts h) (paints scripts h) written) (sym is.rounds)

pub demo_told : (a b : Option (List ℕ)) (scripts : List (List Line)) (order : List Entry) (cut painted written : ℕ) → IsPlayedDemo scripts order cut painted written →
    WhereTold a b (λ was now. now ≡ was ++ report_text cut painted written) → WhereTold a b (λ was now. now ≡ was ++ report_of scripts order written)
demo_told a b scripts order cut painted written is told =
    told_as a b (λ was now. now ≡ was ++ report_text cut painted written) (λ was now. now ≡ was ++ report_of scripts order written) told
    (λ x y p. p ∙ ap (λ (l : List ℕ). x ++ l) (demo_report scripts order cut painted written is))

pub demo_told_in_part : (a b : Option (List ℕ)) (scripts : List (List Line)) (order : List Entry) (cut painted written : ℕ) → IsPlayedDemo scripts order cut painted written →
    WhereTold a b (λ was now. (part : List ℕ) × IsPrefix part (report_text cut painted written) × (now ≡ was ++ part)) →
    WhereTold a b (λ was now. (part : List ℕ) × IsPrefix part (report_of scripts order written) × (now ≡ was ++ part))
demo_told_in_part a b scripts order cut painted written is told =
    told_as a b (λ was now. (part : List ℕ) × IsPrefix part (report_text cut painted written) × (now ≡ was ++ part))
    (λ was now. (part : List ℕ) × IsPrefix part (report_of scripts order written) × (now ≡ was ++ part)) told
    (λ x y p. (p.0, (p.1.0, sym (demo_report scripts order cut painted written is) ∙ p.1.1), p.2))
