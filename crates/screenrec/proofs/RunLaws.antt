-- What stands where the one file is refused.
use Rattle.std.proofs.Common.{◌≡◌, ℕ, List, [], ◌∷◌, take, Option, Err, inl, refl, sym, subst}
use Rattle.std.specs.Prelude.{IsOk}
use Rattle.recorder_model.specs.declared.entry.Entry.{Entry}
use Rattle.command_line.specs.Words.{SerialWords}
use Rattle.recorder_model.specs.Headline.{IsUntouched, scripts_of, scripts_after, contents}
use Rattle.recorder_model.specs.Files.{Files, WhereTold, file_at}
use Rattle.screenrec.specs.declared.outcome.Status.{Status}
use Rattle.screenrec.specs.declared.outcome.Status.TheVariants as status
use Rattle.screenrec.specs.Accepted.{Accepts, IsOfTheFile}
use Rattle.screenrec.specs.Recording.{serial_task, LeavesTask}
use Rattle.screenrec.proofs.StoredLaws.{told_as}

untouched : (order : List Entry) (x y : Files) (written : ℕ) → order ≡ [] → written ≡ 0 → y ≡ x → IsUntouched order x y written
untouched order x y written p q e = record { no_order = p; same = e; counted = q }

accepts_none : (x : Files) (file : List ℕ) → IsOk (scripts_of (take 0 (contents x (file ∷ []))))
unfolding scripts_after
accepts_none x file = refl

leaves_refused : (words : SerialWords) (s : Status) (order : List Entry) (written : ℕ) (x y : Files) → IsOfTheFile 0 s → order ≡ [] → written ≡ 0 →
    y ≡ x → Accepts 0 0 0 (file_at x words.file) (Err s) → LeavesTask (serial_task words) x y order written s
leaves_refused words (status.BadPaint f l c) order written x y h p q e a = record { refused = a; untouched = untouched order x y written p q e }
leaves_refused words (status.Limit w) order written x y h p q e a = record { refused = a; untouched = untouched order x y written p q e }
leaves_refused words (status.InputFault f) order written x y h p q e a = record {
  accepted = subst (λ (n : ℕ). IsOk (scripts_of (take n (contents x (words.file ∷ []))))) (sym h) (accepts_none x words.file);
  untouched = untouched order x y written p q e;
}
leaves_refused words (status.TooLarge f) order written x y h p q e a = record { refused = a; untouched = untouched order x y written p q e }
leaves_refused words status.NoMemory order written x y h p q e a = inl (untouched order x y written p q e)
leaves_refused words status.Ok order written x y h p q e a = absurd h
leaves_refused words status.Usage order written x y h p q e a = absurd h
leaves_refused words status.SinkFault order written x y h p q e a = absurd h
leaves_refused words status.ReportFault order written x y h p q e a = absurd h
leaves_refused words (status.BadStream at) order written x y h p q e a = absurd h

pub files_refused : (a b : Option Files) (words : SerialWords) (s : Status) (order : List Entry) (written : ℕ) → IsOfTheFile 0 s → order ≡ [] → written ≡ 0 →
    WhereTold a b (λ before after. (after ≡ before) × Accepts 0 0 0 (file_at before words.file) (Err s)) →
    WhereTold a b (λ before after. LeavesTask (serial_task words) before after order written s)
files_refused a b words s order written h p q told =
    told_as a b (λ before after. (after ≡ before) × Accepts 0 0 0 (file_at before words.file) (Err s))
    (λ before after. LeavesTask (serial_task words) before after order written s) told
    (λ x y t. leaves_refused words s order written x y h p q t.0 t.1)
