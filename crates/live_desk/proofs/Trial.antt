-- Passes that keep their desk and their share, for the tests.
use Rattle.std.proofs.Common.{◌≡◌, ℕ, ◌+◌, ◌*◌, ◌^◌, ◌<◌, ◌≤◌, List, [], ◌∷◌, ◌++◌, length, Option, Some, Result, Ok, Err, IfOk, IfErr, refl, sym, ap, subst, ◌∙◌, arith, length-append, inl, inr}
use Rattle.std.specs.Prelude.{slice_get, option_to_list}
use Rattle.std.proofs.lemmas.Option.{same_Some, slice_get_within}
use Rattle.std.specs.Prelude.{count_by}
use Rattle.std.proofs.lemmas.List.Sums.{sum_by_push, count_by-le-length}
use Rattle.recorder_model.specs.declared.line.Line.{Line}
use Rattle.recorder_model.specs.Script.{is_cut}
use Rattle.desk_state.specs.Standing.{most_entries}
use Rattle.atomic_table.specs.Seated.{TableId}
use Rattle.recorder_model.specs.Setting.{Setting}
use Rattle.turn_lock.specs.Standing.{Standing}
use Rattle.turn_lock.specs.Turns.{IsBusy}
use Rattle.turn_lock.specs.declared.knowledge.Knowledge.{Knowledge}
use Rattle.live_desk.specs.declared.answers.Accepted.{Accepted}
use Rattle.live_desk.specs.declared.answers.PlayError.{PlayError}
use Rattle.live_desk.specs.declared.answers.PlayError.TheVariants as play
use Rattle.live_desk.specs.declared.answers.TryPlayError.{TryPlayError}
use Rattle.live_desk.specs.declared.answers.TryPlayError.TheVariants as try
use Rattle.live_desk.specs.declared.answers.Taken.{Taken}
use Rattle.live_desk.specs.declared.answers.Taken.TheVariants as taken
use Rattle.live_desk.specs.Passes.{Client, fresh_client}
use Rattle.live_desk.specs.Desks.{IsOpened, HasPlayed}
use Rattle.live_desk.specs.Answers.{IsRefused, IsTryRefused, HasAnswered}
use Rattle.live_desk.proofs.Fresh.{slice_last, slice_before}

pub record IsReady (desk : TableId) (p : Client) : Type 0 where
  pub table : p.table ≡ desk
  pub weight : p.knows.weight ≡ 2 ^ 32

ready_at : (setting : Setting) (desk : TableId) (clients : List Client) (recorder : Standing) (i : ℕ) (p : Client) → IsOpened setting desk clients recorder → slice_get clients i ≡ Some p → IsReady desk p
ready_at setting desk clients recorder i p is at =
    let less : i < length setting.scripts = omega (arith, slice_get_within clients i p at, is.many) in
    let same : fresh_client desk setting i ≡ p = same_Some (fresh_client desk setting i) p (sym (is.each i less) ∙ at) in
    subst (IsReady desk) same record { table = refl; weight = refl }

split_of : (clients rest : List Client) (r : Option Client) (p : Client) → clients ≡ rest ++ option_to_list r → r ≡ Some p → clients ≡ rest ++ p ∷ []
split_of clients rest r p is some = is ∙ ap (λ (o : Option Client). rest ++ option_to_list o) some

pub ready_last : (setting : Setting) (desk : TableId) (clients rest : List Client) (recorder : Standing) (r : Option Client) (p : Client) → IsOpened setting desk clients recorder → clients ≡ rest ++ option_to_list r → r ≡ Some p → IsReady desk p
ready_last setting desk clients rest recorder r p opened is some =
    ready_at setting desk clients recorder (length rest) p opened (ap (λ (l : List Client). slice_get l (length rest)) (split_of clients rest r p is some) ∙ slice_last rest p (length rest) refl)

pub ready_before : (setting : Setting) (desk : TableId) (clients rest others : List Client) (recorder : Standing) (r q : Option Client) (p o : Client) → IsOpened setting desk clients recorder
    → clients ≡ rest ++ option_to_list r → r ≡ Some p → rest ≡ others ++ option_to_list q → q ≡ Some o → IsReady desk o
ready_before setting desk clients rest others recorder r q p o opened is some before more =
    let split = split_of rest others q o before more in
    let less : length others < length rest = omega (arith, ap length split, length-append others (o ∷ [])) in
    ready_at setting desk clients recorder (length others) o opened
    (ap (λ (l : List Client). slice_get l (length others)) (split_of clients rest r p is some) ∙ slice_before rest p (length others) less
    ∙ ap (λ (l : List Client). slice_get l (length others)) split ∙ slice_last others o (length others) refl)

pub ready_play : (desk : TableId) (old new : Client) (r : Result Accepted PlayError) → IfOk r (λ a. HasPlayed old new a.at) → IfErr r (IsRefused old new) → IsReady desk old → IsReady desk new
ready_play desk old new (Ok a) played refused is = record { table = played.same.table ∙ is.table; weight = played.turn.kept.weight ∙ is.weight }
ready_play desk old new (Err play.Done) played refused is = subst (IsReady desk) (sym refused.same) is
ready_play desk old new (Err play.NoMemory) played refused is = record { table = refused.same.table ∙ is.table; weight = refused.turn.kept.weight ∙ is.weight }

busy_weight : (v w : Knowledge) (loaded found : ℕ) → IsBusy v loaded found w → w.weight ≡ v.weight
busy_weight v w loaded found (inl is) = ap (λ (k : Knowledge). k.weight) is.2
busy_weight v w loaded found (inr is) = ap (λ (k : Knowledge). k.weight) is.2

pub ready_try : (desk : TableId) (old new : Client) (r : Result Accepted TryPlayError) → IfOk r (λ a. HasPlayed old new a.at) → IfErr r (IsTryRefused old new) → IsReady desk old → IsReady desk new
ready_try desk old new (Ok a) played refused is = record { table = played.same.table ∙ is.table; weight = played.turn.kept.weight ∙ is.weight }
ready_try desk old new (Err try.Done) played refused is = subst (IsReady desk) (sym refused.same) is
ready_try desk old new (Err (try.Busy loaded found)) played refused is = record { table = refused.same.table ∙ is.table; weight = busy_weight old.knows new.knows loaded found refused.words ∙ is.weight }
ready_try desk old new (Err try.NoMemory) played refused is = record { table = refused.same.table ∙ is.table; weight = refused.turn.kept.weight ∙ is.weight }

-- the recorder's pass keeps its desk, its share and the number of passes
pub record IsSameRecorder (old new : Standing) : Type 0 where
  pub table : new.table ≡ old.table
  pub weight : new.knows.weight ≡ old.knows.weight
  pub passes : new.knows.passes ≡ old.knows.passes

pub same_take : (old new : Standing) (answer : Taken) → HasAnswered old new answer → IsSameRecorder old new
same_take old new (taken.Job job) is = record { table = is.table; weight = is.turn.kept.weight; passes = is.turn.kept.passes }
same_take old new (taken.NotYet seen) is = record { table = is.table; weight = is.turn.kept.weight; passes = is.turn.kept.passes }
same_take old new (taken.Ended seen) is = record { table = is.table; weight = is.turn.kept.weight; passes = is.turn.kept.passes }

-- ---- scripts

pub few_more : (old new : List (List Line)) (script : List Line) (k : ℕ) → new ≡ old ++ script ∷ [] → length script ≤ 200 → most_entries old ≤ 400 * k → most_entries new ≤ 400 * (k + 1)
few_more old new script k grown short few =
    let e = ap most_entries grown ∙ sum_by_push (λ s. length s + count_by is_cut s) old script in
    omega (arith, e, short, few, count_by-le-length is_cut script)
