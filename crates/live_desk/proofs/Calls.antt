-- What the desk theorem says of each call, from its turn.
use Rattle.std.proofs.Common.{◌≡◌, ℕ, ◌+◌, ◌-◌, ◌<◌, Bool, true, false, List, [], ◌∷◌, ◌++◌, length, Some, refl, sym, ap, subst, ◌∙◌, arith}
use Rattle.atomic_table.specs.Seated.{TableId}
use Rattle.recorder_model.specs.declared.entry.Entry.{Entry}
use Rattle.recorder_model.specs.declared.entry.Entry.TheVariants as entry
use Rattle.recorder_model.specs.Script.{is_cut}
use Rattle.recorder_model.specs.Setting.{Setting}
use Rattle.recorder_model.specs.Turn.{State, entries_by}
use Rattle.recorder_model.specs.Painting.{accepted_line}
use Rattle.recorder_model.specs.Desk.{job_of}
use Rattle.recorder_model.specs.Histories.{IsLawful, indexes_of, cuts, takes}
use Rattle.turn_lock.specs.Turns as turns
use Rattle.turn_lock.specs.Turns.{HasJoined, Owns, made_by, one_more, gives_back, gives_entry}
use Rattle.turn_lock.specs.Standing.{Standing}
use Rattle.turn_lock.specs.declared.knowledge.Knowledge.{Knowledge}
use Rattle.turn_lock.proofs.Histories.{made_by-left, one_more-same}
use Rattle.desk_state.specs.Standing.{next_line}
use Rattle.desk_state.proofs.Entries.{count_own, count_take}
use Rattle.desk_state.proofs.Totals.{IsWithin, all_within}
use Rattle.live_desk.specs.declared.answers.Taken.{Taken}
use Rattle.live_desk.specs.declared.answers.Taken.TheVariants as taken
use Rattle.live_desk.specs.Passes.{Client, IsClient, IsRecorder, passes_of}
use Rattle.live_desk.specs.Turned.{HasTurn}
use Rattle.live_desk.specs.Held.{HasGivenJob, HasGivenBack, HasGiven}
use Rattle.live_desk.specs.Desks.{HasPlayed, HasStopped, HasMarked, HasTaken, HasLooked, HasClosed}
use Rattle.live_desk.specs.Answers.{HasAnswered}
use Rattle.live_desk.proofs.Authors.{lines_by, takes_by, takes_within, own_range}
use Rattle.live_desk.proofs.Turning.{setting_of, history_of, mark_of, entry_given, entry_raised, entry_made, back_given, back_raised, back_made, next_is}

-- a client's pass with these parts
abbrev pub client_with : Client → TableId → Knowledge → ℕ → Bool → Client
client_with c table knows next stopped = record { table = table; knows = knows; client = c.client; next = next; lines = c.lines; stopped = stopped }

pub has_played : (c : Client) (w after : Knowledge) (s : State) (table : TableId) (at : ℕ) → IsClient c → HasTurn c.knows s w → c.next < c.lines → table ≡ c.table → after ≡ gives_entry w (entry.Line c.client c.next) s.mark → at ≡ length s.history
    → IsLawful s.setting.scripts (s.history ++ entry.Line c.client c.next ∷ []) → HasPlayed c (client_with c table after (c.next + 1) false) at
has_played c w after s table at is t less same gives place lawful =
    let had = entry_given c.knows w after s (entry.Line c.client c.next) t gives in
    let own = (next_is c w s is t less).accepted in
    let law : IsLawful c.knows.setting.scripts after.seen = subst (IsLawful c.knows.setting.scripts) (sym had.seen) (subst (λ (k : Setting). IsLawful k.scripts (s.history ++ entry.Line c.client c.next ∷ [])) t.setting lawful) in
    let many : length (indexes_of after.seen c.client) ≡ c.next + 1 = ap (λ (h : List Entry). length (indexes_of h c.client)) had.seen ∙ count_own s.history c.client c.next ∙ ap (λ (n : ℕ). n + 1) own in
    record {
      base = s.history;
      left = less;
      same = record { table = same; client = refl; lines = refl };
      turn = had;
      place = place;
      lawful = law;
      own = own_range c.knows.setting.scripts after.seen c.client (c.next + 1) law many;
      raised = entry_raised c.knows w after s (entry.Line c.client c.next) t gives;
      next = refl;
      runs = refl;
    }

pub has_stopped : (c : Client) (w after : Knowledge) (s : State) (table : TableId) → HasTurn c.knows s w → c.next < c.lines → table ≡ c.table → after ≡ gives_back w s.history s.mark → is_cut (next_line s c.client c.next) ≡ true → HasStopped c (client_with c table after c.next true)
has_stopped c w after s table t less same gives cut = record {
  base = s.history;
  left = less;
  same = record { table = same; client = refl; lines = refl };
  turn = back_given c.knows w after s s.mark t gives (λ m. m);
  cut = ap (λ (k : Setting). is_cut (accepted_line k.scripts c.client c.next)) (sym t.setting) ∙ cut;
  raised = back_raised c.knows w after s t gives;
  next = refl;
  stops = refl;
}

pub has_marked : (c : Client) (w after : Knowledge) (s : State) (table : TableId) → HasTurn c.knows s w → table ≡ c.table → after ≡ gives_back w s.history true → HasMarked c (client_with c table after c.next c.stopped)
has_marked c w after s table t same gives = record {
  base = s.history;
  same = record { table = same; client = refl; lines = refl };
  turn = back_given c.knows w after s true t gives (λ m. refl);
  marked = ap (λ (k : Knowledge). k.saw) gives;
  next = refl;
  stops = refl;
}

-- ---- the recorder

last_author : (v : Knowledge) → v.passes ≡ passes_of v.setting → v.passes - 1 ≡ length v.setting.scripts
last_author v is = omega (arith, is)

-- the takes in the history are the pass's own
own_takes : (p : Standing) (w : Knowledge) (s : State) → IsRecorder p → HasTurn p.knows s w → IsWithin (length p.knows.setting.scripts) s.history → made_by (length p.knows.setting.scripts) p.knows.made ≡ Some (takes s.history)
own_takes p w s is t within =
    let scripts = p.knows.setting.scripts in
    let all : entries_by p.knows.passes (length scripts) s.history ≡ is.takes.0 = t.own (length scripts) is.takes.0 is.takes.1 in
    is.takes.1 ∙ ap Some (sym all ∙ ap (λ (n : ℕ). entries_by n (length scripts) s.history) is.passes ∙ takes_within (length scripts) s.history within)

none_left : (l : List ℕ) → length l ≡ 0 → l ≡ []
none_left [] is = refl
none_left (x ∷ l) is = absurd (omega (arith, is))

-- what is of no client without its last take is so with it
within_front : (n number : ℕ) (h : List Entry) → IsWithin n (h ++ entry.Take number ∷ []) → IsWithin n h
within_front n number h is client le = none_left (indexes_of h client) (sym (count_take h number client) ∙ ap length (is client le))

has_job : (p q : Standing) (w : Knowledge) (s : State) (job : _) → IsRecorder p → HasTurn p.knows s w → q.table ≡ p.table → HasGivenJob w s q.knows → job ≡ job_of s.setting s.history (takes s.history) → HasTaken p q job
has_job p q w s job is t same gave made = record {
  base = s.history;
  waited = subst (λ (k : Setting). takes s.history < cuts k.scripts s.history) t.setting gave.waits;
  table = same;
  turn = entry_given p.knows w q.knows s (entry.Take (takes s.history)) t gave.gives;
  lawful = subst (IsLawful p.knows.setting.scripts) (sym (entry_given p.knows w q.knows s (entry.Take (takes s.history)) t gave.gives).seen) (subst (λ (k : Setting). IsLawful k.scripts (s.history ++ entry.Take (takes s.history) ∷ [])) t.setting gave.lawful);
  is_job = made ∙ ap (λ (k : Setting). job_of k s.history (takes s.history)) t.setting;
  own = own_takes p w s is t (subst (λ (k : Setting). IsWithin (length k.scripts) s.history) t.setting (within_front (length s.setting.scripts) (takes s.history) s.history (all_within s.setting.scripts (s.history ++ entry.Take (takes s.history) ∷ []) gave.lawful.begins)));
  raised = entry_raised p.knows w q.knows s (entry.Take (takes s.history)) t gave.gives;
  made = entry_made p.knows w q.knows s (entry.Take (takes s.history)) t gave.gives ∙ ap (λ (n : ℕ). one_more n p.knows.made) (last_author p.knows is.passes);
}

has_looked : (p q : Standing) (w : Knowledge) (s : State) (seen : ℕ) (mark : Bool) → IsRecorder p → HasTurn p.knows s w → q.table ≡ p.table → HasGivenBack w s q.knows seen mark → HasLooked p q seen mark
has_looked p q w s seen mark is t same gave =
    let shown : q.knows.seen ≡ s.history = ap (λ (k : Knowledge). k.seen) gave.gives in
    record {
      base = s.history;
      table = same;
      turn = back_given p.knows w q.knows s s.mark t gave.gives (λ m. m);
      lawful = subst (IsLawful p.knows.setting.scripts) (sym shown) (subst (λ (k : Setting). IsLawful k.scripts s.history) t.setting gave.lawful);
      long = gave.long ∙ ap length (sym shown);
      all = ap takes shown ∙ gave.all ∙ ap (λ (k : Setting). cuts k.scripts s.history) t.setting ∙ ap (cuts p.knows.setting.scripts) (sym shown);
      own = own_takes p w s is t (subst (λ (k : Setting). IsWithin (length k.scripts) s.history) t.setting (all_within s.setting.scripts s.history gave.lawful.begins));
      marked = ap (λ (k : Knowledge). k.saw) gave.gives ∙ gave.marked;
      raised = back_raised p.knows w q.knows s t gave.gives;
      made = back_made p.knows w q.knows s s.mark t gave.gives;
    }

pub has_answered : (p q : Standing) (w : Knowledge) (s : State) (answer : Taken) → IsRecorder p → HasTurn p.knows s w → q.table ≡ p.table → HasGiven w s q.knows answer → HasAnswered p q answer
has_answered p q w s (taken.Job job) is t same gave = has_job p q w s job is t same gave.0 gave.1
has_answered p q w s (taken.NotYet seen) is t same gave = has_looked p q w s seen false is t same gave
has_answered p q w s (taken.Ended seen) is t same gave = has_looked p q w s seen true is t same gave

stays_after : (p q : Standing) (w : Knowledge) (s : State) → IsRecorder p → HasTurn p.knows s w → q.knows ≡ gives_back w s.history s.mark → IsRecorder q
stays_after p q w s is t gives =
    let had = back_given p.knows w q.knows s s.mark t gives (λ m. m) in
    record {
      free = ap (λ (k : Knowledge). k.holds) gives;
      passes = had.kept.passes ∙ is.passes ∙ ap passes_of (sym had.kept.setting);
      takes = (
        is.takes.0,
        ap (λ (k : Setting). made_by (length k.scripts) q.knows.made) had.kept.setting ∙ ap (made_by (length p.knows.setting.scripts)) (back_made p.knows w q.knows s s.mark t gives) ∙ is.takes.1,
      );
    }

-- the pass is the recorder's still
pub stays_recorder : (p q : Standing) (w : Knowledge) (s : State) (answer : Taken) → IsRecorder p → HasTurn p.knows s w → HasGiven w s q.knows answer → IsRecorder q
stays_recorder p q w s (taken.Job job) is t gave =
    let e : Entry = entry.Take (takes s.history) in
    let had = entry_given p.knows w q.knows s e t gave.0.gives in
    let made : q.knows.made ≡ one_more (length p.knows.setting.scripts) p.knows.made = entry_made p.knows w q.knows s e t gave.0.gives ∙ ap (λ (n : ℕ). one_more n p.knows.made) (last_author p.knows is.passes) in
    let n : ℕ = length p.knows.setting.scripts in
    record {
      free = ap (λ (k : Knowledge). k.holds) gave.0.gives;
      passes = had.kept.passes ∙ is.passes ∙ ap passes_of (sym had.kept.setting);
      takes = (
        is.takes.0 + 1,
        ap (λ (k : Setting). made_by (length k.scripts) q.knows.made) had.kept.setting ∙ ap (made_by n) made ∙ one_more-same n is.takes.0 p.knows.made is.takes.1,
      );
    }
stays_recorder p q w s (taken.NotYet seen) is t gave = stays_after p q w s is t gave.gives
stays_recorder p q w s (taken.Ended seen) is t gave = stays_after p q w s is t gave.gives

pub folds : (p q : Standing) (w : Knowledge) → IsRecorder p → HasJoined p.knows w q.knows → IsRecorder q
folds p q w is joined = record {
  free = ap (λ (k : Knowledge). k.holds) joined.is ∙ is.free;
  passes = ap (λ (k : Knowledge). k.passes) joined.is ∙ is.passes ∙ ap (λ (k : Knowledge). passes_of k.setting) (sym joined.is);
  takes = (
    is.takes.0,
    ap (λ (k : Knowledge). made_by (length k.setting.scripts) k.made) joined.is ∙ made_by-left (length p.knows.setting.scripts) is.takes.0 p.knows.made w.made is.takes.1,
  );
}

pub has_closed : (p : Standing) (s : State) (h : List Entry) → IsRecorder p → turns.HasClosed setting_of history_of mark_of p.knows s → h ≡ s.history → IsLawful s.setting.scripts s.history → HasClosed p h
has_closed p s h is closed same lawful =
    let scripts = p.knows.setting.scripts in
    let law : IsLawful scripts h = subst (IsLawful scripts) (sym same) (subst (λ (k : Setting). IsLawful k.scripts s.history) closed.setting lawful) in
    record {
      lawful = law;
      begins = subst (turns.Begins p.knows.seen) (sym same) closed.begins;
      lines = λ c less.
          closed.own c (omega (arith, is.passes, less)) ∙ ap Some (lines_by p.knows.passes c s.history (omega (arith, is.passes, less)) ∙ ap (λ (l : List Entry). length (indexes_of l c)) (sym same));
      takes_all = closed.own (length scripts) (omega (arith, is.passes)) ∙ ap Some (ap (λ (n : ℕ). entries_by n (length scripts) s.history) is.passes ∙ ap (entries_by (passes_of p.knows.setting) (length scripts)) (sym same) ∙ takes_by scripts h law);
    }
