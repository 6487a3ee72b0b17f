-- From the clauses of a turn to what a pass knows after it.
use Rattle.std.proofs.Common.{◌≡◌, ℕ, ◌+◌, ◌<◌, Bool, true, false, ◌||◌, ◌&&◌, not, List, [], ◌∷◌, ◌++◌, Some, refl, sym, ap, subst, ◌∙◌, arith}
use Rattle.std.proofs.lemmas.List.{append-nil}
use Rattle.recorder_model.specs.declared.entry.Entry.{Entry}
use Rattle.recorder_model.specs.Setting.{Setting}
use Rattle.recorder_model.specs.Turn.{State, author, entries_by}
use Rattle.recorder_model.specs.Histories.{script_length}
use Rattle.turn_lock.specs.Turns.{Begins, HasEntered, HasWaited, IsSameButWords, Owns, finds, made_by, one_more, gives_back, gives_entry}
use Rattle.turn_lock.specs.declared.knowledge.Knowledge.{Knowledge}
use Rattle.turn_lock.proofs.Histories.{made_by-here}
use Rattle.desk_state.specs.Standing.{IsNext}
use Rattle.live_desk.specs.Passes.{Client, IsClient}
use Rattle.live_desk.specs.Turned.{HasTurn, HadTurn}
use Rattle.live_desk.proofs.Authors.{lines_by}

abbrev pub setting_of : State → Setting
setting_of s = s.setting

abbrev pub history_of : State → List Entry
history_of s = s.history

abbrev pub mark_of : State → Bool
mark_of s = s.mark

-- ---- taking the turn

found_first : (u : Knowledge) (n : ℕ) → IsSameButWords u (finds u n)
found_first u n = refl

pub entered : (v w : Knowledge) (s : State) → HasEntered setting_of history_of mark_of v s w → HasTurn v s w
entered v w s e = record {
  tries = finds (finds v e.0) e.0;
  same = refl;
  holds = e.1.after;
  setting = e.1.setting;
  begins = e.1.begins;
  own = e.1.own;
  mark = e.1.mark;
}

pub waited : (v w : Knowledge) (s : State) → HasWaited setting_of history_of mark_of v s w → HasTurn v s w
waited v w s e =
    let u : Knowledge = e.0 in
    let same : IsSameButWords v u = e.1 in
    let t = entered u w s e.2 in
    record {
      tries = t.tries;
      same = t.same ∙ ap (λ (k : Knowledge). record k { found = t.tries.found; last = t.tries.last; before = t.tries.before }) same;
      holds = t.holds;
      setting = t.setting ∙ ap (λ (k : Knowledge). k.setting) same;
      begins = subst (λ (l : List Entry). Begins l s.history) (ap (λ (k : Knowledge). k.seen) same) t.begins;
      own = λ a k made. ap (λ (n : ℕ). entries_by n a s.history) (sym (ap (λ (k : Knowledge). k.passes) same)) ∙ t.own a k (ap (λ (k : Knowledge). made_by a k.made) same ∙ made);
      mark = λ saw. t.mark (ap (λ (k : Knowledge). k.saw) same ∙ saw);
    }

-- ---- giving it back

raised_none : (r m : Bool) → (r || (m && not m)) ≡ r
raised_none true m = refl
raised_none false true = refl
raised_none false false = refl

pub entry_given : (v w after : Knowledge) (s : State) (e : Entry) → HasTurn v s w → after ≡ gives_entry w e s.mark → HadTurn v s.history (e ∷ []) after
entry_given v w after s e t gives = record {
  kept = record {
    setting = ap (λ (k : Knowledge). k.setting) gives ∙ ap (λ (k : Knowledge). k.setting) t.holds ∙ ap (λ (k : Knowledge). k.setting) t.same;
    passes = ap (λ (k : Knowledge). k.passes) gives ∙ ap (λ (k : Knowledge). k.passes) t.holds ∙ ap (λ (k : Knowledge). k.passes) t.same;
    weight = ap (λ (k : Knowledge). k.weight) gives ∙ ap (λ (k : Knowledge). k.weight) t.holds ∙ ap (λ (k : Knowledge). k.weight) t.same;
  };
  begins = t.begins;
  seen = ap (λ (k : Knowledge). k.seen) gives ∙ ap (λ (k : Knowledge). k.base ++ e ∷ []) t.holds;
  turns = ap (λ (k : Knowledge). k.turns) gives ∙ ap (λ (k : Knowledge). k.turns) t.holds ∙ ap (λ (k : Knowledge). k.turns + 1) t.same;
  saw = λ saw. ap (λ (k : Knowledge). k.saw) gives ∙ t.mark saw;
}

pub entry_raised : (v w after : Knowledge) (s : State) (e : Entry) → HasTurn v s w → after ≡ gives_entry w e s.mark → after.raised ≡ v.raised
entry_raised v w after s e t gives =
    ap (λ (k : Knowledge). k.raised) gives ∙ ap (λ (k : Knowledge). k.raised || (s.mark && not k.base_mark)) t.holds ∙ raised_none t.tries.raised s.mark ∙ ap (λ (k : Knowledge). k.raised) t.same

pub entry_made : (v w after : Knowledge) (s : State) (e : Entry) → HasTurn v s w → after ≡ gives_entry w e s.mark → after.made ≡ one_more (author v.passes e) v.made
entry_made v w after s e t gives =
    ap (λ (k : Knowledge). k.made) gives ∙ ap (λ (k : Knowledge). one_more (author k.passes e) k.made) t.holds ∙ ap (λ (k : Knowledge). one_more (author k.passes e) k.made) t.same

pub back_given : (v w after : Knowledge) (s : State) (mark : Bool) → HasTurn v s w → after ≡ gives_back w s.history mark → (s.mark ≡ true → mark ≡ true) → HadTurn v s.history [] after
back_given v w after s mark t gives rises = record {
  kept = record {
    setting = ap (λ (k : Knowledge). k.setting) gives ∙ ap (λ (k : Knowledge). k.setting) t.holds ∙ ap (λ (k : Knowledge). k.setting) t.same;
    passes = ap (λ (k : Knowledge). k.passes) gives ∙ ap (λ (k : Knowledge). k.passes) t.holds ∙ ap (λ (k : Knowledge). k.passes) t.same;
    weight = ap (λ (k : Knowledge). k.weight) gives ∙ ap (λ (k : Knowledge). k.weight) t.holds ∙ ap (λ (k : Knowledge). k.weight) t.same;
  };
  begins = t.begins;
  seen = ap (λ (k : Knowledge). k.seen) gives ∙ sym (append-nil s.history);
  turns = ap (λ (k : Knowledge). k.turns) gives ∙ ap (λ (k : Knowledge). k.turns) t.holds ∙ ap (λ (k : Knowledge). k.turns + 1) t.same;
  saw = λ saw. ap (λ (k : Knowledge). k.saw) gives ∙ rises (t.mark saw);
}

pub back_raised : (v w after : Knowledge) (s : State) → HasTurn v s w → after ≡ gives_back w s.history s.mark → after.raised ≡ v.raised
back_raised v w after s t gives =
    ap (λ (k : Knowledge). k.raised) gives ∙ ap (λ (k : Knowledge). k.raised || (s.mark && not k.base_mark)) t.holds ∙ raised_none t.tries.raised s.mark ∙ ap (λ (k : Knowledge). k.raised) t.same

pub back_made : (v w after : Knowledge) (s : State) (mark : Bool) → HasTurn v s w → after ≡ gives_back w s.history mark → after.made ≡ v.made
back_made v w after s mark t gives = ap (λ (k : Knowledge). k.made) gives ∙ ap (λ (k : Knowledge). k.made) t.holds ∙ ap (λ (k : Knowledge). k.made) t.same

pub held_made : (v w : Knowledge) (s : State) → HasTurn v s w → w.made ≡ v.made
held_made v w s t = ap (λ (k : Knowledge). k.made) t.holds ∙ ap (λ (k : Knowledge). k.made) t.same

-- ---- a client's next line

pub own_number : (c : Client) → IsClient c → made_by c.client c.knows.made ≡ Some c.next
own_number c is = ap (made_by c.client) is.made ∙ made_by-here c.client (c.client, c.next) [] refl

pub held_owns : (c : Client) (w : Knowledge) (s : State) → IsClient c → HasTurn c.knows s w → Owns w c.client
held_owns c w s is t = (c.next, ap (made_by c.client) (held_made c.knows w s t) ∙ own_number c is)

pub next_is : (c : Client) (w : Knowledge) (s : State) → IsClient c → HasTurn c.knows s w → c.next < c.lines → IsNext s c.client c.next
next_is c w s is t less =
    let long : script_length s.setting.scripts c.client ≡ c.lines = ap (λ (k : Setting). script_length k.scripts c.client) t.setting ∙ sym is.lines in
    let few : c.client + 1 < c.knows.passes = omega (arith, is.passes, is.within) in
    record {
      there = omega (arith, long, less);
      accepted = sym (lines_by c.knows.passes c.client s.history few) ∙ t.own c.client c.next (own_number c is);
    }
