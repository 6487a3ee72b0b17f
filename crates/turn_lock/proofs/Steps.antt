-- Each step on the word keeps the rule of the turn.
use Rattle.std.proofs.Common.{◌≡◌, ◌≢◌, ◌⊎◌, ℕ, ◌+◌, ◌*◌, ◌^◌, ◌%◌, ◌<◌, ◌||◌, ◌&&◌, not, eqb, List, [], ◌∷◌, ◌++◌, length, set, get_or, Bool, true, false, if◌then◌else◌, Option, Some, None, refl, sym, ap, ◌∙◌, subst, inl, inr, ⊎_elim, arith, length-set, length-append, get_or-set_same, true≢false}
use mathlib.Core.Option.{some, none}
use lib.ListN.{get_elem?}
use lib.Seq.{set-get_or}
use prog.Atomic.{either}
use Rattle.atomic_table.specs.Table.{State, Me, Act, Valid, carried_after, step, keeps, takes, gives, stepped, Allows}
use Rattle.atomic_table.proofs.Lists.{exchanged, set_here}
use Rattle.recorder_model.specs.declared.entry.Entry.{Entry}
use Rattle.recorder_model.specs.Setting.{Setting}
use Rattle.recorder_model.specs.Turn.{author, entries_by}
use Rattle.turn_lock.specs.declared.knowledge.Knowledge.{Knowledge}
use Rattle.turn_lock.specs.Turns.{made_by, times_in, total_weight, Fits, Kept, finds, holding, gives_back, gives_entry, taken, looked, returned, added, Begins}
use Rattle.turn_lock.specs.Laws.{IsReady}
use Rattle.turn_lock.proofs.Histories.{begins_same, begins_more, entries_by-snoc, by_another, times_in-more, snoc_same, own_more, numbers_more}
use Rattle.turn_lock.proofs.Views.{total_weight-set, agree_set}

even_is_free : (held : Bool) (n l : ℕ) → n ≡ 2 * l + (if held then 1 else 0) → n % 2 ≡ 0 → held ≡ false
even_is_free true n l is even = absurd (omega arith)
even_is_free false n l is even = refl

word_free : (held : Bool) (n l : ℕ) → n ≡ 2 * l + (if held then 1 else 0) → held ≡ false → n ≡ 2 * l
word_free true n l is free = absurd (true≢false free)
word_free false n l is free = is ∙ omega arith

or_left : (a b : Bool) → a ≡ true → (a || b) ≡ true
or_left true b e = refl
or_left false b e = absurd (cc)

-- a mark that was not there rises by this pass
rises : (raised mark base : Bool) → mark ≡ true → ((raised || (mark && not base)) ≡ true) ⊎ (base ≡ true)
rises true mark base e = inl refl
rises false true true e = inr refl
rises false true false e = inl refl
rises false false base e = absurd (cc)

module _ {S : Type 0} (setting_of : S → Setting) (history_of : S → List Entry) (mark_of : S → Bool) where
  abbrev St : Type 0
  St = State (Option S) Knowledge

  abbrev pub M : Type 0
  M = Me (Option S) Knowledge

  abbrev Rule : St → Type 0
  Rule = Kept setting_of history_of mark_of

  -- what a pass knows of the words that it found is free
  finds_fit : (setting : Setting) (passes : ℕ) (log : List Entry) (mark held : Bool) (holder : ℕ) (owner : ℕ → ℕ) (j : ℕ) (v : Knowledge) (n : ℕ) → Fits setting passes log mark held holder owner j v → Fits setting passes log mark held holder owner j (finds v n)
  finds_fit setting passes log mark held holder owner j v n f = record {
    same_setting = f.same_setting;
    same_passes = f.same_passes;
    has_seen = f.has_seen;
    has_heard = f.has_heard;
    own = f.own;
    saw_mark = f.saw_mark;
    holding = f.holding;
  }

  same_weight : (passes : ℕ) (vs : List Knowledge) (j : ℕ) (v w : Knowledge) → get_elem? vs j ≡ some v → w.weight ≡ v.weight → total_weight vs ≡ 2 ^ 32 * passes → total_weight (set vs j w) ≡ 2 ^ 32 * passes
  same_weight passes vs j v w at same weighs = let t = total_weight-set vs j v w at in omega arith

  -- a step that leaves the word and the slot, and changes a view in what the rule does not speak of
  pub unmoved : (s : St) (id : ℕ) (cs : List (ℕ × Option S)) (v w : Knowledge) (r : Rule s) → get_elem? s.views id ≡ some v → 0 < v.weight → w.weight ≡ v.weight → w.made ≡ v.made → w.holds ≡ v.holds → w.raised ≡ v.raised
      → Fits r.setting r.passes r.log r.mark r.held r.holder r.owner id w → Rule (stepped s 0 (get_or s.words 0 0) id cs w keeps)
  unmoved s id cs v w r at live weight made holds raised fits = subst (λ (ws : List ℕ). Rule record { words = ws; homes = s.homes; views = set s.views id w }) (sym (set-get_or s.words 0 0)) record {
    setting = r.setting;
    passes = r.passes;
    log = r.log;
    mark = r.mark;
    held = r.held;
    holder = r.holder;
    owner = r.owner;
    one_word = r.one_word;
    one_slot = r.one_slot;
    word = r.word;
    away = r.away;
    at_home = r.at_home;
    agree = agree_set r.setting r.passes r.owner r.log r.log r.mark r.mark r.held r.held r.holder r.holder s.views id v w r.agree at (omega arith) (same_weight r.passes s.views id v w at weight r.agree.weighs)
        (λ i u _ f. f) fits (λ a k e. (k, ap (made_by a) made ∙ e)) (λ h. inr (h, refl, λ e. holds ∙ e)) (λ h. inr h) (λ e. raised ∙ e) (λ a. ap (times_in a) made);
  }

  found_one : (s : St) (id : ℕ) (cs : List (ℕ × Option S)) (v : Knowledge) → Rule s → get_elem? s.views id ≡ some v → 0 < v.weight → Rule (stepped s 0 (get_or s.words 0 0) id cs (finds v (get_or s.words 0 0)) keeps)
  found_one s id cs v r at live = unmoved s id cs v (finds v (get_or s.words 0 0)) r at live refl refl refl refl (finds_fit r.setting r.passes r.log r.mark r.held r.holder r.owner id v (get_or s.words 0 0) (r.agree.each id v at live))

  pub looks : (slots id : ℕ) (me : M) → 0 < me.0.weight → Allows Rule slots id me 0 (λ n. n) (looked (step slots 0 0 0 none) me)
  looks slots id me live s r _ at _ = (finds me.0 (get_or s.words 0 0), keeps, tt, found_one s id me.1 me.0 r at live, refl)

  -- the state goes to a pass, whose base is its history
  takes_state : (s : St) (id : ℕ) (cs : List (ℕ × Option S)) (v : Knowledge) (x : S) (new : ℕ) (r : Rule s) → get_elem? s.views id ≡ some v → 0 < v.weight → r.held ≡ false → get_or s.words 0 0 + 1 ≡ new
      → history_of x ≡ r.log → mark_of x ≡ r.mark
      → Rule (stepped s 0 new id cs (holding (finds v (get_or s.words 0 0)) (history_of x) (mark_of x)) (takes 0 (Some x)))
  takes_state s id cs v x new r at live free more log mark =
      let w : Knowledge = holding (finds v (get_or s.words 0 0)) (history_of x) (mark_of x) in
      let f = r.agree.each id v at live in
      let long = r.one_word in record {
        setting = r.setting;
        passes = r.passes;
        log = r.log;
        mark = r.mark;
        held = true;
        holder = id;
        owner = r.owner;
        one_word = length-set s.words 0 new ∙ r.one_word;
        one_slot = length-set s.homes 0 none ∙ r.one_slot;
        word = get_or-set_same s.words 0 new 0 (omega arith) ∙ (let n = word_free r.held (get_or s.words 0 0) (length r.log) r.word free in omega arith);
        away = λ _. set_here s.homes 0 none (let deep = r.one_slot in omega arith);
        at_home = λ h. absurd (true≢false h);
        agree = agree_set r.setting r.passes r.owner r.log r.log r.mark r.mark r.held true r.holder id s.views id v w r.agree at live (same_weight r.passes s.views id v w at refl r.agree.weighs)
            (λ i u _ g. record {
              same_setting = g.same_setting;
              same_passes = g.same_passes;
              has_seen = g.has_seen;
              has_heard = g.has_heard;
              own = g.own;
              saw_mark = g.saw_mark;
              holding = λ h. absurd (true≢false (sym (g.holding h).0 ∙ free));
            })
            record {
              same_setting = f.same_setting;
              same_passes = f.same_passes;
              has_seen = f.has_seen;
              has_heard = f.has_heard;
              own = f.own;
              saw_mark = f.saw_mark;
              holding = λ _. (refl, refl, log, mark);
            }
            (λ a k e. (k, e)) (λ _. inl (refl, refl)) (λ h. inr h) (λ e. e) (λ _. refl);
      }

  pub takes_turn : (slots id old new : ℕ) (me : M) → 0 < me.0.weight → me.0.holds ≡ false → old % 2 ≡ 0 → old + 1 ≡ new
      → Allows Rule slots id me 0 (λ n. either (eqb n old) new n) (taken setting_of history_of mark_of (step slots 0 old new none) me)
  takes_turn slots id old new me live idle even more s r _ at _ =
      let n : ℕ = get_or s.words 0 0 in
      let v : Knowledge = me.0 in
      let f = r.agree.each id v at live in
      exchanged n old new
      (λ (z : ℕ). (w : Knowledge) × (a : Act (Option S)) × Valid s.homes me.1 a × Rule (stepped s 0 z id me.1 w a) × taken setting_of history_of mark_of (step slots 0 old new none) me n (w, carried_after me.1 a))
      (λ hit.
      let free = even_is_free r.held n (length r.log) r.word (ap (λ (z : ℕ). z % 2) hit ∙ even) in
      let home = r.at_home free in
      let x : S = home.0 in (
        holding (finds v n) (history_of x) (mark_of x),
        takes 0 (Some x),
        home.1,
        takes_state s id me.1 v x new r at live free (omega arith) home.3 home.4,
        (
          (λ _. (
            x,
            refl,
            record {
              after = refl;
              word = word_free r.held n (length r.log) r.word free ∙ ap (λ (l : List Entry). 2 * length l) (sym home.3);
              setting = home.2 ∙ sym f.same_setting;
              begins = subst (Begins v.seen) (sym home.3) f.has_seen;
              own = λ a k e. ap (λ (p : ℕ × List Entry). entries_by p.0 a p.1) (λ i. (f.same_passes i, home.3 i)) ∙ (f.own a k e).1;
              mark = λ h. home.4 ∙ f.saw_mark h;
            },
          )),
          (λ miss. absurd (miss hit)),
        ),
      ))
      (λ miss. (finds v n, keeps, tt, found_one s id me.1 v r at live, ((λ hit. absurd (miss hit)), (λ _. refl))))

  -- the other passes and notes fit a longer history, where the new entry is by the pass that gives the turn back
  others_add : (setting : Setting) (passes : ℕ) (log : List Entry) (e : Entry) (mark mark' held : Bool) (holder : ℕ) (owner : ℕ → ℕ) (id i : ℕ) (u : Knowledge) → i ≢ id → holder ≡ id → owner (author passes e) ≡ id → (mark ≡ true → mark' ≡ true)
      → Fits setting passes log mark held holder owner i u → Fits setting passes (log ++ e ∷ []) mark' false holder owner i u
  others_add setting passes log e mark mark' held holder owner id i u apart holds by rise g = record {
    same_setting = g.same_setting;
    same_passes = g.same_passes;
    has_seen = begins_more u.seen log (e ∷ []) g.has_seen;
    has_heard = begins_more u.heard log (e ∷ []) g.has_heard;
    own = λ a k at.
        let o = g.own a k at in
        let other : author passes e ≢ a = λ is. apart (sym o.0 ∙ (ap owner (sym is) ∙ by)) in
        (o.0, entries_by-snoc passes a log e ∙ (let none_new = by_another passes a e other in let old = o.1 in omega arith), o.2);
    saw_mark = λ h. rise (g.saw_mark h);
    holding = λ h. absurd (apart (sym (g.holding h).1 ∙ holds));
  }

  -- the others fit, where the turn is given back without an entry
  others_return : (setting : Setting) (passes : ℕ) (log : List Entry) (mark mark' held : Bool) (holder : ℕ) (owner : ℕ → ℕ) (id i : ℕ) (u : Knowledge) → i ≢ id → holder ≡ id → (mark ≡ true → mark' ≡ true)
      → Fits setting passes log mark held holder owner i u → Fits setting passes log mark' false holder owner i u
  others_return setting passes log mark mark' held holder owner id i u apart holds rise g = record {
    same_setting = g.same_setting;
    same_passes = g.same_passes;
    has_seen = g.has_seen;
    has_heard = g.has_heard;
    own = g.own;
    saw_mark = λ h. rise (g.saw_mark h);
    holding = λ h. absurd (apart (sym (g.holding h).1 ∙ holds));
  }

  -- the state goes home, with the history log' and a mark that did not fall
  goes_home : (s : St) (id : ℕ) (cs : List (ℕ × Option S)) (v w : Knowledge) (x : S) (log' : List Entry) (new : ℕ) (r : Rule s) → get_elem? s.views id ≡ some v → 0 < v.weight → w.weight ≡ v.weight → cs ≡ (0, Some x) ∷ []
      → setting_of x ≡ r.setting → history_of x ≡ log' → new ≡ 2 * length log'
      → ((a k : ℕ) → made_by a v.made ≡ Some k → (k' : ℕ) × (made_by a w.made ≡ Some k'))
      → (mark_of x ≡ true → (w.raised ≡ true) ⊎ (r.mark ≡ true)) → (v.raised ≡ true → w.raised ≡ true)
      → ((i : ℕ) (u : Knowledge) → i ≢ id → Fits r.setting r.passes r.log r.mark r.held r.holder r.owner i u → Fits r.setting r.passes log' (mark_of x) false r.holder r.owner i u)
      → Fits r.setting r.passes log' (mark_of x) false r.holder r.owner id w
      → ((a : ℕ) → times_in a w.made ≡ times_in a v.made)
      → Rule (stepped s 0 new id cs w gives)
  goes_home s id cs v w x log' new r at live weight carried setting history word numbers marked raised others fits same_numbers =
      let long = r.one_word in
      let deep = r.one_slot in
      subst (λ (l : List (ℕ × Option S)). Rule (stepped s 0 new id l w gives)) (sym carried) record {
        setting = r.setting;
        passes = r.passes;
        log = log';
        mark = mark_of x;
        held = false;
        holder = r.holder;
        owner = r.owner;
        one_word = length-set s.words 0 new ∙ r.one_word;
        one_slot = length-set s.homes 0 (some (Some x)) ∙ r.one_slot;
        word = get_or-set_same s.words 0 new 0 (omega arith) ∙ omega arith;
        away = λ h. absurd (true≢false (sym h));
        at_home = λ _. (x, set_here s.homes 0 (some (Some x)) (omega arith), setting, history, refl);
        agree = agree_set r.setting r.passes r.owner r.log log' r.mark (mark_of x) r.held false r.holder r.holder s.views id v w r.agree at (omega arith) (same_weight r.passes s.views id v w at weight r.agree.weighs)
            others fits numbers (λ h. absurd (true≢false (sym h))) marked raised same_numbers;
      }

  abbrev pub Ready : M → S → Type 0
  Ready = IsReady setting_of history_of mark_of

  abbrev first_state : List (ℕ × Option S) → Option S
  first_state [] = None
  first_state (c ∷ cs) = c.1

  some_state : (x y : S) → Some x ≡ Some y → x ≡ y
  some_state x y e = cc

  -- the state in the slot is the one that is meant
  one_state : (cs : List (ℕ × Option S)) (x y : S) → cs ≡ (0, Some x) ∷ [] → cs ≡ (0, Some y) ∷ [] → x ≡ y
  one_state cs x y e f = some_state x y (ap first_state (sym e ∙ f))

  pub returns_turn : (slots id new : ℕ) (me : M) (x : S) → Ready me x → history_of x ≡ me.0.base → new ≡ 2 * length me.0.base
      → Allows Rule slots id me 0 (λ _. new) (λ _. returned mark_of (step slots 0 new 0 none) me new)
  returns_turn slots id new me x ready history word s r _ at _ =
      let v : Knowledge = me.0 in
      let w : Knowledge = gives_back v v.base (mark_of x) in
      let f = r.agree.each id v at ready.live in
      let h = f.holding ready.holds in
      let rise : r.mark ≡ true → mark_of x ≡ true = λ e. ready.mark (h.3 ∙ e) in (
        w,
        gives,
        tt,
        goes_home s id me.1 v w x r.log new r at ready.live refl ready.carried (ready.setting ∙ f.same_setting) (history ∙ h.2) (word ∙ ap (λ (l : List Entry). 2 * length l) h.2)
            (λ a k e. (k, e))
            (λ e. ⊎_elim (λ (t : (v.raised || (mark_of x && not v.base_mark)) ≡ true). inl t) (λ (t : v.base_mark ≡ true). inr (sym h.3 ∙ t)) (rises v.raised (mark_of x) v.base_mark e))
            (λ e. or_left v.raised (mark_of x && not v.base_mark) e)
            (λ i u apart g. others_return r.setting r.passes r.log r.mark (mark_of x) r.held r.holder r.owner id i u apart h.1 rise g)
            record {
              same_setting = f.same_setting;
              same_passes = f.same_passes;
              has_seen = subst (λ (l : List Entry). Begins l r.log) (sym h.2) (begins_same r.log);
              has_heard = f.has_heard;
              own = λ a k e. let o = f.own a k e in (o.0, o.1, ap (entries_by r.passes a) h.2 ∙ o.1);
              saw_mark = λ e. e;
              holding = λ e. absurd (true≢false (sym e));
            }
            (λ _. refl),
        λ y carried. λ i. (gives_back v v.base (mark_of (one_state me.1 x y ready.carried carried i)), Rattle.atomic_table.specs.Table.rest (carried i)),
      )

  -- the entry that is added is the one that is meant
  one_entry : (v : Knowledge) (x y : S) (e f : Entry) → x ≡ y → history_of x ≡ v.base ++ e ∷ [] → history_of y ≡ v.base ++ f ∷ [] → e ≡ f
  one_entry v x y e f same p q = snoc_same v.base e f (sym p ∙ (ap history_of same ∙ q))

  pub adds_entry : (slots id new k0 : ℕ) (me : M) (x : S) (e : Entry) → Ready me x → history_of x ≡ me.0.base ++ e ∷ [] → new ≡ 2 * (length me.0.base + 1) → made_by (author me.0.passes e) me.0.made ≡ Some k0
      → Allows Rule slots id me 0 (λ _. new) (λ _. added history_of mark_of (step slots 0 new 0 none) me new)
  adds_entry slots id new k0 me x e ready history word mine s r _ at _ =
      let v : Knowledge = me.0 in
      let w : Knowledge = gives_entry v e (mark_of x) in
      let b : ℕ = author v.passes e in
      let f = r.agree.each id v at ready.live in
      let h = f.holding ready.holds in
      let log' : List Entry = r.log ++ e ∷ [] in
      let now : v.base ++ e ∷ [] ≡ log' = ap (λ (l : List Entry). l ++ e ∷ []) h.2 in
      let by : author r.passes e ≡ b = ap (λ (p : ℕ). author p e) (sym f.same_passes) in
      let owns = (f.own b k0 mine).0 in
      let rise : r.mark ≡ true → mark_of x ≡ true = λ e. ready.mark (h.3 ∙ e) in
      let count = own_more r.passes b k0 v.made r.log e by mine (λ a k e. (f.own a k e).1) in (
        w,
        gives,
        tt,
        goes_home s id me.1 v w x log' new r at ready.live refl ready.carried (ready.setting ∙ f.same_setting) (history ∙ now)
            (word ∙ (let l = length-append r.log (e ∷ []) in let m : length v.base ≡ length r.log = ap length h.2 in omega arith))
            (λ a k e. numbers_more b v.made a k e)
            (λ e. ⊎_elim (λ (t : (v.raised || (mark_of x && not v.base_mark)) ≡ true). inl t) (λ (t : v.base_mark ≡ true). inr (sym h.3 ∙ t)) (rises v.raised (mark_of x) v.base_mark e))
            (λ e. or_left v.raised (mark_of x && not v.base_mark) e)
            (λ i u apart g. others_add r.setting r.passes r.log e r.mark (mark_of x) r.held r.holder r.owner id i u apart h.1 (ap r.owner by ∙ owns) rise g)
            record {
              same_setting = f.same_setting;
              same_passes = f.same_passes;
              has_seen = subst (λ (l : List Entry). Begins l log') (sym now) (begins_same log');
              has_heard = begins_more v.heard r.log (e ∷ []) f.has_heard;
              own = λ a k e. let c = count a k e in ((f.own a c.1.0 c.1.1).0, c.0, ap (entries_by r.passes a) now ∙ c.0);
              saw_mark = λ e. e;
              holding = λ e. absurd (true≢false (sym e));
            }
            (λ a. times_in-more a b v.made),
        λ y f carried history'. λ i.
            let same = one_state me.1 x y ready.carried carried in
            (gives_entry v (one_entry v x y e f same history history' i) (mark_of (same i)), Rattle.atomic_table.specs.Table.rest (carried i)),
      )
