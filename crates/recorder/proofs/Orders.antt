-- The order that a closed session gives, and what was recorded of it.
use Rattle.std.proofs.Common.{◌≡◌, ℕ, zero, suc, ◌+◌, ◌*◌, ◌^◌, ◌<◌, ◌≤◌, Bool, true, false, List, [], ◌∷◌, ◌++◌, length, take, Option, Some, refl, sym, ap, subst, ◌∙◌, arith, inl, inr}
use Rattle.std.specs.Prelude.{slice_index_or, count_by}
use Rattle.std.specs.List.{All, Any, range_with_len}
use Rattle.std.proofs.lemmas.Bool.{cases_lt}
use Rattle.std.proofs.lemmas.Option.{get_or_from_slice_get}
use Rattle.std.proofs.lemmas.List.{get_or_past, get_or_append_left, take-append-le}
use Rattle.std.proofs.lemmas.List.Elements.{All-tail}
use Rattle.std.proofs.lemmas.List.Sums.{sum_by-cons, sum_by_more, sum_by-take-le}
use Rattle.std.proofs.lemmas.List.FromFn.{length-range_with_len}
use Rattle.atomic_table.specs.Seated.{TableId}
use Rattle.recorder_model.specs.declared.entry.Entry.{Entry}
use Rattle.recorder_model.specs.declared.line.Line.{Line}
use Rattle.recorder_model.specs.Files.{WhereTold}
use Rattle.h265_model.specs.Plain.{Size, joined}
use Rattle.h265_model.specs.Settings.{Settings}
use Rattle.recorder_model.specs.Script.{is_cut}
use Rattle.recorder_model.specs.Setting.{Setting}
use Rattle.h265_model.specs.Raster.{Raster}
use Rattle.recorder_model.specs.Painting.{pictures}
use Rattle.recorder_model.specs.Histories.{IsLawful, Merges, indexes_of, script_length, takes}
use Rattle.h265_model.specs.Stream.{pieces}
use Rattle.h265_laws.proofs.Prefixes.{prefixes}
use Rattle.desk_state.specs.Standing.{most_entries}
use Rattle.desk_state.proofs.Totals.{all_within, counted_all}
use Rattle.turn_lock.specs.Turns.{made_by}
use Rattle.turn_lock.specs.Standing.{Standing}
use Rattle.turn_lock.proofs.Histories.{made_by-here, made_by-later, some_is}
use Rattle.live_desk.specs.Passes.{Client, fresh_client}
use Rattle.live_desk.specs.Desks.{IsOpened, HasClosed}
use Rattle.recorder.specs.declared.record.RecordEnd.{RecordEnd}
use Rattle.recorder.specs.declared.record.RecordEnd.TheVariants as end
use Rattle.recorder.specs.Ends.{Ends, HasGrown, HasRecorded, first_pieces, seen_pictures}
use Rattle.recorder.specs.Players.{HaveEnded, AreFolded, lines_made, weight_of}
use Rattle.recorder.specs.Sessions.{IsOrder, all_cuts}
use Rattle.recorder.proofs.Seen.{begins_then, pictures_more, count_pictures, few_takes}
use Rattle.recorder.proofs.Streams.{count_pieces}

abbrev pub Scripts : Type 0
Scripts = List (List Line)

-- ---- how many cuts the scripts ask for

pub cuts_more : (scripts : Scripts) (n : ℕ) (script : List Line) → n < length scripts → slice_index_or scripts n [] ≡ script → all_cuts (take (n + 1) scripts) ≡ all_cuts (take n scripts) + count_by is_cut script
cuts_more scripts n script less at = sum_by_more (count_by is_cut) scripts n [] less ∙ ap (λ (s : List Line). all_cuts (take n scripts) + count_by is_cut s) at

pub cuts_within : (scripts : Scripts) (n : ℕ) (script : List Line) → n < length scripts → slice_index_or scripts n [] ≡ script → all_cuts (take n scripts) + count_by is_cut script ≤ all_cuts scripts
cuts_within scripts n script less at = omega (arith, cuts_more scripts n script less at, sum_by-take-le (count_by is_cut) scripts (n + 1))

pub few_cuts : (scripts : Scripts) → all_cuts scripts ≤ most_entries scripts
few_cuts [] = omega arith
few_cuts (s ∷ scripts) =
    let a = sum_by-cons (λ script. length script + count_by is_cut script) s scripts in
    let b = sum_by-cons (count_by is_cut) s scripts in
    omega (arith, a, b, few_cuts scripts)

-- ---- clients that played

-- the client of this number, with its whole share, after it played
pub record IsPlayer (scripts : Scripts) (c : ℕ) (p : Client) : Type 0 where
  pub client : p.client ≡ c
  pub weight : p.knows.weight ≡ 2 ^ 32
  pub ended : p.stopped ≡ false → p.next ≡ script_length scripts c
  pub short : p.stopped ≡ true → p.next < script_length scripts c

abbrev pub ArePlayers : Scripts → ℕ → List Client → Type 0
ArePlayers scripts first ps = (i : ℕ) (d : Client) → i < length ps → IsPlayer scripts (first + i) (slice_index_or ps i d)

players_after : (setting : Setting) (desk : TableId) (before after : List Client) (recorder : Standing) → IsOpened setting desk before recorder → HaveEnded desk before after → ArePlayers setting.scripts 0 after
players_after setting desk before after recorder opened played i d less =
    let within : i < length setting.scripts = omega (arith, less, played.many, opened.many) in
    let was : slice_index_or before i d ≡ fresh_client desk setting i = get_or_from_slice_get before i (fresh_client desk setting i) d (opened.each i within) in
    let now = played.each i d (omega (arith, less, played.many)) in
    let number : 0 + i ≡ i = omega arith in
    record {
      client = now.same.client ∙ ap (λ (p : Client). p.client) was ∙ sym number;
      weight = now.kept.weight ∙ ap (λ (p : Client). p.knows.weight) was;
      ended = λ runs. now.ended runs ∙ now.same.lines ∙ ap (λ (p : Client). p.lines) was ∙ ap (script_length setting.scripts) (sym number);
      short = λ stops.
          let left = now.short (ap (λ (p : Client). p.stopped) was) stops in
          let all = now.same.lines ∙ ap (λ (p : Client). p.lines) was ∙ ap (script_length setting.scripts) (sym number) in
          omega (arith, left, all);
    }

rest_of : (scripts : Scripts) (first : ℕ) (p : Client) (ps : List Client) → ArePlayers scripts first (p ∷ ps) → ArePlayers scripts (suc first) ps
rest_of scripts first p ps are i d less =
    let number : first + suc i ≡ suc first + i = omega arith in
    subst (λ (n : ℕ). IsPlayer scripts n (slice_index_or ps i d)) number (are (suc i) d (omega (arith, less)))

head_of : (scripts : Scripts) (first : ℕ) (p : Client) (ps : List Client) → ArePlayers scripts first (p ∷ ps) → IsPlayer scripts first p
head_of scripts first p ps are =
    let number : first + 0 ≡ first = omega arith in
    subst (λ (n : ℕ). IsPlayer scripts n p) number (are 0 p (omega arith))

all_weights : (scripts : Scripts) (first : ℕ) (ps : List Client) → ArePlayers scripts first ps → weight_of ps ≡ 2 ^ 32 * length ps
all_weights scripts first [] are = omega arith
all_weights scripts first (p ∷ ps) are =
    let sum = sum_by-cons (λ (c : Client). c.knows.weight) p ps in
    let one = (head_of scripts first p ps are).weight in
    omega (arith, sum, one, all_weights scripts (suc first) ps (rest_of scripts first p ps are))

-- where none stopped, each has made all its lines
lines_by_client : (scripts : Scripts) (first : ℕ) (ps : List Client) (c : ℕ) → ArePlayers scripts first ps → All (λ p. p.stopped ≡ false) ps → first ≤ c → c < first + length ps
    → made_by c (lines_made ps) ≡ Some (script_length scripts c)
lines_by_client scripts first [] c are run low high = absurd (omega (arith, low, high))
lines_by_client scripts first (p ∷ ps) c are run low high = elim (cases_lt first c) [
  | inl less ↦
      made_by-later c (p.client, p.next) (lines_made ps) (λ e. let n = (head_of scripts first p ps are).client in omega (arith, e, n, less))
      ∙ lines_by_client scripts (suc first) ps c (rest_of scripts first p ps are) (All-tail (λ (q : Client). q.stopped ≡ false) p ps run) (omega (arith, less)) (omega (arith, high))
  | inr le ↦
      let player = head_of scripts first p ps are in
      let same : c ≡ first = omega (arith, low, le) in
      made_by-here c (p.client, p.next) (lines_made ps) (same ∙ sym player.client) ∙ ap Some (player.ended (run 0 p (omega arith)) ∙ ap (script_length scripts) (sym same))
]

-- what each has made
made_at : (scripts : Scripts) (first : ℕ) (ps : List Client) (k : ℕ) (d : Client) → ArePlayers scripts first ps → k < length ps → made_by (first + k) (lines_made ps) ≡ Some (slice_index_or ps k d).next
made_at scripts first [] k d are less = absurd (omega (arith, less))
made_at scripts first (p ∷ ps) zero d are less =
    let player = head_of scripts first p ps are in
    made_by-here (first + 0) (p.client, p.next) (lines_made ps) (omega (arith, player.client))
made_at scripts first (p ∷ ps) (suc k) d are less =
    let player = head_of scripts first p ps are in
    let number : suc first + k ≡ first + suc k = omega arith in
    made_by-later (first + suc k) (p.client, p.next) (lines_made ps) (λ e. let n = player.client in omega (arith, e, n))
    ∙ subst (λ (c : ℕ). made_by c (lines_made ps) ≡ Some (slice_index_or ps k d).next) number (made_at scripts (suc first) ps k d (rest_of scripts first p ps are) (omega (arith, less)))

-- ---- the closed session

-- a session's passes at its end: what the recorder's knew after its last job, and with all clients' passes folded in
pub record IsFinished (setting : Setting) (clients : List Client) (recorder whole : Standing) : Type 0 where
  pub setting_is : whole.knows.setting ≡ setting
  pub same : recorder.knows.setting ≡ setting
  pub many : length clients ≡ length setting.scripts
  pub players : ArePlayers setting.scripts 0 clients
  pub begins : Rattle.turn_lock.specs.Turns.Begins recorder.knows.seen whole.knows.seen
  pub made : whole.knows.made ≡ (length setting.scripts, takes recorder.knows.seen) ∷ lines_made clients
  pub weight : whole.knows.weight ≡ 2 ^ 32 * whole.knows.passes

pub finished : (desk : TableId) (before after : List Client) (fresh recorder whole : Standing) → IsOpened fresh.knows.setting desk before fresh → HaveEnded desk before after → HasRecorded fresh recorder → AreFolded recorder after whole
    → IsFinished fresh.knows.setting after recorder whole
finished desk before after fresh recorder whole opened played recorded folded =
    let setting = fresh.knows.setting in
    let players = players_after setting desk before after fresh opened played in
    let weight : recorder.knows.weight ≡ 2 ^ 32 = recorded.kept.weight ∙ ap (λ (p : Standing). p.knows.weight) opened.last in
    let passes : whole.knows.passes ≡ length setting.scripts + 1 = folded.passes ∙ recorded.kept.passes ∙ ap (λ (p : Standing). p.knows.passes) opened.last in
    let all = all_weights setting.scripts 0 after players in
    record {
      setting_is = folded.setting ∙ recorded.kept.setting;
      same = recorded.kept.setting;
      many = played.many ∙ opened.many;
      players = players;
      begins = folded.begins;
      made = folded.made ∙ ap (λ (l : List (ℕ × ℕ)). l ++ lines_made after) recorded.made;
      weight = omega (arith, weight, passes, all, folded.weight, played.many, opened.many);
    }

module _ (setting : Setting) (clients : List Client) (recorder whole : Standing) (h : List Entry) (is : IsFinished setting clients recorder whole) (closed : HasClosed whole h) where
  abbrev pub scripts : Scripts
  scripts = setting.scripts

  lawful : IsLawful scripts h
  lawful = subst (λ (s : Setting). IsLawful s.scripts h) is.setting_is closed.lawful

  pub all_takes : takes h ≡ takes recorder.knows.seen
  all_takes =
      let n : ℕ = length scripts in
      some_is (takes h) (takes recorder.knows.seen)
      (sym closed.takes_all ∙ ap (λ (s : Setting). made_by (length s.scripts) whole.knows.made) is.setting_is ∙ ap (made_by n) is.made
      ∙ made_by-here n (n, takes recorder.knows.seen) (lines_made clients) refl)

  lines_of_client : All (λ p. p.stopped ≡ false) clients → (c : ℕ) → c < length scripts → length (indexes_of h c) ≡ script_length scripts c
  lines_of_client run c less =
      let n : ℕ = length scripts in
      some_is (length (indexes_of h c)) (script_length scripts c)
      (sym (closed.lines c (subst (λ (s : Setting). c < length s.scripts) (sym is.setting_is) less)) ∙ ap (made_by c) is.made
      ∙ made_by-later c (n, takes recorder.knows.seen) (lines_made clients) (λ e. omega (arith, e, less))
      ∙ lines_by_client scripts 0 clients c is.players run (omega arith) (omega (arith, less, is.many)))

  merges : All (λ p. p.stopped ≡ false) clients → Merges scripts h
  merges run c = elim (cases_lt c (length scripts)) [
    | inl less ↦
        let own = lawful.begins c in
        let many : own.0 ≡ script_length scripts c = sym (length-range_with_len 0 own.0) ∙ ap length (sym own.2) ∙ lines_of_client run c less in
        own.2 ∙ ap (range_with_len 0) many
    | inr le ↦
        let none : script_length scripts c ≡ 0 = ap length (get_or_past scripts c [] le) in
        all_within scripts h lawful.begins c le ∙ ap (range_with_len 0) (sym none)
  ]

  -- one that stopped has made too few of them
  misses : Any (λ p. p.stopped ≡ true) clients → ¬ Merges scripts h
  misses some all =
      let n : ℕ = length scripts in
      let c : ℕ = some.0 in
      let p : Client = slice_index_or clients c some.1 in
      let in_all = some.2 in
      let less : c < length scripts = omega (arith, in_all, is.many) in
      let number : 0 + c ≡ c = omega arith in
      let made : length (indexes_of h c) ≡ p.next =
      some_is (length (indexes_of h c)) p.next
      (sym (closed.lines c (subst (λ (s : Setting). c < length s.scripts) (sym is.setting_is) less)) ∙ ap (made_by c) is.made
      ∙ made_by-later c (n, takes recorder.knows.seen) (lines_made clients) (λ e. omega (arith, e, less))
      ∙ subst (λ (i : ℕ). made_by i (lines_made clients) ≡ Some p.next) number (made_at scripts 0 clients c some.1 is.players in_all)) in
      let whole : length (indexes_of h c) ≡ script_length scripts c = ap length (all c) ∙ length-range_with_len 0 (script_length scripts c) in
      let few : p.next < script_length scripts c = subst (λ (i : ℕ). p.next < script_length scripts i) number ((is.players c some.1 in_all).short (ap (λ (q : Client). q.stopped) some.3 ∙ some.4)) in
      absurd (omega (arith, made, whole, few))

  pub seen_begin : (rest : List Raster) × (pictures setting.size scripts h ≡ seen_pictures recorder.knows ++ rest)
  seen_begin =
      let more = pictures_more setting.size scripts recorder.knows.seen h (begins_then recorder.knows.seen whole.knows.seen h is.begins closed.begins) in
      (more.0, more.1 ∙ ap (λ (s : Setting). pictures s.size s.scripts recorder.knows.seen ++ more.0) (sym is.same))

  pub is_order : (lost : Bool) (answer : RecordEnd) → (lost ≡ false → All (λ p. p.stopped ≡ false) clients) → (lost ≡ true → Any (λ p. p.stopped ≡ true) clients) → ((written : ℕ) → answer ≡ end.Ok written → takes h ≡ all_cuts scripts) → IsOrder scripts h lost answer
  is_order lost answer run gave_up all = record {
    lawful = lawful;
    merges = λ none. merges (run none);
    misses = λ some. misses (gave_up some);
    played = λ written none ok. record {
      lawful = lawful;
      merges = merges (run none);
      taken = all written ok ∙ sym (counted_all is_cut scripts h (merges (run none)));
    };
  }

-- ---- the stream of the closed history

first_kept : (settings : Settings) (ps rest whole : List Raster) (k : ℕ) → whole ≡ ps ++ rest → k ≤ length ps + 1 → first_pieces settings whole k ≡ first_pieces settings ps k
first_kept settings ps rest whole k is few =
    let kept = prefixes settings ps rest in
    ap joined (ap (λ (l : List Raster). take k (pieces settings l)) is ∙ ap (take k) kept.1 ∙ take-append-le k (pieces settings ps) kept.0 (omega (arith, few, count_pieces settings ps)))

at_kept : (settings : Settings) (ps rest whole : List Raster) (k : ℕ) → whole ≡ ps ++ rest → k < length ps + 1 → slice_index_or (pieces settings whole) k [] ≡ slice_index_or (pieces settings ps) k []
at_kept settings ps rest whole k is less =
    let kept = prefixes settings ps rest in
    ap (λ (l : List (List ℕ)). slice_index_or l k []) (ap (pieces settings) is ∙ kept.1) ∙ get_or_append_left (pieces settings ps) kept.0 [] k (omega (arith, less, count_pieces settings ps))

grown_kept : (settings : Settings) (ps rest whole : List Raster) (k written : ℕ) (was now : Option (List ℕ)) → whole ≡ ps ++ rest → k ≤ length ps + 1 → written ≡ length (first_pieces settings ps k) → WhereTold was now (HasGrown settings ps k)
    → (written ≡ length (first_pieces settings whole k)) × WhereTold was now (HasGrown settings whole k)
grown_kept settings ps rest whole k written was now is few counted told =
    let same = first_kept settings ps rest whole k is few in
    (counted ∙ ap length (sym same), subst (λ (l : List ℕ). WhereTold was now (λ a b. b ≡ a ++ l)) (sym same) told)

-- what is said of the pictures that were seen is said of all pictures of a longer history
pub ends_kept : (settings : Settings) (ps rest whole : List Raster) (wanted taken : ℕ) (was now : Option (List ℕ)) (answer : RecordEnd) → whole ≡ ps ++ rest → taken ≤ length ps
    → Ends settings ps wanted taken was now answer → Ends settings whole wanted taken was now answer
ends_kept settings ps rest whole wanted taken was now (end.Ok written) is few e =
    let all = e.all in
    let kept = grown_kept settings ps rest whole (wanted + 1) written was now is (omega (arith, few, all)) e.counted e.told in
    record { all = e.all; counted = kept.0; told = kept.1 }
ends_kept settings ps rest whole wanted taken was now (end.NoMemory written) is few e =
    let some = e.few in
    let kept = grown_kept settings ps rest whole e.whole written was now is (omega (arith, few, some)) e.counted e.told in
    record { whole = e.whole; few = e.few; counted = kept.0; told = kept.1 }
ends_kept settings ps rest whole wanted taken was now (end.Ended written) is few e =
    let some = e.few in
    let kept = grown_kept settings ps rest whole e.whole written was now is (omega (arith, few, some)) e.counted e.told in
    record { whole = e.whole; few = e.few; counted = kept.0; told = kept.1 }
ends_kept settings ps rest whole wanted taken was now (end.SinkFault written) is few e =
    let some = e.few in
    let k : ℕ = e.whole in
    let same = first_kept settings ps rest whole k is (omega (arith, few, some)) in
    let at = at_kept settings ps rest whole k is (omega (arith, few, some)) in
    record {
      whole = k;
      few = e.few;
      counted = e.counted ∙ ap length (sym same);
      told = subst (λ (l : List ℕ). WhereTold was now (λ a b. (part : List ℕ) × ((left : List ℕ) × (slice_index_or (pieces settings whole) k [] ≡ part ++ left)) × (b ≡ a ++ l ++ part))) (sym same)
          (subst (λ (l : List ℕ). WhereTold was now (λ a b. (part : List ℕ) × ((left : List ℕ) × (l ≡ part ++ left)) × (b ≡ a ++ first_pieces settings ps k ++ part))) (sym at) e.told);
    }

-- with Ok as many pictures were taken as were wanted
pub all_taken : (settings : Settings) (ps : List Raster) (wanted taken written : ℕ) (was now : Option (List ℕ)) (answer : RecordEnd) → answer ≡ end.Ok written → Ends settings ps wanted taken was now answer → taken ≡ wanted
all_taken settings ps wanted taken written was now answer ok e = (subst (Ends settings ps wanted taken was now) ok e).all

-- what is said of the closed history
pub now_ended : (setting : Setting) (clients : List Client) (recorder whole : Standing) (h : List Entry) → (is : IsFinished setting clients recorder whole) → HasClosed whole h
    → (settings : Settings) (wanted : ℕ) (was now : Option (List ℕ)) (answer : RecordEnd) → settings.size ≡ setting.size → wanted ≡ all_cuts setting.scripts → IsLawful recorder.knows.setting.scripts recorder.knows.seen
    → Ends settings (seen_pictures recorder.knows) wanted (takes recorder.knows.seen) was now answer
    → Ends settings (pictures settings.size setting.scripts h) (all_cuts setting.scripts) (takes h) was now answer
now_ended setting clients recorder whole h is closed settings wanted was now answer sized asked lawful e =
    let v = recorder.knows in
    let more = seen_begin setting clients recorder whole h is closed in
    let few = few_takes v.setting.scripts v.seen lawful in
    let count = count_pictures v.setting.size v.setting.scripts v.seen in
    let kept = ends_kept settings (seen_pictures v) more.0 (pictures setting.size setting.scripts h) wanted (takes v.seen) was now answer more.1 (omega (arith, few, count)) e in
    subst (λ (n : ℕ). Ends settings (pictures settings.size setting.scripts h) n (takes h) was now answer) asked
    (subst (λ (n : ℕ). Ends settings (pictures settings.size setting.scripts h) wanted n was now answer) (sym (all_takes setting clients recorder whole h is closed))
    (subst (λ (s : Size). Ends settings (pictures s setting.scripts h) wanted (takes v.seen) was now answer) (sym sized) kept))
