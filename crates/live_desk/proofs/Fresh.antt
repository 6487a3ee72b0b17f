-- The passes of a new desk, one after another.
use Rattle.std.proofs.Common.{◌≡◌, ℕ, zero, suc, ◌+◌, ◌<◌, false, List, [], ◌∷◌, ◌++◌, length, map, take, get_or, Some, refl, sym, ap, subst, ◌∙◌, arith, length-append, inl, inr}
use Rattle.std.specs.Prelude.{slice_get, slice_index}
use Rattle.std.proofs.lemmas.Bool.{cases_lt}
use Rattle.std.proofs.lemmas.List.{take_more, map-append, length-map, get_or-map}
use Rattle.recorder_model.specs.declared.line.Line.{Line}
use Rattle.atomic_table.specs.Seated.{TableId}
use Rattle.recorder_model.specs.Setting.{Setting}
use Rattle.turn_lock.specs.Turns.{fresh_view}
use Rattle.turn_lock.specs.Standing.{Standing, standing, IsHandedOut}
use Rattle.turn_lock.proofs.Histories.{made_by-here}
use Rattle.std.proofs.lemmas.Option.{same_Some, get_or_from_slice_get}
use Rattle.live_desk.specs.Passes.{Client, IsClient, IsRecorder, passes_of, fresh_recorder}
use Rattle.live_desk.specs.Desks.{IsOpened}
use Rattle.live_desk.specs.Opening.{IsFreshPass, AreFreshPasses, AreClients, client_of}

pub lengths_more : (scripts : List (List Line)) (n k : ℕ) (script : List Line) → n < length scripts → get_or scripts n [] ≡ script → k ≡ length script → map length (take n scripts) ++ k ∷ [] ≡ map length (take (n + 1) scripts)
lengths_more scripts n k script less at long =
    sym (ap (map length) (take_more scripts n [] less) ∙ map-append length (take n scripts) (get_or scripts n [] ∷ []) ∙ ap (λ (l : ℕ). map length (take n scripts) ++ l ∷ []) (ap length at ∙ sym long))

-- the pass that comes next
at_next : (yielded rest : List Standing) (p d : Standing) → get_or (yielded ++ p ∷ rest) (length yielded) d ≡ p
at_next [] rest p d = refl
at_next (y ∷ yielded) rest p d = at_next yielded rest p d

pub next_pass : (passes yielded rest : List Standing) (p d : Standing) → passes ≡ yielded ++ p ∷ rest → get_or passes (length yielded) d ≡ p
next_pass passes yielded rest p d is = ap (λ (l : List Standing). get_or l (length yielded) d) is ∙ at_next yielded rest p d

pub next_within : (passes yielded rest : List Standing) (p : Standing) → passes ≡ yielded ++ p ∷ rest → length yielded < length passes
next_within passes yielded rest p is = let e = ap length is ∙ length-append yielded (p ∷ rest) in omega (arith, e)

pub next_fresh : (passes yielded rest : List Standing) (lengths : List ℕ) (p : Standing) (n : ℕ) → AreFreshPasses passes lengths → passes ≡ yielded ++ p ∷ rest → n ≡ length yielded → IsFreshPass p n (slice_index lengths n)
next_fresh passes yielded rest lengths p n are is at =
    subst (λ (k : ℕ). IsFreshPass p k (slice_index lengths k)) (sym at)
    (subst (λ (q : Standing). IsFreshPass q (length yielded) (slice_index lengths (length yielded))) (next_pass passes yielded rest p p is) (are.each (length yielded) p (next_within passes yielded rest p is)))

-- it is its client's
pub fresh_is_client : (p : Standing) (n lines : ℕ) → IsFreshPass p n lines → IsClient (record { table = p.table; knows = p.knows; client = n; next = 0; lines = lines; stopped = false })
fresh_is_client p n lines is = record {
  free = ap (λ k. k.holds) is.knows;
  made = ap (λ k. k.made) is.knows;
  passes = ap (λ k. k.passes) is.knows;
  within = is.within;
  lines = is.long;
  next = omega arith;
}

pub slice_last : {X : Type 0} (xs : List X) (x : X) (n : ℕ) → length xs ≡ n → slice_get (xs ++ x ∷ []) n ≡ Some x
slice_last [] x zero is = refl
slice_last [] x (suc n) is = absurd (omega arith)
slice_last (y ∷ xs) x zero is = absurd (omega arith)
slice_last (y ∷ xs) x (suc n) is = slice_last xs x n (omega arith)

pub slice_before : {X : Type 0} (xs : List X) (x : X) (i : ℕ) → i < length xs → slice_get (xs ++ x ∷ []) i ≡ slice_get xs i
slice_before [] x i less = absurd (omega arith)
slice_before (y ∷ xs) x zero less = refl
slice_before (y ∷ xs) x (suc i) less = slice_before xs x i (omega arith)

pub one_client_more : (passes yielded rest : List Standing) (lengths : List ℕ) (p : Standing) (n : ℕ) (clients more : List Client) → AreFreshPasses passes lengths → passes ≡ yielded ++ p ∷ rest → n ≡ length yielded → AreClients passes (length yielded) clients
    → more ≡ clients ++ record { table = p.table; knows = p.knows; client = n; next = 0; lines = slice_index lengths n; stopped = false } ∷ [] → AreClients passes (length (yielded ++ p ∷ [])) more
one_client_more passes yielded rest lengths p n clients more are is at old grown =
    let c : Client = record { table = p.table; knows = p.knows; client = n; next = 0; lines = slice_index lengths n; stopped = false } in
    let fresh = next_fresh passes yielded rest lengths p n are is at in
    let same : c ≡ client_of p n = λ i. record { table = p.table; knows = fresh.knows i; client = n; next = 0; lines = fresh.long i; stopped = false } in
    let many : length (yielded ++ p ∷ []) ≡ length yielded + 1 = length-append yielded (p ∷ []) in
    record {
      many = ap length grown ∙ length-append clients (c ∷ []) ∙ (let e = old.many in omega (arith, e, many));
      each = λ i d less.
          ap (λ (l : List Client). slice_get l i) grown ∙ elim (cases_lt i (length yielded)) [
            | inl low ↦ slice_before clients c i (omega (arith, old.many, low)) ∙ old.each i d low
            | inr high ↦
                let last : i ≡ n = omega (arith, at, many, high, less) in
                let place : i ≡ length yielded = last ∙ at in
                slice_last clients c i (old.many ∙ sym place) ∙ ap Some (same ∙ ap (client_of p) (sym last) ∙ ap (λ (q : Standing). client_of q i) (sym (ap (λ (k : ℕ). get_or passes k d) place ∙ next_pass passes yielded rest p d is)))
          ];
    }

pub none_yet : (passes : List Standing) (clients : List Client) → clients ≡ [] → AreClients passes 0 clients
none_yet passes clients none = record { many = ap length none; each = λ i d less. absurd (omega arith) }

pub split_more : (yielded : List Standing) (p : Standing) (rest : List Standing) → yielded ++ p ∷ rest ≡ (yielded ++ p ∷ []) ++ rest
split_more [] p rest = refl
split_more (y ∷ yielded) p rest = ap (λ (l : List Standing). y ∷ l) (split_more yielded p rest)

-- ---- all passes

pub record AreAll (desk : TableId) (setting : Setting) (clients : List Standing) (last : Standing) : Type 0 where
  pub many : length clients ≡ length setting.scripts
  pub each : (i : ℕ) (d : Standing) → i < length clients → get_or clients i d ≡ standing desk (fresh_view setting (passes_of setting) i)
  pub recorder : last ≡ fresh_recorder desk setting

pub all_are : (desk : TableId) (setting : Setting) (passes clients : List Standing) (last : Standing) (n : ℕ) → passes ≡ clients ++ last ∷ [] → n ≡ passes_of setting → IsHandedOut desk setting n n passes → AreAll desk setting clients last
all_are desk setting passes clients last n is many out =
    let total = ap length is ∙ length-append clients (last ∷ []) in
    let out0 = out.0 in
    let long : length clients ≡ length setting.scripts = omega (arith, total, many, out0) in
    record {
      many = long;
      each = λ i d less.
          get_or_from_slice_get clients i _ d
          (sym (ap (λ (l : List Standing). slice_get l i) is ∙ slice_before clients last i less) ∙ out.1 i (omega (arith, less, long, many)) ∙ ap (λ (k : ℕ). Some (standing desk (fresh_view setting k i))) many);
      recorder = same_Some last (fresh_recorder desk setting)
          (sym (slice_last clients last (length setting.scripts) long) ∙ sym (ap (λ (l : List Standing). slice_get l (length setting.scripts)) is) ∙ out.1 (length setting.scripts) (omega (arith, many))
          ∙ ap (λ (k : ℕ). Some (standing desk (fresh_view setting k (length setting.scripts)))) many);
    }

pub fresh_passes : (desk : TableId) (setting : Setting) (clients : List Standing) (last : Standing) (lengths : List ℕ) → AreAll desk setting clients last → lengths ≡ map length setting.scripts → AreFreshPasses clients lengths
fresh_passes desk setting clients last lengths are long = record {
  many = ap length long ∙ length-map setting.scripts length ∙ sym are.many;
  each = λ i d less.
      let p : get_or clients i d ≡ standing desk (fresh_view setting (passes_of setting) i) = are.each i d less in
      subst (λ (q : Standing). IsFreshPass q i (slice_index lengths i)) (sym p)
      record {
        knows = refl;
        within = omega (arith, less, are.many);
        long = ap (λ (l : List ℕ). slice_index l i) long ∙ get_or-map length setting.scripts i [] 0 (omega (arith, less, are.many));
      };
}

pub is_recorder : (desk : TableId) (setting : Setting) (clients : List Standing) (last : Standing) → AreAll desk setting clients last → IsRecorder last
is_recorder desk setting clients last are = subst IsRecorder (sym are.recorder) record { free = refl; passes = refl; takes = (0, made_by-here (length setting.scripts) (length setting.scripts, 0) [] refl) }

pub is_opened : (desk : TableId) (setting : Setting) (passes : List Standing) (last : Standing) (n : ℕ) (clients : List Client) → AreAll desk setting passes last → n ≡ length setting.scripts → AreClients passes n clients → IsOpened setting desk clients last
is_opened desk setting passes last n clients are many out = record {
  many = out.many ∙ many;
  each = λ c less. out.each c last (omega (arith, many, less)) ∙ ap (λ (q : Standing). Some (client_of q c)) (are.each c last (omega (arith, less, are.many)));
  last = are.recorder;
}
