-- Entries by their authors are lines of clients, and takes.
use Rattle.std.proofs.Common.{◌≡◌, ℕ, ◌+◌, ◌-◌, ◌<◌, Bool, true, false, if◌then◌else◌, List, [], ◌∷◌, length, refl, sym, ap, ◌∙◌, arith, eq-eqb}
use Rattle.std.specs.Prelude.{◌==◌}
use Rattle.std.specs.List.{range_with_len}
use Rattle.std.proofs.lemmas.Bool.{ne_eqb}
use Rattle.std.proofs.lemmas.List.Sums.{sum_by-cons}
use Rattle.std.proofs.lemmas.List.FromFn.{length-range_with_len}
use Rattle.recorder_model.specs.declared.entry.Entry.{Entry}
use Rattle.recorder_model.specs.declared.entry.Entry.TheVariants.{Line, Take}
use Rattle.recorder_model.specs.declared.line.Line as line
use Rattle.recorder_model.specs.Turn.{author, entries_by}
use Rattle.recorder_model.specs.Histories.{IsLawful, indexes_of, take_numbers, takes}
use Rattle.desk_state.proofs.Totals.{IsWithin, rest_within, all_within}

by_one : (passes a : ℕ) (e : Entry) (h : List Entry) → entries_by passes a (e ∷ h) ≡ (if author passes e == a then 1 else 0) + entries_by passes a h
by_one passes a e h = sum_by-cons (λ x. if author passes x == a then 1 else 0) e h

zero_plus : (n : ℕ) → 0 + n ≡ n
zero_plus n = omega arith

-- a client's entries are its lines
pub lines_by : (passes client : ℕ) (h : List Entry) → client + 1 < passes → entries_by passes client h ≡ length (indexes_of h client)
unfolding indexes_of
lines_by passes client [] less = refl
lines_by passes client (Line c i ∷ h) less = by_one passes client (Line c i) h ∙ go (c == client) (lines_by passes client h less)
  where
    go : (b : Bool) → entries_by passes client h ≡ length (indexes_of h client) → (if b then 1 else 0) + entries_by passes client h ≡ length (if b then i ∷ indexes_of h client else indexes_of h client)
    go true e = omega (arith, e)
    go false e = omega (arith, e)
lines_by passes client (Take n ∷ h) less =
    by_one passes client (Take n) h
    ∙ ap (λ b. (if b then 1 else 0) + entries_by passes client h) (ne_eqb (passes - 1) client (λ e. omega arith))
    ∙ zero_plus (entries_by passes client h) ∙ lines_by passes client h less

-- the last number's entries are the takes
pub takes_within : (n : ℕ) (h : List Entry) → IsWithin n h → entries_by (n + 1) n h ≡ takes h
unfolding indexes_of take_numbers
takes_within n [] is = refl
takes_within n (Line c i ∷ h) is =
    let less = rest_within n c i h is in
    by_one (n + 1) n (Line c i) h ∙ ap (λ b. (if b then 1 else 0) + entries_by (n + 1) n h) (ne_eqb c n (λ e. let l = less.0 in omega arith)) ∙ zero_plus (entries_by (n + 1) n h) ∙ takes_within n h less.1
takes_within n (Take m ∷ h) is =
    let rest = takes_within n h (λ client le. is client le) in
    by_one (n + 1) n (Take m) h ∙ ap (λ b. (if b then 1 else 0) + entries_by (n + 1) n h) (eq-eqb (n + 1 - 1) n (omega arith)) ∙ omega (arith, rest)

pub takes_by : (scripts : List (List line.Line)) (h : List Entry) → IsLawful scripts h → entries_by (length scripts + 1) (length scripts) h ≡ takes h
takes_by scripts h is = takes_within (length scripts) h (all_within scripts h is.begins)

-- a client's lines are the first ones of its script
pub own_range : (scripts : List (List line.Line)) (h : List Entry) (client k : ℕ) → IsLawful scripts h → length (indexes_of h client) ≡ k → indexes_of h client ≡ range_with_len 0 k
own_range scripts h client k is long =
    let own = is.begins client in
    own.2 ∙ ap (range_with_len 0) (sym (length-range_with_len 0 own.0) ∙ ap length (sym own.2) ∙ long)
