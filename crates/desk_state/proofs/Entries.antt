-- Histories, when one entry comes.
use Rattle.std.proofs.Common.{◌≡◌, ◌⊎◌, ℕ, suc, ◌+◌, ◌<◌, ◌≤◌, Bool, true, false, if◌then◌else◌, List, [], ◌∷◌, ◌++◌, length, refl, sym, ap, subst, ◌∙◌, arith, inl, inr, eq-eqb, length-append}
use Rattle.std.specs.Prelude.{◌==◌}
use Rattle.std.specs.List.{range_with_len}
use Rattle.std.proofs.lemmas.Bool.Decides.{nat_tests}
use Rattle.std.proofs.lemmas.List.{append-nil}
use Rattle.std.proofs.lemmas.List.FromFn.{length-range_with_len}
use Rattle.desk_surface.proofs.RowsMore.{range-more}
use Rattle.recorder_model.specs.declared.entry.Entry.{Entry}
use Rattle.recorder_model.specs.declared.entry.Entry.TheVariants.{Line, Take}
use Rattle.recorder_model.specs.declared.line.Line as line
use Rattle.recorder_model.specs.Painting.{accepted_line, lines_of}
use Rattle.recorder_model.specs.Histories.{IsLawful, indexes_of, take_numbers, takes, cuts, script_length}

abbrev Scripts : Type 0
Scripts = List (List line.Line)

-- ---- what the parts of a history are

pub lines_of-append : (scripts : Scripts) (h more : List Entry) → lines_of scripts (h ++ more) ≡ lines_of scripts h ++ lines_of scripts more
unfolding lines_of
lines_of-append scripts [] more = refl
lines_of-append scripts (Line c i ∷ h) more = ap (λ (l : List line.Line). accepted_line scripts c i ∷ l) (lines_of-append scripts h more)
lines_of-append scripts (Take n ∷ h) more = lines_of-append scripts h more

pub lines_line : (scripts : Scripts) (h : List Entry) (client index : ℕ) → lines_of scripts (h ++ Line client index ∷ []) ≡ lines_of scripts h ++ accepted_line scripts client index ∷ []
unfolding lines_of
lines_line scripts h client index = lines_of-append scripts h (Line client index ∷ [])

pub lines_take : (scripts : Scripts) (h : List Entry) (number : ℕ) → lines_of scripts (h ++ Take number ∷ []) ≡ lines_of scripts h
unfolding lines_of
lines_take scripts h number = lines_of-append scripts h (Take number ∷ []) ∙ append-nil (lines_of scripts h)

indexes_more : (h more : List Entry) (client : ℕ) → indexes_of (h ++ more) client ≡ indexes_of h client ++ indexes_of more client
unfolding indexes_of
indexes_more [] more client = refl
indexes_more (Line c i ∷ h) more client = go (c == client) (indexes_more h more client)
  where
    go : (b : Bool) → indexes_of (h ++ more) client ≡ indexes_of h client ++ indexes_of more client
        → (if b then i ∷ indexes_of (h ++ more) client else indexes_of (h ++ more) client) ≡ (if b then i ∷ indexes_of h client else indexes_of h client) ++ indexes_of more client
    go true e = ap (λ (l : List ℕ). i ∷ l) e
    go false e = e
indexes_more (Take n ∷ h) more client = indexes_more h more client

indexes_one : (client index other : ℕ) → indexes_of (Line client index ∷ []) other ≡ (if client == other then index ∷ [] else [])
unfolding indexes_of
indexes_one client index other = refl

indexes_none : (number other : ℕ) → indexes_of (Take number ∷ []) other ≡ []
unfolding indexes_of
indexes_none number other = refl

pub numbers_line : (h : List Entry) (client index : ℕ) → take_numbers (h ++ Line client index ∷ []) ≡ take_numbers h
unfolding take_numbers
numbers_line [] client index = refl
numbers_line (Line c i ∷ h) client index = numbers_line h client index
numbers_line (Take n ∷ h) client index = ap (λ (l : List ℕ). n ∷ l) (numbers_line h client index)

pub numbers_take : (h : List Entry) (number : ℕ) → take_numbers (h ++ Take number ∷ []) ≡ take_numbers h ++ number ∷ []
unfolding take_numbers
numbers_take [] number = refl
numbers_take (Line c i ∷ h) number = numbers_take h number
numbers_take (Take n ∷ h) number = ap (λ (l : List ℕ). n ∷ l) (numbers_take h number)

-- how many lines of a client there are with one entry more
pub count_own : (h : List Entry) (client index : ℕ) → length (indexes_of (h ++ Line client index ∷ []) client) ≡ length (indexes_of h client) + 1
count_own h client index =
    ap length (indexes_more h (Line client index ∷ []) client ∙ ap (λ (l : List ℕ). indexes_of h client ++ l) (indexes_one client index client ∙ ap (λ b. if b then index ∷ [] else []) (eq-eqb client client refl)))
    ∙ length-append (indexes_of h client) (index ∷ [])

pub count_other : (h : List Entry) (client index other : ℕ) → (client == other) ≡ false → length (indexes_of (h ++ Line client index ∷ []) other) ≡ length (indexes_of h other)
count_other h client index other off =
    ap length (indexes_more h (Line client index ∷ []) other ∙ ap (λ (l : List ℕ). indexes_of h other ++ l) (indexes_one client index other ∙ ap (λ b. if b then index ∷ [] else []) off) ∙ append-nil (indexes_of h other))

pub count_take : (h : List Entry) (number other : ℕ) → length (indexes_of (h ++ Take number ∷ []) other) ≡ length (indexes_of h other)
count_take h number other = ap length (indexes_more h (Take number ∷ []) other ∙ ap (λ (l : List ℕ). indexes_of h other ++ l) (indexes_none number other) ∙ append-nil (indexes_of h other))

-- ---- one entry at the end

not_none : (h : List Entry) (e : Entry) (after : List Entry) → [] ≡ h ++ e ∷ after → ⊥
not_none [] e after is = cc
not_none (x ∷ h) e after is = cc

-- where an entry stands in a history with one more at its end, it is that one or stands before it
pub at_end_or_before : (h : List Entry) (e : Entry) (before : List Entry) (x : Entry) (after : List Entry) → h ++ e ∷ [] ≡ before ++ x ∷ after
    → ((h ≡ before) × (e ≡ x)) ⊎ ((rest : List Entry) × (h ≡ before ++ x ∷ rest))
at_end_or_before [] e [] x after is = inl (refl, cc)
at_end_or_before [] e (b ∷ before) x after is = absurd (not_none before x after cc)
at_end_or_before (y ∷ h) e [] x after is = inr (h, cc)
at_end_or_before (y ∷ h) e (b ∷ before) x after is =
    let same : y ≡ b = cc in
    elim (at_end_or_before h e before x after cc) [
      | inl k ↦ inl ((λ i. same i ∷ k.0 i), k.1)
      | inr k ↦ inr (k.0, λ i. same i ∷ k.1 i)
    ]

-- ---- lawful histories

pub lawful_none : (scripts : Scripts) → IsLawful scripts []
unfolding indexes_of take_numbers
lawful_none scripts = record {
  begins = λ client. (0, omega arith, refl);
  in_order = refl;
  after_cuts = λ before after number is. absurd (not_none before (Take number) after is);
}

longer : (n : ℕ) → range_with_len 0 n ++ n ∷ [] ≡ range_with_len 0 (n + 1)
longer n = let e : n + 1 ≡ suc n = omega arith in sym (ap (range_with_len 0) e ∙ range-more 0 n ∙ ap (λ (k : ℕ). range_with_len 0 n ++ k ∷ []) (omega arith))

pub lawful_line : (scripts : Scripts) (h : List Entry) (client index : ℕ) → IsLawful scripts h → index < script_length scripts client → length (indexes_of h client) ≡ index → IsLawful scripts (h ++ Line client index ∷ [])
lawful_line scripts h client index is there accepted = record {
  begins = λ other. begins other (client == other) refl;
  in_order = numbers_line h client index ∙ is.in_order ∙ ap (λ (l : List ℕ). range_with_len 0 (length l)) (sym (numbers_line h client index));
  after_cuts = λ before after number e. elim (at_end_or_before h (Line client index) before (Take number) after e) [
    | inl k ↦ absurd cc
    | inr k ↦ is.after_cuts before k.0 number k.1
  ];
}
  where
    parts : (other : ℕ) → indexes_of (h ++ Line client index ∷ []) other ≡ indexes_of h other ++ (if client == other then index ∷ [] else [])
    parts other = indexes_more h (Line client index ∷ []) other ∙ ap (λ (l : List ℕ). indexes_of h other ++ l) (indexes_one client index other)

    begins : (other : ℕ) (b : Bool) → (client == other) ≡ b → (n : ℕ) × (n ≤ script_length scripts other) × (indexes_of (h ++ Line client index ∷ []) other ≡ range_with_len 0 n)
    begins other true e =
        let same : client ≡ other = grind (arith, nat_tests) in
        let k = is.begins client in
        let many : k.0 ≡ index = sym (length-range_with_len 0 k.0) ∙ ap length (sym k.2) ∙ accepted in
        let front : indexes_of h client ≡ range_with_len 0 index = k.2 ∙ ap (range_with_len 0) many in (
          index + 1,
          subst (λ (c : ℕ). index + 1 ≤ script_length scripts c) same (omega arith),
          parts other ∙ ap (λ b. indexes_of h other ++ (if b then index ∷ [] else [])) e
              ∙ ap (λ (l : List ℕ). l ++ index ∷ []) (ap (indexes_of h) (sym same) ∙ front) ∙ longer index,
        )
    begins other false e =
        let k = is.begins other in
        (k.0, k.1, parts other ∙ ap (λ b. indexes_of h other ++ (if b then index ∷ [] else [])) e ∙ append-nil (indexes_of h other) ∙ k.2)

pub lawful_take : (scripts : Scripts) (h : List Entry) → IsLawful scripts h → takes h < cuts scripts h → IsLawful scripts (h ++ Take (takes h) ∷ [])
lawful_take scripts h is waits =
    let numbers : take_numbers (h ++ Take (takes h) ∷ []) ≡ range_with_len 0 (takes h + 1) =
    numbers_take h (takes h) ∙ ap (λ (l : List ℕ). l ++ takes h ∷ []) is.in_order ∙ longer (takes h) in
    record {
      begins = λ other.
          let k = is.begins other in
          (k.0, k.1, indexes_more h (Take (takes h) ∷ []) other ∙ ap (λ (l : List ℕ). indexes_of h other ++ l) (indexes_none (takes h) other) ∙ append-nil (indexes_of h other) ∙ k.2);
      in_order = numbers ∙ ap (range_with_len 0) (sym (ap length numbers ∙ length-range_with_len 0 (takes h + 1)));
      after_cuts = λ before after number e. elim (at_end_or_before h (Take (takes h)) before (Take number) after e) [
        | inl k ↦
            let same : takes h ≡ number = cc in
            subst (λ (l : List Entry). number < cuts scripts l) k.0 (subst (λ (n : ℕ). n < cuts scripts h) same waits)
        | inr k ↦ is.after_cuts before k.0 number k.1
      ];
    }

pub takes_line : (h : List Entry) (client index : ℕ) → takes (h ++ Line client index ∷ []) ≡ takes h
takes_line h client index = ap length (numbers_line h client index)

pub takes_take : (h : List Entry) (number : ℕ) → takes (h ++ Take number ∷ []) ≡ takes h + 1
takes_take h number = ap length (numbers_take h number) ∙ length-append (take_numbers h) (number ∷ [])

-- a history has its lines and its takes
pub length_is : (scripts : Scripts) (h : List Entry) → length h ≡ length (lines_of scripts h) + takes h
unfolding lines_of take_numbers
length_is scripts [] = refl
length_is scripts (Line c i ∷ h) = let e = length_is scripts h in omega arith
length_is scripts (Take n ∷ h) = let e = length_is scripts h in omega arith
