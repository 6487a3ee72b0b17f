-- A lawful history has at most the lines and cuts of the scripts.
use Rattle.std.proofs.Common.{◌≡◌, ℕ, zero, suc, ◌+◌, ◌<◌, ◌≤◌, Bool, true, false, if◌then◌else◌, List, [], ◌∷◌, length, map, take, refl, sym, ap, subst, ◌∙◌, arith, eq-eqb, inl, inr, rules}
use Rattle.std.specs.Prelude.{count_by, sum_by, ◌==◌, slice_index_or}
use Rattle.std.specs.List.{range_with_len}
use Rattle.std.proofs.lemmas.Bool.{cases_lt}
use Rattle.std.proofs.lemmas.Bool.Decides.{nat_tests}
use Rattle.std.proofs.lemmas.List.{places, take_all, get_or_past}
use Rattle.std.proofs.lemmas.List.Sums.{sum_by-cons, sum_by_more, sum_by-take-le, count_by-le-length}
use Rattle.std.proofs.lemmas.List.FromFn.{fill_by_all}
use Rattle.recorder_model.specs.declared.entry.Entry.{Entry}
use Rattle.recorder_model.specs.declared.entry.Entry.TheVariants.{Line, Take}
use Rattle.recorder_model.specs.declared.line.Line as line
use Rattle.recorder_model.specs.declared.line.Line.TheVariants as a_line
use Rattle.recorder_model.specs.Script.{is_cut}
use Rattle.recorder_model.specs.Painting.{accepted_line, lines_of}
use Rattle.recorder_model.specs.Histories.{IsLawful, BeginsMerge, Merges, indexes_of, takes, cuts, script_length}
use Rattle.desk_state.specs.Standing.{most_entries}
use Rattle.desk_state.proofs.Entries.{length_is}

abbrev Scripts : Type 0
Scripts = List (List line.Line)

-- the sum of f below n
abbrev total : (ℕ → ℕ) → ℕ → ℕ
total f zero = 0
total f (suc n) = total f n + f n

total_same : (f g : ℕ → ℕ) (n : ℕ) → ((k : ℕ) → k < n → f k ≡ g k) → total f n ≡ total g n
total_same f g zero each = refl
total_same f g (suc n) each = let a = total_same f g n (λ k less. each k (omega arith)) in let b = each n (omega arith) in omega arith

total_le : (f g : ℕ → ℕ) (n : ℕ) → ((k : ℕ) → k < n → f k ≤ g k) → total f n ≤ total g n
total_le f g zero each = omega arith
total_le f g (suc n) each = let a = total_le f g n (λ k less. each k (omega arith)) in let b = each n (omega arith) in omega arith

-- one term that is larger by d
total_more : (f g : ℕ → ℕ) (n c d : ℕ) → c < n → f c ≡ d + g c → ((k : ℕ) → (c == k) ≡ false → f k ≡ g k) → total f n ≡ d + total g n
total_more f g zero c d less at others = absurd (omega arith)
total_more f g (suc n) c d less at others = go (c == n) refl (λ low. total_more f g n c d low at others)
  where
    go : (b : Bool) → (c == n) ≡ b → (c < n → total f n ≡ d + total g n) → total f (suc n) ≡ d + total g (suc n)
    go true e rest =
        let same : c ≡ n = grind (arith, nat_tests) in
        let a : total f n ≡ total g n = total_same f g n (λ k small. others k (grind (arith, nat_tests))) in
        let b : f n ≡ d + g n = subst (λ (k : ℕ). f k ≡ d + g k) same at in
        omega arith
    go false e rest =
        let a : total f n ≡ d + total g n = rest (grind (arith, nat_tests)) in
        let b : f n ≡ g n = others n e in
        omega arith

-- of a client's lines in a history, how many pass
abbrev of_client : (line.Line → Bool) → Scripts → List Entry → ℕ → ℕ
of_client p scripts h client = count_by p (map (accepted_line scripts client) (indexes_of h client))

count-cons : (p : line.Line → Bool) (x : line.Line) (xs : List line.Line) → count_by p (x ∷ xs) ≡ (if p x then 1 else 0) + count_by p xs
count-cons p x xs = sum_by-cons (λ y. if p y then 1 else 0) x xs

-- no entry is of a client past the last
abbrev pub IsWithin : ℕ → List Entry → Type 0
IsWithin n h = (client : ℕ) → n ≤ client → indexes_of h client ≡ []

pub rest_within : (n c i : ℕ) (h : List Entry) → IsWithin n (Line c i ∷ h) → (c < n) × IsWithin n h
unfolding indexes_of
rest_within n c i h is = (low, rest)
  where
    off : (b : Bool) (l : List ℕ) → (if b then i ∷ l else l) ≡ [] → (b ≡ false) × (l ≡ [])
    off true l e = absurd cc
    off false l e = (refl, e)

    low : c < n
    low = elim (cases_lt c n) [
      | inl l ↦ l
      | inr le ↦ absurd (let e = off (c == c) (indexes_of h c) (is c le) in let s : (c == c) ≡ true = eq-eqb c c refl in cc)
    ]

    rest : IsWithin n h
    rest client le = (off (c == client) (indexes_of h client) (is client le)).1

all_lines : (p : line.Line → Bool) (scripts : Scripts) (n : ℕ) (h : List Entry) → IsWithin n h → count_by p (lines_of scripts h) ≡ total (of_client p scripts h) n
unfolding lines_of indexes_of
all_lines p scripts n [] is = sym (none p scripts n)
  where
    none : (p : line.Line → Bool) (scripts : Scripts) (k : ℕ) → total (of_client p scripts []) k ≡ 0
    none p scripts zero = refl
    none p scripts (suc k) = let e = none p scripts k in omega arith
all_lines p scripts n (Line c i ∷ h) is =
    let less = rest_within n c i h is in
    let x : line.Line = accepted_line scripts c i in
    let d : ℕ = if p x then 1 else 0 in
    count-cons p x (lines_of scripts h) ∙ ap (λ (k : ℕ). d + k) (all_lines p scripts n h less.1)
    ∙ sym (total_more (of_client p scripts (Line c i ∷ h)) (of_client p scripts h) n c d less.0 (here p scripts c i h) (elsewhere p scripts c i h))
  where
    here : (p : line.Line → Bool) (scripts : Scripts) (c i : ℕ) (h : List Entry) → of_client p scripts (Line c i ∷ h) c ≡ (if p (accepted_line scripts c i) then 1 else 0) + of_client p scripts h c
    here p scripts c i h =
        ap (λ b. count_by p (map (accepted_line scripts c) (if b then i ∷ indexes_of h c else indexes_of h c))) (eq-eqb c c refl)
        ∙ count-cons p (accepted_line scripts c i) (map (accepted_line scripts c) (indexes_of h c))

    elsewhere : (p : line.Line → Bool) (scripts : Scripts) (c i : ℕ) (h : List Entry) (k : ℕ) → (c == k) ≡ false → of_client p scripts (Line c i ∷ h) k ≡ of_client p scripts h k
    elsewhere p scripts c i h k e = ap (λ b. count_by p (map (accepted_line scripts k) (if b then i ∷ indexes_of h k else indexes_of h k))) e
all_lines p scripts n (Take m ∷ h) is = all_lines p scripts n h (λ client le. is client le)

-- ---- the scripts

front_lines : (xs : List line.Line) (n : ℕ) → n ≤ length xs → map (λ i. slice_index_or xs i a_line.Cut) (range_with_len 0 n) ≡ take n xs
front_lines xs n le = sym (fill_by_all (λ i. slice_index_or xs i a_line.Cut) (take n xs) n a_line.Cut (search (places, rules)) (λ k less. search (places, rules)))

one_more : (n : ℕ) → n + 1 ≡ suc n
one_more n = omega arith

scripts_total : (p : line.Line → Bool) (scripts : Scripts) (n : ℕ) → n ≤ length scripts → total (λ c. count_by p (slice_index_or scripts c [])) n ≡ sum_by (count_by p) (take n scripts)
scripts_total p scripts zero le = refl
scripts_total p scripts (suc n) le =
    ap (λ (k : ℕ). k + count_by p (slice_index_or scripts n [])) (scripts_total p scripts n (omega arith))
    ∙ sym (sum_by_more (count_by p) scripts n [] (omega arith)) ∙ ap (λ (k : ℕ). sum_by (count_by p) (take k scripts)) (one_more n)

pub all_within : (scripts : Scripts) (h : List Entry) → BeginsMerge scripts h → IsWithin (length scripts) h
all_within scripts h is client le =
    let k = is client in
    let none : slice_index_or scripts client [] ≡ [] = get_or_past scripts client [] le in
    let zero_lines : script_length scripts client ≡ 0 = ap length none in
    let no_lines : k.0 ≡ 0 = let few = k.1 in omega (arith, zero_lines) in
    k.2 ∙ ap (range_with_len 0) no_lines

of_client_few : (p : line.Line → Bool) (scripts : Scripts) (h : List Entry) (c : ℕ) → BeginsMerge scripts h → of_client p scripts h c ≤ count_by p (slice_index_or scripts c [])
of_client_few p scripts h c is =
    let k = is c in
    let script : List line.Line = slice_index_or scripts c [] in
    let same : map (accepted_line scripts c) (indexes_of h c) ≡ take k.0 script = ap (map (accepted_line scripts c)) k.2 ∙ front_lines script k.0 k.1 in
    subst (λ l. count_by p l ≤ count_by p script) (sym same) (sum_by-take-le (λ y. if p y then 1 else 0) script k.0)

-- of the lines of a history at most those pass that pass in the scripts
pub counted_in : (p : line.Line → Bool) (scripts : Scripts) (h : List Entry) → BeginsMerge scripts h → count_by p (lines_of scripts h) ≤ sum_by (count_by p) scripts
counted_in p scripts h is =
    let n : ℕ = length scripts in
    let a = all_lines p scripts n h (all_within scripts h is) in
    let b : total (of_client p scripts h) n ≤ total (λ c. count_by p (slice_index_or scripts c [])) n = total_le (of_client p scripts h) (λ c. count_by p (slice_index_or scripts c [])) n (λ c less. of_client_few p scripts h c is) in
    let d = scripts_total p scripts n (omega arith) ∙ ap (sum_by (count_by p)) (take_all n scripts (omega arith)) in
    omega (arith, a, b, d)

of_client_all : (p : line.Line → Bool) (scripts : Scripts) (h : List Entry) (c : ℕ) → Merges scripts h → of_client p scripts h c ≡ count_by p (slice_index_or scripts c [])
of_client_all p scripts h c is =
    let script : List line.Line = slice_index_or scripts c [] in
    ap (count_by p) (ap (map (accepted_line scripts c)) (is c) ∙ front_lines script (length script) (omega arith) ∙ take_all (length script) script (omega arith))

begins_all : (scripts : Scripts) (h : List Entry) → Merges scripts h → BeginsMerge scripts h
begins_all scripts h is c = (script_length scripts c, omega arith, is c)

-- of the lines of a history that has all lines as many pass as in the scripts
pub counted_all : (p : line.Line → Bool) (scripts : Scripts) (h : List Entry) → Merges scripts h → count_by p (lines_of scripts h) ≡ sum_by (count_by p) scripts
counted_all p scripts h is =
    let n : ℕ = length scripts in
    all_lines p scripts n h (all_within scripts h (begins_all scripts h is))
    ∙ total_same (of_client p scripts h) (λ c. count_by p (slice_index_or scripts c [])) n (λ c less. of_client_all p scripts h c is)
    ∙ scripts_total p scripts n (omega arith) ∙ ap (sum_by (count_by p)) (take_all n scripts (omega arith))

all_count : (xs : List line.Line) → count_by (λ x. true) xs ≡ length xs
all_count [] = refl
all_count (x ∷ xs) = count-cons (λ x. true) x xs ∙ (let e = all_count xs in omega arith)

both_sums : (scripts : Scripts) → most_entries scripts ≡ sum_by (count_by (λ x. true)) scripts + sum_by (count_by is_cut) scripts
both_sums [] = refl
both_sums (s ∷ scripts) =
    let a = sum_by-cons (λ script. length script + count_by is_cut script) s scripts in
    let b = sum_by-cons (count_by (λ x. true)) s scripts in
    let d = sum_by-cons (count_by is_cut) s scripts in
    let e = both_sums scripts in
    omega (arith, a, b, d, e, all_count s)

-- a history's entries are at most one for each line and one more for each cut
pub few_entries : (scripts : Scripts) (h : List Entry) → IsLawful scripts h → takes h ≤ cuts scripts h → length h ≤ most_entries scripts
few_entries scripts h is taken =
    let a = length_is scripts h in
    let b = counted_in (λ x. true) scripts h is.begins in
    let d = counted_in is_cut scripts h is.begins in
    omega (arith, a, b, d, taken, all_count (lines_of scripts h), both_sums scripts)

pub few_cuts : (scripts : Scripts) (h : List Entry) → cuts scripts h ≤ length h
few_cuts scripts h = omega (arith, count_by-le-length is_cut (lines_of scripts h), length_is scripts h)

-- the entries of one script more, which are within those of all
pub most_more : (scripts : Scripts) (n : ℕ) (script : List line.Line) → n < length scripts → slice_index_or scripts n [] ≡ script → most_entries (take (n + 1) scripts) ≡ most_entries (take n scripts) + (length script + count_by is_cut script)
most_more scripts n script less at = sum_by_more (λ s. length s + count_by is_cut s) scripts n [] less ∙ ap (λ (s : List line.Line). most_entries (take n scripts) + (length s + count_by is_cut s)) at

pub most_within : (scripts : Scripts) (n : ℕ) (script : List line.Line) → n < length scripts → slice_index_or scripts n [] ≡ script → most_entries (take n scripts) + (length script + count_by is_cut script) ≤ most_entries scripts
most_within scripts n script less at = omega (arith, most_more scripts n script less at, sum_by-take-le (λ s. length s + count_by is_cut s) scripts (n + 1))
