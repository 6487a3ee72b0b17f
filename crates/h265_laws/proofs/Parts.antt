-- Parts of a list of items, and the engines between them.
use Rattle.std.proofs.Common.{◌≡◌, refl, sym, ◌∙◌, ap, subst, ℕ, zero, suc, ◌+◌, ◌-◌, ◌/◌, ◌%◌, List, [], ◌∷◌, ◌++◌, Bool, true, false, cond, not, length}
use Rattle.std.specs.Prelude.{Option, Some, None, get_or, nat_le, nat_lt}
use Rattle.std.specs.Bool.{beq}
use Rattle.h265_model.specs.declared.Place.{Place}
use Rattle.h265_model.specs.declared.Item.{Item}
use Rattle.h265_model.specs.declared.Place.TheVariants.{Context, Bypass, Terminate}
use Rattle.h265_model.specs.declared.Item.TheVariants as items
use Rattle.h265_model.specs.Contexts.{lps_range, mps, step}
use Rattle.h265_model.specs.Engine.{Engine, take_bit, shift_in, start, doublings, renormalised, with_bin, context_read, bypass_read, terminate_read, bin, aligned, samples, read_bytes, Part, One, Run, sample_first, parts_of, Gives}
use Rattle.h265_model.specs.Contexts.{AreContexts}
use Rattle.h265_model.proofs.ContextLaws.{all_states}
use Rattle.h265_laws.specs.Laws.{IsReadBack}
use Rattle.h265_laws.proofs.ReadBack.{Starts, read_back}
use Rattle.h265_model.specs.Code.{Coding, fresh, scaled, put_bin, put, coding, code, contexts_after, IsWellFormed}
use Rattle.h265_model.specs.Bits.{◌>>=◌ as and_then, bits as bits_of}

-- ---- two lists of items

-- no items, or a bin first
abbrev pub BeginsWithBin : List Item → Type 0
BeginsWithBin [] = Unit {0}
BeginsWithBin (items.Bin b ∷ list) = Unit {0}
BeginsWithBin (items.Sample x ∷ list) = ⊥

first_run : (x : ℕ) (parts : List Part) (list : List Item) → BeginsWithBin list → sample_first x (parts ++ parts_of list) ≡ sample_first x parts ++ parts_of list
first_run x [] [] h = refl
first_run x [] (items.Bin b ∷ list) h = refl
first_run x [] (items.Sample y ∷ list) h = elim h [ ]
first_run x (One b ∷ parts) list h = refl
first_run x (Run xs ∷ parts) list h = refl

pub parts_of-append : (front back : List Item) → BeginsWithBin back → parts_of (front ++ back) ≡ parts_of front ++ parts_of back
parts_of-append [] back h = refl
parts_of-append (items.Bin b ∷ front) back h = ap (λ (ps : List Part). One b ∷ ps) (parts_of-append front back h)
parts_of-append (items.Sample x ∷ front) back h = ap (sample_first x) (parts_of-append front back h) ∙ first_run x (parts_of front) back h

-- the engine between two lists of parts
pub record GivesBoth (front back : List Part) (e left : Engine) : Type 0 where
  pub between : Engine
  pub first : Gives front e between
  pub second : Gives back between left

pub gives_both : (front back : List Part) (e left : Engine) → Gives (front ++ back) e left → GivesBoth front back e left
gives_both [] back e left h = record { between = e; first = refl; second = h }
gives_both (One b ∷ front) back e left h = let r : GivesBoth front back h.0 left = gives_both front back h.0 left h.2 in
    record { between = r.between; first = (h.0, h.1, r.first); second = r.second }
gives_both (Run xs ∷ front) back e left h = let r : GivesBoth front back h.0 left = gives_both front back h.0 left h.2 in
    record { between = r.between; first = (h.0, h.1, r.first); second = r.second }

pub gives_joined : (front back : List Part) (e left : Engine) → GivesBoth front back e left → Gives (front ++ back) e left
gives_joined [] back e left r = subst (λ (d : Engine). Gives back d left) (sym r.first) r.second
gives_joined (One b ∷ front) back e left r = (r.first.0, r.first.1, gives_joined front back r.first.0 left (record { between = r.between; first = r.first.2; second = r.second }))
gives_joined (Run xs ∷ front) back e left r = (r.first.0, r.first.1, gives_joined front back r.first.0 left (record { between = r.between; first = r.first.2; second = r.second }))

-- ---- the contexts after some parts

abbrev pub stepped : Place → Bool → List ℕ → List ℕ
stepped (Context n) value contexts = step contexts n value
stepped Bypass value contexts = contexts
stepped Terminate value contexts = contexts

abbrev pub contexts_after_parts : List Part → List ℕ → List ℕ
contexts_after_parts [] contexts = contexts
contexts_after_parts (One b ∷ parts) contexts = contexts_after_parts parts (stepped b.place b.value contexts)
contexts_after_parts (Run xs ∷ parts) contexts = contexts_after_parts parts contexts

-- what is there of a value that is Some
bind_some : {A B : Type 0} (o : Option A) (f : A → Option B) (y : B) → and_then o f ≡ Some y → (x : A) × (o ≡ Some x) × (f x ≡ Some y)
bind_some None f y e = absurd (cc)
bind_some (Some x) f y e = (x, refl, e)

same_some : (e d : Engine) → Some e ≡ Some d → d.contexts ≡ e.contexts
same_some e d h = let k : e ≡ d = cc in ap (λ (x : Engine). x.contexts) (sym k)

take_bit_contexts : (e : Engine) (bits : List Bool) (d : Engine) → take_bit e bits ≡ Some d → d.contexts ≡ e.contexts
take_bit_contexts e [] d h = absurd (cc)
take_bit_contexts e (b ∷ bits) d h = same_some _ d h

enter_contexts : (n : ℕ) (e d : Engine) → shift_in n e ≡ Some d → d.contexts ≡ e.contexts
enter_contexts zero e d h = same_some e d h
enter_contexts (suc n) e d h = let r : (x : Engine) × (take_bit e e.bits ≡ Some x) × (shift_in n x ≡ Some d) = bind_some (take_bit e e.bits) (shift_in n) d h in
    enter_contexts n r.0 d r.2 ∙ take_bit_contexts e e.bits r.0 r.1

abbrev contexts_in : Option (Bool × Engine) → List ℕ
contexts_in None = []
contexts_in (Some x) = x.1.contexts

abbrev samples_in : Option (List ℕ × Engine) → List ℕ
samples_in None = []
samples_in (Some x) = x.1.contexts

pub start_contexts : (contexts : List ℕ) (bits : List Bool) (d : Engine) → start contexts bits ≡ Some d → d.contexts ≡ contexts
unfolding start
start_contexts contexts bits d h =
    let r = bind_some (shift_in 9 (record { range = 510; offset = 0; contexts = contexts; last = false; bits = bits })) (λ (e : Engine). cond (nat_lt e.offset 510) (Some e) None) d h in
    go r.0 (nat_lt r.0.offset 510) r.2 ∙ enter_contexts 9 (record { range = 510; offset = 0; contexts = contexts; last = false; bits = bits }) r.0 r.1
  where
    go : (e : Engine) (b : Bool) → cond b (Some e) None ≡ Some d → d.contexts ≡ e.contexts
    go e true k = same_some e d k
    go e false k = absurd (cc)

with_bin_contexts : (w value : Bool) (e d : Engine) → with_bin w (renormalised e) ≡ Some (value, d) → (w ≡ value) × (d.contexts ≡ e.contexts)
unfolding renormalised
with_bin_contexts w value e d h =
    let r : (x : Engine) × (renormalised e ≡ Some x) × (Some (w, x) ≡ Some (value, d)) = bind_some (renormalised e) (λ (x : Engine). Some (w, x)) (value, d) h in
    let same : w ≡ value = ap (λ (o : Option (Bool × Engine)). first_or o) r.2 in
    let there : d.contexts ≡ r.0.contexts = ap (λ (o : Option (Bool × Engine)). contexts_or o) (sym r.2) in
    (same, there ∙ enter_contexts (doublings e.range) _ r.0 r.1)
  where
    first_or : Option (Bool × Engine) → Bool
    first_or None = w
    first_or (Some x) = x.0

    contexts_or : Option (Bool × Engine) → List ℕ
    contexts_or None = []
    contexts_or (Some x) = x.1.contexts

bin_contexts : (place : Place) (value : Bool) (e d : Engine) → bin place e ≡ Some (value, d) → d.contexts ≡ stepped place value e.contexts
unfolding context_read bypass_read terminate_read
bin_contexts (Context n) value e d h = go (nat_le (e.range - lps_range (get_or e.contexts n 0) (e.range / 64 % 4)) e.offset) h
  where
    byte : ℕ
    byte = get_or e.contexts n 0

    small : ℕ
    small = lps_range byte (e.range / 64 % 4)

    go : (b : Bool) → cond b
        (with_bin (not (mps byte)) (renormalised (record e { range = small; offset = e.offset - (e.range - small); contexts = step e.contexts n (not (mps byte)) })))
        (with_bin (mps byte) (renormalised (record e { range = e.range - small; contexts = step e.contexts n (mps byte) }))) ≡ Some (value, d)
        → d.contexts ≡ step e.contexts n value
    go true k = let r : (not (mps byte) ≡ value) × (d.contexts ≡ step e.contexts n (not (mps byte))) = with_bin_contexts _ value _ d k in r.1 ∙ ap (step e.contexts n) r.0
    go false k = let r : (mps byte ≡ value) × (d.contexts ≡ step e.contexts n (mps byte)) = with_bin_contexts _ value _ d k in r.1 ∙ ap (step e.contexts n) r.0
bin_contexts Bypass value e d h =
    let test : Engine → Option (Bool × Engine) = λ x. cond (nat_le x.range x.offset) (Some (true, record x { offset = x.offset - x.range })) (Some (false, x)) in
    let r : (x : Engine) × (shift_in 1 e ≡ Some x) × (test x ≡ Some (value, d)) = bind_some (shift_in 1 e) test (value, d) h in
    go r.0 (nat_le r.0.range r.0.offset) r.2 ∙ enter_contexts 1 e r.0 r.1
  where
    go : (x : Engine) (b : Bool) → cond {A = Option (Bool × Engine)} b (Some (true, record x { offset = x.offset - x.range })) (Some (false, x)) ≡ Some (value, d) → d.contexts ≡ x.contexts
    go x true k = ap (λ (o : Option (Bool × Engine)). contexts_in o) (sym k)
    go x false k = ap (λ (o : Option (Bool × Engine)). contexts_in o) (sym k)
bin_contexts Terminate value e d h = go (nat_le (e.range - 2) e.offset) h
  where
    go : (b : Bool) → cond {A = Option (Bool × Engine)} b (Some (true, record e { range = e.range - 2 })) (with_bin false (renormalised (record e { range = e.range - 2 }))) ≡ Some (value, d) → d.contexts ≡ e.contexts
    go true k = ap (λ (o : Option (Bool × Engine)). contexts_in o) (sym k)
    go false k = (with_bin_contexts false value _ d k).1

samples_contexts : (n : ℕ) (xs : List ℕ) (e d : Engine) → samples n e ≡ Some (xs, d) → d.contexts ≡ e.contexts
unfolding samples
samples_contexts n xs e d h =
    let r = bind_some (aligned e) (λ bits. and_then (read_bytes n bits) (λ found. and_then (start e.contexts found.1) (λ (c : Engine). Some (found.0, c)))) (xs, d) h in
    let t = bind_some (read_bytes n r.0) (λ found. and_then (start e.contexts found.1) (λ (c : Engine). Some (found.0, c))) (xs, d) r.2 in
    let u = bind_some (start e.contexts t.0.1) (λ (c : Engine). Some (t.0.0, c)) (xs, d) t.2 in
    let same : d.contexts ≡ u.0.contexts = ap (λ (o : Option (List ℕ × Engine)). samples_in o) (sym u.2) in
    same ∙ start_contexts e.contexts t.0.1 u.0 u.1

-- an engine that gives some parts has the contexts after them
pub gives_contexts : (parts : List Part) (e left : Engine) → Gives parts e left → left.contexts ≡ contexts_after_parts parts e.contexts
gives_contexts [] e left h = ap (λ (x : Engine). x.contexts) (sym h)
gives_contexts (One b ∷ parts) e left h = gives_contexts parts h.0 left h.2 ∙ ap (contexts_after_parts parts) (bin_contexts b.place b.value e h.0 h.1)
gives_contexts (Run xs ∷ parts) e left h = gives_contexts parts h.0 left h.2 ∙ ap (contexts_after_parts parts) (samples_contexts (length xs) xs e h.0 h.1)

-- these are the contexts that the code names
first_same : (x : ℕ) (parts : List Part) (contexts : List ℕ) → contexts_after_parts (sample_first x parts) contexts ≡ contexts_after_parts parts contexts
first_same x [] contexts = refl
first_same x (One b ∷ parts) contexts = refl
first_same x (Run xs ∷ parts) contexts = refl

pub put_contexts : (place : Place) (value : Bool) (c : Coding) → (put_bin place value c).contexts ≡ stepped place value c.contexts
unfolding put_bin
put_contexts (Context n) value c = go (beq value (mps (get_or c.contexts n 0)))
  where
    after : Coding
    after = record c { contexts = step c.contexts n value }

    small : ℕ
    small = lps_range (get_or c.contexts n 0) (c.range / 64 % 4)

    go : (b : Bool) → (cond b (scaled after c.low (c.range - small)) (scaled after (c.low + (c.range - small)) small)).contexts ≡ step c.contexts n value
    go true = refl
    go false = refl
put_contexts Bypass value c = refl
put_contexts Terminate true c = refl
put_contexts Terminate false c = refl

pub coding_contexts : (list : List Item) (c : Coding) → (coding list c).contexts ≡ contexts_after_parts (parts_of list) c.contexts
coding_contexts [] c = refl
coding_contexts (items.Bin b ∷ list) c = coding_contexts list (put_bin b.place b.value c) ∙ ap (contexts_after_parts (parts_of list)) (put_contexts b.place b.value c)
coding_contexts (items.Sample x ∷ list) c = coding_contexts list (put (items.Sample x) c) ∙ sym (first_same x (parts_of list) c.contexts)

pub named_contexts : (list : List Item) (e left : Engine) → Gives (parts_of list) e left → left.contexts ≡ contexts_after list e.contexts
unfolding contexts_after
named_contexts list e left h = gives_contexts (parts_of list) e left h ∙ sym (coding_contexts list (fresh [] e.contexts))

-- ---- the law

pub law : (list : List Item) (contexts z : List ℕ) → IsWellFormed list → AreContexts contexts → IsReadBack list contexts z
law list contexts z formed are =
    let s : Starts (parts_of list) (λ d. contexts_after list contexts) (bits_of z) contexts (bits_of (code list contexts ++ z)) =
    read_back list contexts z formed (record { each = λ n. all_states contexts n are.each }) in
    let same : s.first.contexts ≡ contexts = start_contexts contexts (bits_of (code list contexts ++ z)) s.first s.starts in
    record {
      first = s.first;
      left = s.answers.left;
      starts = s.starts;
      gives = s.answers.gives;
      contexts_are = s.answers.contexts_are [];
      ends = s.answers.ends;
      cuts = λ front back e.
          let r : GivesBoth (parts_of front) (parts_of back) s.first s.answers.left =
          gives_both (parts_of front) (parts_of back) s.first s.answers.left (subst (λ (ps : List Part). Gives ps s.first s.answers.left) e s.answers.gives) in
          record {
            between = r.between;
            before = r.first;
            after = r.second;
            contexts_are = named_contexts front s.first r.between r.first ∙ ap (contexts_after front) same;
          };
    }
