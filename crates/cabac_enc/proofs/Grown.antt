-- What a state stands for after a call.
use Rattle.std.proofs.Common.{◌≡◌, refl, sym, ◌∙◌, ap, ℕ, suc, length, get_or, ◌<◌, Bool, true, false, List, [], ◌∷◌, ◌++◌, append-nil, ne_eqb, eq-eqb, eqb-true, arith}
use Rattle.std.proofs.lemmas.Bool.{eqb-false}
use Rattle.std.specs.Prelude.{Ok, Err, Result, OnOk, OnErr, ◌==◌, if◌then◌else◌}
use Rattle.h265_model.specs.declared.memory.NoMemory.{NoMemory}
use Rattle.h265_model.specs.declared.Item.{Item}
use Rattle.h265_model.specs.declared.Item.TheVariants as items
use Rattle.h265_model.specs.declared.Place.TheVariants.{Terminate}
use Rattle.h265_model.specs.Plain.{AreBytes}
use Rattle.h265_model.specs.Bits.{bits, bytes, u}
use Rattle.h265_model.specs.Code.{Coding, coding, fresh, code, contexts_after, Plain, Ended, Filled}
use Rattle.h265_model.proofs.ByteLaws.{bits-append, bytes-bits}
use Rattle.h265_model.proofs.ListParts.{all_append}
use Rattle.h265_model.proofs.CodeLaws.{coding_append, coding_samples}
use Rattle.bin_items.specs.Growth.{Grew, Kept, Takes, IsOpen, sample_items}
use Rattle.cabac_enc.specs.State.{State, Shows, HasEnded, StandsIf, stands_for, Follows, Ends, Fills, phase_of}

-- ---- ended or not

is_open : (s : State) → 0 < s.range → s.range == 0 ≡ false
is_open s h = ne_eqb s.range 0 (λ e. omega arith)

is_ended : (s : State) → s.range ≡ 0 → s.range == 0 ≡ true
is_ended s h = eq-eqb s.range 0 h

if_shown : (b : Bool) (s : State) (c : Coding) → b ≡ false → StandsIf b s c → Shows s c
if_shown true s c e h = absurd (cc)
if_shown false s c e h = h

if_ended : (b : Bool) (s : State) (c : Coding) → b ≡ true → StandsIf b s c → HasEnded s c
if_ended true s c e h = h
if_ended false s c e h = absurd (cc)

shown_if : (b : Bool) (s : State) (c : Coding) → b ≡ false → Shows s c → StandsIf b s c
shown_if true s c e h = absurd (cc)
shown_if false s c e h = h

ended_if : (b : Bool) (s : State) (c : Coding) → b ≡ true → HasEnded s c → StandsIf b s c
ended_if true s c e h = h
ended_if false s c e h = absurd (cc)

range_by : (n : ℕ) (b f : Bool) → n == 0 ≡ b → IsOpen (if b then Ended else if f then Filled else Plain) → 0 < n
range_by n true f e h = absurd h
range_by n false f e h = let d = eqb-false n 0 e in omega arith

pub open_range : (s : State) → IsOpen (phase_of s) → 0 < s.range
open_range s h = range_by s.range (s.range == 0) (s.after_samples) refl h

ended_by : (n : ℕ) (b f : Bool) → n == 0 ≡ b → (if b then Ended else if f then Filled else Plain) ≡ Ended → n ≡ 0
ended_by n true f e h = eqb-true n 0 e
ended_by n false true e h = absurd (cc)
ended_by n false false e h = absurd (cc)

pub ended_range : (s : State) → phase_of s ≡ Ended → s.range ≡ 0
ended_range s h = ended_by s.range (s.range == 0) (s.after_samples) refl h

-- ---- growth

same : (old new : State) → new ≡ old → Kept (stands_for old) (stands_for new)
same old new e = record { from = λ front contexts h. rw e h }

pub grew_follows : (list : List Item) (old new : State) → 0 < old.range → Follows list old new → Grew list (stands_for old) (stands_for new)
grew_follows list old new open_range f = record {
  from = λ front contexts h.
      shown_if (new.range == 0) new _ (is_open new f.some)
      (rw (coding_append front list (fresh [] contexts)) (f.shows _ (if_shown (old.range == 0) old _ (is_open old open_range) h)));
}

pub takes_follows : (list : List Item) (result : Result (Unit {0}) NoMemory) (old new : State) → 0 < old.range → OnOk result (Follows list old new) → OnErr result (new ≡ old) →
    Takes list (stands_for old) (stands_for new) result
takes_follows list (Ok x) old new h f e = grew_follows list old new h f
takes_follows list (Err x) old new h f e = same old new e

pub takes_ends : (result : Result (Unit {0}) NoMemory) (old new : State) → 0 < old.range → OnOk result (Ends old new) → OnErr result (new ≡ old) →
    Takes (items.Bin (record { value = true; place = Terminate }) ∷ []) (stands_for old) (stands_for new) result
takes_ends (Ok x) old new h f e = record {
  from = λ front contexts s.
      ended_if (new.range == 0) new _ (is_ended new f.range)
      (rw (coding_append front (items.Bin (record { value = true; place = Terminate }) ∷ []) (fresh [] contexts)) (f.shows _ (if_shown (old.range == 0) old _ (is_open old h) s)));
}
takes_ends (Err x) old new h f e = same old new e

pub takes_fills : (samples : List ℕ) (result : Result (Unit {0}) NoMemory) (old new : State) → old.range ≡ 0 → OnOk result (Fills samples old new) → OnErr result (new ≡ old) →
    Takes (sample_items samples) (stands_for old) (stands_for new) result
takes_fills samples (Ok x) old new h f e = record {
  from = λ front contexts s.
      shown_if (new.range == 0) new _ (let r = f.range in is_open new (omega arith))
      (rw (coding_append front (sample_items samples) (fresh [] contexts)) (f.shows _ (if_ended (old.range == 0) old _ (is_ended old h) s)));
}
takes_fills samples (Err x) old new h f e = same old new e

-- ---- what it knows

contexts_if : (b : Bool) (s : State) (c : Coding) → StandsIf b s c → s.contexts ≡ c.contexts
contexts_if true s c h = h.contexts
contexts_if false s c h = h.holds.contexts

pub contexts_of : (s : State) (list : List Item) (contexts : List ℕ) → stands_for s list contexts → s.contexts ≡ contexts_after list contexts
unfolding contexts_after
contexts_of s list contexts h = contexts_if (s.range == 0) s (coding list (fresh [] contexts)) h

bytes_if : (b : Bool) (s : State) (c : Coding) → b ≡ true → StandsIf b s c → bytes s.bits ≡ c.done
bytes_if true s c e h = ap bytes h.bits ∙ bytes-bits c.done h.bytes
bytes_if false s c e h = absurd (cc)

pub bytes_of_all : (s : State) (list : List Item) (contexts : List ℕ) → phase_of s ≡ Ended → stands_for s list contexts → bytes s.bits ≡ code list contexts
unfolding code
bytes_of_all s list contexts e h = bytes_if (s.range == 0) s (coding list (fresh [] contexts)) (is_ended s (ended_range s e)) h

-- ---- samples

pub filled : (old : State) (list : List Bool) (samples : List ℕ) → AreBytes samples → list ≡ old.bits ++ bits samples →
    Fills samples old (record { bits = list; low = 0; range = 510; after_samples = true; contexts = old.contexts })
unfolding u
filled old list samples are e = record {
  shows = λ c s. (let f : coding (sample_items samples) c ≡ fresh (c.done ++ samples) c.contexts = ap (λ (d : Coding). coding (sample_items samples) d) s.coding ∙ coding_samples samples c.done c.contexts in
      rw f (record {
        high = 0;
        holds = record {
          bits = e ∙ ap (λ l. l ++ bits samples) s.bits ∙ sym (bits-append c.done samples) ∙ sym (append-nil (bits (c.done ++ samples)));
          bytes = all_append _ c.done samples s.bytes are;
          below = omega arith;
          contexts = s.contexts;
        };
        low = refl;
        range = refl;
        room = omega arith;
      }));
  range = refl;
  phase = refl;
}

pub are_bytes : (list : List ℕ) → ((k : ℕ) → k < length list → get_or list k 0 < 256) → AreBytes list
are_bytes [] h = tt
are_bytes (b ∷ list) h = (h 0 (omega arith), are_bytes list (λ k l. h (suc k) (omega arith)))

-- ---- the start

pub nothing_shown : (list : List Bool) (contexts : List ℕ) → list ≡ [] → Shows (record { bits = list; low = 0; range = 510; after_samples = false; contexts = contexts }) (fresh [] contexts)
unfolding u
nothing_shown list contexts e = record {
  high = 0;
  holds = record { bits = e; bytes = tt; below = omega arith; contexts = refl };
  low = refl;
  range = refl;
  room = omega arith;
}
