-- What a state stands for after a call.
use Rattle.std.proofs.Common.{◌≡◌, refl, sym, ◌∙◌, ap, ℕ, ◌+◌, ◌*◌, ◌^◌, ◌<◌, ◌≤◌, Bool, true, false, not, List, [], ◌∷◌, ◌++◌, length, append-nil, ◌-◌, ◌/◌, ◌%◌, ne_eqb, eq-eqb, eqb-true, mod-lt, bit_and, arith}
use Rattle.std.proofs.lemmas.Nat.{pow_pos, one_shl, and_mask}
use Rattle.std.proofs.lemmas.List.{map-append}
use Rattle.h265_model.proofs.Digits.{u-mod, u-split}
use Rattle.h265_model.specs.Plain.{bypass_bin}
use Rattle.h265_model.specs.Binarise.{bypass_bins, fl}
use Rattle.std.proofs.lemmas.Bool.{eqb-false}
use Rattle.std.specs.Prelude.{None, Ok, Err, Result, OnOk, OnErr, ◌==◌, ◌&&◌, if◌then◌else◌}
use Rattle.h265_model.specs.declared.memory.NoMemory.{NoMemory}
use Rattle.h265_model.specs.declared.Item.{Item}
use Rattle.h265_model.specs.declared.Item.TheVariants as items
use Rattle.h265_model.specs.declared.Place.TheVariants.{Terminate}
use Rattle.h265_model.specs.Bits.{is_empty, digit, u}
use Rattle.h265_model.specs.Code.{Coding, coding, fresh, code, contexts_after, Phase, Plain, Ended, Filled}
use Rattle.h265_model.proofs.CodeLaws.{coding_append, coding_samples}
use Rattle.bin_items.specs.Growth.{Grew, Kept, Takes, IsOpen, sample_items}
use Rattle.cabac_bytes.specs.Pending.{Pending}
use Rattle.cabac_bytes.specs.State.{State, Shows, HasEnded, StandsIf, stands_for, Follows, Ends, Fills, phase_of, is_fresh}

-- ---- ended or not

is_open : (s : State) → 0 < s.range → s.range == 0 ≡ false
is_open s h = ne_eqb s.range 0 (λ e. omega arith)

is_ended : (s : State) → s.range ≡ 0 → s.range == 0 ≡ true
is_ended s h = eq-eqb s.range 0 h

if_shown : (b : Bool) (s : State) (c : Coding) → b ≡ false → StandsIf b s c → Shows s c
if_shown true s c e h = absurd (cc)
if_shown false s c e h = h

if_ended : (b : Bool) (s : State) (c : Coding) → b ≡ true → StandsIf b s c → HasEnded s c
if_ended true s c e h = h
if_ended false s c e h = absurd (cc)

shown_if : (b : Bool) (s : State) (c : Coding) → b ≡ false → Shows s c → StandsIf b s c
shown_if true s c e h = absurd (cc)
shown_if false s c e h = h

ended_if : (b : Bool) (s : State) (c : Coding) → b ≡ true → HasEnded s c → StandsIf b s c
ended_if true s c e h = h
ended_if false s c e h = absurd (cc)

phase_by : Bool → Bool → Phase
phase_by b f = if b then Ended else if f then Filled else Plain

range_by : (n : ℕ) (b f : Bool) → n == 0 ≡ b → IsOpen (if b then Ended else if f then Filled else Plain) → 0 < n
range_by n true f e h = absurd h
range_by n false f e h = let d = eqb-false n 0 e in omega arith

pub open_range : (s : State) → IsOpen (phase_of s) → 0 < s.range
open_range s h = range_by s.range (s.range == 0) (is_fresh s && not (is_empty s.pending.out)) refl h

ended_by : (n : ℕ) (b f : Bool) → n == 0 ≡ b → (if b then Ended else if f then Filled else Plain) ≡ Ended → n ≡ 0
ended_by n true f e h = eqb-true n 0 e
ended_by n false true e h = absurd (cc)
ended_by n false false e h = absurd (cc)

pub ended_range : (s : State) → phase_of s ≡ Ended → s.range ≡ 0
ended_range s h = ended_by s.range (s.range == 0) (is_fresh s && not (is_empty s.pending.out)) refl h

-- ---- growth

same : (old new : State) → new ≡ old → Kept (stands_for old) (stands_for new)
same old new e = record { from = λ front contexts h. rw e h }

pub grew_follows : (list : List Item) (old new : State) → 0 < old.range → Follows list old new → Grew list (stands_for old) (stands_for new)
grew_follows list old new open_range f = record {
  from = λ front contexts h.
      shown_if (new.range == 0) new _ (is_open new f.some)
      (rw (coding_append front list (fresh [] contexts)) (f.shows _ (if_shown (old.range == 0) old _ (is_open old open_range) h)));
}

pub takes_follows : (list : List Item) (result : Result (Unit {0}) NoMemory) (old new : State) → 0 < old.range → OnOk result (Follows list old new) → OnErr result (new ≡ old) →
    Takes list (stands_for old) (stands_for new) result
takes_follows list (Ok x) old new h f e = grew_follows list old new h f
takes_follows list (Err x) old new h f e = same old new e

pub takes_ends : (result : Result (Unit {0}) NoMemory) (old new : State) → 0 < old.range → OnOk result (Ends old new) → OnErr result (new ≡ old) →
    Takes (items.Bin (record { value = true; place = Terminate }) ∷ []) (stands_for old) (stands_for new) result
takes_ends (Ok x) old new h f e = record {
  from = λ front contexts s.
      ended_if (new.range == 0) new _ (is_ended new f.range)
      (rw (coding_append front (items.Bin (record { value = true; place = Terminate }) ∷ []) (fresh [] contexts)) (f.shows _ (if_shown (old.range == 0) old _ (is_open old h) s)));
}
takes_ends (Err x) old new h f e = same old new e

pub takes_fills : (samples : List ℕ) (result : Result (Unit {0}) NoMemory) (old new : State) → old.range ≡ 0 → OnOk result (Fills samples old new) → OnErr result (new ≡ old) →
    Takes (sample_items samples) (stands_for old) (stands_for new) result
takes_fills samples (Ok x) old new h f e = record {
  from = λ front contexts s.
      shown_if (new.range == 0) new _ (let r = f.range in is_open new (omega arith))
      (rw (coding_append front (sample_items samples) (fresh [] contexts)) (f.shows _ (if_ended (old.range == 0) old _ (is_ended old h) s)));
}
takes_fills samples (Err x) old new h f e = same old new e

-- ---- what it knows

contexts_if : (b : Bool) (s : State) (c : Coding) → StandsIf b s c → s.contexts ≡ c.contexts
contexts_if true s c h = h.contexts
contexts_if false s c h = h.contexts

pub contexts_of : (s : State) (list : List Item) (contexts : List ℕ) → stands_for s list contexts → s.contexts ≡ contexts_after list contexts
unfolding contexts_after
contexts_of s list contexts h = contexts_if (s.range == 0) s (coding list (fresh [] contexts)) h

pub bytes_of_all : (s : State) (list : List Item) (contexts : List ℕ) → phase_of s ≡ Ended → stands_for s list contexts → s.pending.out ≡ code list contexts
unfolding code
bytes_of_all s list contexts e h = (if_ended (s.range == 0) s (coding list (fresh [] contexts)) (is_ended s (ended_range s e)) h).out

-- ---- samples

not_empty : (a b : List ℕ) → 0 < length b → is_empty (a ++ b) ≡ false
not_empty [] [] h = absurd (omega arith)
not_empty [] (y ∷ b) h = refl
not_empty (x ∷ a) b h = refl

pub filled : (old : State) (new : Pending) (samples : List ℕ) → 0 < length samples → new ≡ record { out = old.pending.out ++ samples; held = None; run = 0 } →
    Fills samples old (record old { pending = new; low = 0; width = 9; range = 510 })
filled old new samples h e = rw e (record {
  shows = λ c s. (let f : coding (sample_items samples) c ≡ fresh (c.done ++ samples) c.contexts = ap (λ (d : Coding). coding (sample_items samples) d) s.coding ∙ coding_samples samples c.done c.contexts in
      rw f (record {
        settled = [];
        out = ap (λ l. l ++ samples) s.out ∙ sym (append-nil (c.done ++ samples));
        bytes = tt;
        low = refl;
        count = refl;
        range = refl;
        contexts = s.contexts;
      }));
  range = refl;
  phase = rw (not_empty old.pending.out samples h) refl;
})

-- ---- bypass bins

one_bin : (b : Bool) → bypass_bins (fl 1 (digit b)) ≡ bypass_bin b ∷ []
unfolding u
one_bin true = refl
one_bin false = refl

pub takes_bypass : (b : Bool) (result : Result (Unit {0}) NoMemory) (old new : State) → 0 < old.range → OnOk result (Follows (bypass_bins (fl 1 (digit b))) old new) → OnErr result (new ≡ old) →
    Takes (bypass_bin b ∷ []) (stands_for old) (stands_for new) result
takes_bypass b result old new h f e = takes_follows (bypass_bin b ∷ []) result old new h (rw (one_bin b) at f) e

-- the first digits, as the code takes them
pub first_few : (left some v : ℕ) → some ≤ left → some ≤ 20 →
    bypass_bins (fl left v) ≡ bypass_bins (fl some (bit_and (v / 2 ^ (left - some)) (1 * 2 ^ some % 2 ^ 32 - 1))) ++ bypass_bins (fl (left - some) v)
first_few left some v h few =
    let rest : ℕ = left - some in
    let sum : left ≡ some + rest = omega arith in
    let mask : bit_and (v / 2 ^ rest) (1 * 2 ^ some % 2 ^ 32 - 1) ≡ v / 2 ^ rest % 2 ^ some = ap (λ m. bit_and (v / 2 ^ rest) (m - 1)) (one_shl some 32 (omega arith)) ∙ and_mask (v / 2 ^ rest) some in
    ap (λ n. bypass_bins (fl n v)) sum
    ∙ ap bypass_bins (u-split some rest v ∙ ap (λ l. l ++ u rest v) (sym (u-mod some (v / 2 ^ rest)) ∙ ap (u some) (sym mask)))
    ∙ map-append bypass_bin (fl some (bit_and (v / 2 ^ rest) (1 * 2 ^ some % 2 ^ 32 - 1))) (fl rest v)

pub few_below : (v rest some : ℕ) → some ≤ 20 → bit_and (v / 2 ^ rest) (1 * 2 ^ some % 2 ^ 32 - 1) < 2 ^ some
few_below v rest some few =
    let mask : bit_and (v / 2 ^ rest) (1 * 2 ^ some % 2 ^ 32 - 1) ≡ v / 2 ^ rest % 2 ^ some = ap (λ m. bit_and (v / 2 ^ rest) (m - 1)) (one_shl some 32 (omega arith)) ∙ and_mask (v / 2 ^ rest) some in
    rw mask (mod-lt (v / 2 ^ rest) (pow_pos some))

-- all digits, as the code takes them
pub all_few : (n v : ℕ) → n ≤ 20 → bypass_bins (fl n (bit_and v (1 * 2 ^ n % 2 ^ 32 - 1))) ≡ bypass_bins (fl n v)
all_few n v few =
    let mask : bit_and v (1 * 2 ^ n % 2 ^ 32 - 1) ≡ v % 2 ^ n = ap (λ m. bit_and v (m - 1)) (one_shl n 32 (omega arith)) ∙ and_mask v n in
    ap bypass_bins (ap (u n) mask ∙ u-mod n v)
