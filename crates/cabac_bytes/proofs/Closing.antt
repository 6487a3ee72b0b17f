-- The last bytes of a run.
use Rattle.std.proofs.Common.{◌≡◌, refl, sym, ◌∙◌, ap, ℕ, zero, suc, ◌+◌, ◌*◌, ◌-◌, ◌/◌, ◌%◌, ◌^◌, ◌<◌, List, ◌++◌, length, append_assoc, length-append, pow-suc, mod-lt, arith}
use Rattle.std.proofs.lemmas.Nat.{pow_pos, pow-add, div-add-mod'}
use Rattle.std.specs.Prelude.{None, Option, Ok, Err, Result, OnOk}
use Rattle.h265_model.specs.declared.memory.NoMemory.{NoMemory}
use Rattle.h265_model.proofs.ListParts.{all_append, all_front, all_back}
use Rattle.cabac_bytes.specs.Pending.{Pending, number, kept, limit, Passes, PassesAllBut, Closes}
use Rattle.cabac_bytes.proofs.Numbers.{number-append}
use Rattle.cabac_bytes.proofs.Shown.{Limits, limits, once, twice, quotient_below, two, shift_in}

pub bytes_power : (n : ℕ) → 2 ^ (8 * n) ≡ 256 ^ n
bytes_power zero = refl
bytes_power (suc n) =
    let e : 8 * suc n ≡ 8 * n + 8 = omega arith in
    ap (λ m. 2 ^ m) e ∙ pow-add 2 (8 * n) 8 ∙ ap (λ p. p * 256) (bytes_power n) ∙ sym (pow-suc 256 n)

pub bytes_positive : (n : ℕ) → 0 < 256 ^ n
bytes_positive n = let e = bytes_power n in let h = pow_pos (8 * n) in omega arith

one_power : (left : ℕ) → 0 < left → 256 ^ left ≡ 256 ^ (left - 1) * 256
one_power zero h = absurd (omega arith)
one_power (suc n) h = let e : suc n - 1 ≡ n = omega arith in rw e (pow-suc 256 n)

below_all : (held : Option ℕ) (r p : ℕ) → Limits held → r < p → r < limit held * p
below_all held r p (once e) h = rw e (omega arith)
below_all held r p (twice e) h = rw e (omega arith)

regroup : (l p : ℕ) → l * (p * 256) ≡ (256 * l) * p
regroup l p = omega arith

pub lead_fits : (held : Option ℕ) (rest left : ℕ) → 0 < left → rest < limit held * 256 ^ left → rest / 2 ^ (8 * (left - 1)) < 256 * limit held
lead_fits held rest left h f =
    let p : 2 ^ (8 * (left - 1)) ≡ 256 ^ (left - 1) = bytes_power (left - 1) in
    let e : limit held * 256 ^ left ≡ (256 * limit held) * 256 ^ (left - 1) = ap (λ n. limit held * n) (one_power left h) ∙ regroup (limit held) (256 ^ (left - 1)) in
    rw p (quotient_below rest (256 ^ (left - 1)) (256 * limit held) (bytes_positive (left - 1)) (omega arith))

pub one_passed : (left rest last count lead : ℕ) (old now new : Pending) → 0 < left → PassesAllBut left rest last count old now → lead ≡ rest / 2 ^ (8 * (left - 1)) → Passes 256 1 lead now new →
    PassesAllBut (left - 1) (rest % 2 ^ (8 * (left - 1))) last count old new
one_passed left rest last count lead old now new h a is p =
    let q : ℕ = 256 ^ (left - 1) in
    let power : 2 ^ (8 * (left - 1)) ≡ q = bytes_power (left - 1) in
    let lead_is : lead ≡ rest / q = rw power at is in
    let was : List ℕ = kept now.held now.run in
    let next : List ℕ = p.added ++ kept new.held new.run in
    let same : (a.added ++ p.added) ++ kept new.held new.run ≡ a.added ++ next = append_assoc a.added p.added (kept new.held new.run) in
    let size : 256 ^ length next ≡ 256 ^ length was * 256 = ap (λ n. 256 ^ n) p.long ∙ (let e : length was + 1 ≡ suc (length was) = omega arith in rw e (pow-suc 256 (length was))) in
    let value : number (a.added ++ next) ≡ number (a.added ++ was) * 256 + lead =
    number-append a.added next ∙ two (number a.added) (256 ^ length next) (256 ^ length was) (number next) (number was) lead 256 size p.value ∙ ap (λ n. n * 256 + lead) (sym (number-append a.added was)) in
    let long : length (a.added ++ next) ≡ length (a.added ++ was) + 1 = omega (arith, length-append a.added next, length-append a.added was, p.long) in
    let whole : lead * q + rest % q ≡ rest = rw lead_is (div-add-mod' rest q) in
    let few = a.few in
    rw power (record {
      added = a.added ++ p.added;
      out = p.out ∙ ap (λ l. l ++ p.added) a.out ∙ append_assoc old.out a.added p.added;
      value = rw (same, value) (shift_in (number (a.added ++ was)) lead (rest % q) q 256 ∙ rw whole (rw (← one_power left h) a.value));
      long = rw same (let k = a.long in omega arith);
      bytes = all_append _ a.added p.added a.bytes (all_front _ p.added (kept new.held new.run) p.bytes);
      last_bytes = λ l. all_back _ p.added (kept new.held new.run) p.bytes;
      fits = below_all new.held (rest % q) q (limits new.held) (mod-lt rest (bytes_positive (left - 1)));
      small = λ l. mod-lt rest (bytes_positive (left - 1));
      few = omega arith;
    })

zero_rest : (v rest n : ℕ) → rest ≡ 0 → v * 1 + rest ≡ n → v ≡ n
zero_rest v rest n e h = omega arith

pub closed : (result : Result (Unit {0}) NoMemory) (rest last count : ℕ) (old now new : Pending) → 0 < count → PassesAllBut 0 rest last count old now →
    OnOk result (new ≡ record { out = now.out ++ kept now.held now.run; held = None; run = 0 }) → OnOk result (Closes last count old new)
closed (Err e) rest last count old now new h a s = tt
closed (Ok x) rest last count old now new h a s =
    let was : List ℕ = kept now.held now.run in
    let none : rest ≡ 0 = (let l = a.small h in omega arith) in
    let together : now.out ++ was ≡ old.out ++ (a.added ++ was) = ap (λ l. l ++ was) a.out ∙ append_assoc old.out a.added was in
    record {
      more = a.added ++ was;
      is = s ∙ ap (λ (l : List ℕ). let p : Pending = record { out = l; held = None; run = 0 } in p) together;
      value = zero_rest (number (a.added ++ was)) rest _ none a.value;
      long = (let l = a.long in omega arith);
      bytes = all_append _ a.added was a.bytes (a.last_bytes h);
    }
