-- The numbers that bytes spell.
use Rattle.std.proofs.Common.{◌≡◌, refl, sym, ◌∙◌, ap, ℕ, zero, suc, ◌+◌, ◌*◌, ◌-◌, ◌/◌, ◌%◌, ◌^◌, ◌<◌, ◌≤◌, Bool, true, false, List, [], ◌∷◌, ◌++◌, length, replicate, length-append, append-nil, pow-suc, arith}
use Rattle.std.proofs.lemmas.Bool.{eqb-true, eqb-false}
use Rattle.std.proofs.lemmas.List.{length-replicate}
use Rattle.std.proofs.lemmas.Nat.{pow-add}
use Rattle.std.specs.Prelude.{Some, ◌==◌}
use Rattle.h265_model.specs.Plain.{AreBytes}
use Rattle.h265_model.proofs.ListParts.{all_append}
use Rattle.cabac_bytes.specs.Pending.{number, limit, Passes}

join : (x p q a b : ℕ) → x * (p * q) + (a * q + b) ≡ (x * p + a) * q + b
join x p q a b = omega arith

pub number-append : (a b : List ℕ) → number (a ++ b) ≡ number a * 256 ^ length b + number b
number-append [] b = omega arith
number-append (x ∷ a) b =
    let e : 256 ^ length (a ++ b) ≡ 256 ^ length a * 256 ^ length b = ap (λ n. 256 ^ n) (length-append a b) ∙ pow-add 256 (length a) (length b) in
    rw (e, number-append a b) (join x (256 ^ length a) (256 ^ length b) (number a) (number b))

pub full : (n : ℕ) → number (replicate n 255) + 1 ≡ 256 ^ n
full zero = refl
full (suc n) =
    let e : length (replicate {A = ℕ} n 255) ≡ n = length-replicate n 255 in
    let p : 256 ^ suc n ≡ 256 ^ n * 256 = pow-suc 256 n in
    let i = full n in
    rw (e, p) (omega arith)

pub zeros : (n : ℕ) → number (replicate n 0) ≡ 0
zeros zero = refl
zeros (suc n) = let i = zeros n in rw i (omega arith)

bytes_of_one : (n x : ℕ) → x < 256 → AreBytes (replicate n x)
bytes_of_one zero x h = tt
bytes_of_one (suc n) x h = (h, bytes_of_one n x h)

-- ---- one more byte

-- which bytes a carry may raise
pub data Room (byte : ℕ) : Type 0 where
  last : byte ≡ 255 → limit (Some byte) ≡ 1 → Room byte
  more : (byte ≡ 255 → ⊥) → limit (Some byte) ≡ 2 → Room byte

room_by : (byte : ℕ) (b : Bool) → byte == 255 ≡ b → Room byte
room_by byte true e = last (eqb-true byte 255 e) (rw e refl)
room_by byte false e = more (eqb-false byte 255 e) (rw e refl)

pub room : (byte : ℕ) → Room byte
room byte = room_by byte (byte == 255) refl

kept_number : (byte run : ℕ) → number (byte ∷ replicate run 255) + 1 ≡ (byte + 1) * 256 ^ run
kept_number byte run = let i = full run in let e : length (replicate {A = ℕ} run 255) ≡ run = length-replicate run 255 in rw e (omega arith)

raised_number : (byte run : ℕ) → number (byte ∷ replicate run 0) ≡ byte * 256 ^ run
raised_number byte run = let i = zeros run in let e : length (replicate {A = ℕ} run 0) ≡ run = length-replicate run 0 in rw (e, i) (omega arith)

one_behind : (list : List ℕ) (x : ℕ) → number (list ++ x ∷ []) ≡ number list * 256 + x
one_behind list x = number-append list (x ∷ []) ∙ omega arith

length_behind : (x y run n m z : ℕ) → length ((x ∷ replicate run y) ++ z ∷ []) ≡ length (n ∷ replicate run m) + 1
length_behind x y run n m z =
    let e : length (replicate {A = ℕ} run y) ≡ run = length-replicate run y in
    let d : length (replicate {A = ℕ} run m) ≡ run = length-replicate run m in
    let a : length ((x ∷ replicate run y) ++ z ∷ []) ≡ length (x ∷ replicate run y) + 1 = length-append (x ∷ replicate run y) (z ∷ []) in
    omega arith

longer : (byte run : ℕ) → length (byte ∷ replicate (run + 1) 255) ≡ length (byte ∷ replicate run 255) + 1
longer byte run =
    let e : length (replicate {A = ℕ} (run + 1) 255) ≡ run + 1 = length-replicate (run + 1) 255 in
    let d : length (replicate {A = ℕ} run 255) ≡ run = length-replicate run 255 in
    omega arith

next_power : (run : ℕ) → 256 ^ (run + 1) ≡ 256 ^ run * 256
next_power run = let e : run + 1 ≡ suc run = omega arith in rw e (pow-suc 256 run)

-- one more byte 255 behind the one that is held
pub counted : (out : List ℕ) (byte run : ℕ) → byte < 256 →
    Passes 256 1 255 (record { out = out; held = Some byte; run = run }) (record { out = out; held = Some byte; run = run + 1 })
counted out byte run h =
    let a = kept_number byte run in
    let b : number (byte ∷ replicate (run + 1) 255) + 1 ≡ (byte + 1) * (256 ^ run * 256) = kept_number byte (run + 1) ∙ ap (λ n. (byte + 1) * n) (next_power run) in
    record {
      added = [];
      out = sym (append-nil out);
      value = let v : number (byte ∷ replicate (run + 1) 255) ≡ number (byte ∷ replicate run 255) * 256 + 255 = omega arith in v;
      long = longer byte run;
      bytes = (h, bytes_of_one (run + 1) 255 (omega arith));
      narrow = λ e. rw e (omega arith);
      some = (byte, refl);
    }

released_narrow : (lead n : ℕ) → lead < 255 → limit (Some lead) ≡ 1 → lead + 1 ≡ n
released_narrow lead n k e = elim (room lead) [ last is one ↦ absurd (omega arith) | more not two ↦ absurd (omega arith) ]

-- the one that is held stays as it is
pub released : (out next : List ℕ) (byte run lead : ℕ) → byte < 256 → lead < 255 → next ≡ out ++ byte ∷ replicate run 255 →
    Passes 256 1 lead (record { out = out; held = Some byte; run = run }) (record { out = next; held = Some lead; run = 0 })
released out next byte run lead h k e = record {
  added = byte ∷ replicate run 255;
  out = e;
  value = one_behind (byte ∷ replicate run 255) lead;
  long = length_behind byte 255 run byte 255 lead;
  bytes = all_append _ (byte ∷ replicate run 255) (lead ∷ []) (h, bytes_of_one run 255 (omega arith)) (omega arith, tt);
  narrow = released_narrow lead _ k;
  some = (lead, refl);
}

raised_narrow : (lead byte : ℕ) → 256 ≤ lead → limit (Some byte) ≡ 2 → limit (Some (lead - 256)) ≡ 1 → lead + 1 ≡ 256 * limit (Some byte)
raised_narrow lead byte h w e = elim (room (lead - 256)) [ last is one ↦ rw w (omega arith) | more not two ↦ absurd (omega arith) ]

raised_by : (out next : List ℕ) (byte run lead : ℕ) → byte < 256 → 256 ≤ lead → lead < 256 * limit (Some byte) → next ≡ out ++ (byte + 1) ∷ replicate run 0 → Room byte →
    Passes 256 1 lead (record { out = out; held = Some byte; run = run }) (record { out = next; held = Some (lead - 256); run = 0 })
raised_by out next byte run lead f h k e (last is one) = absurd (omega arith)
raised_by out next byte run lead f h k e (more not two) =
    let a = kept_number byte run in
    let b = raised_number (byte + 1) run in
    let v = one_behind ((byte + 1) ∷ replicate run 0) (lead - 256) in
    record {
      added = (byte + 1) ∷ replicate run 0;
      out = e;
      value = let w : number (((byte + 1) ∷ replicate run 0) ++ (lead - 256) ∷ []) ≡ number (byte ∷ replicate run 255) * 256 + lead = omega arith in w;
      long = length_behind (byte + 1) 0 run byte 255 (lead - 256);
      bytes = all_append _ ((byte + 1) ∷ replicate run 0) ((lead - 256) ∷ []) (omega arith, bytes_of_one run 0 (omega arith)) (omega arith, tt);
      narrow = raised_narrow lead byte h two;
      some = (lead - 256, refl);
    }

-- the one that is held is raised
pub raised : (out next : List ℕ) (byte run lead : ℕ) → byte < 256 → 256 ≤ lead → lead < 256 * limit (Some byte) → next ≡ out ++ (byte + 1) ∷ replicate run 0 →
    Passes 256 1 lead (record { out = out; held = Some byte; run = run }) (record { out = next; held = Some (lead - 256); run = 0 })
raised out next byte run lead f h k e = raised_by out next byte run lead f h k e (room byte)

can_raise_by : (byte lead : ℕ) → byte < 256 → 256 ≤ lead → lead < 256 * limit (Some byte) → Room byte → byte < 255
can_raise_by byte lead f h k (last is one) = absurd (omega arith)
can_raise_by byte lead f h k (more not two) = omega arith

pub can_raise : (byte lead : ℕ) → byte < 256 → 256 ≤ lead → lead < 256 * limit (Some byte) → byte < 255
can_raise byte lead f h k = can_raise_by byte lead f h k (room byte)

-- ---- four more bytes

below_last : (byte : ℕ) → byte < 256 → (byte ≡ 255 → ⊥) → byte < 255
below_last byte h not = omega arith

no_last : (byte n l : ℕ) → byte < 255 → limit (Some byte) ≡ 1 → n ≡ l
no_last byte n l h e = elim (room byte) [ last is one ↦ absurd (omega arith) | more not two ↦ absurd (omega arith) ]

first_byte : (byte lead : ℕ) → byte < 256 → lead < 4294967296 * limit (Some byte) → Room byte → byte + lead / 4294967296 < 256
first_byte byte lead h f (last is one) = let g : lead < 4294967296 * 1 = rw one at f in omega arith
first_byte byte lead h f (more not two) = let g : lead < 4294967296 * 2 = rw two at f in let n : byte < 255 = below_last byte h not in omega arith

pub four_behind : (out next : List ℕ) (byte lead : ℕ) → byte < 256 → lead % 256 < 255 → lead < 4294967296 * limit (Some byte) →
    next ≡ out ++ (byte + lead / 4294967296) ∷ (lead / 16777216 % 256) ∷ (lead / 65536 % 256) ∷ (lead / 256 % 256) ∷ [] →
    Passes 4294967296 4 lead (record { out = out; held = Some byte; run = 0 }) (record { out = next; held = Some (lead % 256); run = 0 })
four_behind out next byte lead h k f e = record {
  added = (byte + lead / 4294967296) ∷ (lead / 16777216 % 256) ∷ (lead / 65536 % 256) ∷ (lead / 256 % 256) ∷ [];
  out = e;
  value = (let v : (byte + lead / 4294967296) * 4294967296 + (lead / 16777216 % 256 * 16777216 + (lead / 65536 % 256 * 65536 + (lead / 256 % 256 * 256 + (lead % 256 * 1 + 0)))) ≡ (byte * 1 + 0) * 4294967296 + lead = omega arith in v);
  long = refl;
  bytes = (first_byte byte lead h f (room byte), (omega arith, (omega arith, (omega arith, (omega arith, tt)))));
  narrow = no_last (lead % 256) _ _ k;
  some = (lead % 256, refl);
}
