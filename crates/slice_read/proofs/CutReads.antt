-- Bytes that are cut off one by one.
use Rattle.std.proofs.Common.{◌≡◌, refl, sym, ◌∙◌, ap, ℕ, zero, suc, ◌+◌, ◌-◌, ◌<◌, ◌≤◌, Bool, true, false, Some, None, Option, List, [], ◌∷◌, ◌++◌, length, take, drop, get_or, append_assoc, append-nil, drop-cons, drop_of_length-le, take-suc, arith}
use Rattle.std.specs.Prelude.{if◌then◌else◌, ◌==◌, ◌&&◌, nat_le}
use Rattle.std.proofs.lemmas.Bool.{eq-eqb, ne_eqb}
use Rattle.h265_model.specs.Slice.{cut_after, with_front}
use Rattle.slice_read.specs.Cuts.{cost}

-- bytes before the front of a cut
abbrev with_all : List ℕ → Option (List ℕ × List ℕ) → Option (List ℕ × List ℕ)
with_all front None = None
with_all front (Some cut) = Some (front ++ cut.0, cut.1)

-- the bytes up to a place are cut off: the last were p and q, and so many are still to be taken
pub record IsCutTo (n : ℕ) (bytes : List ℕ) (p q left at : ℕ) : Type 0 where
  pub within : at ≤ length bytes
  pub cuts : cut_after 255 255 n bytes ≡ with_all (take at bytes) (cut_after p q left (drop at bytes))

-- ---- one byte

none_left : (p q left : ℕ) → 0 < left → cut_after p q left [] ≡ None
unfolding cut_after
none_left p q zero h = absurd (omega arith)
none_left p q (suc n) h = refl

too_few : (p q left b : ℕ) (bytes : List ℕ) → left < cost p q b → 0 < left → cut_after p q left (b ∷ bytes) ≡ None
unfolding cut_after
too_few p q zero b bytes less h = absurd (omega arith)
too_few p q (suc zero) b bytes less h = go (p == 0 && q == 0 && nat_le b 3) less
  where
    go : (t : Bool) → 1 < (if t then 2 else 1) → (if t then None else with_front b (cut_after q b zero bytes)) ≡ None
    go true l = refl
    go false l = absurd (omega arith)
too_few p q (suc (suc m)) b bytes less h = absurd (go (p == 0 && q == 0 && nat_le b 3) less)
  where
    go : (t : Bool) → suc (suc m) < (if t then 2 else 1) → ⊥
    go true l = omega arith
    go false l = omega arith

-- the byte before the last, as it counts
abbrev pub kept_byte : ℕ → ℕ → ℕ
kept_byte takes q = if takes == 2 then 3 else q

pub kept_three : (takes q p : ℕ) → takes ≡ 2 → p ≡ 3 → p ≡ kept_byte takes q
kept_three takes q p two is = is ∙ sym (ap (λ (b : Bool). if b then 3 else q) (eq-eqb takes 2 two))

pub kept_last : (takes q p : ℕ) → (takes ≡ 2 → ⊥) → p ≡ q → p ≡ kept_byte takes q
kept_last takes q p one is = is ∙ sym (ap (λ (b : Bool). if b then 3 else q) (ne_eqb takes 2 one))

taken : (p q left b : ℕ) (bytes : List ℕ) → cost p q b ≤ left → 0 < left → cut_after p q left (b ∷ bytes) ≡ with_front b (cut_after (kept_byte (cost p q b) q) b (left - cost p q b) bytes)
unfolding cut_after
taken p q zero b bytes least h = absurd (omega arith)
taken p q (suc zero) b bytes least h = go (p == 0 && q == 0 && nat_le b 3) least
  where
    go : (t : Bool) → (if t then 2 else 1) ≤ 1 → (if t then None else with_front b (cut_after q b zero bytes)) ≡ with_front b (cut_after (kept_byte (if t then 2 else 1) q) b (1 - (if t then 2 else 1)) bytes)
    go true l = absurd (omega arith)
    go false l = refl
taken p q (suc (suc m)) b bytes least h = go (p == 0 && q == 0 && nat_le b 3)
  where
    two : m ≡ suc (suc m) - 2
    two = omega arith

    one : suc m ≡ suc (suc m) - 1
    one = omega arith

    go : (t : Bool) → (if t then with_front b (cut_after 3 b m bytes) else with_front b (cut_after q b (suc m) bytes)) ≡ with_front b (cut_after (kept_byte (if t then 2 else 1) q) b (suc (suc m) - (if t then 2 else 1)) bytes)
    go true = ap (λ (k : ℕ). with_front b (cut_after 3 b k bytes)) two
    go false = ap (λ (k : ℕ). with_front b (cut_after q b k bytes)) one

fronts : (front : List ℕ) (b : ℕ) (o : Option (List ℕ × List ℕ)) → with_all front (with_front b o) ≡ with_all (front ++ b ∷ []) o
fronts front b None = refl
fronts front b (Some cut) = ap (λ (l : List ℕ). Some (l, cut.1)) (sym (append_assoc front (b ∷ []) cut.0))

-- ---- bytes so far

nothing_before : (o : Option (List ℕ × List ℕ)) → o ≡ with_all [] o
nothing_before None = refl
nothing_before (Some cut) = refl

pub none_cut : (n : ℕ) (bytes : List ℕ) → IsCutTo n bytes 255 255 n 0
none_cut n bytes = record { within = omega arith; cuts = nothing_before (cut_after 255 255 n bytes) }

pub bytes_end : (n : ℕ) (bytes : List ℕ) (p q left at : ℕ) → IsCutTo n bytes p q left at → at ≡ length bytes → 0 < left → cut_after 255 255 n bytes ≡ None
bytes_end n bytes p q left at t full some =
    let past : length bytes ≤ at = omega arith in
    t.cuts ∙ ap (λ (l : List ℕ). with_all (take at bytes) (cut_after p q left l)) (drop_of_length-le bytes past) ∙ ap (λ (o : Option (List ℕ × List ℕ)). with_all (take at bytes) o) (none_left p q left some)

at_byte : (n : ℕ) (bytes : List ℕ) (p q left at byte : ℕ) → IsCutTo n bytes p q left at → at < length bytes → byte ≡ get_or bytes at 0
    → cut_after 255 255 n bytes ≡ with_all (take at bytes) (cut_after p q left (byte ∷ drop (suc at) bytes))
at_byte n bytes p q left at byte t less is =
    t.cuts ∙ ap (λ (l : List ℕ). with_all (take at bytes) (cut_after p q left l)) (drop-cons bytes at 0 less ∙ ap (λ (b : ℕ). b ∷ drop (suc at) bytes) (sym is))

pub byte_past : (n : ℕ) (bytes : List ℕ) (p q left at byte : ℕ) → IsCutTo n bytes p q left at → at < length bytes → byte ≡ get_or bytes at 0 → left < cost p q byte → 0 < left → cut_after 255 255 n bytes ≡ None
byte_past n bytes p q left at byte t less is over some =
    at_byte n bytes p q left at byte t less is ∙ ap (λ (o : Option (List ℕ × List ℕ)). with_all (take at bytes) o) (too_few p q left byte (drop (suc at) bytes) over some)

pub byte_cut : (n : ℕ) (bytes : List ℕ) (p q left at byte takes kept : ℕ) → IsCutTo n bytes p q left at → at < length bytes → byte ≡ get_or bytes at 0 → takes ≡ cost p q byte → takes ≤ left → 0 < left → kept ≡ kept_byte takes q
    → IsCutTo n bytes kept byte (left - takes) (at + 1)
byte_cut n bytes p q left at byte takes kept t less is costs least some keeps = record {
  within = omega arith;
  cuts = at_byte n bytes p q left at byte t less is
      ∙ ap (λ (o : Option (List ℕ × List ℕ)). with_all (take at bytes) o) (taken p q left byte (drop (suc at) bytes) (subst' costs least) some)
      ∙ fronts (take at bytes) byte (cut_after (kept_byte (cost p q byte) q) byte (left - cost p q byte) (drop (suc at) bytes))
      ∙ ap (λ (l : List ℕ). with_all l (cut_after (kept_byte (cost p q byte) q) byte (left - cost p q byte) (drop (suc at) bytes))) (ap (λ (b : ℕ). take at bytes ++ b ∷ []) is ∙ sym (take-suc bytes at 0 less))
      ∙ ap (λ (k : ℕ). with_all (take (suc at) bytes) (cut_after (kept_byte k q) byte (left - k) (drop (suc at) bytes))) (sym costs)
      ∙ ap (λ (k : ℕ). with_all (take (suc at) bytes) (cut_after k byte (left - takes) (drop (suc at) bytes))) (sym keeps)
      ∙ ap (λ (k : ℕ). with_all (take k bytes) (cut_after kept byte (left - takes) (drop k bytes))) next;
}
  where
    subst' : takes ≡ cost p q byte → takes ≤ left → cost p q byte ≤ left
    subst' e l = omega arith

    next : suc at ≡ at + 1
    next = omega arith

pub all_cut : (n : ℕ) (bytes : List ℕ) (p q left at : ℕ) → IsCutTo n bytes p q left at → left ≡ 0 → cut_after 255 255 n bytes ≡ Some (take at bytes, drop at bytes)
unfolding cut_after
all_cut n bytes p q left at t none =
    t.cuts ∙ ap (λ (k : ℕ). with_all (take at bytes) (cut_after p q k (drop at bytes))) none ∙ ap (λ (l : List ℕ). Some (l, drop at bytes)) (append-nil (take at bytes))
