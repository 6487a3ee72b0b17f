-- A slice that is filled with bytes, read by read.
use Rattle.std.proofs.Common.{◌≡◌, ℕ, ◌+◌, ◌-◌, ◌≤◌, List, ◌++◌, length, take, drop, Option, Ok, refl, sym, ap, ◌∙◌, arith, append_assoc}
use Rattle.std.proofs.lemmas.List.{length-take-le, take-append-le, length-drop}
use Rattle.std.proofs.Math.Seq.{take-append-add}
use borrow.Rule.Slice.PartMut.{put_mid, post_of, same_len_mid}
use Rattle.frame_read.specs.Sources.{StillTold, Takes}
use Rattle.frame_read.proofs.Calls.{told_on, told_same}

-- the front of the slice holds what was taken
pub record IsFilledTo (filled : ℕ) (out : List ℕ) (before now : Option (List ℕ)) (faults_before faults : ℕ) : Type 0 where
  pub within : filled ≤ length out
  pub told : StillTold before now (λ was left. was ≡ take filled out ++ left)
  pub quiet : faults ≡ faults_before

pub empty : (out : List ℕ) (text : Option (List ℕ)) (faults : ℕ) → IsFilledTo 0 out text text faults faults
empty out text faults = record { within = omega arith; told = told_same text (λ was left. was ≡ take 0 out ++ left) (λ x. refl); quiet = refl }

front_more : (filled count : ℕ) (out part : List ℕ) → filled ≤ length out → count ≤ length part
    → take (filled + count) (put_mid filled (length out - filled) out part) ≡ take filled out ++ take count part
front_more filled count out part within bound =
    let long : length (take filled out) ≡ filled = length-take-le filled out within in
    ap (λ (n : ℕ). take (n + count) (put_mid filled (length out - filled) out part)) (sym long)
    ∙ (take-append-add (take filled out) (part ++ post_of filled (length out - filled) out) count
    ∙ ap (λ (l : List ℕ). take filled out ++ l) (take-append-le count part (post_of filled (length out - filled) out) bound))

pub filled_more : (filled count : ℕ) (out part : List ℕ) (a b c : Option (List ℕ)) (faults_before faults now : ℕ)
    → IsFilledTo filled out a b faults_before faults → length part ≡ length (take (length out - filled) (drop filled out)) → count ≤ length part
    → StillTold b c (λ before after. Takes part before after (Ok count)) → now ≡ faults
    → IsFilledTo (filled + count) (put_mid filled (length out - filled) out part) a c faults_before now
filled_more filled count out part a b c faults_before faults now is long bound took same =
    let within : filled ≤ length out = is.within in
    let rest : length (drop filled out) ≡ length out - filled = length-drop filled out in
    let room : length (take (length out - filled) (drop filled out)) ≡ length out - filled = length-take-le (length out - filled) (drop filled out) (omega arith) in
    let whole : length (put_mid filled (length out - filled) out part) ≡ length out = same_len_mid filled (length out - filled) out part long in
    record {
      within = omega arith;
      told = told_on a b c _ _ (λ was left. was ≡ take (filled + count) (put_mid filled (length out - filled) out part) ++ left) is.told took
          (λ x y z p q. p ∙ (ap (λ (l : List ℕ). take filled out ++ l) q.0 ∙ (sym (append_assoc (take filled out) (take count part) z) ∙ ap (λ (l : List ℕ). l ++ z) (sym (front_more filled count out part within bound)))));
      quiet = same ∙ is.quiet;
    }
