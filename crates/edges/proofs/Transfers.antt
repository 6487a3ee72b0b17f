-- What a reader gave, and what a writer took so far.
use Rattle.std.proofs.Common.{◌≡◌, ℕ, ◌+◌, ◌-◌, ◌^◌, ◌<◌, ◌≤◌, min, List, [], ◌++◌, take, drop, length, Vec, Ok, Err, refl, sym, ap, ◌∙◌, arith, append_assoc, append-nil, length-take, length-drop, take-append-drop}
use Rattle.std.proofs.lemmas.List.{take_all}
use Rattle.std.specs.Prelude.{Option, Some, None, option_map, IfSome, IsSomeAnd}
use Rattle.std.specs.Io.KnownBytes.{Appends, Keeps}
use Rattle.edges.specs.declared.sink.WriteError.TheVariants as write
use Rattle.edges.specs.Shelf.{ReadAnswer}
use Rattle.edges.specs.Sink.{Writes}

-- a writer took the front of a piece
abbrev pub TookFront : Option (List ℕ) → Option (List ℕ) → List ℕ → List ℕ → Type 0
TookFront before after piece rest =
    (taken : List ℕ) × (piece ≡ taken ++ rest) × IfSome before (λ was. IsSomeAnd after (λ now. now ≡ was ++ taken))

nothing_taken : (text : Option (List ℕ)) → IfSome text (λ was. IsSomeAnd text (λ now. now ≡ was ++ []))
nothing_taken None = tt
nothing_taken (Some was) = sym (append-nil was)

pub took_none : (text : Option (List ℕ)) (piece : List ℕ) → TookFront text text piece piece
took_none text piece = ([], refl, nothing_taken text)

more_text : (before now later : Option (List ℕ)) (taken part : List ℕ) → Appends now later part →
    IfSome before (λ was. IsSomeAnd now (λ text. text ≡ was ++ taken)) → IfSome before (λ was. IsSomeAnd later (λ text. text ≡ was ++ (taken ++ part)))
more_text None now later taken part a h = tt
more_text (Some was) None later taken part a h = absurd h
more_text (Some was) (Some text) None taken part a h = absurd a
more_text (Some was) (Some text) (Some new) taken part a h = a ∙ ap (λ t. t ++ part) h ∙ append_assoc was taken part

-- what is left is the slice from `count` on
pub took_more : (before now later : Option (List ℕ)) (piece rest : List ℕ) (count : ℕ) → Appends now later (take count rest) →
    TookFront before now piece rest → TookFront before later piece (take (length rest - count) (drop count rest))
took_more before now later piece rest count a t =
    let left : take (length rest - count) (drop count rest) ≡ drop count rest = take_all _ _ (omega (arith, length-drop count rest)) in
    rw left (
      t.0 ++ take count rest,
      t.1 ∙ ap (λ r. t.0 ++ r) (sym (take-append-drop count rest)) ∙ sym (append_assoc t.0 (take count rest) (drop count rest)),
      more_text before now later t.0 (take count rest) a t.2,
    )

kept_text : (before now later : Option (List ℕ)) (taken : List ℕ) → Keeps now later →
    IfSome before (λ was. IsSomeAnd now (λ text. text ≡ was ++ taken)) → IfSome before (λ was. IsSomeAnd later (λ text. text ≡ was ++ taken))
kept_text None now later taken k h = tt
kept_text (Some was) None later taken k h = absurd h
kept_text (Some was) (Some text) None taken k h = absurd k
kept_text (Some was) (Some text) (Some new) taken k h = k ∙ h

pub took_same : (before now later : Option (List ℕ)) (piece rest : List ℕ) → Keeps now later → TookFront before now piece rest → TookFront before later piece rest
took_same before now later piece rest k t = (t.0, t.1, kept_text before now later t.0 k t.2)

-- what that is as a write of the piece, and of a part of it
told : (before after : Option (List ℕ)) (P Q : List ℕ → List ℕ → Type 0) → ((was now : List ℕ) → P was now → Q was now) →
    IfSome before (λ was. IsSomeAnd after (P was)) → IfSome before (λ was. IsSomeAnd after (Q was))
told None after P Q f h = tt
told (Some was) None P Q f h = absurd h
told (Some was) (Some now) P Q f h = f was now h

pub wrote_whole : (before after : Option (List ℕ)) (piece rest : List ℕ) (done : Unit {0}) → rest ≡ [] → TookFront before after piece rest →
    IfSome before (λ was. IsSomeAnd after (λ now. Writes piece was now (Ok done)))
wrote_whole before after piece rest done none t =
    told before after (λ was now. now ≡ was ++ t.0) (λ was now. Writes piece was now (Ok done)) (λ was now e. e ∙ ap (λ p. was ++ p) (sym (t.1 ∙ ap (λ r. t.0 ++ r) none ∙ append-nil t.0))) t.2

pub wrote_part : (before after : Option (List ℕ)) (piece rest : List ℕ) → TookFront before after piece rest →
    IfSome before (λ was. IsSomeAnd after (λ now. Writes piece was now (Err write.Failed)))
wrote_part before after piece rest t =
    told before after (λ was now. now ≡ was ++ t.0) (λ was now. Writes piece was now (Err write.Failed)) (λ was now e. (t.0, (rest, t.1), e)) t.2

-- a read that stopped at the end, below the limit
pub read_answer : {G : Type 0} (known : Option (List ℕ)) (limit most : ℕ) (read : Vec ℕ G) → most ≡ min (limit + 1) (2 ^ 64 - 1) →
    IfSome (option_map (take most) known) (λ front. read.items ≡ front) → length read.items ≤ limit → length read.items < 2 ^ 64 - 1 →
    IfSome known (λ bytes. ReadAnswer limit bytes (Ok read))
read_answer None limit most read e h below small = tt
read_answer (Some bytes) limit most read e h below small =
    let front : length (take most bytes) ≡ min most (length bytes) = length-take most bytes in
    let same : length read.items ≡ length (take most bytes) = ap length h in
    let all : length bytes ≤ most = omega arith in
    let whole : read.items ≡ bytes = h ∙ take_all most bytes all in
    (whole, omega (arith, ap length whole))
