-- The NAL units of rows, one more at a time.
use Rattle.std.proofs.Common.{◌≡◌, refl, sym, ◌∙◌, ap, ℕ, zero, suc, ◌+◌, ◌*◌, ◌<◌, List, [], ◌∷◌, ◌++◌, Bool, length, map, get_or, append-nil, arith}
use Rattle.std.specs.List.{flat_map, range_with_len}
use Rattle.std.proofs.lemmas.Grind.{flat_map-append}
use Rattle.std.proofs.lemmas.List.FromFn.{length-map-range_with_len, get_or-map-range_with_len}
use Rattle.h265_model.specs.Plain.{Size, ctus, below}
use Rattle.h265_model.specs.Stream.{segment_piece}
use Rattle.slice_assembly.specs.Segments.{segment_unit}

below_next : (n a k : ℕ) → a + n ≡ k → range_with_len a (suc n) ≡ range_with_len a n ++ k ∷ []
below_next zero a k e = let z : a ≡ k = omega arith in rw (← z) refl
below_next (suc n) a k e = ap (λ (xs : List ℕ). a ∷ xs) (below_next n (a + 1) k (omega arith))

one_more : (f : ℕ → List ℕ) (k : ℕ) → flat_map f (below k) ++ f k ≡ flat_map f (below (k + 1))
one_more f k =
    let next : suc k ≡ k + 1 = omega arith in
    ap (λ (l : List ℕ). flat_map f (below k) ++ l) (sym (append-nil (f k)))
    ∙ (sym (flat_map-append f (below k) (k ∷ []))
    ∙ (ap (λ (l : List ℕ). flat_map f l) (sym (below_next k 0 k (omega arith)))
    ∙ ap (λ (n : ℕ). flat_map f (below n)) next))

-- the units of the rows of these lists, of a picture of n rows
abbrev pub unit_at : Bool → ℕ → ℕ → ℕ → List (List ℕ) → ℕ → List ℕ
unit_at idr poc across n lists row = segment_unit idr poc (row * across) (across * n) (get_or lists row [])

pub next_address : (i across address : ℕ) → address ≡ i * across → address + across ≡ (i + 1) * across
next_address i across address e = omega arith

pub one_row : (idr : Bool) (poc across n : ℕ) (lists : List (List ℕ)) (i address : ℕ) (old new row : List ℕ) → new ≡ old ++ segment_unit idr poc address (across * n) row
    → old ≡ flat_map (unit_at idr poc across n lists) (below i) → address ≡ i * across → row ≡ get_or lists i [] → new ≡ flat_map (unit_at idr poc across n lists) (below (i + 1))
one_row idr poc across n lists i address old new row is before place here =
    is
    ∙ (ap (λ (l : List ℕ). l ++ segment_unit idr poc address (across * n) row) before
    ∙ (ap (λ (a : ℕ). flat_map (unit_at idr poc across n lists) (below i) ++ segment_unit idr poc a (across * n) row) place
    ∙ (ap (λ (l : List ℕ). flat_map (unit_at idr poc across n lists) (below i) ++ segment_unit idr poc (i * across) (across * n) l) here
    ∙ one_more (unit_at idr poc across n lists) i)))

same_below : (f g : ℕ → List ℕ) (a n : ℕ) → ((i : ℕ) → i < a + n → f i ≡ g i) → flat_map f (range_with_len a n) ≡ flat_map g (range_with_len a n)
same_below f g a zero h = refl
same_below f g a (suc n) h =
    ap (λ (l : List ℕ). l ++ flat_map f (range_with_len (a + 1) n)) (h a (omega arith)) ∙ ap (λ (l : List ℕ). g a ++ l) (same_below f g (a + 1) n (λ i k. h i (omega arith)))

piece_at : (size : Size) (idr : Bool) (poc across n row : ℕ) (a b : List ℕ) → ctus size.w ≡ across → ctus size.h ≡ n → a ≡ b → segment_unit idr poc (row * across) (across * n) a ≡ segment_piece size idr poc row b
unfolding segment_piece
piece_at size idr poc across n row a b wide high same =
    ap (λ (w : ℕ). segment_unit idr poc (row * w) (w * n) a) (sym wide)
    ∙ (ap (λ (h : ℕ). segment_unit idr poc (row * ctus size.w) (ctus size.w * h) a) (sym high)
    ∙ ap (λ (l : List ℕ). segment_unit idr poc (row * ctus size.w) (ctus size.w * ctus size.h) l) same)

pub all_rows : (size : Size) (code : ℕ → List ℕ) (idr : Bool) (poc across n i : ℕ) (lists : List (List ℕ)) (all : List ℕ) → ctus size.w ≡ across → lists ≡ map code (below (ctus size.h)) → length lists ≡ n → i ≡ n
    → all ≡ flat_map (unit_at idr poc across n lists) (below i) → all ≡ flat_map (λ row. segment_piece size idr poc row (code row)) (below (ctus size.h))
all_rows size code idr poc across n i lists all wide are long done e =
    let high : ctus size.h ≡ n = sym (length-map-range_with_len code 0 (ctus size.h)) ∙ (ap length (sym are) ∙ long) in
    let last : i ≡ ctus size.h = omega arith in
    e
    ∙ (ap (λ (k : ℕ). flat_map (unit_at idr poc across n lists) (below k)) last
    ∙ same_below (unit_at idr poc across n lists) (λ row. segment_piece size idr poc row (code row)) 0 (ctus size.h) (λ row less.
    piece_at size idr poc across n row (get_or lists row []) (code row) wide high
    (ap (λ (l : List (List ℕ)). get_or l row []) are ∙ get_or-map-range_with_len code 0 (ctus size.h) row row [] (omega arith) (omega arith))))
