-- The leaves that are chosen of a picture: row by row, and lawful.
use Rattle.std.proofs.Common.{◌≡◌, refl, sym, ◌∙◌, ap, subst, ℕ, zero, suc, ◌+◌, ◌*◌, ◌-◌, ◌<◌, ◌≤◌, List, [], ◌∷◌, Bool, true, false, cond, take, drop, get_or, map, arith}
use Rattle.std.specs.Prelude.{Option, Some, None, is_none, nat_lt, ◌&&◌}
use Rattle.std.specs.List.{range_with_len}
use Rattle.std.proofs.lemmas.List.FromFn.{take-map-range_with_len, length-map-range_with_len, get_or-map-range_with_len}
use Rattle.std.proofs.lemmas.Nat.{mul-le}
use Rattle.h265_model.specs.declared.leaf.Leaf.{Leaf}
use Rattle.h265_model.specs.Plain.{Size, Picture, IsPicture, AreBytes, coded, ctus, below}
use Rattle.h265_model.specs.Choice.{choice}
use Rattle.h265_model.specs.Slice.{IsSlice}
use Rattle.h265_model.specs.Stream.{slice_kind}
use Rattle.h265_model.specs.Tree.{AreLawfulTrees, AreAllowed, IsLawfulTree, source_of}
use Rattle.h265_laws.proofs.ChoiceLaw.{choice_is_lawful, choice_is_fair, allowed_alone, allowed_after, lawful_alone, lawful_after}
use Rattle.h265_laws.proofs.PredictionLaw.{source_is}
use Rattle.px_plane.specs.Planes.{Planes, plane_of, picture_of}
use Rattle.row_coder.specs.Rows.{AreTrees, AreAbove}

-- ---- rows of a list

module _ {A : Type 0} (f : ℕ → A) where
  drop_counting : (k a n : ℕ) → k ≤ n → drop k (map f (range_with_len a n)) ≡ map f (range_with_len (a + k) (n - k))
  drop_counting zero a n h =
      let e : a ≡ a + 0 = omega arith in
      let d : n ≡ n - 0 = omega arith in
      ap (λ (b : ℕ). map f (range_with_len b n)) e ∙ ap (λ (m : ℕ). map f (range_with_len (a + 0) m)) d
  drop_counting (suc k) a zero h = absurd (omega arith)
  drop_counting (suc k) a (suc n) h =
      let e : a + 1 + k ≡ a + suc k = omega arith in
      let d : n - k ≡ suc n - suc k = omega arith in
      drop_counting k (a + 1) n (omega arith)
      ∙ (ap (λ (b : ℕ). map f (range_with_len b (n - k))) e ∙ ap (λ (m : ℕ). map f (range_with_len (a + suc k) m)) d)

  pub row_of_all : (w h row : ℕ) → row < h → take w (drop (row * w) (map f (range_with_len 0 (w * h)))) ≡ map f (range_with_len (row * w) w)
  row_of_all w h row less =
      let m : suc row * w ≤ h * w = mul-le (suc row) w h w less (omega arith) in
      let turned : w * h ≡ h * w = omega arith in
      let one : suc row * w ≡ row * w + w = omega arith in
      let room : w ≤ w * h - row * w = omega arith in
      let e : 0 + row * w ≡ row * w = omega arith in
      ap (take w) (drop_counting (row * w) 0 (w * h) (omega arith))
      ∙ (ap (λ (b : ℕ). take w (map f (range_with_len b (w * h - row * w)))) e ∙ take-map-range_with_len f (row * w) (w * h - row * w) w room)

-- ---- lawful leaves

module _ (now : Picture) (size : Size) (effort : ℕ) where
  pub lawful_are : (reference : Option Picture) (total : ℕ) → AreLawfulTrees (slice_kind (is_none reference)) size (map (choice reference now size effort) (below total)) total
  lawful_are None total = lawful_alone now size effort total
  lawful_are (Some last) total = lawful_after (Some last) now size effort total

  pub allowed_is : (reference : Option Picture) (ctu : ℕ) → AreAllowed (slice_kind (is_none reference)) (choice reference now size effort ctu)
  allowed_is None ctu = allowed_alone now _ (choice_is_fair None now size effort ctu)
  allowed_is (Some last) ctu = allowed_after (choice (Some last) now size effort ctu)

  pub above_are : (reference : Option Picture) (row : ℕ) → AreAbove size row (map (choice reference now size effort) (range_with_len (row * ctus size.w) (ctus size.w)))
  above_are reference row = record {
    many = length-map-range_with_len (choice reference now size effort) (row * ctus size.w) (ctus size.w);
    tree = λ i h. subst (λ (l : List Leaf). IsLawfulTree size (row * ctus size.w + i) l)
        (sym (get_or-map-range_with_len (choice reference now size effort) (row * ctus size.w) (ctus size.w) i (row * ctus size.w + i) [] h refl))
        (choice_is_lawful reference now size effort (row * ctus size.w + i));
  }

  pub trees_are : (reference : Option Picture) (row : ℕ) → AreTrees (slice_kind (is_none reference)) size row (map (choice reference now size effort) (range_with_len (row * ctus size.w) (ctus size.w)))
  trees_are reference row = record {
    many = (above_are reference row).many;
    tree = (above_are reference row).tree;
    allowed = λ i h. subst (λ (l : List Leaf). AreAllowed (slice_kind (is_none reference)) l)
        (sym (get_or-map-range_with_len (choice reference now size effort) (row * ctus size.w) (ctus size.w) i (row * ctus size.w + i) [] h refl))
        (allowed_is reference (row * ctus size.w + i));
  }

  pub slice_is : (reference : Option Picture) → 0 < ctus size.w → IsPicture now
      → IsSlice (slice_kind (is_none reference)) size (source_of size now) (map (choice reference now size effort) (below (ctus size.w * ctus size.h)))
  slice_is reference wide bytes = record {
    wide = wide;
    many = length-map-range_with_len (choice reference now size effort) 0 (ctus size.w * ctus size.h);
    lawful = lawful_are reference (ctus size.w * ctus size.h);
    source_is = source_is size now bytes;
  }

-- ---- samples

byte_at : (list : List ℕ) (i : ℕ) → AreBytes list → get_or list i 0 < 256
byte_at [] i h = omega arith
byte_at (b ∷ list) zero h = h.0
byte_at (b ∷ list) (suc i) h = byte_at list i h.1

pub bytes_are : (p : Planes) → AreBytes (plane_of p 0) → AreBytes (plane_of p 1) → AreBytes (plane_of p 2) → IsPicture (picture_of p)
unfolding picture_of
bytes_are p g b r = record { each = λ c x y. inside (nat_lt x (coded p.size.w) && nat_lt y (coded p.size.h)) _ (at_plane c (y * coded p.size.w + x)) }
  where
    at_plane : (c i : ℕ) → get_or (plane_of p c) i 0 < 256
    at_plane zero i = byte_at p.g i g
    at_plane (suc zero) i = byte_at p.b i b
    at_plane (suc (suc c)) i = byte_at p.r i r

    inside : (t : Bool) (v : ℕ) → v < 256 → cond t v 0 < 256
    inside true v h = h
    inside false v h = omega arith
