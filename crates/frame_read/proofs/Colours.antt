-- Colours of three bytes each.
use Rattle.std.proofs.Common.{◌≡◌, ℕ, zero, suc, ◌+◌, ◌-◌, ◌*◌, ◌<◌, ◌≤◌, List, [], ◌∷◌, ◌++◌, length, take, drop, get_or, set, refl, sym, ap, ◌∙◌, ◌⊎◌, inl, inr, arith, below_more}
use Rattle.std.proofs.lemmas.List.{same_lists, get_or-set_same, get_or-set_other, get_or-take, get_or-drop, get_or_append_left, get_or-append-add, length-take-le, length-drop}
use Rattle.std.proofs.lemmas.Bool.{cases_lt}
use borrow.Rule.Slice.PartMut.{put_mid, post_of, mid_of, same_len_mid}
use Rattle.h265_model.specs.declared.rgb.Rgb.{Rgb}
use Rattle.frame_read.specs.Pixels.{colours}

pub length-colours : (bytes : List ℕ) (n : ℕ) → length bytes ≡ 3 * n → length (colours bytes) ≡ n
unfolding colours
length-colours [] n h = omega arith
length-colours (r ∷ []) n h = absurd (omega arith)
length-colours (r ∷ g ∷ []) n h = absurd (omega arith)
length-colours (r ∷ g ∷ b ∷ bytes) zero h = absurd (omega arith)
length-colours (r ∷ g ∷ b ∷ bytes) (suc n) h = let one : length (colours bytes) ≡ n = length-colours bytes n (omega arith) in omega arith

abbrev pub colour_from : List ℕ → ℕ → Rgb
colour_from bytes at = record { r = get_or bytes at 0; g = get_or bytes (at + 1) 0; b = get_or bytes (at + 2) 0 }

pub colour_at : (bytes : List ℕ) (n k : ℕ) (d : Rgb) → length bytes ≡ 3 * n → k < n → get_or (colours bytes) k d ≡ colour_from bytes (3 * k)
unfolding colours
colour_at [] n k d h less = absurd (omega arith)
colour_at (r ∷ []) n k d h less = absurd (omega arith)
colour_at (r ∷ g ∷ []) n k d h less = absurd (omega arith)
colour_at (r ∷ g ∷ b ∷ bytes) zero k d h less = absurd (omega arith)
colour_at (r ∷ g ∷ b ∷ bytes) (suc n) zero d h less = refl
colour_at (r ∷ g ∷ b ∷ bytes) (suc n) (suc k) d h less =
    let all : List ℕ = r ∷ g ∷ b ∷ bytes in
    let first : 3 * suc k ≡ suc (suc (suc (3 * k))) = omega arith in
    let second : 3 * suc k + 1 ≡ suc (suc (suc (3 * k + 1))) = omega arith in
    let third : 3 * suc k + 2 ≡ suc (suc (suc (3 * k + 2))) = omega arith in
    colour_at bytes n k d (omega arith) (omega arith)
    ∙ (ap (λ (i : ℕ). let c : Rgb = record { r = get_or all i 0; g = get_or bytes (3 * k + 1) 0; b = get_or bytes (3 * k + 2) 0 } in c) (sym first)
    ∙ (ap (λ (i : ℕ). let c : Rgb = record { r = get_or all (3 * suc k) 0; g = get_or all i 0; b = get_or bytes (3 * k + 2) 0 } in c) (sym second)
    ∙ ap (λ (i : ℕ). let c : Rgb = record { r = get_or all (3 * suc k) 0; g = get_or all (3 * suc k + 1) 0; b = get_or all i 0 } in c) (sym third)))

pub colours-append : (front back : List ℕ) (n : ℕ) → length front ≡ 3 * n → colours (front ++ back) ≡ colours front ++ colours back
unfolding colours
colours-append [] back n h = refl
colours-append (r ∷ []) back n h = absurd (omega arith)
colours-append (r ∷ g ∷ []) back n h = absurd (omega arith)
colours-append (r ∷ g ∷ b ∷ front) back zero h = absurd (omega arith)
colours-append (r ∷ g ∷ b ∷ front) back (suc n) h =
    let c : Rgb = record { r = r; g = g; b = b } in ap (λ (l : List Rgb). c ∷ l) (colours-append front back n (omega arith))

-- one pixel more
pub colour_laid : (bytes : List ℕ) (pixels : List Rgb) (i : ℕ) → length bytes ≡ 3 * length pixels → i < length pixels
    → ((k : ℕ) (d : Rgb) → k < i → get_or pixels k d ≡ get_or (colours bytes) k d)
    → (k : ℕ) (d : Rgb) → k < i + 1 → get_or (set pixels i (colour_from bytes (3 * i))) k d ≡ get_or (colours bytes) k d
colour_laid bytes pixels i long less known k d below =
    below_more (λ k. get_or (set pixels i (colour_from bytes (3 * i))) k d ≡ get_or (colours bytes) k d) i
    (λ k h. get_or-set_other pixels i k (colour_from bytes (3 * i)) d (omega arith) ∙ known k d h)
    (get_or-set_same pixels i (colour_from bytes (3 * i)) d less ∙ sym (colour_at bytes (length pixels) i d long less))
    k below

pub all_laid : (bytes : List ℕ) (pixels : List Rgb) (i : ℕ) → length bytes ≡ 3 * length pixels → length pixels ≤ i
    → ((k : ℕ) (d : Rgb) → k < i → get_or pixels k d ≡ get_or (colours bytes) k d) → pixels ≡ colours bytes
all_laid bytes pixels i long whole known = same_lists pixels (colours bytes) (sym (length-colours bytes (length pixels) long)) (λ k d h. known k d (omega arith))

-- ---- a part of the pixels

module _ (bytes : List ℕ) (at m : ℕ) where
  byte_in : (i j : ℕ) → i < m → j ≡ 3 * at + i → get_or (take m (drop (3 * at) bytes)) i 0 ≡ get_or bytes j 0
  byte_in i j less same = get_or-take m (drop (3 * at) bytes) i 0 less ∙ (get_or-drop (3 * at) bytes i 0 ∙ ap (λ (k : ℕ). get_or bytes k 0) (sym same))

  colour_in_part : (k j i : ℕ) → m ≡ 3 * k → j < k → i ≡ at + j → colour_from (take m (drop (3 * at) bytes)) (3 * j) ≡ colour_from bytes (3 * i)
  colour_in_part k j i long less same =
      let part : List ℕ = take m (drop (3 * at) bytes) in
      ap (λ (v : ℕ). let c : Rgb = record { r = v; g = get_or part (3 * j + 1) 0; b = get_or part (3 * j + 2) 0 } in c) (byte_in (3 * j) (3 * i) (omega arith) (omega arith))
      ∙ (ap (λ (v : ℕ). let c : Rgb = record { r = get_or bytes (3 * i) 0; g = v; b = get_or part (3 * j + 2) 0 } in c) (byte_in (3 * j + 1) (3 * i + 1) (omega arith) (omega arith))
      ∙ ap (λ (v : ℕ). let c : Rgb = record { r = get_or bytes (3 * i) 0; g = get_or bytes (3 * i + 1) 0; b = v } in c) (byte_in (3 * j + 2) (3 * i + 2) (omega arith) (omega arith)))

pub part_laid : (bytes : List ℕ) (pixels part : List Rgb) (at k m room : ℕ) → length bytes ≡ 3 * length pixels → at + k ≤ length pixels → m ≡ 3 * k
    → part ≡ colours (take m (drop (3 * at) bytes))
    → ((i : ℕ) (d : Rgb) → i < at → get_or pixels i d ≡ get_or (colours bytes) i d)
    → (i : ℕ) (d : Rgb) → i < at + k → get_or (put_mid at room pixels part) i d ≡ get_or (colours bytes) i d
part_laid bytes pixels part at k m room long within many laid known i d below = go (cases_lt i at)
  where
    front : length (take at pixels) ≡ at
    front = length-take-le at pixels (omega arith)

    rest : length (drop (3 * at) bytes) ≡ length bytes - 3 * at
    rest = length-drop (3 * at) bytes

    taken : length (take m (drop (3 * at) bytes)) ≡ 3 * k
    taken = length-take-le m (drop (3 * at) bytes) (omega (arith, rest)) ∙ many

    count : length part ≡ k
    count = ap length laid ∙ length-colours (take m (drop (3 * at) bytes)) k taken

    go : (i < at) ⊎ (at ≤ i) → get_or (put_mid at room pixels part) i d ≡ get_or (colours bytes) i d
    go (inl before) =
        get_or_append_left (take at pixels) (part ++ post_of at room pixels) d i (omega (arith, front))
        ∙ (get_or-take at pixels i d before ∙ known i d before)
    go (inr behind) =
        let j : ℕ = i - at in
        let place : i ≡ length (take at pixels) + j = omega (arith, front) in
        let less : j < k = omega arith in
        ap (λ (n : ℕ). get_or (put_mid at room pixels part) n d) place
        ∙ (get_or-append-add (take at pixels) (part ++ post_of at room pixels) j d
        ∙ (get_or_append_left part (post_of at room pixels) d j (omega (arith, count))
        ∙ (ap (λ (l : List Rgb). get_or l j d) laid
        ∙ (colour_at (take m (drop (3 * at) bytes)) k j d taken less
        ∙ (colour_in_part bytes at m k j i many less (omega arith)
        ∙ sym (colour_at bytes (length pixels) i d long (omega arith)))))))

-- all parts
pub parts_laid : (bytes : List ℕ) (pixels part : List Rgb) (at m : ℕ) → length bytes ≡ 3 * length pixels → at ≤ length pixels → m ≡ length bytes - 3 * at
    → part ≡ colours (take m (drop (3 * at) bytes))
    → ((i : ℕ) (d : Rgb) → i < at → get_or pixels i d ≡ get_or (colours bytes) i d)
    → put_mid at (length pixels - at) pixels part ≡ colours bytes
parts_laid bytes pixels part at m long within many laid known =
    let k : ℕ = length pixels - at in
    let rest : length (drop (3 * at) bytes) ≡ length bytes - 3 * at = length-drop (3 * at) bytes in
    let taken : length (take m (drop (3 * at) bytes)) ≡ 3 * k = length-take-le m (drop (3 * at) bytes) (omega arith) ∙ omega arith in
    let count : length part ≡ k = ap length laid ∙ length-colours (take m (drop (3 * at) bytes)) k taken in
    let left : length (drop at pixels) ≡ k = length-drop at pixels in
    let room : length (mid_of at k pixels) ≡ k = length-take-le k (drop at pixels) (omega arith) in
    let whole : length (put_mid at k pixels part) ≡ length pixels = same_len_mid at k pixels part (count ∙ sym room) in
    same_lists (put_mid at k pixels part) (colours bytes) (whole ∙ sym (length-colours bytes (length pixels) long))
    (λ i d h. part_laid bytes pixels part at k m k long (omega arith) (omega arith) laid known i d (omega arith))
