-- Predictions are samples, so what a picture gives of its leaves can be written.
use Rattle.std.proofs.Common.{◌≡◌, sym, ◌∙◌, ap, subst, ℕ, zero, suc, ◌+◌, ◌-◌, ◌*◌, ◌/◌, ◌^◌, ◌<◌, ◌≤◌, List, [], ◌∷◌, Bool, true, false, cond, ◌&&◌, length, get_or, take, drop, map, sum, arith, le_refl, pow-suc, pow_pos}
use Rattle.std.specs.Prelude.{Option, Some, None, ℤ, pos, negsuc, ◌-ℤ◌, ◌*ℤ◌, nat_abs, ◌==◌, nat_le, MatchOption}
use Rattle.std.specs.List.{AllByRecursion, range_with_len}
use Rattle.std.proofs.lemmas.Nat.{mul-le, div_below}
use Rattle.std.proofs.lemmas.Int.{ints}
use Rattle.std.proofs.lemmas.List.Sums.{sum_by-cons}
use Rattle.h265_model.specs.Plain.{block_at, Size, Picture, IsPicture}
use Rattle.h265_model.specs.Contexts.{clip}
use Rattle.h265_model.specs.Predict.{seen, neighbours, first_seen, filled, substituted, smoothed_after, smoothed, is_filtered, references, across, down, planar, has_edges, mean, dc_edge, dc, angle, inverse_angle, along, fraction, between, directed, straight_edge, is_straight, angular_from, angular, predicted, predict, prediction, is_available}
use Rattle.h265_model.specs.Residual.{AreLevels}
use Rattle.h265_model.specs.Tree.{source_of, IsSource, differences, samples_in, mode_of}
use Rattle.h265_model.proofs.Squares.{all_places}
use Rattle.h265_laws.proofs.RebuildLaw.{length_prediction, length_samples, samples_are}

abbrev AreSamples : List ℕ → Type 0
AreSamples list = AllByRecursion (λ v. v < 256) list

abbrev AreSeen : List (Option ℕ) → Type 0
AreSeen line = AllByRecursion (λ o. MatchOption o (Unit {0}) (λ v. v < 256)) line

-- ---- reference samples

seen_is : (size : Size) (picture : Picture) (component x y px py : ℕ) → IsPicture picture → MatchOption (seen size picture component x y px py) (Unit {0}) (λ v. v < 256)
seen_is size picture component x y zero py is = tt
seen_is size picture component x y (suc px) zero is = tt
seen_is size picture component x y (suc px) (suc py) is = go (is_available size x y px py)
  where
    go : (b : Bool) → MatchOption (cond b (Some (picture component px py)) None) (Unit {0}) (λ v. v < 256)
    go true = is.each component px py
    go false = tt

all_of : {A : Type 0} (T : A → Type 0) (a n : ℕ) (f : ℕ → A) → ((i : ℕ) → T (f i)) → AllByRecursion T (map f (range_with_len a n))
all_of T a zero f h = tt
all_of T a (suc n) f h = (h a, all_of T (a + 1) n f h)

neighbours_are : (size : Size) (picture : Picture) (component x y log2 : ℕ) → IsPicture picture → AreSeen (neighbours size picture component (block_at x y log2))
unfolding neighbours
neighbours_are size picture component x y log2 is =
    let n : ℕ = 2 ^ log2 in
    all_of (λ o. MatchOption o (Unit {0}) (λ v. v < 256)) 0 (4 * n + 1) (λ i. seen size picture component x y (x + (i - 2 * n)) (y + (2 * n - i)))
    (λ i. seen_is size picture component x y (x + (i - 2 * n)) (y + (2 * n - i)) is)

first_is : (line : List (Option ℕ)) → AreSeen line → first_seen line < 256
first_is [] h = omega arith
first_is (None ∷ line) h = first_is line h.1
first_is (Some v ∷ line) h = h.0

filled_are : (before : ℕ) (line : List (Option ℕ)) → before < 256 → AreSeen line → AreSamples (filled before line)
filled_are before [] b h = tt
filled_are before (None ∷ line) b h = (b, filled_are before line b h.1)
filled_are before (Some v ∷ line) b h = (h.0, filled_are v line h.0 h.1)

smoothed_after_are : (before : ℕ) (line : List ℕ) → before < 256 → AreSamples line → AreSamples (smoothed_after before line)
smoothed_after_are before [] b h = tt
smoothed_after_are before (last ∷ []) b h = h
smoothed_after_are before (it ∷ after ∷ line) b h =
    let i : it < 256 = h.0 in
    let a : after < 256 = h.1.0 in
    (omega arith, smoothed_after_are it (after ∷ line) h.0 h.1)

smoothed_are : (line : List ℕ) → AreSamples line → AreSamples (smoothed line)
smoothed_are [] h = tt
smoothed_are (first ∷ line) h = (h.0, smoothed_after_are first line h.0 h.1)

references_are : (size : Size) (picture : Picture) (mode component x y log2 : ℕ) → IsPicture picture → AreSamples (references size picture mode component (block_at x y log2))
unfolding references
references_are size picture mode component x y log2 is = go (is_filtered mode log2)
  where
    line : List ℕ
    line = substituted (neighbours size picture component (block_at x y log2))

    line_are : AreSamples line
    line_are = let n : AreSeen (neighbours size picture component (block_at x y log2)) = neighbours_are size picture component x y log2 is in filled_are _ _ (first_is _ n) n

    go : (b : Bool) → AreSamples (cond b (smoothed line) line)
    go true = smoothed_are line line_are
    go false = line_are

-- ---- predicted samples

sample_at : (refs : List ℕ) (i : ℕ) → AreSamples refs → get_or refs i 0 < 256
sample_at [] i h = omega arith
sample_at (v ∷ refs) zero h = h.0
sample_at (v ∷ refs) (suc i) h = sample_at refs i h.1

times : (m v : ℕ) → v < 256 → m * v ≤ m * 255
times m v h = mul-le m v m 255 (le_refl m) (omega arith)

-- a mean whose weights are 2n together
weighed : (n m p q r s a b c d : ℕ) → 0 < n → m ≡ 2 * n → p + q ≡ n → r + s ≡ n → a < 256 → b < 256 → c < 256 → d < 256
    → (p * a + q * b + r * c + s * d + n) / m < 256
weighed n m p q r s a b c d some e f g ha hb hc hd =
    let x : p * a ≤ p * 255 = times p a ha in
    let y : q * b ≤ q * 255 = times q b hb in
    let z : r * c ≤ r * 255 = times r c hc in
    let w : s * d ≤ s * 255 = times s d hd in
    div_below (p * a + q * b + r * c + s * d + n) m 256 (omega arith) (omega arith)

twice : (log2 : ℕ) → 2 ^ (log2 + 1) ≡ 2 * 2 ^ log2
twice log2 = let e : log2 + 1 ≡ suc log2 = omega arith in ap (λ (k : ℕ). 2 ^ k) e ∙ (pow-suc 2 log2 ∙ omega arith)

planar_is : (log2 x y : ℕ) (refs : List ℕ) → AreSamples refs → x < 2 ^ log2 → y < 2 ^ log2 → planar log2 refs x y < 256
planar_is log2 x y refs h hx hy =
    let n : ℕ = 2 ^ log2 in
    weighed n (2 ^ (log2 + 1)) (n - 1 - x) (x + 1) (n - 1 - y) (y + 1) (down refs n (y + 1)) (across refs n (n + 1)) (across refs n (x + 1)) (down refs n (n + 1))
    (pow_pos log2) (twice log2) (rest n x hx) (rest n y hy) (sample_at refs _ h) (sample_at refs _ h) (sample_at refs _ h) (sample_at refs _ h)
  where
    rest : (n x : ℕ) → x < n → (n - 1 - x) + (x + 1) ≡ n
    rest n x h = omega arith

sum_is : (n : ℕ) (list : List ℕ) → AreSamples list → sum (take n list) ≤ n * 255
sum_is zero list h = omega arith
sum_is (suc n) [] h = omega arith
sum_is (suc n) (v ∷ list) h =
    let e : sum (v ∷ take n list) ≡ v + sum (take n list) = sum_by-cons (λ x. x) v (take n list) in
    let b : v < 256 = h.0 in
    let s : sum (take n list) ≤ n * 255 = sum_is n list h.1 in
    subst (λ (k : ℕ). k ≤ suc n * 255) (sym e) (omega arith)

drop_are : (n : ℕ) (list : List ℕ) → AreSamples list → AreSamples (drop n list)
drop_are zero list h = h
drop_are (suc n) [] h = h
drop_are (suc n) (v ∷ list) h = drop_are n list h.1

mean_is : (log2 : ℕ) (refs : List ℕ) → AreSamples refs → mean log2 refs < 256
mean_is log2 refs h =
    let n : ℕ = 2 ^ log2 in
    let a : sum (take n (drop (2 * n + 1) refs)) ≤ n * 255 = sum_is n (drop (2 * n + 1) refs) (drop_are (2 * n + 1) refs h) in
    let b : sum (take n (drop n refs)) ≤ n * 255 = sum_is n (drop n refs) (drop_are n refs h) in
    let some : 0 < n = pow_pos log2 in
    let m : 2 ^ (log2 + 1) ≡ 2 * n = twice log2 in
    div_below (sum (take n (drop (2 * n + 1) refs)) + sum (take n (drop n refs)) + n) (2 ^ (log2 + 1)) 256 (omega arith) (omega arith)

quarter_mean : (a d b : ℕ) → a < 256 → d < 256 → b < 256 → (a + 2 * d + b + 2) / 4 < 256
quarter_mean a d b ha hd hb = omega arith

quarter_edge : (a d : ℕ) → a < 256 → d < 256 → (a + 3 * d + 2) / 4 < 256
quarter_edge a d ha hd = omega arith

dc_edge_is : (d n x y : ℕ) (refs : List ℕ) → AreSamples refs → d < 256 → dc_edge d n refs x y < 256
dc_edge_is d n zero zero refs h small = quarter_mean (down refs n 1) d (across refs n 1) (sample_at refs _ h) small (sample_at refs _ h)
dc_edge_is d n (suc x) zero refs h small = quarter_edge (across refs n (x + 2)) d (sample_at refs _ h) small
dc_edge_is d n zero (suc y) refs h small = quarter_edge (down refs n (y + 2)) d (sample_at refs _ h) small
dc_edge_is d n (suc x) (suc y) refs h small = small

dc_is : (component log2 x y : ℕ) (refs : List ℕ) → AreSamples refs → dc component log2 refs x y < 256
dc_is component log2 x y refs h = go (has_edges component log2)
  where
    go : (b : Bool) → cond b (dc_edge (mean log2 refs) (2 ^ log2) refs x y) (mean log2 refs) < 256
    go true = dc_edge_is (mean log2 refs) (2 ^ log2) x y refs h (mean_is log2 refs h)
    go false = mean_is log2 refs h

abbrev AreSides : (ℕ → ℕ) → Type 0
AreSides side = (i : ℕ) → side i < 256

along_is : (main other : ℕ → ℕ) (inverse : ℕ) (i : ℤ) → AreSides main → AreSides other → along main other inverse i < 256
along_is main other inverse (pos i) hm ho = hm i
along_is main other inverse (negsuc i) hm ho = ho (((i + 1) * inverse + 128) / 256)

fraction_is : (v : ℤ) → fraction v < 32
fraction_is (pos n) = omega arith
fraction_is (negsuc n) = omega arith

between_is : (f a b : ℕ) → f < 32 → a < 256 → b < 256 → between f a b < 256
between_is f a b hf ha hb = go (f == 0)
  where
    go : (t : Bool) → cond t a (((32 - f) * a + f * b + 16) / 32) < 256
    go true = ha
    go false =
        let x : (32 - f) * a ≤ (32 - f) * 255 = times (32 - f) a ha in
        let y : f * b ≤ f * 255 = times f b hb in
        omega arith

clip_is : (v : ℤ) → clip 0 255 v < 256
clip_is (pos n) = omega arith
clip_is (negsuc n) = omega arith

directed_is : (main other : ℕ → ℕ) (mode x y : ℕ) → AreSides main → AreSides other → directed main other mode x y < 256
directed_is main other mode x y hm ho =
    between_is (fraction (pos (y + 1) *ℤ angle mode)) _ _ (fraction_is (pos (y + 1) *ℤ angle mode)) (along_is main other (inverse_angle mode) _ hm ho) (along_is main other (inverse_angle mode) _ hm ho)

angular_from_is : (main other : ℕ → ℕ) (edges : Bool) (mode x y : ℕ) → AreSides main → AreSides other → angular_from main other edges mode x y < 256
angular_from_is main other edges mode x y hm ho = go (edges && is_straight mode && x == 0)
  where
    go : (t : Bool) → cond t (straight_edge main other y) (directed main other mode x y) < 256
    go true = clip_is _
    go false = directed_is main other mode x y hm ho

angular_is : (mode component log2 x y : ℕ) (refs : List ℕ) → AreSamples refs → angular mode component log2 refs x y < 256
angular_is mode component log2 x y refs h = go (nat_le 18 mode)
  where
    n : ℕ
    n = 2 ^ log2

    go : (t : Bool) → cond t (angular_from (across refs n) (down refs n) (has_edges component log2) mode x y) (angular_from (down refs n) (across refs n) (has_edges component log2) mode y x) < 256
    go true = angular_from_is (across refs n) (down refs n) (has_edges component log2) mode x y (λ i. sample_at refs (2 * n + i) h) (λ i. sample_at refs (2 * n - i) h)
    go false = angular_from_is (down refs n) (across refs n) (has_edges component log2) mode y x (λ i. sample_at refs (2 * n - i) h) (λ i. sample_at refs (2 * n + i) h)

predicted_is : (mode component log2 x y : ℕ) (refs : List ℕ) → AreSamples refs → x < 2 ^ log2 → y < 2 ^ log2 → predicted mode component log2 refs x y < 256
predicted_is zero component log2 x y refs h hx hy = planar_is log2 x y refs h hx hy
predicted_is (suc zero) component log2 x y refs h hx hy = dc_is component log2 x y refs h
predicted_is (suc (suc m)) component log2 x y refs h hx hy = angular_is (suc (suc m)) component log2 x y refs h

-- predictions are samples
pub prediction_is : (size : Size) (picture : Picture) (mode component x y log2 : ℕ) → IsPicture picture → AllByRecursion (λ v. v < 256) (prediction size picture mode component (block_at x y log2))
unfolding predict
prediction_is size picture mode component x y log2 is =
    all_places (λ v. v < 256) (2 ^ log2) (2 ^ log2) (predicted mode component log2 (references size picture mode component (block_at x y log2)))
    (λ u v hu hv. predicted_is mode component log2 u v (references size picture mode component (block_at x y log2)) (references_are size picture mode component x y log2 is) hu hv)

-- ---- levels

level_is : (a b : ℕ) → a < 256 → b < 256 → nat_abs (pos a -ℤ pos b) ≤ 255
level_is a b ha hb = omega (arith, ints)

differences_are : (ss ps : List ℕ) → AreSamples ss → AreSamples ps → AreLevels (differences ss ps)
differences_are [] ps h k = tt
differences_are (s ∷ ss) [] h k = tt
differences_are (s ∷ ss) (p ∷ ps) h k = (level_is s p h.0 k.0, differences_are ss ps h.1 k.1)

length_differences : (ss ps : List ℕ) (n : ℕ) → length ss ≡ n → length ps ≡ n → length (differences ss ps) ≡ n
length_differences [] ps n h k = h
length_differences (s ∷ ss) [] n h k = absurd (omega arith)
length_differences (s ∷ ss) (p ∷ ps) zero h k = absurd (omega arith)
length_differences (s ∷ ss) (p ∷ ps) (suc n) h k = ap suc (length_differences ss ps n (omega arith) (omega arith))

-- what a picture gives of its leaves can be written
pub source_is : (size : Size) (picture : Picture) → IsPicture picture → IsSource (source_of size picture)
unfolding source_of
source_is size picture is = record {
  levels_long = λ leaf component.
      length_differences (samples_in picture leaf component) (prediction size picture (mode_of leaf.kind) component leaf.block) (2 ^ leaf.block.log2 * 2 ^ leaf.block.log2)
      (length_samples picture leaf component) (length_prediction size picture (mode_of leaf.kind) component leaf.block.x leaf.block.y leaf.block.log2);
  levels_fit = λ leaf component.
      differences_are (samples_in picture leaf component) (prediction size picture (mode_of leaf.kind) component leaf.block)
      (samples_are picture leaf component is) (prediction_is size picture (mode_of leaf.kind) component leaf.block.x leaf.block.y leaf.block.log2 is);
  samples_long = λ leaf component. length_samples picture leaf component;
  samples_fit = λ leaf component. samples_are picture leaf component is;
}
