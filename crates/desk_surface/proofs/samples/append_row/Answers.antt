use Rattle.std.proofs.Common.{◌≡◌, ℕ, ◌+◌, ◌-◌, ◌<◌, ◌≤◌, List, ◌++◌, length, map, take, drop, get_or, replicate, ap, ◌∙◌, append_assoc, arith}
use Rattle.std.proofs.lemmas.List.{places, get_or-replicate, length-replicate, get_or-drop, get_or-take}
use Rattle.h265_model.specs.Plain.{below}
use Rattle.px_plane.specs.Planes.{picture_of}
use Rattle.desk_surface.proofs.Outside.{row_with_zeros}
use Rattle.desk_surface.proofs.samples.append_row.Goals as goal

some_zeros : (n : ℕ) → n ≤ 32 → let zero_sample : ℕ = 0 in length (take (32 - n) (drop n (replicate 32 zero_sample))) ≡ 32 - n
some_zeros n most = let zero_sample : ℕ = 0 in grind (arith, places, length-replicate 32 zero_sample)

zero_at : (n i : ℕ) → n ≤ 32 → i < 32 - n → let zero_sample : ℕ = 0 in get_or (take (32 - n) (drop n (replicate 32 zero_sample))) i 0 ≡ 0
zero_at n i most less = let zero_sample : ℕ = 0 in get_or-take (32 - n) (drop n (replicate 32 zero_sample)) i 0 less ∙ (get_or-drop n (replicate 32 zero_sample) i 0 ∙ get_or-replicate 32 (n + i) zero_sample 0 (omega arith))

pub returns : goal.returns
returns c =
    let zero_sample : ℕ = 0 in
    let n : ℕ = c.places_within-within.result in
    let most : n ≤ 32 = c.places_within-within.ensures.most in
    let zeros : List ℕ = take (32 - n) (drop n (replicate 32 zero_sample)) in
    let f : ℕ → ℕ = λ i. picture_of c.args.picture.now c.args.component (c.args.x + i) c.args.y in
    let old : List ℕ = c.args.out.now.items in
    let front : c.append_front.new.out.items ≡ old ++ map f (below n) = c.in_ok-append_front.ensures in
    let back : c.extend_from_slice.new.self.items ≡ c.append_front.new.out.items ++ zeros = c.in_ok-extend_from_slice.ensures.items in
    back ∙ (ap (λ l. l ++ zeros) front ∙ (append_assoc old (map f (below n)) zeros ∙ ap (λ l. old ++ l) (row_with_zeros f n zeros most (some_zeros n most) (λ i less. zero_at n i most less) (c.places_within-within.ensures.outside c.args.component))))
