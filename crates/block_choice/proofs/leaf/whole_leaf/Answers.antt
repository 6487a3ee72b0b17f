use Rattle.std.proofs.Common.{◌≡◌, ℕ, ◌+◌, ◌-◌, ◌*◌, ◌/◌, ◌%◌, ◌≤◌, ◌^◌, sym, ap, ◌∙◌, arith}
use Rattle.std.proofs.lemmas.Bool.{false≢true}
use Rattle.h265_model.specs.Plain.{Size, coded}
use Rattle.px_plane.specs.Planes.{picture_of}
use Rattle.intra_refs.proofs.Sides.{eights}
use Rattle.block_choice.specs.Plans.{before_of, AreAllCopied}
use Rattle.block_choice.proofs.Squares.{skips_yes, skips_no}
use Rattle.block_choice.proofs.OneLeaf.{copied_plan, coded_plan, whole_from, whole_is, side_eights}
use Rattle.block_choice.proofs.leaf.whole_leaf.Goals as goal

eights_apart : (tx x : ℕ) → tx % 32 ≡ 0 → x % 8 ≡ 0 → tx ≤ x → x ≡ tx + (x - tx) / 8 * 8
eights_apart tx x a b h = omega arith

pub returns-then-limit-gt1 : goal.returns-then-limit-gt1
returns-then-limit-gt1 c =
    let t = c.args.task.now in
    let size : Size = t.current.now.size in
    let log2 : ℕ = c.args.block.log2 in
    let s = side_eights log2 (omega arith) (omega arith) in
    let n : c.side_of-n.result ≡ 2 ^ log2 = c.side_of-n.ensures.value in
    let wx : c.args.block.x % 8 ≡ 0 = eights c.args.block.x log2 (omega arith) (omega arith) c.requires.place.whole_x in
    let wy : c.args.block.y % 8 ≡ 0 = eights c.args.block.y log2 (omega arith) (omega arith) c.requires.place.whole_y in
    let i : ℕ = (c.args.block.x - t.x) / 8 in
    let j : ℕ = (c.args.block.y - t.y) / 8 in
    let side : ℕ = c.side_of-n.result / 8 in
    let ex : c.args.block.x ≡ t.x + i * 8 = eights_apart t.x c.args.block.x c.requires.task.whole_x wx c.requires.place.left in
    let ey : c.args.block.y ≡ t.y + j * 8 = eights_apart t.y c.args.block.y c.requires.task.whole_y wy c.requires.place.top in
    let en : 2 ^ log2 ≡ side * 8 = rw n (sym s.0) in
    let some : 1 ≤ side = rw n s.1 in
    let hi : i + side ≤ 4 = let r : c.args.block.x + 2 ^ log2 ≤ t.x + 32 = c.requires.place.right in omega (arith, ex, en, r) in
    let hj : j + side ≤ 4 = let r : c.args.block.y + 2 ^ log2 ≤ t.y + 32 = c.requires.place.bottom in omega (arith, ey, en, r) in
    let ew : c.w.result ≡ size.w = c.w.ensures.value ∙ ap (λ (k : Size). k.w) c.size-size.ensures.value in
    let eh : c.h.result ≡ size.h = c.h.ensures.value ∙ ap (λ (k : Size). k.h) c.size-size.ensures.value in
    let hx : c.args.block.x + 2 ^ log2 ≤ coded size.w = let f : c.args.block.x + c.side_of-n.result ≤ coded c.w.result = c.if-x-n.false in rw (← ew, ← n) f in
    let hy : c.args.block.y + 2 ^ log2 ≤ coded size.h = let f : c.args.block.y + c.side_of-n.result ≤ coded c.h.result = c.if-y-n.false in rw (← eh, ← n) f in
    let all : AreAllCopied t.copies i j side side = c.is_copied.ensures.0 c.if-is_copied.true in
    let e = skips_yes t.copies t.has_last (picture_of t.last.now) (picture_of t.current.now) size t.x t.y c.args.block.x c.args.block.y i j side log2 c.requires.task.copies ex ey en some hi hj hx hy all in
    let p = copied_plan (before_of t) (picture_of t.current.now) size t.effort c.args.block e in
    (whole_is size c.args.block.x c.args.block.y (2 ^ log2) hx hy, c.if-limit-gt1.true, p)

pub returns-else-limit-gt1 : goal.returns-else-limit-gt1
returns-else-limit-gt1 c =
    let t = c.args.task.now in
    let size : Size = t.current.now.size in
    let log2 : ℕ = c.args.block.log2 in
    let s = side_eights log2 (omega arith) (omega arith) in
    let n : c.side_of-n.result ≡ 2 ^ log2 = c.side_of-n.ensures.value in
    let wx : c.args.block.x % 8 ≡ 0 = eights c.args.block.x log2 (omega arith) (omega arith) c.requires.place.whole_x in
    let wy : c.args.block.y % 8 ≡ 0 = eights c.args.block.y log2 (omega arith) (omega arith) c.requires.place.whole_y in
    let i : ℕ = (c.args.block.x - t.x) / 8 in
    let j : ℕ = (c.args.block.y - t.y) / 8 in
    let side : ℕ = c.side_of-n.result / 8 in
    let ex : c.args.block.x ≡ t.x + i * 8 = eights_apart t.x c.args.block.x c.requires.task.whole_x wx c.requires.place.left in
    let ey : c.args.block.y ≡ t.y + j * 8 = eights_apart t.y c.args.block.y c.requires.task.whole_y wy c.requires.place.top in
    let en : 2 ^ log2 ≡ side * 8 = rw n (sym s.0) in
    let some : 1 ≤ side = rw n s.1 in
    let hi : i + side ≤ 4 = let r : c.args.block.x + 2 ^ log2 ≤ t.x + 32 = c.requires.place.right in omega (arith, ex, en, r) in
    let hj : j + side ≤ 4 = let r : c.args.block.y + 2 ^ log2 ≤ t.y + 32 = c.requires.place.bottom in omega (arith, ey, en, r) in
    let ew : c.w.result ≡ size.w = c.w.ensures.value ∙ ap (λ (k : Size). k.w) c.size-size.ensures.value in
    let eh : c.h.result ≡ size.h = c.h.ensures.value ∙ ap (λ (k : Size). k.h) c.size-size.ensures.value in
    let hx : c.args.block.x + 2 ^ log2 ≤ coded size.w = let f : c.args.block.x + c.side_of-n.result ≤ coded c.w.result = c.if-x-n.false in rw (← ew, ← n) f in
    let hy : c.args.block.y + 2 ^ log2 ≤ coded size.h = let f : c.args.block.y + c.side_of-n.result ≤ coded c.h.result = c.if-y-n.false in rw (← eh, ← n) f in
    let all : AreAllCopied t.copies i j side side = c.is_copied.ensures.0 c.if-is_copied.true in
    let e = skips_yes t.copies t.has_last (picture_of t.last.now) (picture_of t.current.now) size t.x t.y c.args.block.x c.args.block.y i j side log2 c.requires.task.copies ex ey en some hi hj hx hy all in
    let p = copied_plan (before_of t) (picture_of t.current.now) size t.effort c.args.block e in
    λ _. rw p c.if-limit-gt1.false

pub returns : goal.returns
returns c =
    let t = c.args.task.now in
    let size : Size = t.current.now.size in
    let log2 : ℕ = c.args.block.log2 in
    let s = side_eights log2 (omega arith) (omega arith) in
    let n : c.side_of-n.result ≡ 2 ^ log2 = c.side_of-n.ensures.value in
    let wx : c.args.block.x % 8 ≡ 0 = eights c.args.block.x log2 (omega arith) (omega arith) c.requires.place.whole_x in
    let wy : c.args.block.y % 8 ≡ 0 = eights c.args.block.y log2 (omega arith) (omega arith) c.requires.place.whole_y in
    let i : ℕ = (c.args.block.x - t.x) / 8 in
    let j : ℕ = (c.args.block.y - t.y) / 8 in
    let side : ℕ = c.side_of-n.result / 8 in
    let ex : c.args.block.x ≡ t.x + i * 8 = eights_apart t.x c.args.block.x c.requires.task.whole_x wx c.requires.place.left in
    let ey : c.args.block.y ≡ t.y + j * 8 = eights_apart t.y c.args.block.y c.requires.task.whole_y wy c.requires.place.top in
    let en : 2 ^ log2 ≡ side * 8 = rw n (sym s.0) in
    let some : 1 ≤ side = rw n s.1 in
    let hi : i + side ≤ 4 = let r : c.args.block.x + 2 ^ log2 ≤ t.x + 32 = c.requires.place.right in omega (arith, ex, en, r) in
    let hj : j + side ≤ 4 = let r : c.args.block.y + 2 ^ log2 ≤ t.y + 32 = c.requires.place.bottom in omega (arith, ey, en, r) in
    let ew : c.w.result ≡ size.w = c.w.ensures.value ∙ ap (λ (k : Size). k.w) c.size-size.ensures.value in
    let eh : c.h.result ≡ size.h = c.h.ensures.value ∙ ap (λ (k : Size). k.h) c.size-size.ensures.value in
    let hx : c.args.block.x + 2 ^ log2 ≤ coded size.w = let f : c.args.block.x + c.side_of-n.result ≤ coded c.w.result = c.if-x-n.false in rw (← ew, ← n) f in
    let hy : c.args.block.y + 2 ^ log2 ≤ coded size.h = let f : c.args.block.y + c.side_of-n.result ≤ coded c.h.result = c.if-y-n.false in rw (← eh, ← n) f in
    let none : AreAllCopied t.copies i j side side → ⊥ = λ all. false≢true (sym c.if-is_copied.false ∙ c.is_copied.ensures.1 all) in
    let e = skips_no t.copies t.has_last (picture_of t.last.now) (picture_of t.current.now) size t.x t.y c.args.block.x c.args.block.y i j side log2 c.requires.task.copies ex ey en hi hj hx hy none in
    let p = coded_plan (before_of t) (picture_of t.current.now) size t.effort c.args.block e in
    whole_from c.coded_leaf.result c.args.limit c.args.block _ _ _ (whole_is size c.args.block.x c.args.block.y (2 ^ log2) hx hy) p c.coded_leaf.ensures
