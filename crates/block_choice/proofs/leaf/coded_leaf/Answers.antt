use Rattle.std.proofs.Common.{◌≡◌, ℕ, ◌+◌, ◌*◌, ◌<◌, ◌≤◌, ◌^◌, min, length, get_or, arith, sym, ap, ◌∙◌, refl, List, suc}
use Rattle.h265_model.specs.Plain.{Size, Picture, leaf_with}
use Rattle.h265_model.specs.declared.block.CodingBlock.{CodingBlock}
use Rattle.h265_model.specs.declared.leaf.Kind.TheVariants.{Intra, Pcm}
use Rattle.h265_model.specs.Choice.{modes_of, pcm_cost, one_leaf, intra_cost, best_of}
use Rattle.px_plane.specs.Planes.{picture_of}
use Rattle.leaf_cost.specs.declared.best.Best.{Best}
use Rattle.leaf_cost.specs.Costs.{IsCheapest, AreDear}
use Rattle.block_choice.specs.Plans.{intra_plans}
use Rattle.block_choice.proofs.Cheapest.{best_pick, best_last, best_least, all_dear}
use Rattle.block_choice.proofs.leaf.coded_leaf.Goals as goal

pcm_is : (n log2 : ℕ) → n ≡ 2 ^ log2 → 24 + 24 * n * n ≡ pcm_cost log2
unfolding pcm_cost
pcm_is n log2 e = rw e refl

-- a mode that costs less than the limit, and at most what PCM costs
picked : (size : Size) (now : Picture) (block : CodingBlock) (limit pcm : ℕ) (modes : List ℕ) (b : Best) → pcm ≡ pcm_cost block.log2
    → IsCheapest b (min limit (pcm + 1)) (λ mode. intra_cost size now (leaf_with block (Intra mode))) modes (length modes)
    → (b.cost < limit) × (best_of (intra_plans size now block modes) (one_leaf (pcm_cost block.log2) (leaf_with block Pcm)) ≡ one_leaf b.cost (leaf_with block b.kind))
picked size now block limit pcm modes b e is =
    let below : b.cost < min limit (pcm + 1) = is.below in
    let within : b.cost ≤ pcm = omega arith in
    let p = best_pick size now block b.cost modes (one_leaf (pcm_cost block.log2) (leaf_with block Pcm)) is.at is.within is.before is.least is.cost (omega arith) in
    (omega arith, rw is.kind p)

dear : (size : Size) (now : Picture) (block : CodingBlock) (bound k : ℕ) (modes : List ℕ) → k ≤ bound
    → AreDear bound (λ mode. intra_cost size now (leaf_with block (Intra mode))) modes (length modes)
    → (i : ℕ) → i < length modes → k ≤ intra_cost size now (leaf_with block (Intra (get_or modes i 0)))
dear size now block bound k modes low is i h = let d = is.each i h in omega arith

-- PCM, where no mode costs as little
pcm_wins : (size : Size) (now : Picture) (block : CodingBlock) (limit pcm : ℕ) (modes : List ℕ) → pcm ≡ pcm_cost block.log2 → pcm < limit
    → AreDear (min limit (pcm + 1)) (λ mode. intra_cost size now (leaf_with block (Intra mode))) modes (length modes)
    → best_of (intra_plans size now block modes) (one_leaf (pcm_cost block.log2) (leaf_with block Pcm)) ≡ one_leaf pcm (leaf_with block Pcm)
pcm_wins size now block limit pcm modes e less is =
    best_last (intra_plans size now block modes) (one_leaf (pcm_cost block.log2) (leaf_with block Pcm))
    (all_dear size now block (suc (pcm_cost block.log2)) modes (dear size now block (min limit (pcm + 1)) (suc (pcm_cost block.log2)) modes (omega arith) is))
    ∙ ap (λ (k : ℕ). one_leaf k (leaf_with block Pcm)) (sym e)

none_below : (size : Size) (now : Picture) (block : CodingBlock) (limit pcm : ℕ) (modes : List ℕ) → pcm ≡ pcm_cost block.log2 → limit ≤ pcm
    → AreDear (min limit (pcm + 1)) (λ mode. intra_cost size now (leaf_with block (Intra mode))) modes (length modes)
    → limit ≤ (best_of (intra_plans size now block modes) (one_leaf (pcm_cost block.log2) (leaf_with block Pcm))).cost
none_below size now block limit pcm modes e more is =
    best_least limit (intra_plans size now block modes) (one_leaf (pcm_cost block.log2) (leaf_with block Pcm))
    (all_dear size now block limit modes (dear size now block (min limit (pcm + 1)) limit modes (omega arith) is)) (omega arith)

pub returns-in-Some : goal.returns-in-Some
returns-in-Some c =
    let pcm = pcm_is c.side_of-n.result c.args.block.log2 c.side_of-n.ensures.value in
    picked c.args.now.now.size (picture_of c.args.now.now) c.args.block c.args.limit (24 + 24 * c.side_of-n.result * c.side_of-n.result) (modes_of c.args.effort) c.in-Some.best pcm
    (rw (← c.min.ensures, ← c.modes_for.ensures.modes) c.in-Some.ensures)

pub returns-then-pcm-limit : goal.returns-then-pcm-limit
returns-then-pcm-limit c =
    let pcm = pcm_is c.side_of-n.result c.args.block.log2 c.side_of-n.ensures.value in (
      c.if-pcm-limit.true,
      pcm_wins c.args.now.now.size (picture_of c.args.now.now) c.args.block c.args.limit (24 + 24 * c.side_of-n.result * c.side_of-n.result) (modes_of c.args.effort) pcm c.if-pcm-limit.true
          (rw (← c.min.ensures, ← c.modes_for.ensures.modes) c.in_default.ensures),
    )

pub returns : goal.returns
returns c =
    let pcm = pcm_is c.side_of-n.result c.args.block.log2 c.side_of-n.ensures.value in
    none_below c.args.now.now.size (picture_of c.args.now.now) c.args.block c.args.limit (24 + 24 * c.side_of-n.result * c.side_of-n.result) (modes_of c.args.effort) pcm c.if-pcm-limit.false
    (rw (← c.min.ensures, ← c.modes_for.ensures.modes) c.in_default.ensures)
