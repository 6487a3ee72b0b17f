-- What calls on a claimed row leave of a seat.
use Rattle.std.proofs.Common.{◌≡◌, ◌≢◌, refl, ◌∙◌, ap, ℕ, Some}
use Rattle.row_board.specs.declared.knowledge.Stage.{Stage}
use Rattle.row_board.specs.declared.knowledge.Stage.TheVariants.{Open}
use Rattle.row_board.specs.declared.knowledge.Knowledge.{Knowledge}
use Rattle.row_board.specs.Rows.{times, claim_of, change, at_stage, in_sync, opened}
use Rattle.row_board.specs.Standing.{IsSame, HasOpen, IsSynced, has_claimed}
use Rattle.row_board.proofs.Claims.{times-change, claim-change-same}
use Rattle.row_workers.specs.AtOnce.{KeepsRows, IsSettled}

module _ (v w : Knowledge) (r : ℕ) (rows : w.rows ≡ change r in_sync v.rows) where
  -- the row took the contexts of the row above
  pub taken_keeps : IsSame v w → KeepsRows v w
  taken_keeps same = record { same = same; rows = λ q. ap (times q) rows ∙ times-change in_sync (λ _. refl) q r v.rows }

  pub taken_open : claim_of r v.rows ≡ Some (opened r) → HasOpen w r
  taken_open mine = (in_sync (opened r), ap (claim_of r) rows ∙ claim-change-same in_sync (λ _. refl) r (opened r) v.rows mine, refl)

  pub taken_synced : claim_of r v.rows ≡ Some (opened r) → IsSynced w r
  taken_synced mine = λ below. (in_sync (opened r), ap (claim_of r) rows ∙ claim-change-same in_sync (λ _. refl) r (opened r) v.rows mine, refl)

-- a row was claimed, and then served
pub claimed_same : (u v w : Knowledge) (r : ℕ) → v ≡ has_claimed u r → IsSame v w → IsSame u w
claimed_same u v w r claims same = record {
  weight = same.weight ∙ ap (λ (k : Knowledge). k.weight) claims;
  width = same.width ∙ ap (λ (k : Knowledge). k.width) claims;
  want = same.want ∙ ap (λ (k : Knowledge). k.want) claims;
  give = same.give ∙ ap (λ (k : Knowledge). k.give) claims;
  met_none = same.met_none ∙ ap (λ (k : Knowledge). k.met_none) claims;
}

pub still_open : (v w : Knowledge) (r : ℕ) → claim_of r v.rows ≡ Some (opened r) → w.rows ≡ v.rows → HasOpen w r
still_open v w r mine rows = (opened r, ap (claim_of r) rows ∙ mine, refl)

module _ (stage : Stage) (v w : Knowledge) (r : ℕ) (is : w ≡ record v { rows = change r (at_stage stage) v.rows }) where
  -- the row was published, or lost
  pub settled_keeps : (u : Knowledge) → KeepsRows u v → KeepsRows u w
  settled_keeps u kept = record {
    same = record {
      weight = ap (λ (k : Knowledge). k.weight) is ∙ kept.same.weight;
      width = ap (λ (k : Knowledge). k.width) is ∙ kept.same.width;
      want = ap (λ (k : Knowledge). k.want) is ∙ kept.same.want;
      give = ap (λ (k : Knowledge). k.give) is ∙ kept.same.give;
      met_none = ap (λ (k : Knowledge). k.met_none) is ∙ kept.same.met_none;
    };
    rows = λ q. ap (λ (k : Knowledge). times q k.rows) is ∙ (times-change (at_stage stage) (λ _. refl) q r v.rows ∙ kept.rows q);
  }

  pub is_settled : stage ≢ Open → HasOpen v r → IsSettled w r
  is_settled other mine =
      (at_stage stage mine.0, ap (λ (k : Knowledge). claim_of r k.rows) is ∙ claim-change-same (at_stage stage) (λ _. refl) r mine.0 v.rows mine.1, other)
