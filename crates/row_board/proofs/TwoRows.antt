-- The claims of a seat that claimed two rows.
use Rattle.std.proofs.Common.{◌≡◌, ◌≢◌, ℕ, Some, refl, ap, ◌∙◌}
use Rattle.row_board.specs.declared.knowledge.Knowledge.{Knowledge}
use Rattle.row_board.specs.declared.board.SyncError.{SyncError}
use Rattle.row_board.specs.declared.board.SyncError.TheVariants.{NotYet, Lost}
use Rattle.row_board.specs.Rows.{claim_of, opened, claims, finds}
use Rattle.row_board.specs.Standing.{SyncMissed}
use Rattle.row_board.proofs.Claims.{claim-here, claim-later}

-- the claims after one call more
abbrev pub HasClaimed : Knowledge → ℕ → Knowledge → Type 0
HasClaimed v r w = w ≡ record (claims (finds v 0 r) r) { picked = 0 }

pub last_claim : (v w : Knowledge) (r : ℕ) → HasClaimed v r w → claim_of r w.rows ≡ Some (opened r)
last_claim v w r is = ap (λ (u : Knowledge). claim_of r u.rows) is ∙ claim-here r (opened r) v.rows refl

pub earlier_claim : (v w x : Knowledge) (q r : ℕ) → HasClaimed v q w → HasClaimed w r x → q ≢ r → claim_of q x.rows ≡ Some (opened q)
earlier_claim v w x q r is next apart = ap (λ (u : Knowledge). claim_of q u.rows) next ∙ (claim-later q (opened r) w.rows apart ∙ last_claim v w q is)

-- a sync that failed changes no claim
pub missed_rows : (v w : Knowledge) (r : ℕ) (e : SyncError) → SyncMissed v r w e → w.rows ≡ v.rows
missed_rows v w r (NotYet n) is = ap (λ (u : Knowledge). u.rows) is.1
missed_rows v w r (Lost n) is = ap (λ (u : Knowledge). u.rows) is.1
