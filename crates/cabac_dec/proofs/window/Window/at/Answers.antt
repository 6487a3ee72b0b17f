use Rattle.std.proofs.Common.{arith}
use Rattle.cabac_dec.proofs.Parts.{are_bytes}
use Rattle.cabac_dec.proofs.Windows.{fresh_window}
use Rattle.cabac_dec.proofs.window.Window.at.Goals as goal

pub invariant_of-result : goal.invariant_of-result
invariant_of-result c = fresh_window c.args.bytes.now c.args.next (are_bytes c.args.bytes.now (λ k l. let h = c.type_inv.bytes k in omega arith)) c.requires
