use Rattle.std.proofs.Common.{◌≡◌, ℕ, ◌+◌, ◌*◌, ◌<◌, get_or, true, false}
use Rattle.block_choice.specs.Plans.{AreAllCopied}
use Rattle.block_choice.proofs.copies.is_copied.Given as goal

abbrev pub invariant-loop-v : goal.invariant-loop-v
invariant-loop-v l = AreAllCopied l.copies l.i l.j l.side l.v

abbrev pub invariant-loop-u : goal.invariant-loop-u
invariant-loop-u l = AreAllCopied l.copies l.i l.j l.side l.v × ((u : ℕ) → u < l.u → get_or l.copies (4 * (l.j + l.v) + (l.i + u)) false ≡ true)
