use Rattle.std.proofs.Common.{◌≡◌, ◌-◌, ◌++◌, length}
use Rattle.screen_gen.specs.Generated.{lines_from}
use Rattle.screen_gen.proofs.scripts.client_script.Given as goal

-- the lines so far with those to come are all lines
abbrev pub invariant-loop-index : goal.invariant-loop-index
invariant-loop-index l =
    (l.script.lines ++ lines_from l.client l.random l.index (60 - l.index) ≡ lines_from l.client l.initial.random 0 60)
    × (length l.script.lines ≡ l.index) × (l.script.version ≡ 1)
