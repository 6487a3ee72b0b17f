use Rattle.std.proofs.Common.{sym, subst}
use Rattle.screenrec.specs.Demo.{HasRounds}
use Rattle.screenrec.proofs.DemoLaws.{generated_rounds}
use Rattle.screenrec.proofs.demo.play_demo.Goals as goal

pub play_rounds-requires : goal.play_rounds-requires
play_rounds-requires c = record { rounds = subst HasRounds (sym c.in_ok-scripts.ensures) (generated_rounds c.args.number) }
