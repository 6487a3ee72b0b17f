use Rattle.std.proofs.Common.{◌∙◌, arith}
use Rattle.intra_predict.proofs.Turned.{ahead_is, turned_is}
use Rattle.intra_predict.proofs.block.predict_at.Goals as goal

pub returns-in_default : goal.returns-in_default
returns-in_default c =
    c.turned_block.ensures ∙ turned_is c.args.mode c.args.component c.args.log2 c.args.refs.now (omega arith) c.if-mode-lt18.true (λ q. omega arith)

pub returns-in_default-2 : goal.returns-in_default-2
returns-in_default-2 c = c.slanted_block.ensures ∙ ahead_is c.args.mode c.args.component c.args.log2 c.args.refs.now c.if-mode-lt18.false (λ q. omega arith)
