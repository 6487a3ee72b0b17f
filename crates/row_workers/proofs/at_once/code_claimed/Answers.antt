use Rattle.row_workers.proofs.at_once.code_claimed.Goals as goal

pub returns-in-Ok-clause-coded : goal.returns-in-Ok-clause-coded
returns-in-Ok-clause-coded g c = λ whole. (record { number = c.number.result; bytes = c.in-Ok.bytes }, c.keep.ensures.kept whole, c.number.ensures, c.in-Ok.ensures.bytes)
