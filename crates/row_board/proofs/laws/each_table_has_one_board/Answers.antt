use Rattle.row_board.proofs.OneBoard.{is_one_board}
use Rattle.row_board.proofs.laws.each_table_has_one_board.Goals as goal

pub returns : goal.returns
returns g c = λ table kept. is_one_board g.J.RowJob.plan g.J.RowJob.begun table kept
