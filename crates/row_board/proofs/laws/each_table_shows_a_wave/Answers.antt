use Rattle.row_board.specs.Rows.{job_fits}
use Rattle.row_board.proofs.OneWave.{is_one_wave}
use Rattle.row_board.proofs.laws.each_table_shows_a_wave.Goals as goal

pub returns : goal.returns
returns g c = λ table kept. is_one_wave (job_fits g.J.RowJob.plan g.J.RowJob.begun) table kept
