use Rattle.intra_predict.proofs.rows.plain_row.Goals as goal

pub returns-in-Planar : goal.returns-in-Planar
returns-in-Planar c = rw c.in-Planar.is c.planar_row.ensures

pub returns-in-Dc : goal.returns-in-Dc
returns-in-Dc c = rw c.in-Dc.is c.dc_row.ensures

pub returns-in-Level : goal.returns-in-Level
returns-in-Level c = rw c.in-Level.is c.level_row.ensures

pub returns-in-Upright : goal.returns-in-Upright
returns-in-Upright c = rw c.in-Upright.is c.upright_row.ensures
