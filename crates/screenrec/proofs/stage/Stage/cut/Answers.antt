use Rattle.std.proofs.Common.{ℕ, ◌<◌, ◌-◌, ◌^◌, [], sym, subst, refl}
use Rattle.recorder_model.specs.Painting.{raster, rasters_after}
use Rattle.screenrec.proofs.StageLaws.{job_fits, job_numbered, counted_so, job_leads, played_cut, piece_is}
use Rattle.screenrec.proofs.stage.Stage.cut.Goals as goal

pub next-requires-clause-job : goal.next-requires-clause-job
next-requires-clause-job c = job_fits c.args.self.now c.in_ok-job.job c.requires.played c.in_ok-job.ensures.job

pub next-requires-clause-number : goal.next-requires-clause-number
next-requires-clause-number c = job_numbered c.args.self.now c.in_ok-job.job c.requires.played c.in_ok-job.ensures.job

pub next-requires-clause-few : goal.next-requires-clause-few
next-requires-clause-few c = subst (λ (n : ℕ). n < 2 ^ 32 - 1) (sym (counted_so c.args.self.now c.requires.played)) c.requires.few

pub returns-clause-played : goal.returns-clause-played
returns-clause-played c = λ settings done is.
    let leads = job_leads settings c.args.self.now done c.in_ok-job.job is c.in_ok-job.ensures.job in
    played_cut settings c.args.self.now _ done c.in_ok-job.ensures.shown c.in_ok-job.ensures.lowered refl
    c.in_ok-piece.ensures.settings c.in_ok-piece.ensures.sized
    (c.in_ok-piece.ensures.coded (rasters_after settings.size [] done) (raster settings.size done) is.coded leads) is

pub returns-clause-piece : goal.returns-clause-piece
returns-clause-piece c = λ settings done is.
    let leads = job_leads settings c.args.self.now done c.in_ok-job.job is c.in_ok-job.ensures.job in
    let more = c.in_ok-piece.ensures.piece (rasters_after settings.size [] done) (raster settings.size done) is.coded leads in
    piece_is settings done _ (rw is.same at more)
