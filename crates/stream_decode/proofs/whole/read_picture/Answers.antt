use Rattle.std.proofs.Common.{subst, ℕ}
use Rattle.std.specs.Prelude.{Option, Some, None, Ok}
use Rattle.h265_model.specs.Decode.{slice_step}
use Rattle.px_plane.specs.Planes.{planes_of}
use Rattle.stream_decode.specs.Steps.{ReadsSlicePicture, last_of, between}
use Rattle.stream_decode.proofs.Wholes.{slice_taken, slice_fails}
use Rattle.stream_decode.proofs.whole.read_picture.Goals as goal

pub returns-in-Some-clause-read : goal.returns-in-Some-clause-read
returns-in-Some-clause-read c =
    let old = c.args.canvas.now in
    let read : ReadsSlicePicture (Ok (Some c.in-Some.poc)) (slice_step old.last.size c.args.idr (between (last_of c.args.order old.last)) c.deref.result.now) old c.read_slice_picture.new.canvas =
    subst (λ (found : Option ℕ). ReadsSlicePicture (Ok found) (slice_step old.last.size c.args.idr (between (last_of c.args.order old.last)) c.deref.result.now) old c.read_slice_picture.new.canvas) c.in-Some.is c.in_ok-poc.ensures.read in (
      slice_taken old.last.size c.args.segments c.args.idr (last_of c.args.order old.last) c.in_ok-next.field-0 c.deref.result.now c.args.cursor.now c.next.new.self (record { poc = c.in-Some.poc; planes = planes_of c.read_slice_picture.new.canvas.last })
          c.if-segments.false c.requires.header (rw c.deref.ensures.value c.in_ok-next.ensures.taken) read.0,
      read.1,
    )

pub returns-in-None-clause-read : goal.returns-in-None-clause-read
returns-in-None-clause-read c =
    let old = c.args.canvas.now in
    let read : ReadsSlicePicture (Ok None) (slice_step old.last.size c.args.idr (between (last_of c.args.order old.last)) c.deref.result.now) old c.read_slice_picture.new.canvas =
    subst (λ (found : Option ℕ). ReadsSlicePicture (Ok found) (slice_step old.last.size c.args.idr (between (last_of c.args.order old.last)) c.deref.result.now) old c.read_slice_picture.new.canvas) c.in-None.is c.in_ok-poc.ensures.read in (
      rw c.number-at.ensures (slice_fails old.last.size c.args.segments c.args.idr (last_of c.args.order old.last) c.in_ok-next.field-0 c.deref.result.now c.args.cursor.now c.next.new.self
          c.if-segments.false c.requires.header (rw c.deref.ensures.value c.in_ok-next.ensures.taken) read.0),
      read.1,
    )
