use Rattle.std.proofs.Common.{◌≡◌, subst, ℕ, ◌-◌, ◌≤◌, List, length, take, drop, length-drop, Some, arith}
use Rattle.std.proofs.lemmas.List.{take_all}
use Rattle.stream_decode.specs.Rows.{OpensRow}
use Rattle.stream_decode.specs.Steps.{last_of}
use Rattle.stream_decode.proofs.SegmentPictures.{Step, row_taken}
use Rattle.stream_decode.proofs.segments.read_row.Goals as goal

pub returns-clause-read : goal.returns-clause-read
returns-clause-read c = λ planes.
    let opened : OpensRow (Some (c.in_ok-poc.poc, c.in_ok-poc.start)) c.args.page.now.size c.args.page.now.idr (last_of c.args.page.now.order planes) c.args.row c.args.begun.poc c.args.rbsp.now = c.in_ok-poc.ensures.opened planes in
    let long : length (drop c.in_ok-poc.start c.args.rbsp.now) ≤ length c.args.rbsp.now - c.in_ok-poc.start = omega (arith, length-drop c.in_ok-poc.start c.args.rbsp.now) in
    let all : take (length c.args.rbsp.now - c.in_ok-poc.start) (drop c.in_ok-poc.start c.args.rbsp.now) ≡ drop c.in_ok-poc.start c.args.rbsp.now = take_all (length c.args.rbsp.now - c.in_ok-poc.start) (drop c.in_ok-poc.start c.args.rbsp.now) long in
    let step : Step c.slice_kind-kind.result c.args.page.now.size c.args.row c.args.begun.handed (Some c.in_ok-handed.handed) (drop c.in_ok-poc.start c.args.rbsp.now) c.args.canvas.now c.read_segment.new.sink c.args.grid.now c.args.motion.now c.read_segment.new.grid c.read_segment.new.motion =
    subst (λ (bytes : List ℕ). Step c.slice_kind-kind.result c.args.page.now.size c.args.row c.args.begun.handed (Some c.in_ok-handed.handed) bytes c.args.canvas.now c.read_segment.new.sink c.args.grid.now c.args.motion.now c.read_segment.new.grid c.read_segment.new.motion) all c.in_ok-handed.ensures.read in (
      row_taken c.args.page.now.size (last_of c.args.page.now.order planes) c.args.page.now.idr c.args.begun.poc c.args.row c.in_ok-poc.poc c.in_ok-poc.start c.args.rbsp.now c.args.begun.handed c.in_ok-handed.handed c.slice_kind-kind.result
          c.args.canvas.now c.read_segment.new.sink c.args.grid.now c.args.motion.now c.read_segment.new.grid c.read_segment.new.motion opened c.slice_kind-kind.ensures step,
      opened.1,
    )
